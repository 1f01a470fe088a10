-- Demand 1, of any state, reached or not, and whatever a call is handed.
use Rattle.std.specs.Prelude.{ℕ, true, List, ◌≡◌, Err}
use Rattle.sending.specs.declared.Sender.{Sender}
use Rattle.sending.specs.Sender.{sender_ok, send_of, marker_from}
use Rattle.receiving.specs.declared.Receiver.{Receiver}
use Rattle.receiving.specs.Receiver.{receiver_ok}
use Rattle.receiving.specs.Taking.{take_of}
use Rattle.bundle.specs.Events.{Parcel}
use Rattle.bundle.specs.Worlds.{landing}
use Rattle.numbers.specs.Refusals.{number_of}
use Rattle.numbers.specs.declared.Refusal.{Refusal}

-- a refusal hands back the state and changes no lent byte
pub record RefusedChangesNothing : Type 0 where
  pub send : (s : Sender) (size : ℕ) (refusal : Refusal) → (send_of s size).answer ≡ Err refusal → (send_of s size).next ≡ s
  pub ask : (s : Sender) (i : ℕ) (refusal : Refusal) (out : List ℕ) → (marker_from s i out).answer ≡ Err refusal → (marker_from s i out).out ≡ out
  pub land : (r : Receiver) (store : List ℕ) (i : ℕ) (x : Parcel) → (number_of (landing r store i x).arrived.answer ≡ 0 → ⊥)
      → ((landing r store i x).arrived.next ≡ r) × ((landing r store i x).store ≡ store)
  pub take : (r : Receiver) (store out : List ℕ) (refusal : Refusal) → (take_of r store out).result.answer ≡ Err refusal
      → ((take_of r store out).result.next ≡ r) × ((take_of r store out).out ≡ out)

pub record ValidStaysValid : Type 0 where
  pub send : (s : Sender) (size : ℕ) → sender_ok s ≡ true → sender_ok (send_of s size).next ≡ true
  pub land : (r : Receiver) (store : List ℕ) (i : ℕ) (x : Parcel) → receiver_ok r ≡ true → receiver_ok (landing r store i x).arrived.next ≡ true
  pub take : (r : Receiver) (store out : List ℕ) → receiver_ok r ≡ true → receiver_ok (take_of r store out).result.next ≡ true
