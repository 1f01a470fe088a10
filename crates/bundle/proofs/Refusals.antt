-- Demand 1: a refusal hands back the state and changes no lent byte, and valid stays valid, of any state and along every history. Assumes nothing.
use Prim.Native.Nat.{ℕ}
use mathlib.Core.List.{List}
use mathlib.Core.Path.{◌≡◌, ap}
use Rattle.std.specs.Prelude.{Err}
use Rattle.sending.specs.declared.Sender.{Sender}
use Rattle.sending.specs.Sender.{marker_from}
use Rattle.numbers.proofs.Laws.{refused_out}
use Rattle.sending.proofs.Promises.{stays_valid, refused_stays}
use Rattle.receiving.specs.declared.Receiver.{Receiver}
use Rattle.receiving.specs.Takes.{goes_on}
use Rattle.receiving.proofs.Promises.{demand_1}
use Rattle.bundle.specs.Events.{Parcel, packet, marker}
use Rattle.bundle.specs.Worlds.{landing}
use Rattle.bundle.specs.AnyState.{RefusedChangesNothing, ValidStaysValid}
use Rattle.bundle.proofs.Arrivals.{land_valid}
use Rattle.numbers.specs.Refusals.{number_of}
use Rattle.numbers.specs.declared.Refusal.{Refusal}

ask_refused : (s : Sender) (i : ℕ) (refusal : Refusal) (out : List ℕ) → (marker_from s i out).answer ≡ Err refusal → (marker_from s i out).out ≡ out
unfolding marker_from
ask_refused s i refusal out e = refused_out _ _ out refusal e

land_refused : (r : Receiver) (store : List ℕ) (i : ℕ) (x : Parcel) → (number_of (landing r store i x).arrived.answer ≡ 0 → ⊥)
    → ((landing r store i x).arrived.next ≡ r) × ((landing r store i x).store ≡ store)
land_refused r store i (packet b) = demand_1.data_refused r i b store
land_refused r store i (marker b) = demand_1.marker_refused r i b store

pub refused_changes_nothing : RefusedChangesNothing
refused_changes_nothing = record {
  send = refused_stays;
  ask = ask_refused;
  land = land_refused;
  take = λ r store out refusal e. demand_1.take_refused r store out (ap goes_on e);
}

pub valid_stays_valid : ValidStaysValid
valid_stays_valid = record { send = stays_valid; land = land_valid; take = demand_1.take_valid }
