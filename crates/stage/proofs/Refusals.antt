-- A call at the stage that answers what C reads as a refusal leaves everything that it was lent as it was, and a refused opening leaves zeros.
-- Assumes nothing.
use mathlib.Core.Path.{◌≡◌, refl, sym, ◌∙◌}
use Prim.Native.Nat.{ℕ, ◌+◌, ◌*◌}
use native.Mathlib.Omega.{arith}
use mathlib.Core.Bool.{Bool, true, false, cond, ◌&&◌}
use mathlib.Core.List.{List}
use lib.ListN.{length}
use Rattle.numbers.proofs.Checks.{never}
use Rattle.answers.specs.Answers.{told, refused_in}
use Rattle.answers.proofs.Laws.{bit_8_clear, below_256, has_number}
use Rattle.plan.specs.Plan.{plan_ok, store_ok}
use Rattle.plan.specs.declared.Plan.{Plan}
use Rattle.receiving.specs.declared.Receiver.{Receiver}
use Rattle.receiving.specs.Receiver.{ReceiverOpened, closed_receiver, opened_receiver, open_receiver, receiver_ok, receiver_of}
use Rattle.receiving.specs.Taking.{TakeAnswer, take_of}
use Rattle.receiving.specs.declared.Taken.TheVariants.{Waiting, Data, Missing, Behind}
use Rattle.std.specs.Prelude.{Ok, Err}
use Rattle.receiving.specs.Arriving.{data_arrival, marker_arrival}
use Rattle.receiving.specs.Takes.{goes_on, Run, takes_of}
use Rattle.receiving.proofs.Promises.{demand_1}
use Rattle.receiving.proofs.Runs.{bad_state, bad_store}
use Rattle.taking.specs.Words.{taken_word}
use Rattle.taking.proofs.Words.{Told, take_told}
use Rattle.stage.specs.Exports.{kind_in}
use Rattle.numbers.specs.Refusals.{number_of}
use Rattle.numbers.specs.declared.Refusal.TheVariants as refusal

module _ (r : Receiver) (i : ℕ) (b store : List ℕ) where
  pub data_refused : let a = data_arrival r i b store in refused_in (told (number_of a.arrived.answer)) ≡ true → (a.arrived.next ≡ r) × (a.store ≡ store)
  data_refused h = demand_1.data_refused r i b store (has_number _ h)

  pub marker_refused : let a = marker_arrival r i b store in refused_in (told (number_of a.arrived.answer)) ≡ true → (a.arrived.next ≡ r) × (a.store ≡ store)
  marker_refused h = demand_1.marker_refused r i b store (has_number _ h)

-- a take: refused, or waiting, which is the kind 3
module _ (r : Receiver) (store out : List ℕ) where
  abbrev answer : TakeAnswer
  answer = (take_of r store out).result.answer

  abbrev Stays : Type 0
  Stays = ((take_of r store out).result.next ≡ r) × ((take_of r store out).out ≡ out)

  pub take_refused : refused_in (taken_word answer) ≡ true → Stays
  take_refused h = demand_1.take_refused r store out (stops answer (take_told r store out) h)
    where
      stops : (t : TakeAnswer) → Told t → refused_in (taken_word t) ≡ true → goes_on t ≡ false
      stops (Ok (Waiting i)) told e = refl
      stops (Ok (Data i n)) told e = absurd (never (sym e ∙ bit_8_clear _ i n refl (omega arith)))
      stops (Ok (Missing i m)) told e = absurd (never (sym e ∙ bit_8_clear _ (16 + i) m refl (omega arith)))
      stops (Ok (Behind i)) told e = absurd (never (sym e ∙ below_256 (32 + i) (omega arith)))
      stops (Err k) told e = refl

  pub take_waits : kind_in (taken_word answer) ≡ 3 → Stays
  take_waits h = demand_1.take_refused r store out (stops answer (take_told r store out) h)
    where
      stops : (t : TakeAnswer) → Told t → kind_in (taken_word t) ≡ 3 → goes_on t ≡ false
      stops (Ok (Waiting i)) told e = refl
      stops (Ok (Data i n)) told e = absurd (omega arith)
      stops (Ok (Missing i m)) told e = absurd (omega arith)
      stops (Ok (Behind i)) told e = absurd (omega arith)
      stops (Err k) told e = refl

-- a run that is refused for its state or its store
module _ (r : Receiver) (store out log : List ℕ) where
  abbrev Kept : Run → Type 0
  Kept run = (run.result.next ≡ r) × (run.result.taken ≡ 0) × (run.result.bytes ≡ 0) × (run.out ≡ out) × (run.log ≡ log)

  pub run_refused_2 : receiver_ok r ≡ false → Kept (takes_of r store out log)
  run_refused_2 bad = rw (← bad_state r store out log bad) (refl, refl, refl, refl, refl)

  pub run_refused_9 : receiver_ok r ≡ true → (length store ≡ r.plan.lines * r.rings.size → ⊥) → Kept (takes_of r store out log)
  run_refused_9 good bad = rw (← bad_store r store out log good bad) (refl, refl, refl, refl, refl)

pub open_refused : (p : Plan) (size : ℕ) → refused_in (told (number_of (open_receiver p size))) ≡ true → receiver_of (open_receiver p size) ≡ closed_receiver
unfolding open_receiver
open_refused p size h = go (plan_ok p && store_ok p size) (has_number _ h)
  where
    opened : Bool → ReceiverOpened
    opened t = cond t (Ok (opened_receiver p size)) (Err refusal.Plan)

    go : (t : Bool) → (number_of (opened t) ≡ 0 → ⊥) → receiver_of (opened t) ≡ closed_receiver
    go true some = absurd (some refl)
    go false some = refl
