-- The copy of a plan record is the record: the plan that it reads as has no other. Assumes nothing.
use mathlib.Core.Path.{◌≡◌, refl, ap, sym, ◌∙◌}
use Prim.Native.Nat.{ℕ}
use mathlib.Core.Logic.{◌⊎◌, inl, inr}
use mathlib.Core.List.{List}
use lib.Dec.{eqb}
use borrow.Author.Tests.{eq-eqb}
use Rattle.numbers.specs.Checks.{check}
use Rattle.numbers.specs.Coding.{Bytes}
use Rattle.numbers.specs.Writing.{room, written, outcome}
use Rattle.plan.specs.Plan.{no_plan, plan_ok}
use Rattle.plan_record.specs.Record.{PlanRead, refused_plan, plan_read, plan_written, plan_of}
use Rattle.plan_record.proofs.Laws.{as_written}
use Rattle.plan_record.proofs.Promises.{read_or_refused, read_is_written}
use Rattle.booth.specs.Exports.{copied}
use Rattle.numbers.specs.Refusals.{number_of}
use Rattle.numbers.specs.declared.Refusal.TheVariants as refusal
use Rattle.std.specs.Prelude.{Ok, Err}
use Rattle.numbers.proofs.Checks.{no_zero}

accepted : (r : PlanRead) → number_of r ≡ 0 → r ≡ Ok (plan_of r)
accepted (Ok p) e = refl
accepted (Err k) e = absurd (no_zero k e)

-- no writer takes the all-zero plan
zeros_refused : (s out : List ℕ) → plan_written no_plan out ≡ outcome (Err refusal.Plan) s out
unfolding plan_written plan_ok outcome
zeros_refused s out = refl

-- 1 where the record's reading is refused, then 8 where the output is shorter than the record; else the record is written
pub copy_is_the_record : (s out : List ℕ) → Bytes s → copied s out ≡ outcome (check (eqb (number_of (plan_read s)) 0) refusal.Plan (room s out)) s out
copy_is_the_record s out bytes = go (read_or_refused s)
  where
    go : (number_of (plan_read s) ≡ 0) ⊎ ((plan_read s ≡ refused_plan) × (plan_of (plan_read s) ≡ no_plan)) → copied s out ≡ outcome (check (eqb (number_of (plan_read s)) 0) refusal.Plan (room s out)) s out
    go (inl good) =
        let reads : plan_read s ≡ Ok (plan_of (plan_read s)) = accepted (plan_read s) good in
        let same = read_is_written s (plan_of (plan_read s)) bytes reads in
        rw (eq-eqb (number_of (plan_read s)) 0 good)
        (sym (as_written (plan_of (plan_read s)) out same.1) ∙ ap (λ (b : List ℕ). written b out) (sym same.0))
    go (inr bad) = rw bad.0 (zeros_refused s out)
