-- Rows of the table of numbers, from the checks that give them: each kind of check and the row that it stands for. Assumes nothing.
use Prim.Native.Nat.{ℕ, ◌≤◌, ◌<◌}
use native.Mathlib.Omega.{arith}
use mathlib.Core.Bool.{Bool, true, false}
use mathlib.Core.List.{List}
use mathlib.Core.Logic.{inl, inr}
use mathlib.Core.Path.{◌≡◌, refl, sym, ◌∙◌}
use lib.Dec.{ltb, leb, eqb}
use lib.ListN.{length}
use borrow.Author.Tests.{ltb-true, ltb-false, leb-true, leb-false, eqb-true, eq-eqb}
use Rattle.numbers.specs.declared.Refusal.{Refusal}
use Rattle.numbers.specs.declared.Refusal.TheVariants as refusal
use Rattle.numbers.specs.Refusals.{number, number_of}
use Rattle.numbers.specs.Checks.{Checked, passed, check, in_range}
use Rattle.numbers.specs.Writing.{outcome, room}
use Rattle.numbers.proofs.Checks.{never, in_range_lem, from_range}
use Rattle.numbers.proofs.Laws.{answered_number}
use Rattle.plan.specs.Ranges.{From}
use Rattle.calls.specs.Plain.{Not}
use Rattle.calls.specs.Table.{given, accepted, short}

-- ---- one check: the number of its refusal, and the rows after it, of what the checks after it give

-- the rows hold of the number that the checks give (a record, so that a row's proof need not name the rows after it)
pub record Gives (rows : ℕ → Type 0) (checks : Checked) : Type 0 where
  pub proof : rows (number_of checks)

-- nothing is refused
pub ends : Gives accepted passed
ends = record { proof = refl }

module _ (k : Refusal) {next : ℕ → Type 0} {rest : Checked} where
  -- a check that fails exactly where the row holds
  pub row : {Holds : Type 0} (ok : Bool) → (ok ≡ false → Holds) → (ok ≡ true → Not Holds) → (ok ≡ true → Gives next rest)
      → Gives (given (number k) Holds next) (check ok k rest)
  row true fails passes more = record { proof = inr (passes refl, (more refl).proof) }
  row false fails passes more = record { proof = inl (fails refl, refl) }

  -- a check that passes exactly where P does: the row is that P does not hold
  pub unless : {P : Type 0} (ok : Bool) → (ok ≡ true → P) → (P → ok ≡ true) → (P → Gives next rest) → Gives (given (number k) (Not P) next) (check ok k rest)
  unless ok to from more = row ok (λ f p. never (sym (from p) ∙ f)) (λ t n. n (to t)) (λ t. more (to t))

  -- a range, an equation and two inequalities
  pub range_row : (low x high : ℕ) → (From low high x → Gives next rest) → Gives (given (number k) (Not (From low high x)) next) (check (in_range low x high) k rest)
  range_row low x high more = unless (in_range low x high) (from_range low x high) (λ r. in_range_lem low x high r.0 r.1) more

  pub equal_row : (a b : ℕ) → (a ≡ b → Gives next rest) → Gives (given (number k) (Not (a ≡ b)) next) (check (eqb a b) k rest)
  equal_row a b more = unless (eqb a b) (eqb-true a b) (eq-eqb a b) more

  pub below_row : (a b : ℕ) → (a < b → Gives next rest) → Gives (given (number k) (b ≤ a) next) (check (ltb a b) k rest)
  below_row a b more = row (ltb a b) (ltb-false a b) (λ t h. omega (arith, ltb-true a b t)) (λ t. more (ltb-true a b t))

  pub at_most_row : (a b : ℕ) → (a ≤ b → Gives next rest) → Gives (given (number k) (b < a) next) (check (leb a b) k rest)
  at_most_row a b more = row (leb a b) (leb-false a b) (λ t h. omega (arith, leb-true a b t)) (λ t. more (leb-true a b t))

-- ---- writers

-- the last check of every writer
pub room_row : (bytes out : List ℕ) → Gives (given 8 (short bytes out) accepted) (room bytes out)
room_row bytes out = at_most_row refusal.ShortOutput (length bytes) (length out) (λ h. ends)

-- a writer answers the number that its checks give
pub answered : {rows : ℕ → Type 0} {checks : Checked} (bytes out : List ℕ) → Gives rows checks → rows (number_of (outcome checks bytes out).answer)
answered {checks = checks} bytes out g = rw (answered_number checks bytes out) g.proof
