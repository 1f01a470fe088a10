-- Laws of the checks. Assumes nothing.
use mathlib.Core.Path.{◌≡◌, refl, ap, sym, ◌∙◌}
use Prim.Native.Nat.{ℕ, zero, suc, ◌+◌, ◌≤◌, ◌<◌}
use native.Mathlib.Numerals.{add-one}
use native.Mathlib.Decide.{ℕ_discrete}
use native.Mathlib.Omega.{arith}
use mathlib.Core.Bool.{Bool, true, false, ◌&&◌}
use lib.Dec.{leb}
use borrow.Author.Tests.{leb-true, le-leb, lt-leb}
use Rattle.std.specs.Prelude.{Result, Ok, Err}
use Rattle.std.specs.Result.{IsErrAnd, result_and}
use Rattle.std.proofs.lemmas.Result.{err_from_is_err_and}
use Rattle.numbers.specs.declared.Refusal.{Refusal}
use Rattle.numbers.specs.declared.Refusal.TheVariants.{Plan, State, Line, Length, NoMarker, OtherLine, NoRoom, ShortOutput, Store, Counter}
use Rattle.numbers.specs.Refusals.{number, refusal_of, number_of}
use Rattle.numbers.specs.Checks.{Checked, passed, check, settled, in_range, all_below}

pub never : true ≡ false → ⊥
never e = let z : ◌≡◌ {A = ℕ} 0 1 = cc in omega arith

pub both : (a b : Bool) → a && b ≡ true → (a ≡ true) × (b ≡ true)
both true b e = (refl, e)
both false b e = absurd (never (sym e))

-- ---- refusals

-- every refusal has a number of the table
pub small : (refusal : Refusal) → (1 ≤ number refusal) × (number refusal ≤ 10)
small Plan = (omega arith, omega arith)
small State = (omega arith, omega arith)
small Line = (omega arith, omega arith)
small Length = (omega arith, omega arith)
small NoMarker = (omega arith, omega arith)
small OtherLine = (omega arith, omega arith)
small NoRoom = (omega arith, omega arith)
small ShortOutput = (omega arith, omega arith)
small Store = (omega arith, omega arith)
small Counter = (omega arith, omega arith)

pub no_zero : (refusal : Refusal) → number refusal ≡ 0 → ⊥
no_zero refusal e = omega (arith, small refusal)

-- and its number names it
pub named : (refusal : Refusal) → refusal_of (number refusal) ≡ refusal
named Plan = refl
named State = refl
named Line = refl
named Length = refl
named NoMarker = refl
named OtherLine = refl
named NoRoom = refl
named ShortOutput = refl
named Store = refl
named Counter = refl

pub small_number : {A : Type 0} (answer : Result A Refusal) → number_of answer ≤ 10
small_number (Ok a) = omega arith
small_number (Err refusal) = (small refusal).1

-- a refusal that a `?` passes on
pub refused : {A : Type 0} {e refusal : Refusal} (r : Result A Refusal) → e ≡ refusal → IsErrAnd r (λ x. x ≡ e) → r ≡ Err refusal
refused r same h = let p = err_from_is_err_and r h in rw (p.1, p.2, same) refl

-- ---- a row of checks

-- a row that gives none has passed its first check
pub check_passed : (ok : Bool) (refusal : Refusal) (rest : Checked) → number_of (check ok refusal rest) ≡ 0 → (ok ≡ true) × (number_of rest ≡ 0)
check_passed true refusal rest e = (refl, e)
check_passed false refusal rest e = absurd (no_zero refusal e)

-- and so has one that is known to pass
pub held : (ok : Bool) (refusal : Refusal) (rest : Checked) {u : Unit {0}} → check ok refusal rest ≡ Ok u → (ok ≡ true) × (rest ≡ passed)
held true refusal rest {u} e = (refl, e)
held false refusal rest e = absurd (let z : ◌≡◌ {A = ℕ} 0 1 = cc in omega arith)

-- where nothing is refused, neither was it by the checks that stand in front
pub own_passed : (own rest : Checked) → number_of (result_and own rest) ≡ 0 → (number_of own ≡ 0) × (number_of rest ≡ 0)
own_passed (Ok u) rest e = (refl, e)
own_passed (Err refusal) rest e = absurd (no_zero refusal e)

-- what a call makes of its checks is one thing where they pass and another where they do not
pub by_checks : {A : Type 0} (P : A → Type 0) (row : Checked) {good : A} {bad : Refusal → A} → (row ≡ passed → P good)
    → ((refusal : Refusal) → row ≡ Err refusal → P (bad refusal)) → P (settled row good bad)
by_checks P (Ok u) passes fails = passes refl
by_checks P (Err refusal) passes fails = fails refusal refl

-- ---- a range

module _ (low x high : ℕ) where
  pub in_range_lem : low ≤ x → x ≤ high → in_range low x high ≡ true
  in_range_lem l h = simp (le-leb low x l, le-leb x high h)

  pub from_range : in_range low x high ≡ true → (low ≤ x) × (x ≤ high)
  from_range e = let p = both (leb low x) (leb x high) e in (leb-true low x p.0, leb-true x high p.1)

  -- from a number past the end there is no range
  pub empty_range : high < low → in_range low x high ≡ false
  empty_range h = go (leb low x) refl
    where
      go : (t : Bool) → leb low x ≡ t → t && leb x high ≡ false
      go true q = lt-leb x high (omega (arith, leb-true low x q))
      go false q = refl

-- ---- all below

module _ (f : ℕ → Bool) where
  pub all_more : (n : ℕ) → all_below f (n + 1) ≡ all_below f n && f n
  unfolding all_below
  all_more n = rw add-one

  pub all_at : (n : ℕ) → all_below f n ≡ true → (i : ℕ) → i < n → f i ≡ true
  unfolding all_below
  all_at zero e i h = absurd (omega arith)
  all_at (suc n) e i h = go (ℕ_discrete i n) (both (all_below f n) (f n) e) (all_at n)
    where
      go : Dec (i ≡ n) → (all_below f n ≡ true) × (f n ≡ true) → (all_below f n ≡ true → (i : ℕ) → i < n → f i ≡ true) → f i ≡ true
      go (yes p) b ih = ap f p ∙ b.1
      go (no p) b ih = ih b.0 i (omega arith)

  pub all : (n : ℕ) → ((i : ℕ) → i < n → f i ≡ true) → all_below f n ≡ true
  unfolding all_below
  all zero h = refl
  all (suc n) h = simp (all n (λ i l. h i (omega arith)), h n (omega arith))
