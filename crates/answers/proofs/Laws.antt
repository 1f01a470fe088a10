-- C reads from an answer what it says. Assumes nothing.
use Rattle.std.proofs.Common.{◌≡◌, ℕ, ◌+◌, ◌*◌, ◌/◌, ◌%◌, ◌^◌, ◌<◌, ◌≤◌, Bool, Result, true, false, cond, eqb, sym, refl, ap, ◌∙◌, arith, eq-eqb, ne_eqb, eqb-true}
use Rattle.numbers.specs.declared.Refusal.{Refusal}
use Rattle.numbers.specs.Refusals.{number, refusal_of, number_of}
use Rattle.numbers.proofs.Checks.{never, small, named, small_number}
use Rattle.answers.specs.Answers.{refusal, told, refused_in, number_in, told_in, line_in}

module _ (k : ℕ) (small : k < 256) where
  -- a refusal is read as one, by its number
  pub refusal_read : (refused_in (refusal k) ≡ true) × (number_in (refusal k) ≡ k)
  unfolding refused_in
  refusal_read = (eq-eqb (refusal k / 256 % 2) 1 (omega arith), omega arith)

  -- and names no line
  pub refusal_no_line : 256 ≤ line_in (refusal k)
  refusal_no_line = omega arith

-- of the table it is the refusal itself
pub refusal_back : (r : Refusal) → (refused_in (refusal (number r)) ≡ true) × (refusal_of (number_in (refusal (number r))) ≡ r)
refusal_back r = let read = refusal_read (number r) (omega (arith, small r)) in (read.0, ap refusal_of read.1 ∙ named r)

not_refused : (w : ℕ) → w / 256 % 2 ≡ 0 → refused_in w ≡ false
unfolding refused_in
not_refused w e = ne_eqb (w / 256 % 2) 1 (omega (arith, e))

even : (n : ℕ) → 2 * n % 2 ≡ 0
even n = omega arith

-- an answer with bit 8 clear is none: whatever stands above it, and below
pub bit_8_clear : (w low high : ℕ) → w ≡ low + 512 * high → low < 256 → refused_in w ≡ false
bit_8_clear w low high e h =
    let above : w / 256 ≡ 2 * high = omega (arith, e, h) in
    not_refused w (rw above (even high))

pub below_256 : (w : ℕ) → w < 256 → refused_in w ≡ false
below_256 w h = not_refused w (omega arith)

-- ---- a call that has nothing else to say

pub told_none : (number : ℕ) → number ≡ 0 → told number ≡ 0
told_none number e = rw e refl

-- what is told and read as a refusal has a number
pub has_number : (number : ℕ) → refused_in (told number) ≡ true → number ≡ 0 → ⊥
has_number number h e = never (sym h ∙ ap refused_in (told_none number e) ∙ below_256 0 (omega arith))

pub told_some : (number : ℕ) → (number ≡ 0 → ⊥) → told number ≡ 256 + number
told_some number h = rw (ne_eqb number 0 h) refl

pub told_fits : (number : ℕ) → number < 256 → told number < 2 ^ 32
told_fits number h = go (eqb number 0)
  where
    go : (t : Bool) → cond t 0 (refusal number) < 2 ^ 32
    go true = omega arith
    go false = omega arith

pub told_whole : (number : ℕ) → number < 256 → told number % 2 ^ 32 ≡ told number
told_whole number h = omega (arith, told_fits number h)

pub told_back : (number : ℕ) → number < 256 → told_in (told number) ≡ number
unfolding told_in
told_back number h = go (eqb number 0) refl
  where
    go : (t : Bool) → eqb number 0 ≡ t → cond (refused_in (cond t 0 (refusal number))) (number_in (cond t 0 (refusal number))) 0 ≡ number
    go true e = rw (below_256 0 (omega arith)) (omega (arith, eqb-true number 0 e))
    go false e = rw (refusal_read number h).0 (refusal_read number h).1

-- of an answer, whatever else it says
pub answer_back : {A : Type 0} (answer : Result A Refusal) → told_in (told (number_of answer)) ≡ number_of answer
answer_back answer = told_back (number_of answer) (omega (arith, small_number answer))
