-- The numbers that pass a test, in order: two tests that agree, a test that none passes, and a test that loses its first number.
-- Assumes nothing.
use Prim.Native.Nat.{ℕ, zero, suc, ◌<◌}
use mathlib.Core.Bool.{Bool, true, false}
use mathlib.Core.List.{[], ◌∷◌}
use mathlib.Core.Path.{◌≡◌, refl, subst}
use native.Mathlib.Decide.{dec_lt}
use native.Mathlib.Omega.{arith}
use Rattle.theory.specs.Words.{sieve}

pub sieve_same : (f g : ℕ → Bool) (n : ℕ) → ((k : ℕ) → k < n → f k ≡ g k) → sieve f n ≡ sieve g n
sieve_same f g zero same = refl
sieve_same f g (suc n) same = rw (sieve_same f g n (λ k l. same k (omega arith)), same n (omega arith))

pub sieve_none : (f : ℕ → Bool) (n : ℕ) → ((k : ℕ) → k < n → f k ≡ false) → sieve f n ≡ []
sieve_none f zero none = refl
sieve_none f (suc n) none = rw (sieve_none f n (λ k l. none k (omega arith)), none n (omega arith))

-- x passes f and not g, nothing below x passes either, and above x the two agree
pub sieve_first : (f g : ℕ → Bool) (x n : ℕ) → x < n → f x ≡ true → g x ≡ false
    → ((k : ℕ) → k < x → f k ≡ false) → ((k : ℕ) → k < x → g k ≡ false) → ((k : ℕ) → x < k → f k ≡ g k)
    → sieve f n ≡ x ∷ sieve g n
sieve_first f g x zero below passes fails none-f none-g agree = absurd (omega arith)
sieve_first f g x (suc n) below passes fails none-f none-g agree =
    go (λ l. sieve_first f g x n l passes fails none-f none-g agree) (dec_lt x n)
  where
    last : (m : ℕ) → x ≡ m → sieve f (suc m) ≡ x ∷ sieve g (suc m)
    last m e =
        subst (λ (k : ℕ). sieve f (suc k) ≡ x ∷ sieve g (suc k)) e
        (rw (sieve_none f x none-f, sieve_none g x none-g, passes, fails))

    go : (x < n → sieve f n ≡ x ∷ sieve g n) → Dec (x < n) → sieve f (suc n) ≡ x ∷ sieve g (suc n)
    go earlier (yes l) = rw (earlier l, agree n l)
    go earlier (no l) = last n (omega arith)
