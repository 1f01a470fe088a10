-- The choice of a line: it is a line, and at least as good as every other; only one line is. Two choices that cross are the same line.
-- Assumes nothing.
use Prim.Native.Nat.{ℕ, zero, suc, ◌+◌, ◌/◌, ◌≤◌, ◌<◌}
use mathlib.Core.Bool.{Bool, true, false, cond}
use mathlib.Core.Path.{◌≡◌, refl}
use native.Mathlib.Nat.{le_antisymm, le_trans, le_refl, div-mul-le_self, le-div_iff_mul-le, div-zero}
use native.Mathlib.Decide.{dec_lt}
use native.Mathlib.Omega.{arith}
use native.Mathlib.Numerals.{add-one}
use borrow.Author.Tests.{ltb-true, ltb-false, lt-ltb, le-ltb}
use lib.Dec.{ltb}
use Rattle.theory.specs.Sending.{Plan, rounds, better, best, choose}

-- a is at least as good as j: a lower key, or the same key and no higher number
pub record Beats (key : ℕ → ℕ) (a j : ℕ) : Type 0 where
  pub low : key a ≤ key j
  pub tie : key j ≤ key a → a ≤ j

pub record Wins (key : ℕ → ℕ) (n a : ℕ) : Type 0 where
  pub is_below : a < n
  pub beats : (j : ℕ) → j < n → Beats key a j

pub beats_itself : (key : ℕ → ℕ) (a j : ℕ) → a ≡ j → Beats key a j
beats_itself key a j e = rw (← e) (record { low = le_refl _; tie = λ _. le_refl _ })

pub only_one_wins : (key : ℕ → ℕ) (n a b : ℕ) → Wins key n a → Wins key n b → a ≡ b
only_one_wins key n a b x y =
    let u = x.beats b y.is_below in
    let v = y.beats a x.is_below in
    le_antisymm (u.tie v.low) (v.tie u.low)

wins_up_to : (key : ℕ → ℕ) (n a : ℕ) → a ≤ n → ((j : ℕ) → j < n → Beats key a j) → Beats key a n → Wins key (suc n) a
wins_up_to key n a h below last = record { is_below = omega arith; beats = λ j l. go j l (dec_lt j n) }
  where
    go : (j : ℕ) → j < suc n → Dec (j < n) → Beats key a j
    go j l (yes m) = below j m
    go j l (no m) = let e : j ≡ n = omega arith in rw e last

-- one more number, n, against the best b of those below it
better_wins : (key : ℕ → ℕ) (n b : ℕ) → b ≤ n → ((j : ℕ) → j < n → Beats key b j) → Wins key (suc n) (better key n b)
unfolding better
better_wins key n b h below = go (ltb (key n) (key b)) refl
  where
    go : (t : Bool) → ltb (key n) (key b) ≡ t → Wins key (suc n) (cond t n b)
    go true e =
        let less : key n < key b = ltb-true _ _ e in
        wins_up_to key n n (le_refl n) (λ j l. let u = below j l in record { low = omega arith; tie = λ t. omega arith }) (beats_itself key n n refl)
    go false e = wins_up_to key n b h below (record { low = ltb-false _ _ e; tie = λ _. h })

pub best_wins : (key : ℕ → ℕ) (n : ℕ) → 1 ≤ n → Wins key n (best key n)
unfolding best
best_wins key zero l = absurd (omega arith)
best_wins key (suc zero) l = better_wins key 0 0 (le_refl 0) (λ j m. absurd (omega arith))
best_wins key (suc (suc n)) l =
    let w = best_wins key (suc n) (omega arith) in
    better_wins key (suc n) (best key (suc n)) (omega arith) w.beats

-- the best of one number more, by one comparison
pub best_one : (key : ℕ → ℕ) → ◌≡◌ {A = ℕ} 0 (best key 1)
unfolding best better
best_one key = go (ltb (key 0) (key 0))
  where
    go : (t : Bool) → ◌≡◌ {A = ℕ} 0 (cond t 0 0)
    go true = refl
    go false = refl

module _ (key : ℕ → ℕ) (n : ℕ) where
  pub best_changed : key n < key (best key n) → n ≡ best key (n + 1)
  unfolding best better
  best_changed h = rw add-one (simp (lt-ltb (key n) (key (best key n)) h))

  pub best_kept : key (best key n) ≤ key n → best key n ≡ best key (n + 1)
  unfolding best better
  best_kept h = rw add-one (simp (le-ltb (key n) (key (best key n)) h))

pub choose_wins : (p : Plan) → 1 ≤ p.lines → (v : ℕ → ℕ) → Wins (rounds p v) p.lines (choose p v)
unfolding choose
choose_wins p some v = best_wins (rounds p v) p.lines some

-- whole quanta do not fall as the charges rise
pub div_mono : (q a b : ℕ) → a ≤ b → a / q ≤ b / q
div_mono zero a b h = rw (div-zero a, div-zero b) (le_refl _)
div_mono (suc q) a b h = (le-div_iff_mul-le {k = suc q} {x = a / suc q} {y = b} (omega arith)).1 (le_trans (div-mul-le_self a (suc q)) h)

-- Where the first positions are no further on the second's choice, and the second no further on the first's, the choices are one line.
pub cross : (p : Plan) → 1 ≤ p.lines → (v w : ℕ → ℕ) → v (choose p w) ≤ w (choose p w) → w (choose p v) ≤ v (choose p v)
    → choose p v ≡ choose p w
cross p some v w f g =
    let x = choose_wins p some v in
    let y = choose_wins p some w in
    let there = x.beats (choose p w) y.is_below in
    let here = y.beats (choose p v) x.is_below in
    let low-there = div_mono (p.quantum (choose p w)) _ _ f in
    let low-here = div_mono (p.quantum (choose p v)) _ _ g in
    le_antisymm (there.tie (omega (arith, there.low, here.low))) (here.tie (omega (arith, there.low, here.low)))
