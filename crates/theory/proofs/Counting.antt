-- One line's figures, and the countdown, as they change: the first form's steps are those of a quotient and a remainder.
-- Assumes nothing.
use Prim.Native.Nat.{ℕ, suc, ◌+◌, ◌-◌, ◌*◌, ◌/◌, ◌%◌, ◌≤◌, ◌<◌}
use mathlib.Core.Bool.{Bool, true, false, ◌&&◌, cond}
use mathlib.Core.Path.{◌≡◌, refl, ap}
use native.Mathlib.Nat.{le_refl, add-zero, div-add-mod', mod-lt, mod_self, mod-eq_of_lt, suc-mod, suc-mul, div-eq_of_lt-le}
use native.Mathlib.Decide.{ℕ_discrete}
use native.Mathlib.Numerals.{add-one}
use native.Mathlib.Omega.{arith}
use borrow.Author.Tests.{lt-ltb, le-ltb, leb-true, leb-false, eq-eqb, ne_eqb}
use lib.Dec.{ltb, leb, eqb}
use Rattle.theory.specs.Sending.{round_at, counter_at, countdown_at}

-- the quotient, from where a number lies
pub quotient_is : (k q y : ℕ) → k * q ≤ y → y < k * q + q → y / q ≡ k
quotient_is k q y a b = div-eq_of_lt-le q a (omega (arith, suc-mul k q))

-- a line at x, of quantum q, is charged y
module _ (q x y : ℕ) (some : 1 ≤ q) where
  pub quotient_stays : y < counter_at q x → (x + y) / q ≡ x / q
  quotient_stays h = quotient_is (x / q) q (x + y) (omega (arith, div-add-mod' x q)) (omega (arith, div-add-mod' x q, mod-lt x some))

  -- where the charge takes it to: the start of the next round, and less than the charge beyond that
  pub reaches : counter_at q x ≤ y → suc (x / q) * q ≤ x + y
  reaches h = omega (arith, div-add-mod' x q, mod-lt x some, suc-mul (x / q) q)

  pub not_beyond : x + y < suc (x / q) * q + y
  not_beyond = omega (arith, div-add-mod' x q, mod-lt x some, suc-mul (x / q) q)

  pub quotient_rises : y ≤ q → counter_at q x ≤ y → (x + y) / q ≡ suc (x / q)
  quotient_rises l h = quotient_is (suc (x / q)) q (x + y) (reaches h) (omega (arith, not_beyond))

  module _ (fits : y ≤ q) where
    -- by one round at most
    pub one_round_more : (x + y) / q ≤ suc (x / q)
    one_round_more = go (leb (counter_at q x) y) refl
      where
        go : (b : Bool) → leb (counter_at q x) y ≡ b → (x + y) / q ≤ suc (x / q)
        go true e = omega (arith, quotient_rises fits (leb-true _ _ e))
        go false e = omega (arith, quotient_stays (leb-false _ _ e))

    -- the counter says whether the round rises
    pub rises_where : ltb (x / q + 1) ((x + y) / q + 1) ≡ leb (counter_at q x) y
    rises_where = go (leb (counter_at q x) y) refl
      where
        go : (b : Bool) → leb (counter_at q x) y ≡ b → ltb (x / q + 1) ((x + y) / q + 1) ≡ b
        go true e = rw (quotient_rises fits (leb-true _ _ e)) (lt-ltb (x / q + 1) (suc (x / q) + 1) (omega arith))
        go false e = rw (quotient_stays (leb-false _ _ e)) (le-ltb (x / q + 1) (x / q + 1) (le_refl _))

    pub round_after_lem : cond (leb (counter_at q x) y) ((round_at q x + 1) % 4294967296) (round_at q x) ≡ round_at q (x + y)
    round_after_lem = go (leb (counter_at q x) y) refl
      where
        go : (b : Bool) → leb (counter_at q x) y ≡ b → cond b ((round_at q x + 1) % 4294967296) (round_at q x) ≡ round_at q (x + y)
        go true e = omega (arith, quotient_rises fits (leb-true _ _ e))
        go false e = rw (quotient_stays (leb-false _ _ e))

    pub counter_after_lem : cond (leb (counter_at q x) y) (counter_at q x + q - y) (counter_at q x - y) ≡ counter_at q (x + y)
    counter_after_lem = go (leb (counter_at q x) y) refl
      where
        go : (b : Bool) → leb (counter_at q x) y ≡ b → cond b (counter_at q x + q - y) (counter_at q x - y) ≡ counter_at q (x + y)
        go true e =
            let h : counter_at q x ≤ y = leb-true _ _ e in
            omega (arith, div-add-mod' x q, mod-lt x some, div-add-mod' (x + y) q, suc-mul (x / q) q, ap (λ (k : ℕ). k * q) (quotient_rises fits h))
        go false e =
            let h : y < counter_at q x = leb-false _ _ e in
            omega (arith, div-add-mod' x q, mod-lt x some, div-add-mod' (x + y) q, ap (λ (k : ℕ). k * q) (quotient_stays h))

-- the countdown to the markers, k full rounds having ended, and one more
module _ (interval k : ℕ) (some : 1 ≤ interval) where
  abbrev now : ℕ
  now = countdown_at interval k

  at_one : now ≡ 1 → (k + 1) % interval ≡ 0
  at_one e =
      let last : suc (k % interval) ≡ interval = omega (arith, mod-lt k some) in
      rw (add-one, suc-mod, last) (mod_self interval)

  above_one : (now ≡ 1 → ⊥) → (k + 1) % interval ≡ suc (k % interval)
  above_one ne =
      let h : suc (k % interval) < interval = omega (arith, mod-lt k some) in
      rw (add-one, suc-mod) (mod-eq_of_lt h)

  pub countdown_after : (b : Bool) → cond b (cond (eqb now 1) interval (now - 1)) now ≡ countdown_at interval (k + cond b 1 0)
  countdown_after false = rw add-zero
  countdown_after true = go (ℕ_discrete now 1)
    where
      go : Dec (now ≡ 1) → cond (eqb now 1) interval (now - 1) ≡ countdown_at interval (k + 1)
      go (yes e) = rw (eq-eqb now 1 e) (omega (arith, at_one e))
      go (no e) = rw (ne_eqb now 1 e) (omega (arith, above_one e))

  pub due_after_lem : (b : Bool) → (b && eqb now 1) ≡ (b && eqb ((k + cond b 1 0) % interval) 0)
  due_after_lem false = refl
  due_after_lem true = go (ℕ_discrete now 1)
    where
      go : Dec (now ≡ 1) → eqb now 1 ≡ eqb ((k + 1) % interval) 0
      go (yes e) = rw (eq-eqb now 1 e, at_one e)
      go (no e) = rw (ne_eqb now 1 e, ne_eqb ((k + 1) % interval) 0 (λ z. omega (arith, above_one e)))
