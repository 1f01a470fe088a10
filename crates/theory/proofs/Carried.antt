-- What a line has carried only rises; what a measure adds up to over a line's packets, of which what the line has carried is one case.
-- Assumes nothing.
use Prim.Native.Nat.{ℕ, zero, suc, ◌+◌, ◌-◌, ◌≤◌, ◌<◌}
use mathlib.Core.Bool.{Bool, cond}
use mathlib.Core.List.{List, [], ◌∷◌, ◌++◌}
use mathlib.Core.Path.{◌≡◌, refl, ap, ◌∙◌, subst}
use native.Mathlib.Nat.{le_trans, le_refl}
use native.Mathlib.Decide.{dec_lt, ℕ_discrete}
use native.Mathlib.Omega.{arith}
use borrow.Author.Tests.{lt-ltb, le-ltb, eq-eqb, ne_eqb}
use lib.Dec.{ltb, eqb}
use lib.ListN.{length}
use Rattle.theory.specs.Sending.{Plan, charged, carried, line_of}
use Rattle.theory.specs.System.{Item, packet, marker}
use Rattle.theory.specs.Words.{total, before}

pub cond_lt : {n k : ℕ} (a b : ℕ) → n < k → cond (ltb n k) a b ≡ a
cond_lt {n} {k} a b h = ap (λ (t : Bool). cond t a b) (lt-ltb n k h)

pub cond_ge : {n k : ℕ} (a b : ℕ) → k ≤ n → cond (ltb n k) a b ≡ b
cond_ge {n} {k} a b h = ap (λ (t : Bool). cond t a b) (le-ltb n k h)

pub cond_eq : {n k : ℕ} (a b : ℕ) → n ≡ k → cond (eqb n k) a b ≡ a
cond_eq {n} {k} a b h = ap (λ (t : Bool). cond t a b) (eq-eqb n k h)

pub cond_ne : {n k : ℕ} (a b : ℕ) → (n ≡ k → ⊥) → cond (eqb n k) a b ≡ b
cond_ne {n} {k} a b h = ap (λ (t : Bool). cond t a b) (ne_eqb n k h)

-- what is carried depends on the packets so far alone
pub carried_by_packets : (p : Plan) (a b : ℕ → ℕ) (n : ℕ) → ((m : ℕ) → m < n → a m ≡ b m) → carried p a n ≡ carried p b n
unfolding carried
carried_by_packets p a b zero same = refl
carried_by_packets p a b (suc n) same =
    ap (λ (v : ℕ → ℕ). charged p v (a n)) (carried_by_packets p a b n (λ m h. same m (omega arith)))
    ∙ ap (charged p (carried p b n)) (same n (omega arith))

pub total_snoc : (f : ℕ → List ℕ → ℕ) (xs : List Item) (x : Item) → total f (xs ++ (x ∷ [])) ≡ total f xs + total f (x ∷ [])
total_snoc f [] x = omega arith
total_snoc f (packet k b ∷ rest) x = omega (arith, total_snoc f rest x)
total_snoc f (marker k m ∷ rest) x = omega (arith, total_snoc f rest x)

-- counts the packets of one label
unfoldable pub one : ℕ → ℕ → List ℕ → ℕ
one k n x = cond (eqb n k) 1 0

module _ (p : Plan) (bytes : ℕ → List ℕ) where
  abbrev lengths : ℕ → ℕ
  lengths n = length (bytes n)

  abbrev after : ℕ → ℕ → ℕ
  after n i = carried p lengths n i

  pub carried_same : (n i : ℕ) → line_of p lengths n ≡ i → carried p lengths (suc n) i ≡ carried p lengths n i + p.charge i (lengths n)
  unfolding carried charged
  carried_same n i e = cond_eq _ _ e

  pub carried_other : (n i : ℕ) → (line_of p lengths n ≡ i → ⊥) → carried p lengths (suc n) i ≡ carried p lengths n i
  unfolding carried charged
  carried_other n i e = cond_ne _ _ e

  carried_step : (n i : ℕ) → after n i ≤ after (suc n) i
  carried_step n i = go (ℕ_discrete (line_of p lengths n) i)
    where
      go : Dec (line_of p lengths n ≡ i) → after n i ≤ after (suc n) i
      go (yes e) = omega (arith, carried_same n i e)
      go (no e) = omega (arith, carried_other n i e)

  carried_add : (n d i : ℕ) → after n i ≤ after (d + n) i
  carried_add n zero i = subst (λ (m : ℕ). after n i ≤ after m i) (omega arith) (le_refl _)
  carried_add n (suc d) i = subst (λ (m : ℕ). after n i ≤ after m i) (omega arith) (le_trans (carried_add n d i) (carried_step (d + n) i))

  pub carried_mono : (n m i : ℕ) → n ≤ m → carried p lengths n i ≤ carried p lengths m i
  carried_mono n m i h = subst (λ (k : ℕ). after n i ≤ after k i) (omega arith) (carried_add n (m - n) i)

  -- what a measure adds up to over those of the first n packets that went to line i
  unfoldable pub sum : (ℕ → List ℕ → ℕ) → ℕ → ℕ → ℕ
  sum f zero i = 0
  sum f (suc n) i = sum f n i + cond (eqb (line_of p lengths n) i) (f n (bytes n)) 0

  pub sum_same : (f : ℕ → List ℕ → ℕ) (n i : ℕ) → line_of p lengths n ≡ i → sum f (suc n) i ≡ sum f n i + f n (bytes n)
  unfolding sum
  sum_same f n i e = ap (λ (t : ℕ). sum f n i + t) (cond_eq _ _ e)

  pub sum_other : (f : ℕ → List ℕ → ℕ) (n i : ℕ) → (line_of p lengths n ≡ i → ⊥) → sum f (suc n) i ≡ sum f n i
  unfolding sum
  sum_other f n i e = omega (arith, cond_ne (f n (bytes n)) 0 e)

  -- the charges of a line's packets below label k, of the first n: what the line had carried at the earlier of the two
  sum_low : (n k i : ℕ) → n ≤ k → sum (before p i k) n i ≡ after n i
  unfolding sum carried
  sum_low zero k i h = refl
  sum_low (suc n) k i h = go (sum_low n k i (omega arith)) (ℕ_discrete (line_of p lengths n) i)
    where
      go : sum (before p i k) n i ≡ after n i → Dec (line_of p lengths n ≡ i) → sum (before p i k) (suc n) i ≡ after (suc n) i
      go u (yes e) = omega (arith, sum_same (before p i k) n i e, carried_same n i e, cond_lt (p.charge i (lengths n)) 0 h)
      go u (no e) = omega (arith, sum_other (before p i k) n i e, carried_other n i e)

  sum_high : (d k i : ℕ) → sum (before p i k) (d + k) i ≡ after k i
  sum_high zero k i = subst (λ (m : ℕ). sum (before p i k) m i ≡ after k i) (omega arith) (sum_low k k i (le_refl k))
  sum_high (suc d) k i =
      subst (λ (m : ℕ). sum (before p i k) m i ≡ after k i) (omega arith) (go (sum_high d k i) (ℕ_discrete (line_of p lengths (d + k)) i))
    where
      go : sum (before p i k) (d + k) i ≡ after k i → Dec (line_of p lengths (d + k) ≡ i) → sum (before p i k) (suc (d + k)) i ≡ after k i
      go u (yes e) =
          omega (arith, sum_same (before p i k) (d + k) i e, cond_ge {n = d + k} {k = k} (p.charge i (lengths (d + k))) 0 (omega arith))
      go u (no e) = omega (arith, sum_other (before p i k) (d + k) i e)

  pub sum_before : (n k i : ℕ) → k ≤ n → sum (before p i k) n i ≡ carried p lengths k i
  sum_before n k i h = subst (λ (m : ℕ). sum (before p i k) m i ≡ after k i) (omega arith) (sum_high (n - k) k i)

  sum_mono : (f : ℕ → List ℕ → ℕ) (n i : ℕ) → sum f n i ≤ sum f (suc n) i
  unfolding sum
  sum_mono f n i = omega arith

  sum_last : (k : ℕ) → 1 ≤ sum (one k) (suc k) (line_of p lengths k)
  unfolding one
  sum_last k = omega (arith, sum_same (one k) k (line_of p lengths k) refl, cond_eq {n = k} {k = k} 1 0 refl)

  pub sum_one : (n k : ℕ) → k < n → 1 ≤ sum (one k) n (line_of p lengths k)
  sum_one zero k h = absurd (omega arith)
  sum_one (suc n) k h = go (λ l. sum_one n k l) (dec_lt k n)
    where
      go : (k < n → 1 ≤ sum (one k) n (line_of p lengths k)) → Dec (k < n) → 1 ≤ sum (one k) (suc n) (line_of p lengths k)
      go u (yes l) = le_trans (u l) (sum_mono (one k) n (line_of p lengths k))
      go u (no l) = subst (λ (m : ℕ). 1 ≤ sum (one k) (suc m) (line_of p lengths k)) (omega arith) (sum_last k)
