-- The share: how the lines stand at every moment of sending, and what one more packet changes.
-- Assumes nothing.
use Prim.Native.Nat.{ℕ, zero, suc, ◌+◌, ◌*◌, ◌/◌, ◌≤◌, ◌<◌}
use mathlib.Core.Bool.{Bool, true, false, true≢false, ◌&&◌, cond}
use mathlib.Core.Path.{◌≡◌, refl, sym, ◌∙◌}
use native.Mathlib.Nat.{le_refl, add-zero, zero-mul, zero-div}
use native.Mathlib.Decide.{dec_lt}
use native.Mathlib.Numerals.{add-one}
use native.Mathlib.Omega.{arith}
use borrow.Author.Tests.{eq-eqb, ne_eqb, lt-ltb, le-ltb, leb-true, leb-false}
use lib.Dec.{ltb, leb, eqb}
use Rattle.theory.specs.Sending.{Plan, rounds, choose, charged, carried, line_of, ends, ended, counter_at}
use Rattle.theory.specs.Demands.{Sound, Fit, Share}
use Rattle.theory.proofs.Choose.{Beats, Wins, beats_itself, only_one_wins, choose_wins}
use Rattle.theory.proofs.Counting.{quotient_is, quotient_stays, reaches, not_beyond, rises_where}

-- line i has carried k quanta, and less than one largest packet beyond them
pub record Band (p : Plan) (v : ℕ → ℕ) (k i : ℕ) : Type 0 where
  pub least : k * p.quantum i ≤ v i
  pub most : v i < k * p.quantum i + p.charge i p.largest

-- line a is current and k full rounds have ended: the lines before it have ended one more round, those behind it have not begun it
pub record At (p : Plan) (v : ℕ → ℕ) (k a : ℕ) : Type 0 where
  pub is_line : a < p.lines
  pub current : v a / p.quantum a ≡ k
  pub before : (i : ℕ) → i < a → Band p v (suc k) i
  pub behind : (i : ℕ) → a < i → i < p.lines → Band p v k i

-- a packet goes to line a: what that does, by the line's counter
pub record Sent (p : Plan) (v : ℕ → ℕ) (k a length : ℕ) : Type 0 where
  pub is_line : a < p.lines
  pub in_quantum : p.charge a length ≤ p.quantum a
  pub line : choose p (charged p v length) ≡ cond (leb (counter_at (p.quantum a) (v a)) (p.charge a length)) (cond (ltb (suc a) p.lines) (suc a) 0) a
  pub complete : ends p v length ≡ (leb (counter_at (p.quantum a) (v a)) (p.charge a length) && eqb (suc a) p.lines)
  pub stand : At p (charged p v length) (k + cond (ends p v length) 1 0) (choose p (charged p v length))
  pub bands : ends p v length ≡ true → (i : ℕ) → i < p.lines → Band p (charged p v length) (k + cond (ends p v length) 1 0) i

pub charged_here : (p : Plan) (v : ℕ → ℕ) (length : ℕ) → charged p v length (choose p v) ≡ v (choose p v) + p.charge (choose p v) length
unfolding charged
charged_here p v length = rw (eq-eqb (choose p v) (choose p v) refl)

pub charged_elsewhere : (p : Plan) (v : ℕ → ℕ) (length i : ℕ) → (choose p v ≡ i → ⊥) → charged p v length i ≡ v i
unfolding charged
charged_elsewhere p v length i ne = rw (ne_eqb (choose p v) i ne)

pub fit_fewer : (p : Plan) (lengths : ℕ → ℕ) (n : ℕ) → Fit p lengths (suc n) → Fit p lengths n
fit_fewer p lengths n fit m l = fit m (omega arith)

module _ (p : Plan) (sound : Sound p) where
  pub some_quantum : (i : ℕ) → i < p.lines → 1 ≤ p.quantum i
  some_quantum i l = omega (arith, sound.some_charge i l, sound.enough i l)

  band_quotient : {v : ℕ → ℕ} {k i : ℕ} → i < p.lines → Band p v k i → v i / p.quantum i ≡ k
  band_quotient {v} {k} {i} l b = quotient_is k (p.quantum i) (v i) b.least (omega (arith, sound.enough i l))

  at_wins : {v : ℕ → ℕ} {k a : ℕ} → At p v k a → Wins (rounds p v) p.lines a
  at_wins {v} {k} {a} t = record { is_below = t.is_line; beats = λ j l. go j l (dec_lt j a) (dec_lt a j) }
    where
      go : (j : ℕ) → j < p.lines → Dec (j < a) → Dec (a < j) → Beats (rounds p v) a j
      go j l (yes h) _ = let e = band_quotient l (t.before j h) in record { low = omega (arith, t.current); tie = λ u. omega (arith, t.current) }
      go j l (no h) (yes g) = let e = band_quotient l (t.behind j g l) in record { low = omega (arith, t.current); tie = λ u. omega arith }
      go j l (no h) (no g) = beats_itself (rounds p v) a j (omega arith)

  pub at_choose : {v : ℕ → ℕ} {k a : ℕ} → At p v k a → choose p v ≡ a
  at_choose {v} {k} {a} t = only_one_wins (rounds p v) p.lines (choose p v) a (choose_wins p sound.some_line v) (at_wins t)

  pub at_start : At p (λ i. 0) 0 0
  at_start = record {
    is_line = sound.some_line;
    current = zero-div (p.quantum 0);
    before = λ i m. absurd (omega arith);
    behind = λ i m l. record { least = omega (arith, zero-mul (p.quantum i)); most = omega (arith, zero-mul (p.quantum i), sound.some_charge i l) };
  }

  -- one more packet
  module _ (v : ℕ → ℕ) (k length : ℕ) (t : At p v k (choose p v)) (fits : p.charge (choose p v) length ≤ p.charge (choose p v) p.largest) where
    abbrev a : ℕ
    a = choose p v

    abbrev w : ℕ → ℕ
    w = charged p v length

    abbrev runs_out_lem : Bool
    runs_out_lem = leb (counter_at (p.quantum a) (v a)) (p.charge a length)

    some : 1 ≤ p.quantum a
    some = some_quantum a t.is_line

    in_quantum : p.charge a length ≤ p.quantum a
    in_quantum = omega (arith, sound.enough a t.is_line)

    same_band : (n i : ℕ) → (a ≡ i → ⊥) → Band p v n i → Band p w n i
    same_band n i ne b = let e = charged_elsewhere p v length i ne in record { least = omega (arith, b.least); most = omega (arith, b.most) }

    still_before : (i : ℕ) → i < a → Band p w (suc k) i
    still_before i h = same_band (suc k) i (λ e. omega arith) (t.before i h)

    still_behind : (i : ℕ) → a < i → i < p.lines → Band p w k i
    still_behind i h l = same_band k i (λ e. omega arith) (t.behind i h l)

    -- the counter ran out: line a has ended the round too
    now_before : runs_out_lem ≡ true → (i : ℕ) → i < suc a → Band p w (suc k) i
    now_before e i h = go (dec_lt i a)
      where
        here : Band p w (suc k) a
        here = rw (← t.current) (record {
          least = rw (charged_here p v length) (reaches (p.quantum a) (v a) (p.charge a length) some (leb-true _ _ e));
          most = rw (charged_here p v length) (omega (arith, not_beyond (p.quantum a) (v a) (p.charge a length) some));
        })

        go : Dec (i < a) → Band p w (suc k) i
        go (yes l) = still_before i l
        go (no l) = let d : i ≡ a = omega arith in rw d here

    stays : runs_out_lem ≡ false → At p w k a
    stays e = record {
      is_line = t.is_line;
      current = rw (charged_here p v length) (quotient_stays (p.quantum a) (v a) (p.charge a length) some (leb-false _ _ e) ∙ t.current);
      before = still_before;
      behind = still_behind;
    }

    moves_on : runs_out_lem ≡ true → suc a < p.lines → At p w k (suc a)
    moves_on e l = record {
      is_line = l;
      current = band_quotient l (still_behind (suc a) (le_refl _) l);
      before = now_before e;
      behind = λ i h m. still_behind i (omega arith) m;
    }

    starts_over : runs_out_lem ≡ true → suc a ≡ p.lines → At p w (suc k) 0
    starts_over e d = record {
      is_line = sound.some_line;
      current = band_quotient sound.some_line (now_before e 0 (omega arith));
      before = λ i h. absurd (omega arith);
      behind = λ i h l. now_before e i (omega arith);
    }

    ends_where : ends p v length ≡ (runs_out_lem && eqb (choose p w) 0)
    unfolding ends
    ends_where = rw (charged_here p v length, rises_where (p.quantum a) (v a) (p.charge a length) some in_quantum)

    sent : Sent p v k a length
    sent = go runs_out_lem refl (dec_lt (suc a) p.lines)
      where
        go : (b : Bool) → runs_out_lem ≡ b → Dec (suc a < p.lines) → Sent p v k a length
        go false e _ =
            let c = at_choose (stays e) in
            let d : ends p v length ≡ false = rw (ends_where, e) in
            record {
              is_line = t.is_line;
              in_quantum = in_quantum;
              line = rw (c, e);
              complete = rw (d, e);
              stand = rw (c, d, add-zero) (stays e);
              bands = λ u. absurd (true≢false (sym u ∙ d));
            }
        go true e (yes l) =
            let c = at_choose (moves_on e l) in
            let d : ends p v length ≡ false = rw (ends_where, e, c, ne_eqb (suc a) 0 (λ z. omega arith)) in
            record {
              is_line = t.is_line;
              in_quantum = in_quantum;
              line = rw (c, e, lt-ltb (suc a) p.lines l);
              complete = rw (d, e, ne_eqb (suc a) p.lines (λ z. omega arith));
              stand = rw (c, d, add-zero) (moves_on e l);
              bands = λ u. absurd (true≢false (sym u ∙ d));
            }
        go true e (no l) =
            let last : suc a ≡ p.lines = omega (arith, t.is_line) in
            let c = at_choose (starts_over e last) in
            let d : ends p v length ≡ true = rw (ends_where, e, c) in
            record {
              is_line = t.is_line;
              in_quantum = in_quantum;
              line = rw (c, e, le-ltb (suc a) p.lines (omega arith));
              complete = rw (d, e, eq-eqb (suc a) p.lines last);
              stand = rw (c, d, add-one) (starts_over e last);
              bands = λ u i h. rw (d, add-one) (now_before e i (omega arith));
            }

  -- packet after packet
  module _ (lengths : ℕ → ℕ) where
    send_from : (n : ℕ) → Fit p lengths (suc n) → At p (carried p lengths n) (ended p lengths n) (line_of p lengths n)
        → Sent p (carried p lengths n) (ended p lengths n) (line_of p lengths n) (lengths n)
    send_from n fit t = sent (carried p lengths n) (ended p lengths n) (lengths n) t (fit n (le_refl _) (line_of p lengths n) t.is_line)

    at_after : (n : ℕ) → Fit p lengths n → At p (carried p lengths n) (ended p lengths n) (line_of p lengths n)
    unfolding carried ended
    at_after zero fit = rw (at_choose at_start) at_start
    at_after (suc n) fit = (send_from n fit (at_after n (fit_fewer p lengths n fit))).stand

    pub sent_after : (n : ℕ) → Fit p lengths (suc n) → Sent p (carried p lengths n) (ended p lengths n) (line_of p lengths n) (lengths n)
    sent_after n fit = send_from n fit (at_after n (fit_fewer p lengths n fit))

  pub share : Share p
  unfolding carried ended
  share lengths n fit e i l = let b = (sent_after lengths n fit).bands e i l in (b.least, b.most)
