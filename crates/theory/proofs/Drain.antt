-- As many takes as items held leave no packet queued, where a line whose queue runs empty has caught up with its sender.
-- Assumes nothing.
use Prim.Native.Nat.{ℕ, zero, suc, ◌≤◌, ◌<◌}
use mathlib.Core.List.{List, [], ◌∷◌}
use mathlib.Core.Path.{◌≡◌, refl, sym, ap, ◌∙◌, subst, fun_ext}
use mathlib.Core.Logic.{◌⊎◌, inl, inr}
use native.Mathlib.Nat.{le_refl}
use native.Mathlib.Decide.{dec_lt, ℕ_discrete}
use native.Mathlib.Omega.{arith}
use lib.ListN.{length}
use Rattle.theory.specs.Sending.{Plan, carried, line_of}
use Rattle.theory.specs.Demands.{Sound}
use Rattle.theory.specs.System.{Item, packet, marker, Line, State, at_opening, take, line_taken, fetched, at_line, positions, current, step, run, packets, nth}
use Rattle.theory.specs.Words.{total, before, HasMarker, NoPacketIn, stored_below, takes}
use Rattle.theory.specs.FarEnd.{after, Cleared}
use Rattle.theory.proofs.Choose.{choose_wins, cross}
use Rattle.theory.proofs.Carried.{carried_mono, sum_before}
use Rattle.theory.proofs.Invariant.{next, past_full, Chain, chain_le, LineOk}
use Rattle.theory.proofs.Histories.{at_same, at_other, at_all, Good, good_step, run_append, good_after}

-- ---- how many items are held, when line a is changed

abbrev held_on : Line → ℕ
held_on l = length l.store

held_above : (lines : ℕ → Line) (a : ℕ) (f : Line → Line) (n : ℕ) → n ≤ a → stored_below (at_line a f lines) n ≡ stored_below lines n
held_above lines a f zero h = refl
held_above lines a f (suc n) h = omega (arith, held_above lines a f n (omega arith), ap held_on (at_other a f lines n (λ e. omega arith)))

held_less : (lines : ℕ → Line) (a : ℕ) (f : Line → Line) (n : ℕ) → a < n → suc (held_on (f (lines a))) ≡ held_on (lines a)
    → suc (stored_below (at_line a f lines) n) ≡ stored_below lines n
held_less lines a f zero h less = absurd (omega arith)
held_less lines a f (suc n) h less = go (λ l. held_less lines a f n l less) (dec_lt a n)
  where
    last : (m : ℕ) → a ≡ m → suc (stored_below (at_line a f lines) (suc m)) ≡ stored_below lines (suc m)
    last m e =
        subst (λ (k : ℕ). suc (stored_below (at_line a f lines) (suc k)) ≡ stored_below lines (suc k)) e
        (omega (arith, held_above lines a f a (le_refl a), ap held_on (at_same a f lines a refl)))

    go : (a < n → suc (stored_below (at_line a f lines) n) ≡ stored_below lines n) → Dec (a < n)
        → suc (stored_below (at_line a f lines) (suc n)) ≡ stored_below lines (suc n)
    go fewer (yes l) = omega (arith, fewer l, ap held_on (at_other a f lines n (λ e. omega arith)))
    go fewer (no l) = last n (omega arith)

held_none : (lines : ℕ → Line) (n b : ℕ) → b < n → stored_below lines n ≡ 0 → held_on (lines b) ≡ 0
held_none lines zero b h none = absurd (omega arith)
held_none lines (suc n) b h none = go (λ l. held_none lines n b l (omega arith)) (dec_lt b n)
  where
    go : (b < n → held_on (lines b) ≡ 0) → Dec (b < n) → held_on (lines b) ≡ 0
    go fewer (yes l) = fewer l
    go fewer (no l) =
        let e : n ≡ b = omega arith in
        let last : held_on (lines n) ≡ 0 = omega arith in
        subst (λ (k : ℕ). held_on (lines k) ≡ 0) e last

empty_none : (xs : List Item) → length xs ≡ 0 → NoPacketIn xs
empty_none [] e = tt
empty_none (x ∷ rest) e = absurd (omega arith)

-- ---- a take

pub current_is_line : (p : Plan) → 1 ≤ p.lines → (s : State) → current p s < p.lines
current_is_line p some s = (choose_wins p some (positions s)).is_below

-- at an empty queue it changes nothing
pub wait_step : (p : Plan) (s : State) → (s.line (current p s)).store ≡ [] → step p s take ≡ s
wait_step p s empty =
    ap (λ (lines : ℕ → Line). record { sent = s.sent; carries = s.carries; line = lines }) (fun_ext (λ j. go j (ℕ_discrete a j)))
  where
    a : ℕ
    a = current p s

    go : (j : ℕ) → Dec (a ≡ j) → at_line a (fetched p a) s.line j ≡ s.line j
    go j (yes e) =
        at_same a (fetched p a) s.line j e
        ∙ ap (λ (w : List Item). line_taken p a w (s.line j)) (subst (λ (i : ℕ). (s.line i).store ≡ []) e empty)
    go j (no e) = at_other a (fetched p a) s.line j e

wait_run : (p : Plan) (n : ℕ) (s : State) → (s.line (current p s)).store ≡ [] → run p s (takes n) ≡ s
wait_run p zero s empty = refl
wait_run p (suc n) s empty = ap (λ (t : State). run p t (takes n)) (wait_step p s empty) ∙ wait_run p n s empty

-- elsewhere it takes one item
take-length : (p : Plan) (i : ℕ) (x : Item) (rest : List Item) (l : Line) → l.store ≡ x ∷ rest → suc (held_on (fetched p i l)) ≡ held_on l
take-length p i (packet k y) rest l e = ap (λ (w : List Item). suc (held_on (line_taken p i w l))) e ∙ sym (ap length e)
take-length p i (marker k m) rest l e = ap (λ (w : List Item). suc (held_on (line_taken p i w l))) e ∙ sym (ap length e)

-- a property of every line that a take of a line keeps
kept : (p : Plan) (Q : ℕ → Line → Type 0) (s : State)
    → (Q (current p s) (s.line (current p s)) → Q (current p s) (fetched p (current p s) (s.line (current p s))))
    → ((i : ℕ) → i < p.lines → Q i (s.line i)) → (i : ℕ) → i < p.lines → Q i ((step p s take).line i)
kept p Q s keeps was =
    at_all (λ (j : ℕ) (l : Line). j < p.lines → Q j l) (current p s) (fetched p (current p s)) s.line
    (λ l. keeps (was (current p s) l)) (λ j ne l. was j l)

-- items without a packet count nothing
pub none_total : (f : ℕ → List ℕ → ℕ) (xs : List Item) → NoPacketIn xs → total f xs ≡ 0
none_total f [] none = refl
none_total f (packet j x ∷ rest) none = absurd none
none_total f (marker j m ∷ rest) none = none_total f rest none

-- nothing is lost on a line, and no packet is under way
pub record Whole (l : Line) : Type 0 where
  pub lossless : l.lost ≡ []
  pub arrives : NoPacketIn l.road

whole_take : (p : Plan) (i : ℕ) (l : Line) (w : List Item) → Whole l → Whole (line_taken p i w l)
whole_take p i l [] whole = whole
whole_take p i l (packet k x ∷ rest) whole = record { lossless = whole.lossless; arrives = whole.arrives }
whole_take p i l (marker k m ∷ rest) whole = record { lossless = whole.lossless; arrives = whole.arrives }

whole_step : (p : Plan) (s : State) → ((i : ℕ) → i < p.lines → Whole (s.line i)) → (i : ℕ) → i < p.lines → Whole ((step p s take).line i)
whole_step p s = kept p (λ i l. Whole l) s (whole_take p (current p s) (s.line (current p s)) (s.line (current p s)).store)

pub whole_run : (p : Plan) (n : ℕ) (s : State) → ((i : ℕ) → i < p.lines → Whole (s.line i))
    → (i : ℕ) → i < p.lines → Whole ((run p s (takes n)).line i)
whole_run p zero s whole = whole
whole_run p (suc n) s whole = whole_run p n (step p s take) (whole_step p s whole)

module _ (p : Plan) (bytes : ℕ → List ℕ) where
  abbrev lengths : ℕ → ℕ
  lengths n = length (bytes n)

  -- the far end stands on line i where the sender does, n packets sent, or beyond
  abbrev CaughtUp : ℕ → ℕ → Line → Type 0
  CaughtUp n i l = carried p lengths n i ≤ l.position

  chain_none_sent : (i c e : ℕ) (xs : List Item) → Chain p bytes i c xs e → ((k : ℕ) → c ≤ k → k < e → line_of p lengths k ≡ i → ⊥) → NoPacketIn xs
  chain_none_sent i c e [] t none = tt
  chain_none_sent i c e (packet k x ∷ rest) t none = none k t.0 (chain_le p bytes i (suc k) e rest t.3) t.1
  chain_none_sent i c e (marker k m ∷ rest) t none =
      let u = t.0 in
      chain_none_sent i k e rest t.2 (λ j from to here. none j (omega arith) to here)

  -- the chain of a queue, once it is known what the queue is
  pub chain_head : (n i : ℕ) (l : Line) (w : List Item) (o : LineOk p bytes n i l) → l.store ≡ w → Chain p bytes i (next l.taken) w o.middle
  chain_head n i l w o e = subst (λ (w : List Item). Chain p bytes i (next l.taken) w o.middle) e o.held

  module _ (some : 1 ≤ p.lines) where
    -- A take waits on a line that has caught up: no packet is queued anywhere, since by the rule of sending it would be one of that line's.
    wait_none : (s : State) → Good p bytes s → (s.line (current p s)).store ≡ [] → CaughtUp s.sent (current p s) (s.line (current p s))
        → (b : ℕ) → NoPacketIn (s.line b).store
    wait_none s good empty caught b = go (ℕ_discrete a b)
      where
        a : ℕ
        a = current p s

        o : LineOk p bytes s.sent b (s.line b)
        o = good.each b

        none : (k : ℕ) → (a ≡ b → ⊥) → next (s.line b).taken ≤ k → k < o.middle → line_of p lengths k ≡ b → ⊥
        none k ne from to here =
            let u = chain_le p bytes b o.middle s.sent (s.line b).road o.way in
            let v = carried_mono p bytes k s.sent a (omega arith) in
            let low : (s.line b).position ≤ carried p lengths k b = omega (arith, o.low, carried_mono p bytes (next (s.line b).taken) k b from) in
            let low-there = subst (λ (i : ℕ). (s.line i).position ≤ carried p lengths k i) (sym here) low in
            ne (cross p some (positions s) (carried p lengths k) low-there (omega arith) ∙ here)

        go : Dec (a ≡ b) → NoPacketIn (s.line b).store
        go (yes e) = subst (λ (w : List Item). NoPacketIn w) (sym (subst (λ (i : ℕ). (s.line i).store ≡ []) e empty)) tt
        go (no ne) = chain_none_sent b (next (s.line b).taken) o.middle (s.line b).store o.held (λ k. none k ne)

    -- Q holds before each take, and where it holds a line with an empty queue has caught up.
    module _ (Q : State → Type 0) (stays : (s : State) → Good p bytes s → Q s → Q (step p s take))
        (sure : (s : State) (i : ℕ) → i < p.lines → Good p bytes s → Q s → (s.line i).store ≡ [] → CaughtUp s.sent i (s.line i)) where
      drain : (n : ℕ) (s : State) → Good p bytes s → Q s → stored_below s.line p.lines ≤ n
          → (b : ℕ) → b < p.lines → NoPacketIn ((run p s (takes n)).line b).store
      drain zero s good q enough b l = empty_none (s.line b).store (held_none s.line p.lines b l (omega arith))
      drain (suc n) s good q enough b l =
          go (s.line a).store refl (λ fewer. drain n (step p s take) (good_step p bytes s take good tt) (stays s good q) fewer b l)
        where
          a : ℕ
          a = current p s

          go : (w : List Item) → (s.line a).store ≡ w
              → (stored_below (step p s take).line p.lines ≤ n → NoPacketIn ((run p (step p s take) (takes n)).line b).store)
              → NoPacketIn ((run p s (takes (suc n))).line b).store
          go [] e later =
              subst (λ (t : State). NoPacketIn (t.line b).store) (sym (wait_run p (suc n) s e))
              (wait_none s good e (sure s a (current_is_line p some s) good q e) b)
          go (x ∷ rest) e later =
              later (omega (arith, held_less s.line a (fetched p a) p.lines (current_is_line p some s) (take-length p a x rest (s.line a) e)))

    -- ---- with a marker sent after the last packet on every line

    -- the marker is still queued, or the line has caught up
    abbrev Closing : ℕ → ℕ → Line → Type 0
    Closing n i l = HasMarker n l.store ⊎ CaughtUp n i l

    closing_take : (n i : ℕ) (l : Line) (w : List Item) → l.store ≡ w → LineOk p bytes n i l → Closing n i l → Closing n i (line_taken p i w l)
    closing_take n i l [] e o c = c
    closing_take n i l (packet k x ∷ rest) e o (inl queued) = inl (subst (λ (w : List Item). HasMarker n w) e queued)
    closing_take n i l (packet k x ∷ rest) e o (inr caught) = inr (omega arith)
    closing_take n i l (marker k m ∷ rest) e o (inl queued) = go (subst (λ (w : List Item). HasMarker n w) e queued)
      where
        t : Chain p bytes i (next l.taken) (marker k m ∷ rest) o.middle
        t = chain_head n i l (marker k m ∷ rest) o e

        go : (k ≡ n) ⊎ HasMarker n rest → HasMarker n rest ⊎ (carried p lengths n i ≤ m)
        go (inl here) = inr (omega (arith, t.1, ap (λ (j : ℕ). carried p lengths j i) here))
        go (inr later) = inl later
    closing_take n i l (marker k m ∷ rest) e o (inr caught) =
        let t = chain_head n i l (marker k m ∷ rest) o e in
        inr (omega (arith, t.1, o.low, carried_mono p bytes (next l.taken) k i t.0))

    clear : (s : State) → Good p bytes s → ((i : ℕ) → i < p.lines → HasMarker s.sent (s.line i).store)
        → (b : ℕ) → b < p.lines → NoPacketIn ((run p s (takes (stored_below s.line p.lines))).line b).store
    clear s good marked = drain Q stays sure (stored_below s.line p.lines) s good (λ i l. inl (marked i l)) (le_refl _)
      where
        Q : State → Type 0
        Q t = (i : ℕ) → i < p.lines → Closing t.sent i (t.line i)

        stays : (t : State) → Good p bytes t → Q t → Q (step p t take)
        stays t g =
            let a = current p t in
            kept p (Closing t.sent) t (closing_take t.sent a (t.line a) (t.line a).store refl (g.each a))

        sure : (t : State) (i : ℕ) → i < p.lines → Good p bytes t → Q t → (t.line i).store ≡ [] → CaughtUp t.sent i (t.line i)
        sure t i l g q e = go (q i l)
          where
            go : Closing t.sent i (t.line i) → CaughtUp t.sent i (t.line i)
            go (inl queued) = absurd (subst (λ (w : List Item). HasMarker t.sent w) e queued)
            go (inr caught) = caught

    -- ---- with nothing lost and nothing under way

    whole_caught : (n i : ℕ) (l : Line) → LineOk p bytes n i l → Whole l → l.store ≡ [] → CaughtUp n i l
    whole_caught n i l o whole e =
        let a = chain_le p bytes i (next l.taken) o.middle l.store o.held in
        let b = chain_le p bytes i o.middle n l.road o.way in
        omega (
          arith,
          o.accounted,
          o.conserved (before p i n),
          sum_before p bytes n n i (le_refl n),
          past_full p bytes i (next l.taken) n (omega arith) l.taken o.past,
          ap (total (before p i n)) whole.lossless,
          ap (total (before p i n)) e,
          none_total (before p i n) l.road whole.arrives,
        )

    pub empty : (s : State) → Good p bytes s → ((i : ℕ) → i < p.lines → Whole (s.line i)) → (n : ℕ) → stored_below s.line p.lines ≤ n
        → (b : ℕ) → b < p.lines → NoPacketIn ((run p s (takes n)).line b).store
    empty s good whole n enough =
        drain (λ t. (i : ℕ) → i < p.lines → Whole (t.line i)) (λ t g. whole_step p t)
        (λ t i l g w e. whole_caught t.sent i (t.line i) (g.each i) (w i l) e) n s good whole enough

pub cleared : (p : Plan) → Sound p → Cleared p
cleared p sound h marked b l =
    subst (λ (s : State). NoPacketIn (s.line b).store) (sym (run_append p h (takes (stored_below (after p h).line p.lines)) at_opening))
    (clear p (nth (packets h)) sound.some_line (after p h) (good_after p h) marked b l)
