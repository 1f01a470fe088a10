-- Order, for any set of lines: from a moment when each of them has yielded a marker behind which it loses no packet, what is handed out from
-- them is, in sent order without gaps, a beginning of what is to come. Assumes nothing.
use Prim.Native.Nat.{ℕ, suc, ◌≤◌, ◌<◌}
use mathlib.Core.Bool.{Bool, true, false, true≢false, not, ◌&&◌, cond}
use mathlib.Core.List.{List, [], ◌∷◌, ◌++◌, map, append_assoc}
use mathlib.Core.Path.{◌≡◌, refl, sym, ap, ◌∙◌, subst}
use mathlib.Core.Logic.{inr}
use native.Mathlib.Nat.{le_trans, le_refl}
use native.Mathlib.Decide.{dec_le, dec_lt, ℕ_discrete}
use native.Mathlib.Omega.{arith}
use borrow.Author.Tests.{eq-eqb, ne_eqb, le-leb, lt-leb}
use lib.Dec.{leb}
use lib.ListN.{length}
use Rattle.theory.specs.Sending.{Plan, carried, line_of}
use Rattle.theory.specs.Demands.{Sound}
use Rattle.theory.specs.System.{Item, packet, marker, Line, State, at_opening, Step, send, ask, arrive, lose, take, lose_of, line_taken, dropped, fetched, at_line, positions, current, step, run, packets, nth, Out, out_of, handed, outs}
use Rattle.theory.specs.Words.{Beginning, total, Yielded, NoneBehind, has, sieve, awaited}
use Rattle.theory.specs.FarEnd.{after, Order}
use Rattle.theory.proofs.Lines.{arrived_taken, arrived_lost, dropped_taken, fetched_lost}
use Rattle.theory.proofs.Choose.{choose_wins, cross}
use Rattle.theory.proofs.Carried.{cond_ne, carried_mono, sum, one, sum_one}
use Rattle.theory.proofs.Invariant.{next, Past, past_yielded, Chain, chain_le, chain_none, past_none, lost_none, LineOk, no_gap}
use Rattle.theory.proofs.Histories.{at_same, at_other, at_field, Agree, Good, good_step, good_run, good_open, agree_split, run_append, sent_are, own}
use Rattle.theory.proofs.Sieve.{sieve_same, sieve_first}
use Rattle.theory.proofs.Drain.{current_is_line, wait_step, chain_head}

-- ---- losses only add up

lose_back : (c : ℕ) (road : List Item) (l : Line) → NoneBehind c (lose_of road l).lost → NoneBehind c l.lost
lose_back c [] l none = none
lose_back c (packet k x ∷ rest) l none = none.1
lose_back c (marker k m ∷ rest) l none = none

at_lost : (c i : ℕ) (f : Line → Line) (lines : ℕ → Line) → ((l : Line) → (f l).lost ≡ l.lost)
    → (j : ℕ) → NoneBehind c (at_line i f lines j).lost → NoneBehind c (lines j).lost
at_lost c i f lines same j none = subst (λ (w : List Item). NoneBehind c w) (at_field (λ (l : Line). l.lost) i f lines same j) none

step_back : (p : Plan) (c : ℕ) (s : State) (e : Step) (j : ℕ) → NoneBehind c ((step p s e).line j).lost → NoneBehind c (s.line j).lost
step_back p c s (send x) j none = at_lost c _ _ s.line (λ l. refl) j none
step_back p c s (ask i) j none = at_lost c _ _ s.line (λ l. refl) j none
step_back p c s (arrive i) j none = at_lost c _ _ s.line arrived_lost j none
step_back p c s (lose i) j none = go (ℕ_discrete i j)
  where
    go : Dec (i ≡ j) → NoneBehind c (s.line j).lost
    go (yes e) = lose_back c (s.line j).road (s.line j) (subst (λ (l : Line). NoneBehind c l.lost) (at_same i dropped s.line j e) none)
    go (no ne) = subst (λ (l : Line). NoneBehind c l.lost) (at_other i dropped s.line j ne) none
step_back p c s take j none = at_lost c _ _ s.line (fetched_lost p (current p s)) j none

run_back : (p : Plan) (c : ℕ) (h : List Step) (s : State) (j : ℕ) → NoneBehind c ((run p s h).line j).lost → NoneBehind c (s.line j).lost
run_back p c [] s j none = none
run_back p c (e ∷ h) s j none = step_back p c s e j (run_back p c h (step p s e) j none)

-- ---- what was yielded stays yielded, and the count of packets only rises

take_yielded : (p : Plan) (i c : ℕ) (store : List Item) (l : Line) → Yielded c l.taken → Yielded c (line_taken p i store l).taken
take_yielded p i c [] l y = y
take_yielded p i c (packet k x ∷ rest) l y = y
take_yielded p i c (marker k m ∷ rest) l y = inr y

at_taken : (i : ℕ) (f : Line → Line) (lines : ℕ → Line) → ((l : Line) → (f l).taken ≡ l.taken) → (j : ℕ) → (at_line i f lines j).taken ≡ (lines j).taken
at_taken i f lines same j = at_field (λ (l : Line). l.taken) i f lines same j

at_yielded : (c i : ℕ) (f : Line → Line) (lines : ℕ → Line) → ((l : Line) → (f l).taken ≡ l.taken)
    → (j : ℕ) → Yielded c (lines j).taken → Yielded c (at_line i f lines j).taken
at_yielded c i f lines same j y = subst (λ (w : List Item). Yielded c w) (sym (at_taken i f lines same j)) y

step_yielded : (p : Plan) (c : ℕ) (s : State) (e : Step) (j : ℕ) → Yielded c (s.line j).taken → Yielded c ((step p s e).line j).taken
step_yielded p c s (send x) j y = at_yielded c _ _ s.line (λ l. refl) j y
step_yielded p c s (ask i) j y = at_yielded c _ _ s.line (λ l. refl) j y
step_yielded p c s (arrive i) j y = at_yielded c _ _ s.line arrived_taken j y
step_yielded p c s (lose i) j y = at_yielded c _ _ s.line dropped_taken j y
step_yielded p c s take j y = go (ℕ_discrete a j)
  where
    a : ℕ
    a = current p s

    go : Dec (a ≡ j) → Yielded c (at_line a (fetched p a) s.line j).taken
    go (yes e) =
        subst (λ (l : Line). Yielded c l.taken) (sym (at_same a (fetched p a) s.line j e))
        (take_yielded p a c (s.line j).store (s.line j) y)
    go (no ne) = subst (λ (l : Line). Yielded c l.taken) (sym (at_other a (fetched p a) s.line j ne)) y

sent_step : (p : Plan) (s : State) (e : Step) → s.sent ≤ (step p s e).sent
sent_step p s (send x) = omega arith
sent_step p s (ask i) = le_refl _
sent_step p s (arrive i) = le_refl _
sent_step p s (lose i) = le_refl _
sent_step p s take = le_refl _

sent_run : (p : Plan) (h : List Step) (s : State) → s.sent ≤ (run p s h).sent
sent_run p [] s = le_refl _
sent_run p (e ∷ h) s = le_trans (sent_step p s e) (sent_run p h (step p s e))

-- ---- whether a packet is among items

-- items before a label do not hold it
past_has : (c k : ℕ) → c ≤ k → (xs : List Item) → Past c xs → has k xs ≡ false
past_has c k h [] t = refl
past_has c k h (packet j x ∷ rest) t = let u = t.0 in rw (ne_eqb j k (λ e. omega arith)) (past_has c k h rest t.1)
past_has c k h (marker j m ∷ rest) t = past_has c k h rest t.1

count_has : (k : ℕ) (xs : List Item) → 1 ≤ total (one k) xs → has k xs ≡ true
unfolding one
count_has k [] h = absurd (omega arith)
count_has k (packet j x ∷ rest) h = go (λ u. count_has k rest u) (ℕ_discrete j k)
  where
    go : (1 ≤ total (one k) rest → has k rest ≡ true) → Dec (j ≡ k) → has k (packet j x ∷ rest) ≡ true
    go later (yes e) = rw (eq-eqb j k e)
    go later (no ne) = rw (ne_eqb j k ne) (later (omega (arith, cond_ne {n = j} {k = k} 1 0 ne)))
count_has k (marker j m ∷ rest) h = count_has k rest h

both_false : (b : Bool) {d : Bool} → d ≡ false → (b && d) ≡ false
both_false true e = e
both_false false e = refl

both_same : (b : Bool) {d e : Bool} → (b ≡ true → d ≡ e) → (b && d) ≡ (b && e)
both_same true same = same refl
both_same false same = refl

-- where the far end stands on line i: the label after the last that it took
abbrev cursor : State → ℕ → ℕ
cursor s i = next (s.line i).taken

-- a take moves the current line's cursor, and no other
cursor_other : (p : Plan) (s : State) (j : ℕ) → (current p s ≡ j → ⊥) → cursor (step p s take) j ≡ cursor s j
cursor_other p s j ne = ap (λ (l : Line). next l.taken) (at_other (current p s) (fetched p (current p s)) s.line j ne)

cursor_taken : (p : Plan) (s : State) (w : List Item) (j : ℕ) → (s.line (current p s)).store ≡ w → j ≡ current p s
    → cursor (step p s take) j ≡ next (line_taken p (current p s) w (s.line (current p s))).taken
cursor_taken p s w j e here =
    let a = current p s in
    ap (cursor (step p s take)) here ∙ ap (λ (l : Line). next l.taken) (at_same a (fetched p a) s.line a refl)
    ∙ ap (λ (w : List Item). next (line_taken p a w (s.line a)).taken) e

module _ (p : Plan) (bytes : ℕ → List ℕ) where
  abbrev lengths : ℕ → ℕ
  lengths n = length (bytes n)

  -- the line that packet k goes to
  abbrev home : ℕ → ℕ
  home k = line_of p lengths k

  abbrev pub label : ℕ → Out
  label k = record { number = k; bytes = bytes k }

  -- on a line that lost nothing behind a marker that it yielded, no packet lies between where the far end stands and the head of the queue
  none_between : (n i j k c : ℕ) (l : Line) (o : LineOk p bytes n i l) → Yielded c l.taken → NoneBehind c l.lost
      → next l.taken ≤ j → j < k → Chain p bytes i k l.store o.middle → home j ≡ i → ⊥
  none_between n i j k c l o y none from to t here =
      let a = past_yielded c (next l.taken) l.taken o.past y in
      let b = chain_le p bytes i k o.middle l.store t in
      let d = chain_le p bytes i o.middle n l.road o.way in
      let counted : 1 ≤ sum p bytes (one j) n i = subst (λ (w : ℕ). 1 ≤ sum p bytes (one j) n w) here (sum_one p bytes n j (omega arith)) in
      omega (
        arith,
        o.conserved (one j),
        past_none p bytes (next l.taken) j from l.taken o.past,
        lost_none p bytes c j (omega arith) l.lost none,
        chain_none p bytes i k o.middle j to l.store t,
        chain_none p bytes i o.middle n j (omega arith) l.road o.way,
      )

  -- ---- a set of lines

  module _ (on : ℕ → Bool) where
    -- of what is handed out, what those lines carried
    abbrev pub from : List Out → List Out
    from [] = []
    from (o ∷ rest) = cond (on (home o.number)) (o ∷ from rest) (from rest)

    -- packet k was sent on one of those lines behind its line's marker, and is not yet handed out
    abbrev pub awaited_on : (ℕ → ℕ) → State → ℕ → Bool
    awaited_on c s k = on (home k) && awaited p bytes c s k

    -- the same where those lines lose nothing: the far end has not come to it
    abbrev pub ahead : State → ℕ → Bool
    ahead s k = on (home k) && leb (cursor s (home k)) k

    abbrev pub come : State → ℕ → List Out
    come s m = map label (sieve (ahead s) m)

    from_append : (xs ys : List Out) → from (xs ++ ys) ≡ from xs ++ from ys
    from_append [] ys = refl
    from_append (o ∷ rest) ys = go (on (home o.number)) (from_append rest ys)
      where
        go : (b : Bool) → from (rest ++ ys) ≡ from rest ++ from ys
            → cond b (o ∷ from (rest ++ ys)) (from (rest ++ ys)) ≡ cond b (o ∷ from rest) (from rest) ++ from ys
        go true e = ap (λ (w : List Out). o ∷ w) e
        go false e = e

    ahead_same : (s t : State) (k : ℕ) → (on (home k) ≡ true → cursor s (home k) ≡ cursor t (home k)) → ahead s k ≡ ahead t k
    ahead_same s t k same = both_same (on (home k)) (λ f. ap (λ (n : ℕ). leb n k) (same f))

    -- where nothing is taken, nothing that is to come changes
    come_same : (t s : State) (m : ℕ) → ((j : ℕ) → (t.line j).taken ≡ (s.line j).taken) → come t m ≡ come s m
    come_same t s m same = ap (map label) (sieve_same (ahead t) (ahead s) m (λ k l. ahead_same t s k (λ _. ap next (same (home k)))))

    module _ (some : 1 ≤ p.lines) (c : ℕ → ℕ) where
      abbrev Yields : State → Type 0
      Yields s = (i : ℕ) → i < p.lines → on i ≡ true → Yielded (c i) (s.line i).taken

      abbrev Safe : State → Type 0
      Safe s = (i : ℕ) → i < p.lines → on i ≡ true → NoneBehind (c i) (s.line i).lost

      record Standing (s : State) : Type 0 where
        good : Good p bytes s
        yields : Yields s
        safe : Safe s

      -- ---- a take of one of the lines, by the head of its queue

      module _ (s : State) (standing : Standing s) (is-on : on (current p s) ≡ true) where
        abbrev a : ℕ
        a = current p s

        o : LineOk p bytes s.sent a (s.line a)
        o = standing.good.each a

        yielded : Yielded (c a) (s.line a).taken
        yielded = standing.yields a (current_is_line p some s) is-on

        none_lost : NoneBehind (c a) (s.line a).lost
        none_lost = standing.safe a (current_is_line p some s) is-on

        -- no packet to come was sent before the head of the queue: by the rule of sending it would be one of this line's, and before its head
        none_earlier : (k j : ℕ) → cursor s a ≤ k → Chain p bytes a k (s.line a).store o.middle → j < k → cursor s (home j) ≤ j → ⊥
        none_earlier k j h t l to_come_lem =
            let f = no_gap p bytes s.sent a k (c a) (s.line a) o yielded none_lost h t in
            let u = carried_mono p bytes j k a (omega arith) in
            let w = (standing.good.each (home j)).low in
            let v = carried_mono p bytes (cursor s (home j)) j (home j) to_come_lem in
            let e : a ≡ home j = cross p some (positions s) (carried p lengths j) (omega arith) (omega arith) in
            none_between s.sent a j k (c a) (s.line a) o yielded none_lost (subst (λ (i : ℕ). cursor s i ≤ j) (sym e) to_come_lem) l t (sym e)

        -- what a take hands out is the first that is to come
        first_out : (k m : ℕ) (x : List ℕ) (rest : List Item) → (s.line a).store ≡ packet k x ∷ rest → s.sent ≤ m
            → sieve (ahead s) m ≡ k ∷ sieve (ahead (step p s take)) m
        first_out k m x rest e h = sieve_first (ahead s) (ahead later) k m below here gone early early_later late
          where
            later : State
            later = step p s take

            t : Chain p bytes a (cursor s a) (packet k x ∷ rest) o.middle
            t = chain_head p bytes s.sent a (s.line a) (packet k x ∷ rest) o e

            queue : Chain p bytes a k (s.line a).store o.middle
            queue = subst (λ (w : List Item). Chain p bytes a k w o.middle) (sym e) (le_refl k, t.1, t.2, t.3)

            moved : (j : ℕ) → home j ≡ a → cursor later (home j) ≡ suc k
            moved j at_a = cursor_taken p s (packet k x ∷ rest) (home j) e at_a

            stays : (j : ℕ) → (home j ≡ a → ⊥) → cursor later (home j) ≡ cursor s (home j)
            stays j ne = cursor_other p s (home j) (λ q. ne (sym q))

            below : k < m
            below =
                let u = chain_le p bytes a (suc k) o.middle rest t.3 in
                let v = chain_le p bytes a o.middle s.sent (s.line a).road o.way in
                omega arith

            here : ahead s k ≡ true
            here = rw (t.1, is-on) (le-leb (cursor s a) k t.0)

            gone : ahead later k ≡ false
            gone = both_false (on (home k)) (rw (moved k t.1) (lt-leb (suc k) k (le_refl _)))

            early : (j : ℕ) → j < k → ahead s j ≡ false
            early j l =
                let none = none_earlier k j t.0 queue l in
                both_false (on (home j)) (lt-leb (cursor s (home j)) j (omega arith))

            early_later : (j : ℕ) → j < k → ahead later j ≡ false
            early_later j l = go (ℕ_discrete (home j) a)
              where
                go : Dec (home j ≡ a) → ahead later j ≡ false
                go (yes q) = both_false (on (home j)) (rw (moved j q) (lt-leb (suc k) j (omega arith)))
                go (no ne) = ahead_same later s j (λ _. stays j ne) ∙ early j l

            late : (j : ℕ) → k < j → ahead s j ≡ ahead later j
            late j l = go (ℕ_discrete (home j) a)
              where
                go : Dec (home j ≡ a) → ahead s j ≡ ahead later j
                go (yes q) =
                    let u = t.0 in
                    both_same (on (home j)) (λ _. rw (moved j q, le-leb (suc k) j l, q) (le-leb (cursor s a) j (omega arith)))
                go (no ne) = ahead_same s later j (λ _. sym (stays j ne))

        marker_out : (k m v : ℕ) (rest : List Item) → (s.line a).store ≡ marker k v ∷ rest → sieve (ahead (step p s take)) m ≡ sieve (ahead s) m
        marker_out k m v rest e = sieve_same (ahead later) (ahead s) m (λ j l. go j (ℕ_discrete (home j) a))
          where
            later : State
            later = step p s take

            t : Chain p bytes a (cursor s a) (marker k v ∷ rest) o.middle
            t = chain_head p bytes s.sent a (s.line a) (marker k v ∷ rest) o e

            queue : Chain p bytes a k (s.line a).store o.middle
            queue = subst (λ (w : List Item). Chain p bytes a k w o.middle) (sym e) (le_refl k, t.1, t.2)

            same : (j : ℕ) → home j ≡ a → Dec (j < k) → Dec (cursor s a ≤ j) → leb k j ≡ leb (cursor s a) j
            same j q (yes l) (yes u) = absurd (none_between s.sent a j k (c a) (s.line a) o yielded none_lost u l queue q)
            same j q (yes l) (no u) = lt-leb k j l ∙ sym (lt-leb (cursor s a) j (omega arith))
            same j q (no l) _ = let u = t.0 in le-leb k j (omega arith) ∙ sym (le-leb (cursor s a) j (omega arith))

            go : (j : ℕ) → Dec (home j ≡ a) → ahead later j ≡ ahead s j
            go j (yes q) =
                both_same (on (home j))
                (λ _. rw (cursor_taken p s (marker k v ∷ rest) (home j) e q, q) (same j q (dec_lt j k) (dec_le (cursor s a) j)))
            go j (no ne) = ahead_same later s j (λ _. cursor_other p s (home j) (λ q. ne (sym q)))

        take_on : (m : ℕ) (w : List Item) → (s.line a).store ≡ w → s.sent ≤ m → from (out_of w) ++ come (step p s take) m ≡ come s m
        take_on m [] e h = ap (λ (t : State). come t m) (wait_step p s e)
        take_on m (packet k x ∷ rest) e h =
            let t = chain_head p bytes s.sent a (s.line a) (packet k x ∷ rest) o e in
            rw (first_out k m x rest e h, t.1, is-on, t.2)
        take_on m (marker k v ∷ rest) e h = ap (map label) (marker_out k m v rest e)

      -- ---- any step

      -- a take of another line hands out nothing from those, and moves none of their cursors
      take_off : (s : State) (m : ℕ) (w : List Item) → (s.line (current p s)).store ≡ w → Good p bytes s → on (current p s) ≡ false
          → from (out_of w) ++ come (step p s take) m ≡ come s m
      take_off s m w e good is-off =
          rw (none w e)
          (ap (map label) (sieve_same (ahead later) (ahead s) m (λ j l. ahead_same later s j (λ f. cursor_other p s (home j) (other j f)))))
        where
          later : State
          later = step p s take

          none : (w : List Item) → (s.line (current p s)).store ≡ w → from (out_of w) ≡ []
          none [] d = refl
          none (packet k x ∷ rest) d =
              let t = chain_head p bytes s.sent (current p s) (s.line (current p s)) (packet k x ∷ rest) (good.each (current p s)) d in
              rw (t.1, is-off)
          none (marker k v ∷ rest) d = refl

          other : (j : ℕ) → on (home j) ≡ true → current p s ≡ home j → ⊥
          other j f q = true≢false (sym f ∙ ap on (sym q) ∙ is-off)

      step_out : (s : State) (e : Step) (m : ℕ) → Standing s → s.sent ≤ m → from (handed p s e) ++ come (step p s e) m ≡ come s m
      step_out s (send x) m standing h = come_same (step p s (send x)) s m (at_taken _ _ s.line (λ l. refl))
      step_out s (ask i) m standing h = come_same (step p s (ask i)) s m (at_taken _ _ s.line (λ l. refl))
      step_out s (arrive i) m standing h = come_same (step p s (arrive i)) s m (at_taken _ _ s.line arrived_taken)
      step_out s (lose i) m standing h = come_same (step p s (lose i)) s m (at_taken _ _ s.line dropped_taken)
      step_out s take m standing h = go (on (current p s)) refl
        where
          go : (b : Bool) → on (current p s) ≡ b → from (handed p s take) ++ come (step p s take) m ≡ come s m
          go true f = take_on s standing f m (s.line (current p s)).store refl h
          go false f = take_off s m (s.line (current p s)).store refl standing.good f

      -- what is handed out, and then what is still to come, is what was to come
      pub follow : (h : List Step) (s : State) (m : ℕ) → Good p bytes s → Agree p bytes s h → Yields s → Safe (run p s h) → (run p s h).sent ≤ m
          → from (outs p s h) ++ come (run p s h) m ≡ come s m
      follow [] s m good agree yields safe l = refl
      follow (e ∷ h) s m good agree yields safe l =
          let later = step p s e in
          let standing : Standing s = record { good = good; yields = yields; safe = λ i b f. run_back p (c i) (e ∷ h) s i (safe i b f) } in
          ap (λ (w : List Out). w ++ come (run p later h) m) (from_append (handed p s e) (outs p later h))
          ∙ append_assoc (from (handed p s e)) (from (outs p later h)) _
          ∙ ap (λ (w : List Out). from (handed p s e) ++ w)
          (follow h later m (good_step p bytes s e good agree.0) agree.1 (λ i b f. step_yielded p (c i) s e i (yields i b f)) safe l)
          ∙ step_out s e m standing (le_trans (sent_run p (e ∷ h) s) l)

      -- ---- to come, by what was taken and by where the far end stands: the same

      awaited_ahead : (s : State) (k : ℕ) → Standing s → awaited_on c s k ≡ ahead s k
      awaited_ahead s k standing = both_same (on i) (λ f. go f (dec_le (cursor s i) k) (dec_le (c i) k))
        where
          i : ℕ
          i = home k

          is_line : i < p.lines
          is_line = (choose_wins p some (carried p lengths k)).is_below

          o : LineOk p bytes s.sent i (s.line i)
          o = standing.good.each i

          seen : on i ≡ true → k < cursor s i → c i ≤ k → has k (s.line i).taken ≡ true
          seen f passed behind =
              let u = chain_le p bytes i (cursor s i) o.middle (s.line i).store o.held in
              let v = chain_le p bytes i o.middle s.sent (s.line i).road o.way in
              count_has k (s.line i).taken
              (omega (
                arith,
                o.conserved (one k),
                lost_none p bytes (c i) k behind (s.line i).lost (standing.safe i is_line f),
                chain_none p bytes i (cursor s i) o.middle k passed (s.line i).store o.held,
                chain_none p bytes i o.middle s.sent k (omega arith) (s.line i).road o.way,
                sum_one p bytes s.sent k (omega arith),
              ))

          go : on i ≡ true → Dec (cursor s i ≤ k) → Dec (c i ≤ k) → (leb (c i) k && not (has k (s.line i).taken)) ≡ leb (cursor s i) k
          go f (yes u) _ =
              let y = past_yielded (c i) (cursor s i) (s.line i).taken o.past (standing.yields i is_line f) in
              rw (le-leb (c i) k (omega arith), past_has (cursor s i) k u (s.line i).taken o.past, le-leb (cursor s i) k u)
          go f (no u) (yes v) = rw (le-leb (c i) k v, seen f (omega arith) v, lt-leb (cursor s i) k (omega arith))
          go f (no u) (no v) = rw (lt-leb (c i) k (omega arith), lt-leb (cursor s i) k (omega arith))

      pub order : (h : List Step) (s : State) → Good p bytes s → Agree p bytes s h → Yields s → Safe (run p s h)
          → Beginning (from (outs p s h)) (map label (sieve (awaited_on c s) (run p s h).sent))
      order h s good agree yields safe =
          let m = (run p s h).sent in
          let standing : Standing s = record { good = good; yields = yields; safe = λ i b f. run_back p (c i) h s i (safe i b f) } in (
            come (run p s h) m,
            follow h s m good agree yields safe (le_refl _)
                ∙ sym (ap (map label) (sieve_same (awaited_on c s) (ahead s) m (λ k l. awaited_ahead s k standing))),
          )

-- ---- all lines

abbrev pub all : ℕ → Bool
all i = true

pub from_all : (p : Plan) (bytes : ℕ → List ℕ) (xs : List Out) → from p bytes all xs ≡ xs
from_all p bytes [] = refl
from_all p bytes (o ∷ rest) = ap (λ (w : List Out). o ∷ w) (from_all p bytes rest)

pub ordered : (p : Plan) → Sound p → Order p
ordered p sound h₁ h₂ c yields safe =
    let bytes : ℕ → List ℕ = nth (packets (h₁ ++ h₂)) in
    let parts = run_append p h₁ h₂ at_opening in
    let agree = agree_split p bytes h₁ h₂ at_opening (own p (h₁ ++ h₂)) in
    let safe-there : (i : ℕ) → i < p.lines → all i ≡ true → NoneBehind (c i) ((run p (after p h₁) h₂).line i).lost =
    λ i b f. subst (λ (s : State). NoneBehind (c i) (s.line i).lost) parts (safe i b) in
    let good = good_run p bytes h₁ at_opening (good_open p bytes) agree.0 in
    let b = order p bytes all sound.some_line c h₂ (after p h₁) good agree.1 (λ i l f. yields i l) safe-there in
    let count : (run p (after p h₁) h₂).sent ≡ length (packets (h₁ ++ h₂)) = ap (λ (s : State). s.sent) (sym parts) ∙ sent_are p (h₁ ++ h₂) in
    subst (λ (m : ℕ). Beginning (outs p (after p h₁) h₂) (map (label p bytes) (sieve (awaited p bytes c (after p h₁)) m))) count
    (b.0, ap (λ (w : List Out). w ++ b.0) (sym (from_all p bytes (outs p (after p h₁) h₂))) ∙ b.1)
