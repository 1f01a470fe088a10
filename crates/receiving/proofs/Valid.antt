-- A receiver's state: every call leaves it valid; and what one take can do to state, output and log. Assumes nothing.
use mathlib.Core.Path.{◌≡◌, refl, ap, sym, ◌∙◌, subst}
use mathlib.Core.Logic.{dite, inl, inr}
use Prim.Native.Nat.{ℕ, ◌+◌, ◌-◌, ◌^◌, ◌≤◌, ◌<◌}
use native.Mathlib.Decide.{dec_lt}
use native.Mathlib.Omega.{arith}
use mathlib.Core.Bool.{Bool, true, false, ◌&&◌, cond}
use mathlib.Core.List.{List}
use lib.Dec.{eqb}
use lib.ListN.{length}
use borrow.Author.Tests.{eq-eqb}
use Rattle.numbers.specs.Wrap.{half}
use Rattle.numbers.proofs.Checks.{never}
use Rattle.plan.specs.declared.LinePlan.{LinePlan}
use Rattle.plan.specs.Limits.{item_head}
use Rattle.plan.specs.Plan.{quantum, line_plan}
use Rattle.plan.proofs.Laws.{in_range_lem}
use Rattle.report.specs.Report.{ahead}
use Rattle.theory.specs.Sending.{best}
use Rattle.theory.proofs.Choose.{best_wins}
use Rattle.receiving.specs.declared.Receiver.{Receiver}
use Rattle.receiving.specs.declared.Line.{Line}
use Rattle.receiving.specs.Receiver.{held_of, line_of, turn_of, with_turn, round_of, line_at, current_line, receiver_ok, store_fits, ring_of}
use Rattle.receiving.specs.Arriving.{Arrival, place_of, grown, with_item, arrival_of, data_check, data_arrival, marker_check, marker_arrival}
use Rattle.receiving.specs.Taking.{Head, head_on, step_of, round_now, moved_on, with_line, TakeOutcome, refused_take, taken, take_at, take_of}
use Rattle.receiving.specs.Takes.{word_of, bytes_of, goes_on}
use Rattle.receiving.specs.Stage.{taken_from}
use Rattle.receiving.proofs.Lines.{held_own, turn_own}
use Rattle.receiving.proofs.Laws.{first_is, HeldIn, TurnIn, held_in, turn_in, Valid, valid, is_valid, at_round}
use Rattle.receiving.proofs.Stores.{few_rings, place}
use Rattle.receiving.proofs.Taking.{still_at, moved_on_lem, line_ready, step_at, step_taken}
use Rattle.receiving.proofs.Storing.{Lands, lands}
use Rattle.receiving.proofs.Steps.{Shows, head_shows, Goes, step_goes}
use Rattle.numbers.specs.declared.Refusal.{Refusal}
use Rattle.numbers.specs.declared.Refusal.TheVariants as refusal
use Rattle.numbers.specs.Checks.{Checked}

-- ---- the current round

-- a line at a round is found there
pub found : (lines : ℕ) (rounds : ℕ → ℕ) (round j : ℕ) → j < lines → rounds j ≡ round → line_at lines rounds round < lines
unfolding line_at
found lines rounds round j h e = go (dec_lt (line_at lines rounds round) lines)
  where
    go : Dec (line_at lines rounds round < lines) → line_at lines rounds round < lines
    go (yes l) = l
    go (no l) =
        let none = (first_is (λ i. eqb (rounds i) round) lines 0).none j (omega arith) (omega arith) in
        absurd (never (sym (eq-eqb (rounds j) round e) ∙ none))

-- rounds less than 2^31 ahead of one are so of the nearest of them
nearer : (round near far : ℕ) → ahead near round ≤ ahead far round → ahead far round < half → ahead far near < half
unfolding ahead
nearer round near far h l = omega arith

module _ (lines : ℕ) (rounds : ℕ → ℕ) (round : ℕ) (some : 1 ≤ lines) (near : (j : ℕ) → j < lines → ahead (rounds j) round < half) where
  abbrev RoundOk : ℕ → Type 0
  RoundOk now = ((j : ℕ) → j < lines → ahead (rounds j) now < half) × (line_at lines rounds now < lines)

  round_ok : RoundOk (round_now lines rounds round)
  round_ok =
      dite (dec_lt (line_at lines rounds round) lines)
      (λ h. rw (← still_at lines rounds round h) (near, h))
      (λ h.
      let b = best (λ j. ahead (rounds j) round) lines in
      let wins = best_wins (λ j. ahead (rounds j) round) lines some in
      rw (← moved_on_lem lines rounds round (omega arith))
      (λ j l. nearer round (rounds b) (rounds j) (wins.beats j l).low (near j l), found lines rounds (rounds b) b wins.is_below refl))

-- ---- new figures for the current line

module _ (r : Receiver) where
  abbrev i : ℕ
  i = current_line r

  now_valid : Valid r → (l : Line) → HeldIn r.rings.size l.held → TurnIn (quantum r.plan i) (round_of r.turns i) l.turn → Valid (with_line r i l)
  now_valid v l held turn =
      let lines = r.plan.lines in
      let round = r.turns.round in
      let here : round_of r.turns i ≡ round = at_round lines (round_of r.turns) round v.current in
      let new = subst (λ (from : ℕ). TurnIn (quantum r.plan i) from l.turn) here turn in
      let after = with_turn r.turns i l.turn in
      let each : (j : ℕ) → j < lines → TurnIn (quantum r.plan j) round (turn_of after j) =
      λ j h. turn_in (quantum r.plan) round r.turns i l.turn j new (v.turn j h) in
      let now = round_ok lines (round_of after) round (in_range_lem r.plan v.plan).some_lines (λ j h. (each j h).near) in
      record {
        plan = v.plan;
        store = v.store;
        held = λ j h. held_in r.rings.size r.rings i l.held j held (v.held j h);
        turn = λ j h. record { counter_least = (each j h).counter_least; counter_most = (each j h).counter_most; near = now.0 j h };
        current = now.1;
      }

  -- a line's own figures change nothing
  pub stays_put : receiver_ok r ≡ true → with_line r i (line_of r i) ≡ r
  stays_put good =
      let lines = r.plan.lines in
      let still : moved_on lines r.turns ≡ r.turns = rw (← still_at lines (round_of r.turns) r.turns.round (valid r good).current) in
      let turns = ap (moved_on lines) (turn_own r.turns i) ∙ still in
      λ k. record { plan = r.plan; rings = held_own r.rings i k; turns = turns k }

-- ---- one take

-- a take is refused with the state as it was, or the current line of a valid state steps
take_cases : (P : TakeOutcome → Type 0) (r : Receiver) (store out : List ℕ) → ((refusal : Refusal) → P (refused_take r refusal out))
    → (receiver_ok r ≡ true → P (taken r (current_line r) (step_at r (current_line r) store out))) → P (take_of r store out)
unfolding take_of
take_cases P r store out refused steps = go (receiver_ok r) refl (store_fits r store) refl
  where
    go : (t : Bool) → receiver_ok r ≡ t → (u : Bool) → store_fits r store ≡ u
        → P (cond t (cond u (take_at r (current_line r) store out) (refused_take r refusal.Store out)) (refused_take r refusal.State out))
    go true g true f = subst P (sym (step_taken r (current_line r) store out (place r store (current_line r) g f (valid r g).current).ring_size)) (steps g)
    go true g false f = refused refusal.Store
    go false g u f = refused refusal.State

module _ (r : Receiver) (store out : List ℕ) where
  abbrev p : LinePlan
  p = line_plan r.plan (i r)

  -- the current line of a valid state, by what stands at its head
  pub current_goes : receiver_ok r ≡ true → {kind : ℕ} {b : List ℕ} {h : Head} → Shows p kind b h
      → Goes p r.rings.size (i r) (line_of r (i r)) kind b out (step_of p r.rings.size (i r) (line_of r (i r)) out h)
  current_goes good shows =
      let line = (valid r good).current in
      step_goes p _ (i r) _ out (omega (arith, line, (few_rings r good).0)) (line_ready r good (i r) line) shows

  abbrev head : (kind : ℕ) × (b : List ℕ) × Shows p kind b (head_on p (i r) (held_of r.rings (i r)) (ring_of r.rings.size store (i r)))
  head = head_shows p (i r) (held_of r.rings (i r)) (ring_of r.rings.size store (i r))

  goes : receiver_ok r ≡ true → Goes p r.rings.size (i r) (line_of r (i r)) head.0 head.1 out (step_at r (i r) store out)
  goes good = current_goes good head.2

  pub take_valid : receiver_ok r ≡ true → receiver_ok (take_of r store out).result.next ≡ true
  take_valid good =
      take_cases (λ t. receiver_ok t.result.next ≡ true) r store out (λ _. good)
      (λ _. is_valid _ (now_valid r (valid r good) _ (goes good).held (goes good).turn))

  pub refused_stays : goes_on (take_of r store out).result.answer ≡ false → ((take_of r store out).result.next ≡ r) × ((take_of r store out).out ≡ out)
  refused_stays =
      take_cases (λ t. goes_on t.result.answer ≡ false → (t.result.next ≡ r) × (t.out ≡ out)) r store out (λ _ _. (refl, refl))
      (λ good e. let u = (goes good).unmoved e in (ap (with_line r (i r)) u.0 ∙ stays_put r good, u.1))

  -- a take takes at most one item, and from the current line
  pub taken_by_lem : (j : ℕ) → taken_from j (take_of r store out).result.answer ≡ cond (goes_on (take_of r store out).result.answer && eqb (i r) j) 1 0
  taken_by_lem j =
      take_cases (λ t. taken_from j t.result.answer ≡ cond (goes_on t.result.answer && eqb (i r) j) 1 0) r store out (λ _. refl) (λ good. (goes good).taken j)

  pub kept_sizes : ((take_of r store out).result.next.plan ≡ r.plan) × ((take_of r store out).result.next.rings.size ≡ r.rings.size)
  kept_sizes =
      take_cases (λ t. (t.result.next.plan ≡ r.plan) × (t.result.next.rings.size ≡ r.rings.size)) r store out (λ _. (refl, refl)) (λ _. (refl, refl))

  pub still_fits : (s : List ℕ) → store_fits (take_of r store out).result.next s ≡ store_fits r s
  still_fits s = take_cases (λ t. store_fits t.result.next s ≡ store_fits r s) r store out (λ _. refl) (λ _. refl)

  pub out_length : length (take_of r store out).out ≡ length out
  out_length = take_cases (λ t. length t.out ≡ length out) r store out (λ _. refl) (λ good. (goes good).out_length)

  pub bytes_fit : bytes_of (take_of r store out).result.answer ≤ length out
  bytes_fit = take_cases (λ t. bytes_of t.result.answer ≤ length out) r store out (λ _. omega arith) (λ good. (goes good).bytes_fit)

  pub small : word_of (take_of r store out).result.answer < 2 ^ 64
  small = take_cases (λ t. word_of t.result.answer < 2 ^ 64) r store out (λ _. omega arith) (λ good. (goes good).small)

-- ---- arrivals

item_valid : (r : Receiver) → Valid r → (i n : ℕ) → i < r.plan.lines → n ≤ r.rings.size - (place_of r i).used → Valid (with_item r i n)
item_valid r v i n line room =
    let h = v.held i line in
    let more : HeldIn r.rings.size (grown (place_of r i) n) = record { head_below = h.head_below; used_most = omega (arith, h.used_most) } in
    record {
      plan = v.plan;
      store = v.store;
      held = λ j l. held_in r.rings.size r.rings i (grown (place_of r i) n) j more (v.held j l);
      turn = v.turn;
      current = v.current;
    }

module _ (r : Receiver) (i : ℕ) (b store : List ℕ) (good : receiver_ok r ≡ true) where
  -- whatever its own kind of item gives
  pub arrival_valid : (kind : ℕ) (own : Checked) → receiver_ok (arrival_of own r i kind b store).arrived.next ≡ true
  arrival_valid kind own = go (lands r i kind b store own)
    where
      go : {a : Arrival} → Lands r i kind b store a → receiver_ok a.arrived.next ≡ true
      go (inl (has, e)) = rw e (is_valid _ (item_valid r (valid r good) i (item_head + length b) has.line has.free))
      go (inr (some, k, e)) = rw e good

  pub data_valid : receiver_ok (data_arrival r i b store).arrived.next ≡ true
  data_valid = arrival_valid 0 (data_check r b)

  pub marker_valid : receiver_ok (marker_arrival r i b store).arrived.next ≡ true
  marker_valid = arrival_valid 1 (marker_check r i b)
