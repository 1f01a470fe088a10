-- One take, by what stands at the head of the current line: the number that it gives, and what an accepted one answers and leaves. Assumes nothing.
use Prim.Native.Nat.{ℕ, ◌+◌, ◌-◌, ◌*◌, ◌≤◌, ◌<◌}
use native.Mathlib.Decide.{dec_lt, ℕ_discrete}
use native.Mathlib.Omega.{arith}
use mathlib.Core.Bool.{Bool, true, false}
use mathlib.Core.List.{List, ◌++◌}
use mathlib.Core.Logic.{◌⊎◌, dite, inl, inr, ⊎_elim}
use mathlib.Core.Path.{◌≡◌, refl, ap, sym, ◌∙◌, subst}
use lib.ListN.{length, drop}
use borrow.Author.Tests.{eq-eqb, eqb-true, eqb-false, le-leb, lt-leb}
use Rattle.std.specs.Prelude.{Some, None, Ok, Err}
use Rattle.numbers.specs.declared.Refusal.TheVariants as refusal
use Rattle.numbers.specs.Coding.{Bytes}
use Rattle.numbers.specs.Wrap.{half}
use Rattle.numbers.proofs.Checks.{never}
use Rattle.plan.specs.declared.LinePlan.{LinePlan}
use Rattle.plan.specs.Limits.{most_lines}
use Rattle.plan.specs.Plan.{at, quantum, line_plan, charge_of}
use Rattle.plan.proofs.Laws.{in_range_lem, line_in_range, charge_quantum}
use Rattle.marker.specs.declared.Marker.{Marker}
use Rattle.marker.specs.Marker.{marker_of}
use Rattle.theory.specs.Sending.{best}
use Rattle.theory.proofs.Choose.{best_wins}
use Rattle.report.specs.Report.{Report, ahead, missing, report_of}
use Rattle.report.proofs.Laws.{far_behind, counter_behind, same_round, later_round}
use Rattle.receiving.specs.declared.Receiver.{Receiver}
use Rattle.receiving.specs.declared.Held.{Held}
use Rattle.receiving.specs.declared.Turn.{Turn}
use Rattle.receiving.specs.declared.Line.{Line}
use Rattle.receiving.specs.declared.TakeResult.{TakeResult}
use Rattle.receiving.specs.declared.Taken.TheVariants as taken
use Rattle.receiving.specs.Receiver.{held_of, turn_of, line_of, with_turn, line_at, round_of, current_line, receiver_ok, store_fits, ring_of}
use Rattle.receiving.specs.Taking.{taken_number, Head, packet, marker, head_on, past, charged_turn, told_step, step_of, with_line}
use Rattle.receiving.specs.Taking.{TakeOutcome, taken as taken_by, take_of}
use Rattle.receiving.proofs.Laws.{valid, at_round}
use Rattle.receiving.proofs.Lines.{held_same, turn_same}
use Rattle.receiving.proofs.Stores.{few_rings, place}
use Rattle.receiving.proofs.Taking.{topped_up, charged, still_at, moved_on_lem, state_refused, store_refused, line_takes, step_taken}
use Rattle.receiving.proofs.Valid.{found, stays_put}
use Rattle.calls.specs.Plain.{Not, ReceiverArrays, Ahead, Current, HeadIs, DataHead, MarkerHead, ItemHead, BehindLine, held_byte, first_of, MarkerSpelled}
use Rattle.calls.specs.Table.{given, accepted, CurrentEmpty, CurrentItem, PacketLonger, MarkerBehind, lent_to}
use Rattle.calls.specs.Outcomes.{Removes, Charges, MovesOn, TakeOutcomes, Takes, CannotBe}
use Rattle.calls.proofs.States.{ahead_is, ahead_only, current_is, current_only, receiver_in, receiver_good}
use Rattle.calls.proofs.Heads.{same_head, same_marker, empty_head, data_head_lem, marker_head_lem, no_item_head, head_no_item}
use Rattle.calls.proofs.Heads.{Stands, no_bytes, is_packet_lem, is_marker, no_head, stands, head_no_item}

-- ---- a marker's report

module _ (r : Receiver) (i round counter : ℕ) where
  abbrev q : ℕ
  q = quantum r.plan i

  abbrev line_round : ℕ
  line_round = at r.turns.rounds i

  abbrev line_counter : ℕ
  line_counter = at r.turns.counters i

  abbrev m : Marker
  m = marker_of i round counter

  abbrev d : ℕ
  d = ahead round line_round

  -- the two ways to be behind, of so many rounds ahead; there is only one such number
  abbrev BehindBy : ℕ → Type 0
  BehindBy x = (half ≤ x) ⊎ ((x ≡ 0) × (line_counter < counter))

  behind_by : BehindLine r i round counter → BehindBy d
  behind_by (x, is, how) = subst BehindBy (ahead_only round line_round x is) how

  abbrev Tells : Report → Type 0
  Tells t = report_of q line_round line_counter m ≡ t

  abbrev short : ℕ
  short = missing q line_round line_counter m

  -- it is behind and told so, or it is not and what is missing is told
  abbrev Settled : Type 0
  Settled = (BehindLine r i round counter × Tells None) ⊎ (Not (BehindLine r i round counter) × Tells (Some short))

  tells : Settled
  tells = go (dec_lt d half) (ℕ_discrete d 0) (dec_lt line_counter counter)
    where
      is : Ahead round line_round d
      is = ahead_is round line_round

      go : Dec (d < half) → Dec (d ≡ 0) → Dec (line_counter < counter) → Settled
      go (no far) _ _ = inl ((d, is, inl (omega arith)), sym (far_behind q line_round line_counter m (omega arith)))
      go (yes near) (yes z) (yes l) = inl ((d, is, inr (z, l)), sym (counter_behind q line_round line_counter m near z l))
      go (yes near) (yes z) (no l) =
          inr (λ b. ⊎_elim (λ f. omega arith) (λ s. l s.1) (behind_by b), sym (same_round q line_round line_counter m near z (omega arith)))
      go (yes near) (no z) _ =
          inr (λ b. ⊎_elim (λ f. omega arith) (λ s. z s.0) (behind_by b), sym (later_round q line_round line_counter m near z))

  behind_told : BehindLine r i round counter → Tells None
  behind_told b = ⊎_elim (λ t. t.1) (λ t. absurd (t.0 b)) tells

  missing_told : Not (BehindLine r i round counter) → Tells (Some short)
  missing_told not = ⊎_elim (λ t. absurd (not t.0)) (λ t. t.1) tells

-- ---- new figures for a line

-- the round that the state is at, whatever the figures of a line are now
moved : (r : Receiver) → receiver_ok r ≡ true → (i : ℕ) (l : Line) → MovesOn r (with_line r i l)
moved r good i l =
    let lines = r.plan.lines in
    let rounds = round_of (with_turn r.turns i l.turn) in
    let round = r.turns.round in
    let b = best (λ j. ahead (rounds j) round) lines in
    let wins = best_wins (λ j. ahead (rounds j) round) lines (in_range_lem r.plan (valid r good).plan).some_lines in
    record {
      stays = λ j h e. sym (still_at lines rounds round (found lines rounds round j h e));
      nearest = λ none.
          let k = line_at lines rounds round in
          let nobody : lines ≤ k = dite (dec_lt k lines) (λ h. absurd (none k h (at_round lines rounds round h))) (λ h. omega arith) in
          let now = moved_on_lem lines rounds round nobody in (
            b,
            wins.is_below,
            sym now,
            λ k x y h ax ay.
                omega (arith, (wins.beats k h).low, ahead_only (rounds k) round x ax, ahead_only (rounds b) round y (rw now ay)),
          );
    }

-- a charge that the quantum bounds
charges : (p : LinePlan) (t : Turn) (n : ℕ) → charge_of p n ≤ p.quantum
    → Charges p.quantum t.round t.counter (charge_of p n) (charged_turn p t n).round (charged_turn p t n).counter
charges p t n small =
    let c = charge_of p n in
    record {
      stays = λ h.
          let is = charged p t n c refl h in
          (sym (ap (λ (x : Turn). x.round) is), omega (arith, ap (λ (x : Turn). x.counter) is));
      moves_on = λ h.
          let is = topped_up p t n c refl _ refl h in
          (sym (ap (λ (x : Turn). x.round) is), omega (arith, ap (λ (x : Turn). x.counter) is));
    }

-- ---- the take of a valid state, over a store that fits

-- the rows of a take, behind those of the state and its store
abbrev rows : Receiver → List ℕ → ℕ → ℕ → Type 0
rows r store room =
    given 0 (CurrentEmpty r) (given 9 (Not (CurrentItem r store)) (given 8 (PacketLonger r store room) (given 11 (MarkerBehind r store) accepted)))

module _ (r : Receiver) (store out : List ℕ) (good : receiver_ok r ≡ true) (fits : store_fits r store ≡ true) where
  abbrev i : ℕ
  i = current_line r

  abbrev p : LinePlan
  p = line_plan r.plan i

  abbrev l : Line
  l = line_of r i

  line : i < r.plan.lines
  line = (valid r good).current

  abbrev head : Head
  head = head_on p i (held_of r.rings i) (ring_of r.rings.size store i)

  abbrev after : Head → TakeOutcome
  after h = taken_by r i (step_of p r.rings.size i l out h)

  -- it is the step of what stands at the current line's head
  took : {h : Head} → head ≡ h → take_of r store out ≡ after h
  took e = sym (line_takes r store out good fits) ∙ step_taken r i store out (place r store i good fits line).ring_size ∙ ap after e

  -- ---- its number

  abbrev here : Current r i
  here = current_is r good

  -- what a current line has, this one has
  on_it : (P : ℕ → Type 0) {j : ℕ} → Current r j → P j → P i
  on_it P {j} c has = subst P (current_only r j c) has

  used_some : Not (at r.rings.used i ≡ 0) → Not (CurrentEmpty r)
  used_some some (j, c, z) = some (on_it (λ k. at r.rings.used k ≡ 0) c z)

  not_empty : {kind : ℕ} {b : List ℕ} → HeadIs r store i kind b → Not (CurrentEmpty r)
  not_empty is = used_some (λ z. omega (arith, is.fits))

  not_longer : {kind : ℕ} {b : List ℕ} → HeadIs r store i kind b → (kind ≡ 0 → length b ≤ length out) → Not (PacketLonger r store (length out))
  not_longer is room (j, c, b, d, more) =
      let same = same_head r store i is (on_it (λ k. DataHead r store k b) c d).0 in
      omega (arith, room same.0, ap length same.1)

  not_behind : {b : List ℕ} → HeadIs r store i 0 b → Not (MarkerBehind r store)
  not_behind is (j, c, round, counter, m, back) = omega (arith, (same_head r store i is (on_it (λ k. MarkerHead r store k round counter) c m).head).0)

  -- the marker at the head is the only one
  behind_here : {round counter : ℕ} → MarkerHead r store i round counter → Not (BehindLine r i round counter) → Not (MarkerBehind r store)
  behind_here {round} {counter} m not (j, c, round', counter', m', back) =
      let same = same_marker r store i good fits line m (on_it (λ k. MarkerHead r store k round' counter') c m') in
      not (rw (same.0, same.1) (on_it (λ k. BehindLine r k round' counter') c back))

  numbered : {h : Head} → head ≡ h → Stands r store i h → rows r store (length out) (taken_number (after h).result.answer)
  numbered e (no_bytes z) = inl ((i, here, z), refl)
  numbered e no_head =
      let none = no_item_head r store i good fits line e in
      inr (used_some none.0, inl (λ (j, c, is). none.1 (on_it (ItemHead r store) c is), refl))
  numbered e (is_packet_lem {b} d) =
      inr (not_empty d.0, inr (λ no. no (i, here, inl (b, d)), rest))
    where
      rest : given 8 (PacketLonger r store (length out)) (given 11 (MarkerBehind r store) accepted) (taken_number (after (packet b)).result.answer)
      rest =
          dite (dec_lt (length out) (length b))
          (λ more. inl ((i, here, b, d, more), simp (lt-leb (length b) (length out) more)))
          (λ room.
          let fit : length b ≤ length out = omega arith in
          inr (not_longer d.0 (λ _. fit), inr (not_behind d.0, simp (le-leb (length b) (length out) fit))))
  numbered e (is_marker {round} {counter} m) =
      inr (not_empty m.head, inr (λ no. no (i, here, inr (round, counter, m)), inr (not_longer m.head (λ z. absurd (omega arith)), rest)))
    where
      number : Report → ℕ
      number t = taken_number (told_step r.rings.size i l (length m.bytes) (marker_of i round counter) t).answer

      rest : given 11 (MarkerBehind r store) accepted (taken_number (after (marker (length m.bytes) (marker_of i round counter))).result.answer)
      rest =
          ⊎_elim
          (λ t. inl ((i, here, round, counter, m, t.0), ap number t.1))
          (λ t. inr (behind_here m t.0, ap number t.1))
          (tells r i round counter)

  -- ---- what it leaves

  module _ (arrays : ReceiverArrays r) where
    few : i < most_lines
    few = omega (arith, line, (few_rings r good).0)

    -- the item at the head is gone
    removes : (n : ℕ) (t : Turn) → 3 + n ≤ at r.rings.used i → Removes r (with_line r i (past r.rings.size l n t)) i n
    removes n t h =
        let is = held_same r.rings i (past r.rings.size l n t).held (record { heads = arrays.heads; used = arrays.used }) few in
        record { used = omega (arith, ap (λ (x : Held). x.used) is); head = ap (λ (x : Held). x.head) is }

    new_turn : (t : Turn) → turn_of (with_turn r.turns i t) i ≡ t
    new_turn t = turn_same r.turns i t (record { rounds = arrays.rounds; counters = arrays.counters }) few

    -- a packet
    abbrev Charged : ℕ → Turn → Type 0
    Charged n t = Charges p.quantum l.turn.round l.turn.counter (charge_of p n) t.round t.counter

    abbrev HandsOut : List ℕ → TakeOutcome → Type 0
    HandsOut b t =
        (t.result.answer ≡ Ok (taken.Data i (length b))) × (t.out ≡ b ++ drop (length b) out) × Removes r t.result.next i (length b)
        × Charged (length b) (turn_of t.result.next.turns i) × MovesOn r t.result.next

    hands : (b : List ℕ) → DataHead r store i b → length b ≤ length out → HandsOut b (take_of r store out)
    hands b d room =
        let n = length b in
        let turn = charged_turn p l.turn n in
        let small = charge_quantum p (line_in_range r.plan (valid r good).plan i line) n d.1.0 d.1.1 in
        let spent = subst (Charged n) (sym (new_turn turn)) (charges p l.turn n small) in
        let went : HandsOut b (after (packet b)) = simp (le-leb n (length out) room) (refl, refl, removes n turn d.0.fits, spent, moved r good i _) in
        subst (HandsOut b) (sym (took (data_head_lem r store i good fits line d))) went

    -- a marker that is behind, and one that is not
    abbrev Keeps : ℕ → TakeOutcome → Type 0
    Keeps n t = (t.result.answer ≡ Ok (taken.Behind i)) × (t.out ≡ out) × Removes r t.result.next i n × (t.result.next.turns ≡ r.turns)

    abbrev Reports : ℕ → Marker → TakeOutcome → Type 0
    Reports n m t =
        (t.result.answer ≡ Ok (taken.Missing i (missing p.quantum l.turn.round l.turn.counter m))) × (t.out ≡ out) × Removes r t.result.next i n
        × (at t.result.next.turns.rounds i ≡ m.round) × (at t.result.next.turns.counters i ≡ m.counter) × MovesOn r t.result.next

    abbrev told_by : ℕ → Marker → Report → TakeOutcome
    told_by n m t = taken_by r i (record { step = told_step r.rings.size i l n m t; out = out })

    module _ (round counter : ℕ) (m : MarkerHead r store i round counter) where
      abbrev n : ℕ
      n = length m.bytes

      reported : {t : Report} → report_of p.quantum l.turn.round l.turn.counter (marker_of i round counter) ≡ t
          → take_of r store out ≡ told_by n (marker_of i round counter) t
      reported e = took (marker_head_lem r store i good fits line m) ∙ ap (told_by n (marker_of i round counter)) e

      keeps : BehindLine r i round counter → Keeps n (take_of r store out)
      keeps back =
          subst (Keeps n) (sym (reported (behind_told r i round counter back)))
          (refl, refl, removes n l.turn m.head.fits, ap (λ (x : Receiver). x.turns) (stays_put r good))

      reports : Not (BehindLine r i round counter) → Reports n (marker_of i round counter) (take_of r store out)
      reports not =
          let turn : Turn = record { round = round; counter = counter } in
          let is = new_turn turn in
          subst (Reports n (marker_of i round counter)) (sym (reported (missing_told r i round counter not)))
          (refl, refl, removes n turn m.head.fits, ap (λ (x : Turn). x.round) is, ap (λ (x : Turn). x.counter) is, moved r good i _)

    outcomes : TakeOutcomes r store out i
    outcomes = record {
      waits = λ z.
          took (empty_head r store i good fits line z)
          ∙ ap (λ (x : Receiver). record { result = record { answer = Ok (taken.Waiting i); next = x }; out = out }) (stays_put r good);
      no_item = λ bytes some none.
          took (head_no_item r store i good fits line bytes some none)
          ∙ ap (λ (x : Receiver). record { result = record { answer = Err refusal.Store; next = x }; out = out }) (stays_put r good);
      too_long = λ b d more.
          took (data_head_lem r store i good fits line d)
          ∙ ap (taken_by r i) (simp (lt-leb (length b) (length out) more))
          ∙ ap (λ (x : Receiver). record { result = record { answer = Err refusal.ShortOutput; next = x }; out = out }) (stays_put r good);
      hands_out = hands;
      behind = keeps;
      missing = λ round counter d m is not.
          let t = reports round counter m not in
          let only = sym (ahead_only round l.turn.round d is) in
          (t.0 ∙ ap (λ (x : ℕ). Ok (taken.Missing i (x * p.quantum + l.turn.counter - counter))) only, t.1, t.2, t.3, t.4, t.5);
    }

-- ---- both theorems

pub table_takes : (r : Receiver) (store out : List ℕ) → Bytes store
    → lent_to r store
    (given 0 (CurrentEmpty r) (given 9 (Not (CurrentItem r store)) (given 8 (PacketLonger r store (length out)) (given 11 (MarkerBehind r store) accepted))))
    (taken_number (take_of r store out).result.answer)
table_takes r store out bytes = go (receiver_ok r) refl (store_fits r store) refl
  where
    number : TakeResult → ℕ
    number t = taken_number t.answer

    go : (t : Bool) → receiver_ok r ≡ t → (u : Bool) → store_fits r store ≡ u → lent_to r store (rows r store (length out)) (number (take_of r store out).result)
    go false e u f = inl (λ v. never (sym (receiver_good r v) ∙ e), sym (ap number (state_refused r store out e).0))
    go true e false f =
        let long : Not (length store ≡ r.plan.lines * r.rings.size) = eqb-false _ _ f in
        inr (λ no. no (receiver_in r e), inl (long, sym (ap number (store_refused r store out e long).0)))
    go true e true f =
        let i = current_line r in
        inr (
          λ no. no (receiver_in r e),
          inr (
            λ no. no (eqb-true _ _ f),
            rw (took r store out e f refl) (numbered r store out e f refl (stands r store i e f (line r store out e f) bytes)),
          ),
        )

pub outcome_takes : Takes
outcome_takes r store out i arrays is fits current =
    subst (TakeOutcomes r store out) (sym (current_only r i current)) (outcomes r store out (receiver_good r is) (eq-eqb _ _ fits) arrays)

-- ---- what cannot be an item

pub outcome_cannot_be : (r : Receiver) (store : List ℕ) (i : ℕ) → CannotBe r store i
outcome_cannot_be r store i = record {
  few = λ h. either (λ b d. omega (arith, d.0.fits)) (λ round counter m. omega (arith, m.head.fits));
  other_kind = λ h. either (λ b d. omega (arith, d.0.kind_byte)) (λ round counter m. omega (arith, m.head.kind_byte));
  cut_short = λ h. either (λ b d. omega (arith, d.0.fits, d.0.length_bytes)) (λ round counter m. omega (arith, m.head.fits, m.head.length_bytes));
  bad_data = λ zero bad. either (λ b d. bad (rw d.0.length_bytes d.1)) (λ round counter m. omega (arith, m.head.kind_byte));
  bad_marker = λ one bad. either (λ b d. omega (arith, d.0.kind_byte)) (λ round counter m.
      let same = m.head.bytes ∙ ap (first_of (λ k. held_byte r store i (3 + k))) (sym m.head.length_bytes) in
      bad round counter (subst (λ (b : List ℕ). MarkerSpelled b i round counter) same m.spelled) m.in_range);
}
  where
    either : ((b : List ℕ) → DataHead r store i b → ⊥) → ((round counter : ℕ) → MarkerHead r store i round counter → ⊥) → ItemHead r store i → ⊥
    either data-not marker-not (inl (b, d)) = data-not b d
    either data-not marker-not (inr (round, counter, m)) = marker-not round counter m
