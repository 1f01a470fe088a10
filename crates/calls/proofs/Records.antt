-- Records of the wire, row by row, as they read, and what their calls leave as it was. Assumes nothing.
use Prim.Native.Nat.{ℕ, zero, suc, ◌+◌, ◌-◌, ◌≤◌, ◌<◌}
use native.Mathlib.Decide.{dec_lt}
use native.Mathlib.Omega.{arith}
use mathlib.Core.Bool.{true}
use mathlib.Core.List.{List, [], ◌∷◌, ◌++◌, append_assoc}
use mathlib.Core.Logic.{◌⊎◌, inl, inr}
use mathlib.Core.Path.{◌≡◌, refl, ap, sym, ◌∙◌}
use lib.Dec.{ltb, leb}
use lib.ListN.{length, get_or, take, drop, replicate, length-append, length-drop, length-replicate, take-append-drop, get_or-eq_default}
use lib.Seq.{length-take-le, drop-append_seam, get_or-append-add, get_or-drop, ext_get_or}
use borrow.Author.Tests.{leb-true, le-leb, lt-ltb, ltb-true}
use Rattle.std.specs.Prelude.{Ok, Err, Some, None}
use Rattle.numbers.specs.declared.Refusal.TheVariants as refusal
use Rattle.numbers.specs.Refusals.{number_of}
use Rattle.numbers.specs.Checks.{Checked, passed, check}
use Rattle.numbers.specs.Coding.{Bytes, Reading, yields, reading_of, coded, row_bytes}
use Rattle.numbers.specs.Writing.{Outcome, room, outcome, written}
use Rattle.numbers.proofs.Checks.{check_passed, in_range_lem, from_range, no_zero, by_checks}
use Rattle.numbers.proofs.Laws.{accepted as accepted-bytes, answered_number, round_trip, fits, split}
use Rattle.plan.specs.declared.Plan.{Plan}
use Rattle.plan.specs.Plan.{at, no_plan, plan_ok, first_entries}
use Rattle.plan.specs.Ranges.{From, PlanIn}
use Rattle.plan.proofs.Ranges.{plan_in, plan_good_lem}
use Rattle.plan_record.specs.Record.{PlanRead, plan_of, plan_bytes, plan_read, plan_written, refused_plan}
use Rattle.plan_record.proofs.Promises.{written_reads_back, read_is_written, read_or_refused}
use Rattle.marker.specs.declared.Marker.{Marker}
use Rattle.marker.specs.Marker.{MarkerRead, values_of, marker_of, record_read, marker_bytes, judged, counter_ok, line_ok, read_checks, marker_read, marker_written}
use Rattle.marker.proofs.Laws.{whole_not_refused, both_good}
use Rattle.sending.specs.declared.Sender.{Sender}
use Rattle.sending.specs.Sender.{sender_ok, line_marker, marker_from}
use Rattle.calls.specs.Plain.{Not, ZeroFrom, PlanSpelled, MarkerSpelled, MarkerTo, MarkerOf}
use Rattle.calls.specs.Table.{given, accepted, short}
use Rattle.calls.specs.Outcomes.{WritesOut}
use Rattle.calls.specs.Frame.{Writes, zero_plan}
use Rattle.calls.proofs.Markers.{marker_bytes_lem, spelled_reads, marker_spelled, WholeOrFive, whole_or_five, read_counter, read_line, judged_number}
use Rattle.calls.proofs.Rows.{Gives, ends, unless, range_row, below_row, room_row, answered}

-- ---- writers: the table

pub table_writes_number : (v : ℕ) (out : List ℕ) → given 8 (short (coded 32 v) out) accepted (number_of (written (coded 32 v) out).answer)
table_writes_number v out = answered (coded 32 v) out (room_row (coded 32 v) out)

pub table_writes_plan : (p : Plan) (out : List ℕ)
    → given 1 (Not (PlanIn p)) (given 8 (short (plan_bytes p) out) accepted) (number_of (plan_written p out).answer)
unfolding plan_written
table_writes_plan p out = answered (plan_bytes p) out (unless refusal.Plan (plan_ok p) (plan_in p) (plan_good_lem p) (λ h. room_row (plan_bytes p) out))

pub table_writes_marker : (m : Marker) (out : List ℕ)
    → given 3 (16 ≤ m.line) (given 5 (Not (From 1 1048576 m.counter)) (given 8 (short (marker_bytes m) out) accepted))
    (number_of (marker_written m out).answer)
unfolding marker_written
table_writes_marker m out =
    answered (marker_bytes m) out (below_row refusal.Line m.line 16 (λ l. range_row refusal.NoMarker 1 m.counter 1048576 (λ c. room_row (marker_bytes m) out)))

-- ---- writers: the frame

-- a writer whose checks end with the one of its room
frames : (checks : Checked) (bytes out : List ℕ) → (number_of checks ≡ 0 → number_of (room bytes out) ≡ 0) → Writes out (outcome checks bytes out)
unfolding outcome
frames checks bytes out last = by_checks (Writes out) checks done (λ k e. record { same_length = refl; behind = refl; refused = λ n. refl })
  where
    done : checks ≡ passed → Writes out (record { answer = Ok (length bytes); out = bytes ++ drop (length bytes) out })
    done e =
        let fits = leb-true (length bytes) (length out) (check_passed _ refusal.ShortOutput passed (last (ap number_of e))).0 in
        record {
          same_length = length-append bytes (drop (length bytes) out) ∙ omega (arith, length-drop (length bytes) out);
          behind = drop-append_seam bytes (drop (length bytes) out);
          refused = λ n. absurd (n refl);
        }

pub frame_writes_number : (v : ℕ) (out : List ℕ) → Writes out (written (coded 32 v) out)
frame_writes_number v out = frames _ (coded 32 v) out (λ e. e)

pub frame_writes_plan : (p : Plan) (out : List ℕ) → Writes out (plan_written p out)
unfolding plan_written
frame_writes_plan p out = frames _ (plan_bytes p) out (λ e. (check_passed (plan_ok p) _ _ e).1)

pub frame_writes_marker : (m : Marker) (out : List ℕ) → Writes out (marker_written m out)
unfolding marker_written
frame_writes_marker m out =
    frames _ (marker_bytes m) out (λ e. (check_passed (counter_ok m) _ _ (check_passed (line_ok m) _ _ e).1).1)

pub frame_asks : (s : Sender) (i : ℕ) (out : List ℕ) → Writes out (marker_from s i out)
unfolding marker_from
frame_asks s i out =
    frames _ (line_marker s i) out (λ e. (check_passed (ltb i s.plan.lines) _ _ (check_passed (sender_ok s) _ _ e).1).1)

-- ---- the plan's record

zeros_at : (n i : ℕ) → at (replicate n 0) i ≡ 0
zeros_at zero i = refl
zeros_at (suc n) zero = refl
zeros_at (suc n) (suc i) = zeros_at n i

-- the first n of sixteen entries have zeros behind them
pub first_then_zeros : (n : ℕ) (entries : List ℕ) → n ≤ length entries → ZeroFrom n (first_entries n entries)
first_then_zeros n entries fits i h =
    let size : length (take n entries) ≡ n = length-take-le n entries fits in
    let place : length (take n entries) + (i - n) ≡ i = omega arith in
    rw place at (get_or-append-add (take n entries) (replicate (16 - n) 0) (i - n) 0) ∙ zeros_at (16 - n) (i - n)

-- and sixteen that have are as they are kept
pub first_of_zeros : (n : ℕ) (entries : List ℕ) → length entries ≡ 16 → ZeroFrom n entries → first_entries n entries ≡ entries
first_of_zeros n entries sixteen none =
    let behind : drop n entries ≡ replicate (16 - n) 0 =
    ext_get_or 0 (drop n entries) (replicate (16 - n) 0) (omega (arith, length-drop n entries, length-replicate {A = ℕ} (16 - n) 0))
    (λ i h. get_or-drop n entries i 0 ∙ none (n + i) (omega arith) ∙ sym (zeros_at (16 - n) i)) in
    ap (λ (l : List ℕ). take n entries ++ l) (sym behind) ∙ take-append-drop n entries

-- the record's bytes, number by number
plan_bytes_lem : (p : Plan) → plan_bytes p ≡ coded 32 p.lines ++ coded 32 p.max ++ coded 32 p.interval ++ row_bytes (take p.lines p.quanta)
unfolding row_bytes
plan_bytes_lem p = simp append_assoc

abbrev with_quanta : Plan → List ℕ → Plan
with_quanta p quanta = record { lines = p.lines; max = p.max; interval = p.interval; quanta = quanta }

pub outcome_reads_plan : (b : List ℕ) (p : Plan) → PlanSpelled b p → plan_read b ≡ Ok p
unfolding plan_written
outcome_reads_plan b p is =
    let n = length (plan_bytes p) in
    let out : List ℕ = replicate n 0 in
    let good = plan_good_lem p is.in_range in
    let fits : leb n (length out) ≡ true = le-leb n (length out) (omega (arith, length-replicate {A = ℕ} n 0)) in
    let none : check (plan_ok p) refusal.Plan (room (plan_bytes p) out) ≡ passed = rw (good, fits) refl in
    let answer : number_of (plan_written p out).answer ≡ 0 = answered_number _ (plan_bytes p) out ∙ ap number_of none in
    let back = written_reads_back p out is.sixteen answer in
    let front = accepted-bytes _ (plan_bytes p) out answer in
    ap plan_read (is.bytes ∙ sym (plan_bytes_lem p) ∙ sym front.1) ∙ back.1
    ∙ ap (λ (q : List ℕ). Ok (with_quanta p q)) (first_of_zeros p.lines p.quanta is.sixteen is.rest_zero)

-- a plan in range has a quantum for each line
quanta_enough : (p : Plan) → PlanIn p → p.lines ≤ length p.quanta
quanta_enough p good = go (dec_lt (length p.quanta) p.lines)
  where
    go : Dec (length p.quanta < p.lines) → p.lines ≤ length p.quanta
    go (yes h) =
        let n = length p.quanta in
        absurd (omega (arith, good.max.0, (good.quanta n h).0, get_or-eq_default p.quanta 0 {n = n} (omega arith)))
    go (no h) = omega arith

-- what reads is spelled (the sixteen: a record that reads is as it is kept)
plan_spelled : (b : List ℕ) (p : Plan) → Bytes b → plan_read b ≡ Ok p → PlanSpelled b p
plan_spelled b p bytes e =
    let w = read_is_written b p bytes e in
    let good = plan_in p w.1 in
    let enough = quanta_enough p good in
    let same : first_entries p.lines p.quanta ≡ p.quanta = ap (λ (r : Plan). r.quanta) w.2 in
    record {
      in_range = good;
      sixteen = sym (ap length same) ∙ length-append (take p.lines p.quanta) (replicate (16 - p.lines) 0)
          ∙ omega (arith, good.lines, length-take-le p.lines p.quanta enough, length-replicate {A = ℕ} (16 - p.lines) 0);
      rest_zero = λ i h. rw same at (first_then_zeros p.lines p.quanta enough i h);
      bytes = w.0 ∙ plan_bytes_lem p;
    }

-- a reading that gives no number is a plan
accepted_plan : (r : PlanRead) → number_of r ≡ 0 → (p : Plan) × (r ≡ Ok p)
accepted_plan (Ok p) e = (p, refl)
accepted_plan (Err k) e = absurd (no_zero k e)

pub table_reads_plan : (b : List ℕ) → Bytes b → given 1 (Not ((p : Plan) × PlanSpelled b p)) accepted (number_of (plan_read b))
table_reads_plan b bytes = go (read_or_refused b)
  where
    go : (number_of (plan_read b) ≡ 0) ⊎ ((plan_read b ≡ refused_plan) × (plan_of (plan_read b) ≡ no_plan)) → given 1 (Not ((p : Plan) × PlanSpelled b p)) accepted (number_of (plan_read b))
    go (inl e) = let r = accepted_plan (plan_read b) e in inr (λ n. n (r.0, plan_spelled b r.0 bytes r.1), e)
    go (inr e) =
        let one : number_of (plan_read b) ≡ 1 = ap number_of e.0 in
        inl (λ p. let none : number_of (plan_read b) ≡ 0 = ap number_of (outcome_reads_plan b p.0 p.1) in omega arith, one)

pub frame_reads_plan : (b : List ℕ) → Not (number_of (plan_read b) ≡ 0) → plan_of (plan_read b) ≡ zero_plan
frame_reads_plan b n = go (read_or_refused b)
  where
    go : (number_of (plan_read b) ≡ 0) ⊎ ((plan_read b ≡ refused_plan) × (plan_of (plan_read b) ≡ no_plan)) → plan_of (plan_read b) ≡ zero_plan
    go (inl e) = absurd (n e)
    go (inr e) = e.1

-- ---- the marker's record

pub table_reads_marker : (b : List ℕ) → Bytes b
    → given 5 (Not (MarkerTo 1048576 b)) (given 3 (Not (MarkerOf (λ line. line < 16) b)) accepted) (number_of (marker_read b))
unfolding marker_read
table_reads_marker b bytes = go (whole_or_five b)
  where
    rows : ℕ → Type 0
    rows = given 5 (Not (MarkerTo 1048576 b)) (given 3 (Not (MarkerOf (λ line. line < 16) b)) accepted)

    checked : (m : Marker) → record_read b ≡ Ok m → Gives rows (read_checks m)
    checked m e =
        let spelled = marker_spelled b m bytes e in
        unless refusal.NoMarker (counter_ok m)
        (λ t. (m.line, m.round, m.counter, spelled, from_range 1 m.counter 1048576 t))
        (λ x. let r = read_counter b m e 1048576 x in in_range_lem 1 m.counter 1048576 r.0 r.1)
        (λ x. unless refusal.Line (line_ok m)
        (λ t. (m.line, m.round, m.counter, spelled, ltb-true m.line 16 t))
        (λ y. lt-ltb m.line 16 (read_line b m e (λ line. line < 16) y))
        (λ y. ends))

    go : WholeOrFive (record_read b) → rows (number_of (judged read_checks (record_read b)))
    go (inl w) = rw w.1 (rw (judged_number (read_checks w.0) w.0) (checked w.0 w.1).proof)
    go (inr e) = inl (λ x. whole_not_refused (sym e ∙ spelled_reads b x.0 x.1 x.2 x.3), ap (λ (r : MarkerRead). number_of (judged read_checks r)) e)

pub outcome_reads_marker : (b : List ℕ) (line round counter : ℕ) → MarkerSpelled b line round counter → line < 16 → From 1 1048576 counter
    → marker_read b ≡ Ok (marker_of line round counter)
unfolding marker_read
outcome_reads_marker b line round counter is few range =
    ap (judged read_checks) (spelled_reads b line round counter is)
    ∙ sym (both_good (marker_of line round counter) (in_range_lem 1 counter 1048576 range.0 range.1) (lt-ltb line 16 few))

pub frame_reads_marker : (b : List ℕ) → Not (number_of (marker_read b) ≡ 0) → values_of (marker_read b) ≡ 0 ∷ 0 ∷ 0 ∷ []
frame_reads_marker b = go (marker_read b)
  where
    go : (r : MarkerRead) → Not (number_of r ≡ 0) → values_of r ≡ 0 ∷ 0 ∷ 0 ∷ []
    go (Ok m) n = absurd (n refl)
    go (Err k) n = refl

-- ---- what the writers write

writes_out : (checks : Checked) (bytes b out : List ℕ) → bytes ≡ b → number_of (outcome checks bytes out).answer ≡ 0 → WritesOut b out (outcome checks bytes out)
unfolding outcome
writes_out checks bytes b out same =
    by_checks (λ (o : Outcome). number_of o.answer ≡ 0 → WritesOut b out o) checks
    (λ z e. rw (← same) (record { answer = refl; output = refl })) (λ k r e. absurd (no_zero k e))

pub outcome_writes_number : (v : ℕ) (out : List ℕ) → let o = written (coded 32 v) out in number_of o.answer ≡ 0 → WritesOut (coded 32 v) out o
outcome_writes_number v out = writes_out _ (coded 32 v) (coded 32 v) out refl

pub outcome_writes_plan : (p : Plan) (out : List ℕ) → number_of (plan_written p out).answer ≡ 0
    → WritesOut (coded 32 p.lines ++ coded 32 p.max ++ coded 32 p.interval ++ row_bytes (take p.lines p.quanta)) out (plan_written p out)
unfolding plan_written
outcome_writes_plan p out = writes_out _ (plan_bytes p) _ out (plan_bytes_lem p)

pub outcome_row_of : (v : ℕ) (row : List ℕ) → (row_bytes [] ≡ []) × (row_bytes (v ∷ row) ≡ coded 32 v ++ row_bytes row)
unfolding row_bytes
outcome_row_of v row = (refl, refl)

pub outcome_writes_marker : (m : Marker) (out : List ℕ) → number_of (marker_written m out).answer ≡ 0
    → WritesOut (coded 32 m.line ++ coded 32 m.round ++ coded 32 m.counter) out (marker_written m out)
unfolding marker_written
outcome_writes_marker m out = writes_out _ (marker_bytes m) _ out (marker_bytes_lem m)

pub outcome_asks : (s : Sender) (i : ℕ) (out : List ℕ) → number_of (marker_from s i out).answer ≡ 0
    → WritesOut (coded 32 i ++ coded 32 (at s.rounds i) ++ coded 32 (at s.counters i)) out (marker_from s i out)
unfolding marker_from
outcome_asks s i out = writes_out _ (line_marker s i) _ out (marker_bytes_lem (marker_of i (at s.rounds i) (at s.counters i)))

-- ---- numbers

pub outcome_reads_number : (v : ℕ) (rest : List ℕ) → v < 4294967296 → yields (reading_of 32 (coded 32 v ++ rest)) ≡ v ∷ length (coded 32 v) ∷ []
outcome_reads_number v rest small = ap yields (round_trip 32 v rest small)

pub outcome_reads_only : (b : List ℕ) (v n : ℕ) → Bytes b → yields (reading_of 32 b) ≡ v ∷ n ∷ [] → (v < 4294967296) × (b ≡ coded 32 v ++ drop n b)
outcome_reads_only b v n bytes e = go (reading_of 32 b) refl e
  where
    go : (r : Reading) → reading_of 32 b ≡ r → yields r ≡ v ∷ n ∷ [] → (v < 4294967296) × (b ≡ coded 32 v ++ drop n b)
    go None is e = absurd (omega (arith, ap length e))
    go (Some (u, k)) is e =
        let same : u ≡ v = ap (λ (l : List ℕ). get_or l 0 0) e in
        let place : k ≡ n = ap (λ (l : List ℕ). get_or l 1 0) e in
        let read : reading_of 32 b ≡ Some (v, n) = is ∙ rw (same, place) refl in
        (fits 32 b read, split 32 b read bytes)
