-- One take of one line, by what stands at its head: its figures stay in range, its round goes on by less than 2^31, its answer is small and fits the
-- output, and the item in front is gone with its bytes handed out, or nothing has moved. Assumes nothing.
use mathlib.Core.Path.{◌≡◌, refl, ap, sym, ◌∙◌}
use Prim.Native.Nat.{ℕ, ◌+◌, ◌-◌, ◌*◌, ◌%◌, ◌^◌, ◌≤◌, ◌<◌}
use native.Mathlib.Nat.{mod-lt, mul-le-mul, le_of_lt}
use native.Mathlib.Omega.{arith}
use mathlib.Core.Bool.{Bool, true, false, ◌&&◌, cond}
use mathlib.Core.List.{List, []}
use lib.Dec.{leb, eqb}
use lib.ListN.{length, take, drop, length-append, length-drop}
use lib.Seq.{take-append_seam}
use borrow.Author.Tests.{leb-true, leb-false, eqb-true}
use Rattle.numbers.specs.Checks.{in_range}
use Rattle.numbers.specs.Wrap.{wrap, half}
use Rattle.numbers.proofs.Checks.{never, from_range}
use Rattle.plan.specs.declared.LinePlan.{LinePlan}
use Rattle.plan.specs.Limits.{most_lines, most_quantum, item_head}
use Rattle.plan.specs.Plan.{charge_of, counter_after, round_after}
use Rattle.plan.proofs.Laws.{LineInRange, charge_quantum}
use Rattle.marker.specs.declared.Marker.{Marker}
use Rattle.marker.specs.Marker.{MarkerRead}
use Rattle.std.specs.Prelude.{Ok, Err, Some, None}
use Rattle.report.specs.Report.{Report, marker_on, ahead, is_behind, missing, report_of}
use Rattle.report.proofs.Laws.{on_line, told_near}
use Rattle.ring.specs.Ring.{Front, onto, held, front_of}
use Rattle.receiving.specs.declared.Held.{Held}
use Rattle.receiving.specs.declared.Turn.{Turn}
use Rattle.receiving.specs.declared.Line.{Line}
use Rattle.receiving.specs.Taking.{TakeAnswer, Head, nothing, packet, marker, no_item, data_head, marker_head, item_on, front_on, head_on, Stepped, stays, past, charged_turn, told_step, step_of}
use Rattle.receiving.specs.declared.Taken.TheVariants.{Waiting, Data, Missing, Behind}
use Rattle.receiving.specs.Takes.{word_of, bytes_of, goes_on}
use Rattle.receiving.specs.Stage.{taken_from}
use Rattle.receiving.specs.Ready.{Ready}
use Rattle.receiving.proofs.Laws.{HeldIn, TurnIn}
use Rattle.numbers.specs.declared.Refusal.TheVariants as refusal

-- ---- what stands at a head

-- nothing; or an item of that kind and these bytes, in range for its line; or what cannot be one
pub data Shows (p : LinePlan) : ℕ → List ℕ → Head → Type 0 where
  no_head : {kind : ℕ} {b : List ℕ} → Shows p kind b nothing
  not_one : {kind : ℕ} {b : List ℕ} → Shows p kind b no_item
  is_packet_lem : {b : List ℕ} → 1 ≤ length b → length b ≤ p.largest → Shows p 0 b (packet b)
  is_marker : {kind : ℕ} {b : List ℕ} {m : Marker} → 1 ≤ m.counter → m.counter ≤ p.quantum → Shows p kind b (marker (length b) m)

module _ (p : LinePlan) (i : ℕ) where
  pub item_shows : (kind : ℕ) (b : List ℕ) → Shows p kind b (item_on p i kind b)
  unfolding item_on
  item_shows kind b = go (eqb kind 0) refl (eqb kind 1)
    where
      data_shows : (t : Bool) → in_range 1 (length b) p.largest ≡ t → Shows p 0 b (cond t (packet b) no_item)
      data_shows true e = let n = from_range 1 (length b) p.largest e in is_packet_lem n.0 n.1
      data_shows false e = not_one

      marker_shows : (m : MarkerRead) → marker_on i p.quantum b ≡ m → Shows p kind b (marker_head (length b) m)
      marker_shows (Err k) e = not_one
      marker_shows (Ok m) e = let on = on_line i p.quantum b m e in is_marker on.1 on.2

      go : (t : Bool) → eqb kind 0 ≡ t → (u : Bool)
          → Shows p kind b (cond t (data_head p b) (cond u (marker_head (length b) (marker_on i p.quantum b)) no_item))
      go true e u = rw (eqb-true kind 0 e) (data_shows (in_range 1 (length b) p.largest) refl)
      go false e true = marker_shows (marker_on i p.quantum b) refl
      go false e false = not_one

  pub head_shows : (h : Held) (ring : List ℕ) → (kind : ℕ) × (b : List ℕ) × Shows p kind b (head_on p i h ring)
  unfolding head_on
  head_shows h ring = go (eqb h.used 0) (front_of (held ring h.head h.used))
    where
      bytes : List ℕ
      bytes = held ring h.head h.used

      go : (t : Bool) (f : Front) → (kind : ℕ) × (b : List ℕ) × Shows p kind b (cond t nothing (front_on p i bytes f))
      go true f = (0, [], no_head)
      go false None = (0, [], not_one)
      go false (Some (kind, n)) = (kind, take n (drop item_head bytes), item_shows kind (take n (drop item_head bytes)))

-- ---- rounds, counters, reports

pub not_ahead : (round : ℕ) → ahead round round < half
unfolding ahead
not_ahead round = omega arith

-- a charge takes a line at most one round on
round_near : (round counter c : ℕ) → ahead (round_after round counter c) round < half
unfolding ahead
round_near round counter c = go (leb counter c)
  where
    go : (t : Bool) → ahead (cond t ((round + 1) % wrap) round) round < half
    go true = omega arith
    go false = omega arith

-- and leaves the counter in range
counter_in : (q counter c : ℕ) → 1 ≤ counter → counter ≤ q → c ≤ q → (1 ≤ counter_after q counter c) × (counter_after q counter c ≤ q)
counter_in q counter c least most h = go (leb counter c) refl
  where
    go : (t : Bool) → leb counter c ≡ t → (1 ≤ cond t (counter + q - c) (counter - c)) × (cond t (counter + q - c) (counter - c) ≤ q)
    go true e = (omega arith, omega (arith, leb-true counter c e))
    go false e = (omega (arith, leb-false counter c e), omega arith)

-- what is reported is at most 2^31 of the largest quanta, and a counter
told_small : (q round counter : ℕ) (m : Marker) → q ≤ most_quantum → counter ≤ q → (x : ℕ) → report_of q round counter m ≡ Some x
    → x ≤ half * most_quantum + most_quantum
unfolding report_of
told_small q round counter m few c x e = go (is_behind round counter m) e
  where
    go : (t : Bool) → cond t None (Some (missing q round counter m)) ≡ Some x → x ≤ half * most_quantum + most_quantum
    go true e = absurd (let z : ◌≡◌ {A = ℕ} 0 1 = cc in omega arith)
    go false s =
        let is : missing q round counter m ≡ x = cc in
        let near : ahead m.round round < half = told_near q round counter m x e in
        let all : ahead m.round round * q ≤ half * most_quantum = mul-le-mul (le_of_lt near) few in
        omega arith

-- ---- the step

-- what every step keeps to, where an item of that kind and these bytes may stand at the head of line i
pub record Goes (p : LinePlan) (size i : ℕ) (l : Line) (kind : ℕ) (b out : List ℕ) (s : Stepped) : Type 0 where
  pub held : HeldIn size s.step.line.held
  pub turn : TurnIn p.quantum l.turn.round s.step.line.turn
  pub small : word_of s.step.answer < 2 ^ 64
  pub bytes_fit : bytes_of s.step.answer ≤ length out
  pub out_length : length s.out ≡ length out
  -- one after which a run ends changes nothing
  pub unmoved : goes_on s.step.answer ≡ false → (s.step.line ≡ l) × (s.out ≡ out)
  -- any other takes the item, from line i
  pub taken : (j : ℕ) → taken_from j s.step.answer ≡ cond (goes_on s.step.answer && eqb i j) 1 0
  pub gone : goes_on s.step.answer ≡ true → s.step.line.held ≡ (past size l (length b) l.turn).held
  -- and data is all of the item's bytes
  pub hands : (line n : ℕ) → s.step.answer ≡ Ok (Data line n) → (kind ≡ 0) × (n ≡ length b) × (take n s.out ≡ b)

-- an answer after which a run ends says that nothing was taken
idle : (answer : TakeAnswer) → goes_on answer ≡ false → (word_of answer ≡ 0) × (bytes_of answer ≡ 0) × ((j : ℕ) → taken_from j answer ≡ 0)
idle (Ok (Waiting line)) e = (refl, refl, λ j. refl)
idle (Ok (Data line n)) e = absurd (never e)
idle (Ok (Missing line missing)) e = absurd (never e)
idle (Ok (Behind line)) e = absurd (never e)
idle (Err k) e = (refl, refl, λ j. refl)

module _ (p : LinePlan) (size i : ℕ) (l : Line) (out : List ℕ) (line : i < most_lines) (ready : Ready p size l) where
  abbrev Kept : ℕ → List ℕ → Stepped → Type 0
  Kept kind b s = Goes p size i l kind b out s

  stands : {kind : ℕ} {b : List ℕ} (answer : TakeAnswer) → goes_on answer ≡ false → Kept kind b (stays l answer out)
  stands answer ends =
      let no = idle answer ends in
      record {
        held = record { head_below = ready.6; used_most = ready.7 };
        turn = record { counter_least = ready.4; counter_most = ready.5; near = not_ahead l.turn.round };
        small = omega (arith, no.0);
        bytes_fit = omega (arith, no.1);
        out_length = refl;
        unmoved = λ _. (refl, refl);
        taken = λ j. rw ends (no.2 j);
        gone = λ g. absurd (never (sym g ∙ ends));
        hands = λ line n e. absurd (never (sym (ap goes_on e) ∙ ends));
      }

  past_in : (n : ℕ) (turn : Turn) → HeldIn size (past size l n turn).held
  past_in n turn = record { head_below = mod-lt (l.held.head + (item_head + n)) (omega (arith, ready.6)); used_most = omega (arith, ready.7) }

  abbrev went : List ℕ → Stepped
  went b = record { step = record { answer = Ok (Data i (length b)); line = past size l (length b) (charged_turn p l.turn (length b)) }; out = onto b out }

  handed : (b : List ℕ) → 1 ≤ length b → length b ≤ p.largest → length b ≤ length out → Kept 0 b (went b)
  handed b some most room =
      let t = l.turn in
      let range : LineInRange p = record { largest_least = ready.0; largest_most = ready.1; quantum_least = ready.2; quantum_most = ready.3 } in
      let c = charge_of p (length b) in
      let counter = counter_in p.quantum t.counter c ready.4 ready.5 (charge_quantum p range (length b) some most) in
      record {
        held = past_in (length b) (charged_turn p t (length b));
        turn = record { counter_least = counter.0; counter_most = counter.1; near = round_near t.round t.counter c };
        small = omega (arith, line, ready.1);
        bytes_fit = room;
        out_length = simp (length-append, length-drop) (omega arith);
        unmoved = λ g. absurd (never g);
        taken = λ j. refl;
        gone = λ _. refl;
        hands = λ j n e. let long : length b ≡ n = cc in (refl, sym long, rw (← long) (take-append_seam b (drop (length b) out)));
      }

  told : {kind : ℕ} (b : List ℕ) (m : Marker) → 1 ≤ m.counter → m.counter ≤ p.quantum
      → (t : Report) → report_of p.quantum l.turn.round l.turn.counter m ≡ t
      → Kept kind b (record { step = told_step size i l (length b) m t; out = out })
  told b m least most None e = record {
    held = past_in (length b) l.turn;
    turn = record { counter_least = ready.4; counter_most = ready.5; near = not_ahead l.turn.round };
    small = omega (arith, line);
    bytes_fit = omega arith;
    out_length = refl;
    unmoved = λ g. absurd (never g);
    taken = λ j. refl;
    gone = λ _. refl;
    hands = λ j n e. absurd (let z : ◌≡◌ {A = ℕ} 0 1 = cc in omega arith);
  }
  told b m least most (Some x) e = record {
    held = past_in (length b) l.turn;
    turn = record { counter_least = least; counter_most = most; near = told_near p.quantum l.turn.round l.turn.counter m x e };
    small = omega (arith, line, told_small p.quantum l.turn.round l.turn.counter m ready.3 ready.5 x e);
    bytes_fit = omega arith;
    out_length = refl;
    unmoved = λ g. absurd (never g);
    taken = λ j. refl;
    gone = λ _. refl;
    hands = λ j n e. absurd (let z : ◌≡◌ {A = ℕ} 0 1 = cc in omega arith);
  }

  pub step_goes : {kind : ℕ} {b : List ℕ} {h : Head} → Shows p kind b h → Kept kind b (step_of p size i l out h)
  step_goes no_head = stands (Ok (Waiting i)) refl
  step_goes not_one = stands (Err refusal.Store) refl
  step_goes (is_packet_lem {b} some most) = go (leb (length b) (length out)) refl
    where
      go : (t : Bool) → leb (length b) (length out) ≡ t → Kept 0 b (cond t (went b) (stays l (Err refusal.ShortOutput) out))
      go true e = handed b some most (leb-true (length b) (length out) e)
      go false e = stands (Err refusal.ShortOutput) refl
  step_goes (is_marker {b = b} {m = m} least most) = told b m least most (report_of p.quantum l.turn.round l.turn.counter m) refl
