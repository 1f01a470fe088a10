-- The laws of a take, test by test: what stands at a line's head and what the line's step is, then the whole state. Assumes nothing.
use mathlib.Core.Path.{◌≡◌, refl, ap, ◌∙◌}
use Prim.Native.Nat.{ℕ, ◌+◌, ◌-◌, ◌*◌, ◌%◌, ◌^◌, ◌≤◌, ◌<◌}
use native.Mathlib.Omega.{arith}
use mathlib.Core.Bool.{true, false}
use mathlib.Core.List.{List}
use lib.ListN.{length}
use borrow.Author.Tests.{lt-ltb, le-ltb, le-leb, lt-leb, eq-eqb, ne_eqb}
use Rattle.std.specs.Prelude.{Ok, Err, Some}
use Rattle.numbers.proofs.Checks.{in_range_lem as is_in_range}
use Rattle.plan.specs.declared.LinePlan.{LinePlan}
use Rattle.plan.specs.Limits.{item_head}
use Rattle.plan.specs.Plan.{line_plan, charge_of}
use Rattle.plan.proofs.Laws.{line_in_range}
use Rattle.marker.specs.Marker.{MarkerRead}
use Rattle.marker.proofs.Laws.{fifteen_bytes}
use Rattle.report.specs.Report.{marker_on, ahead}
use Rattle.report.proofs.Laws.{on_line}
use Rattle.theory.specs.Sending.{best}
use Rattle.ring.specs.Ring.{held, front_of, in_front}
use Rattle.ring.proofs.Laws.{held_length, in_front_lem, front_fits}
use Rattle.receiving.specs.declared.Held.{Held}
use Rattle.receiving.specs.declared.Turn.{Turn}
use Rattle.receiving.specs.declared.Line.{Line}
use Rattle.receiving.specs.declared.Step.{Step}
use Rattle.receiving.specs.declared.Receiver.{Receiver}
use Rattle.receiving.specs.Receiver.{held_of, line_of, line_at, current_line, receiver_ok, store_fits, ring_of}
use Rattle.receiving.specs.Taking.{nothing, packet, no_item, data_head, marker_head, item_on, head_on, Stepped, charged_turn, step_of, line_step, round_now, with_line, TakeOutcome, not_taken, taken, take_at, take_of}
use Rattle.receiving.specs.Ready.{Ready}
use Rattle.receiving.proofs.Laws.{valid}
use Rattle.receiving.proofs.Stores.{few_rings, place}
use Rattle.numbers.specs.declared.Refusal.{Refusal}
use Rattle.numbers.specs.declared.Refusal.TheVariants as refusal

-- ---- what stands at the head

-- bytes of kind 0
pub is_data : (p : LinePlan) (b : List ℕ) (n : ℕ) → length b ≡ n → 1 ≤ n → n ≤ p.largest → packet b ≡ data_head p b
is_data p b n long some most = simp (is_in_range 1 (length b) p.largest (omega arith) (omega arith))

-- no marker is longer than fifteen bytes
pub over_long : (i q : ℕ) (b : List ℕ) (n : ℕ) → 15 < length b → marker_head n (marker_on i q b) ≡ no_item
over_long i q b n long = go (marker_on i q b) refl
  where
    go : (m : MarkerRead) → marker_on i q b ≡ m → marker_head n m ≡ no_item
    go (Err refusal) e = refl
    go (Ok m) e = absurd (omega (arith, long, (fifteen_bytes b m (on_line i q b m e).0).0))

-- bytes of any kind
module _ (p : LinePlan) (i kind : ℕ) (b : List ℕ) where
  pub data_item : kind ≡ 0 → data_head p b ≡ item_on p i kind b
  unfolding item_on
  data_item e = simp (eq-eqb kind 0 e)

  module _ (no-data : kind ≡ 0 → ⊥) where
    pub marker_item : kind ≡ 1 → marker_head (length b) (marker_on i p.quantum b) ≡ item_on p i kind b
    unfolding item_on
    marker_item e = simp (ne_eqb kind 0 no-data, eq-eqb kind 1 e)

-- the front of a queue
module _ (p : LinePlan) (i : ℕ) (h : Held) (ring : List ℕ) where
  pub empty_queue : h.used ≡ 0 → nothing ≡ head_on p i h ring
  unfolding head_on
  empty_queue e = simp (eq-eqb h.used 0 e)

  module _ (some : h.used ≡ 0 → ⊥) where
    pub item_front : (kind n : ℕ) → front_of (held ring h.head h.used) ≡ Some (kind, n) → h.used ≤ length ring
        → item_on p i kind (in_front ring h.head n) ≡ head_on p i h ring
    unfolding head_on
    item_front kind n e fits =
        let long = front_fits (held ring h.head h.used) e in
        let all : length (held ring h.head h.used) ≡ h.used = held_length ring h.head h.used fits in
        rw (in_front_lem ring h.head h.used n (omega arith) fits) (simp (ne_eqb h.used 0 some, e))

-- the item in front is within what is held
pub item_fits : (h : Held) (ring : List ℕ) (kind n : ℕ) → front_of (held ring h.head h.used) ≡ Some (kind, n) → h.used ≤ length ring
    → item_head + n ≤ h.used
item_fits h ring kind n e fits = omega (arith, front_fits (held ring h.head h.used) e, held_length ring h.head h.used fits)

-- ---- what a take makes of it

-- the counter has run out, or not
module _ (p : LinePlan) (t : Turn) (n c : ℕ) (charge : c ≡ charge_of p n) where
  pub topped_up : (round : ℕ) → round ≡ (t.round + 1) % 2 ^ 32 → t.counter ≤ c
      → record { round = round; counter = t.counter + p.quantum - c } ≡ charged_turn p t n
  topped_up round risen h = rw (risen, charge) (simp (le-leb t.counter (charge_of p n) (rw (← charge) h)))

  pub charged : c < t.counter → record { round = t.round; counter = t.counter - c } ≡ charged_turn p t n
  charged h = rw charge (simp (lt-leb t.counter (charge_of p n) (rw (← charge) h)))

-- ---- the current round

module _ (lines : ℕ) (rounds : ℕ → ℕ) (round : ℕ) where
  pub still_at : line_at lines rounds round < lines → round ≡ round_now lines rounds round
  unfolding round_now
  still_at h = simp (lt-ltb (line_at lines rounds round) lines h)

  pub moved_on_lem : lines ≤ line_at lines rounds round → rounds (best (λ j. ahead (rounds j) round) lines) ≡ round_now lines rounds round
  unfolding round_now
  moved_on_lem h = simp (le-ltb (line_at lines rounds round) lines h)

-- ---- a take, check by check

module _ (r : Receiver) (store out : List ℕ) where
  abbrev Refuses : Refusal → Type 0
  Refuses refusal = (not_taken r refusal ≡ (take_of r store out).result) × (out ≡ (take_of r store out).out)

  pub state_refused : receiver_ok r ≡ false → Refuses refusal.State
  unfolding take_of
  state_refused e = (simp e, simp e)

  module _ (good : receiver_ok r ≡ true) where
    pub store_refused : (length store ≡ r.plan.lines * r.rings.size → ⊥) → Refuses refusal.Store
    unfolding take_of
    store_refused h = let e = ne_eqb (length store) (r.plan.lines * r.rings.size) h in (simp (good, e), simp (good, e))

    pub line_takes : store_fits r store ≡ true → take_at r (current_line r) store out ≡ take_of r store out
    unfolding take_of
    line_takes e = simp (good, e)

-- what the steps of a take ask holds of every line of a valid state
pub line_ready : (r : Receiver) → receiver_ok r ≡ true → (i : ℕ) → i < r.plan.lines → Ready (line_plan r.plan i) r.rings.size (line_of r i)
line_ready r good i line =
    let v = valid r good in
    let range = line_in_range r.plan v.plan i line in
    let held = v.held i line in
    let turn = v.turn i line in (
      range.largest_least,
      range.largest_most,
      range.quantum_least,
      range.quantum_most,
      turn.counter_least,
      turn.counter_most,
      held.head_below,
      held.used_most,
      (few_rings r good).1,
    )

-- the step of line i of a state: its ring has the state's size, where the store fits
abbrev pub step_at : Receiver → ℕ → List ℕ → List ℕ → Stepped
step_at r i store out =
    let p = line_plan r.plan i in
    step_of p r.rings.size i (line_of r i) out (head_on p i (held_of r.rings i) (ring_of r.rings.size store i))

pub step_taken : (r : Receiver) (i : ℕ) (store out : List ℕ) → length (ring_of r.rings.size store i) ≡ r.rings.size
    → take_at r i store out ≡ taken r i (step_at r i store out)
step_taken r i store out long =
    let p = line_plan r.plan i in
    ap (λ (size : ℕ). taken r i (step_of p size i (line_of r i) out (head_on p i (held_of r.rings i) (ring_of r.rings.size store i)))) long

-- a take of a valid state whose store fits: i is its current line, p the line's plan, l its figures, and the ring its ring
module _ (r : Receiver) (store out : List ℕ) (good : receiver_ok r ≡ true) (fits : store_fits r store ≡ true) (i : ℕ) (current : i ≡ current_line r)
    (p : LinePlan) (planned : p ≡ line_plan r.plan i) (l : Line) (figures : l ≡ line_of r i)
    (ring : List ℕ) (own : ring ≡ ring_of r.rings.size store i) where
  pub current_line_lem : i < r.plan.lines
  current_line_lem = rw current (valid r good).current

  pub ready : Ready p (length ring) l
  ready = rw (planned, figures, own, (place r store i good fits current_line_lem).ring_size) (line_ready r good i current_line_lem)

  line_taken : taken r i (line_step p i l ring out) ≡ take_of r store out
  line_taken = rw (planned, figures, own) (ap (λ (j : ℕ). take_at r j store out) current ∙ line_takes r store out good fits)

  pub took : (s : Step) (new : List ℕ) → s ≡ (line_step p i l ring out).step → new ≡ (line_step p i l ring out).out
      → (after : Receiver) → after ≡ with_line r i s.line
      → (record { answer = s.answer; next = after } ≡ (take_of r store out).result) × (new ≡ (take_of r store out).out)
  took s new step wrote after stored = (
    ap (λ (x : Receiver). record { answer = s.answer; next = x }) stored
        ∙ ap (λ (x : Step). record { answer = x.answer; next = with_line r i x.line }) step
        ∙ ap (λ (t : TakeOutcome). t.result) line_taken,
    wrote ∙ ap (λ (t : TakeOutcome). t.out) line_taken,
  )
