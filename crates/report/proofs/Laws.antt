-- The laws of a marker on a line and of its report, test by test. Callers cite these and not the definitions' text. Assumes nothing.
use Rattle.std.proofs.Common.{◌≡◌, ℕ, ◌<◌, ◌≤◌, Bool, true, false, eqb, ltb, List, sym, refl, ap, ◌∙◌, arith, ltb-false, ltb-true, le-ltb, lt-ltb, eq-eqb, ne_eqb, eqb-true, le-leb}
use borrow.Author.Tests.{lt-leb}
use Rattle.numbers.specs.declared.Refusal.TheVariants as refusal
use Rattle.numbers.specs.Checks.{passed, check, in_range}
use Rattle.numbers.specs.Wrap.{half}
use Rattle.numbers.proofs.Checks.{in_range_lem as is_in_range, check_passed, from_range}
use Rattle.marker.specs.declared.Marker.{Marker}
use Rattle.std.specs.Prelude.{Ok, Err, Some, None}
use Rattle.marker.specs.Marker.{MarkerRead, record_read, judge, judged}
use Rattle.marker.proofs.Laws.{whole_not_refused, record_number, judge_passed}
use Rattle.report.specs.Report.{on_checks, marker_on, ahead, missing, Report, report_of}
use Rattle.numbers.specs.Refusals.{number_of}

-- ---- a marker on a line

module _ (line q : ℕ) (m : Marker) where
  pub both_good : in_range 1 m.counter q ≡ true → m.line ≡ line → Ok m ≡ judge (on_checks line q m) m
  unfolding judge
  both_good counter h = rw (counter, eq-eqb m.line line h) refl

  -- what passes has a counter in range and the line's number
  pub holds : number_of (on_checks line q m) ≡ 0 → (1 ≤ m.counter) × (m.counter ≤ q) × (m.line ≡ line)
  holds e =
      let counter = check_passed (in_range 1 m.counter q) _ _ e in
      let own = check_passed (eqb m.line line) _ passed counter.1 in
      let c = from_range 1 m.counter q counter.0 in
      (c.0, c.1, eqb-true m.line line own.0)

-- a marker that is read on a line was read, and holds there
pub on_line : (line q : ℕ) (s : List ℕ) (m : Marker) → marker_on line q s ≡ Ok m
    → (record_read s ≡ Ok m) × (1 ≤ m.counter) × (m.counter ≤ q) × (m.line ≡ line)
unfolding marker_on
on_line line q s m e = go (record_read s) refl e
  where
    go : (r : MarkerRead) → record_read s ≡ r → judged (on_checks line q) r ≡ Ok m
        → (record_read s ≡ Ok m) × (1 ≤ m.counter) × (m.counter ≤ q) × (m.line ≡ line)
    go (Err k) h e = absurd (whole_not_refused e)
    go (Ok n) h e =
        let j = judge_passed (on_checks line q n) n m e in
        let p = holds line q n (ap number_of j.0) in
        rw (← j.1) (h, p.0, p.1, p.2)

-- and one that is read, and holds there, is read on it
pub read_on_line : (line q : ℕ) (s : List ℕ) (m : Marker) → record_read s ≡ Ok m → 1 ≤ m.counter → m.counter ≤ q → m.line ≡ line
    → marker_on line q s ≡ Ok m
unfolding marker_on
read_on_line line q s m e least most own = rw e (sym (both_good line q m (is_in_range 1 m.counter q least most) own))

-- one that is refused there is refused by 6 at most
pub on_number_lem : (i q : ℕ) (b : List ℕ) → number_of (marker_on i q b) ≤ 6
unfolding marker_on judge
on_number_lem i q b = go (record_read b) (record_number b)
  where
    checked : (m : Marker) (s t : Bool) → number_of (judge (check s refusal.NoMarker (check t refusal.OtherLine passed)) m) ≤ 6
    checked m true true = omega arith
    checked m true false = omega arith
    checked m false t = omega arith

    go : (r : MarkerRead) → number_of r ≤ 5 → number_of (judged (on_checks i q) r) ≤ 6
    go (Ok m) h = checked m (in_range 1 m.counter q) (eqb m.line i)
    go (Err k) h = omega arith

-- ---- the report

module _ (q round counter : ℕ) (m : Marker) where
  pub far_behind : half ≤ ahead m.round round → None ≡ report_of q round counter m
  unfolding report_of
  far_behind h = simp (le-leb half (ahead m.round round) h)

  module _ (near : ahead m.round round < half) where
    pub counter_behind : ahead m.round round ≡ 0 → counter < m.counter → None ≡ report_of q round counter m
    unfolding report_of
    counter_behind z h = simp (lt-leb half (ahead m.round round) near, eq-eqb (ahead m.round round) 0 z, lt-ltb counter m.counter h)

    pub same_round : ahead m.round round ≡ 0 → m.counter ≤ counter → Some (missing q round counter m) ≡ report_of q round counter m
    unfolding report_of
    same_round z h = simp (lt-leb half (ahead m.round round) near, eq-eqb (ahead m.round round) 0 z, le-ltb counter m.counter h)

    pub later_round : (ahead m.round round ≡ 0 → ⊥) → Some (missing q round counter m) ≡ report_of q round counter m
    unfolding report_of
    later_round z = simp (lt-leb half (ahead m.round round) near, ne_eqb (ahead m.round round) 0 z)

  -- a marker that reports is less than 2^31 rounds ahead
  pub told_near : (x : ℕ) → report_of q round counter m ≡ Some x → ahead m.round round < half
  told_near x e = go (ltb (ahead m.round round) half) refl
    where
      go : (t : Bool) → ltb (ahead m.round round) half ≡ t → ahead m.round round < half
      go true p = ltb-true _ _ p
      go false p = absurd (let z : ◌≡◌ {A = Report} None (Some x) = far_behind (ltb-false _ _ p) ∙ e in let y : ◌≡◌ {A = ℕ} 0 1 = cc in omega arith)
