-- A marker that shows a position can be one on its line, and reads back there. Assumes nothing.
use Prim.Native.Nat.{ℕ, ◌^◌, ◌≤◌, ◌<◌}
use mathlib.Core.Bool.{true}
use mathlib.Core.Path.{◌≡◌, refl, sym, ap, ◌∙◌}
use native.Mathlib.Omega.{arith}
use Rattle.numbers.proofs.Checks as checks
use Rattle.plan.specs.declared.Plan.{Plan}
use Rattle.plan.specs.Plan.{quantum, plan_ok}
use Rattle.plan.proofs.Laws.{in_range_lem}
use Rattle.marker.specs.declared.Marker.{Marker}
use Rattle.std.specs.Prelude.{Ok}
use Rattle.marker.specs.Marker.{marker_of, judged}
use Rattle.marker.proofs.Laws.{record_written}
use Rattle.theory.specs.Sending.{round_at, counter_at}
use Rattle.report.specs.Report.{on_checks, marker_on}
use Rattle.report.proofs.Laws.{both_good}
use Rattle.bundle.specs.Log.{mark_of}
use Rattle.bundle.proofs.Figures.{counter_range, round_small}

module _ (p : Plan) (good : plan_ok p ≡ true) (i : ℕ) (line : i < p.lines) where
  abbrev q : ℕ
  q = quantum p i

  pub some_quantum : 1 ≤ q
  some_quantum = let range = in_range_lem p good in omega (arith, range.quantum_least i line, range.max_least)

  -- the marker of a position
  abbrev pub mark : ℕ → Marker
  mark m = marker_of i (round_at q m) (counter_at q m)

  pub mark_read : (m : ℕ) → marker_on i q (mark_of p i m) ≡ Ok (mark m)
  unfolding marker_on
  mark_read m =
      let range = in_range_lem p good in
      let c = counter_range q m some_quantum in
      let small : i < 2 ^ 32 = omega (arith, range.few_lines) in
      let most : counter_at q m < 2 ^ 32 = omega (arith, c.1, range.quantum_most i line) in
      ap (judged (on_checks i q)) (record_written (mark m) small (round_small q m) most)
      ∙ sym (both_good i q (mark m) (checks.in_range_lem 1 (counter_at q m) q c.0 c.1) refl)
