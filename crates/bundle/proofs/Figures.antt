-- A line's figures at a position: how they move with a packet, and what a marker that shows a position tells a line at another. Assumes nothing.
use Prim.Native.Nat.{ℕ, ◌+◌, ◌-◌, ◌*◌, ◌/◌, ◌%◌, ◌≤◌, ◌<◌}
use mathlib.Core.Path.{◌≡◌, ap, sym, ◌∙◌}
use native.Mathlib.Nat.{add-mul, div-add-mod', mod-lt}
use native.Mathlib.Decide.{ℕ_discrete}
use native.Mathlib.Omega.{arith}
use Rattle.numbers.specs.Wrap.{wrap, half}
use Rattle.plan.specs.Plan.{counter_after, round_after}
use Rattle.marker.specs.Marker.{marker_of}
use Rattle.theory.specs.Sending.{round_at, counter_at}
use Rattle.theory.proofs.Choose.{div_mono}
use Rattle.theory.proofs.Counting.{round_after_lem, counter_after_lem}
use Rattle.std.specs.Prelude.{Some}
use Rattle.report.specs.Report.{ahead, missing, report_of}
use Rattle.report.proofs.Laws.{same_round, later_round}

pub counter_range : (q x : ℕ) → 1 ≤ q → (1 ≤ counter_at q x) × (counter_at q x ≤ q)
counter_range q x some = (omega (arith, mod-lt x some), omega arith)

pub round_small : (q x : ℕ) → round_at q x < wrap
round_small q x = omega arith

-- a packet charged y
pub round_next : (q x y : ℕ) → 1 ≤ q → y ≤ q → round_after (round_at q x) (counter_at q x) y ≡ round_at q (x + y)
round_next = round_after_lem

pub counter_next : (q x y : ℕ) → 1 ≤ q → y ≤ q → counter_after q (counter_at q x) y ≡ counter_at q (x + y)
counter_next = counter_after_lem

-- stored rounds of rounds less than 2^32 apart
pub ahead_rounds : (a b : ℕ) → b ≤ a → a < b + wrap → ahead (a % wrap) (b % wrap) ≡ a - b
unfolding ahead
ahead_rounds a b le far = omega arith

-- a marker of position m on a line at x
module _ (q x m i : ℕ) (some : 1 ≤ q) (le : x ≤ m) (near : m / q < x / q + half) where
  -- so many rounds lie between
  abbrev between : ℕ
  between = m / q - x / q

  between_is : ahead (round_at q m) (round_at q x) ≡ between
  between_is = ahead_rounds (m / q + 1) (x / q + 1) (omega (arith, div_mono q x m le)) (omega arith) ∙ omega arith

  -- within one round the counter falls as the position rises
  not_behind : between ≡ 0 → counter_at q m ≤ counter_at q x
  not_behind none =
      let same : x / q ≡ m / q = omega (arith, div_mono q x m le) in
      omega (arith, div-add-mod' x q, div-add-mod' m q, mod-lt x some, mod-lt m some, ap (λ (k : ℕ). k * q) same)

  missing_is : between * q + counter_at q x - counter_at q m ≡ m - x
  missing_is =
      let whole : x / q + between ≡ m / q = omega (arith, div_mono q x m le) in
      omega (arith, div-add-mod' x q, div-add-mod' m q, mod-lt x some, mod-lt m some, add-mul (x / q) between q, ap (λ (k : ℕ). k * q) whole)

  pub report_at : report_of q (round_at q x) (counter_at q x) (marker_of i (round_at q m) (counter_at q m)) ≡ Some (m - x)
  report_at = told (ℕ_discrete between 0)
    where
      close : ahead (round_at q m) (round_at q x) < half
      close = rw between_is (omega arith)

      sum : missing q (round_at q x) (counter_at q x) (marker_of i (round_at q m) (counter_at q m)) ≡ m - x
      sum = rw between_is missing_is

      told : Dec (between ≡ 0) → report_of q (round_at q x) (counter_at q x) (marker_of i (round_at q m) (counter_at q m)) ≡ Some (m - x)
      told (yes none) = sym (same_round q _ _ _ close (between_is ∙ none) (not_behind none)) ∙ ap Some sum
      told (no some-rounds) = sym (later_round q _ _ _ close (λ z. some-rounds (sym between_is ∙ z))) ∙ ap Some sum
