-- The laws of arrivals: an item that is stored once its ring has come back, and each arrival check by check. Assumes nothing.
use mathlib.Core.Path.{◌≡◌, refl, ap, sym, ◌∙◌}
use Prim.Native.Nat.{ℕ, ◌+◌, ◌-◌, ◌*◌, ◌≤◌, ◌<◌}
use native.Mathlib.Omega.{arith}
use mathlib.Core.Bool.{Bool, true, false, cond}
use mathlib.Core.List.{List}
use lib.Dec.{ltb}
use lib.ListN.{length, set}
use lib.Seq.{set-get_or}
use borrow.Author.Tests.{leb-true, le-leb, lt-ltb}
use Rattle.numbers.specs.Checks.{in_range, Checked, passed, checked}
use Rattle.numbers.proofs.Checks.{check_passed, from_range, by_checks, no_zero, own_passed}
use Rattle.plan.specs.Limits.{most_store, item_head}
use Rattle.plan.specs.Plan.{quantum}
use Rattle.marker.specs.declared.Marker.{Marker}
use Rattle.marker.specs.Marker.{MarkerRead}
use Rattle.std.specs.Prelude.{Ok, Err}
use Rattle.report.specs.Report.{marker_on}
use Rattle.ring.specs.Ring.{room_for, stored as filled_ring}
use Rattle.receiving.specs.declared.Receiver.{Receiver}
use Rattle.receiving.specs.declared.Arrived.{Arrived}
use Rattle.receiving.specs.Receiver.{receiver_ok, store_fits, ring_of, with_ring}
use Rattle.receiving.specs.Arriving.{Arrival, place_of, not_stored, arrival, arrival_checks, room_check, arrival_of, data_check, data_arrival, marker_check, marker_arrival}
use Rattle.receiving.proofs.Stores.{Place, lent, back, lent_is, back_is, back_same}
use Rattle.numbers.specs.Refusals.{number_of}
use Rattle.numbers.specs.declared.Refusal.TheVariants as refusal

-- ---- an item to be stored, once its ring has come back

module _ (r : Receiver) (i kind : ℕ) (b store : List ℕ) (here : Place r store i) (start : ℕ) (starts : start ≡ i * r.rings.size) where
  abbrev answer : Arrival
  answer = arrival (room_check r i b) r i kind b store

  abbrev size : ℕ
  size = r.rings.size

  abbrev used : ℕ
  used = (place_of r i).used

  abbrev before : List ℕ
  before = lent size store start

  abbrev filled : List ℕ → List ℕ
  filled ring = filled_ring ring (place_of r i).head used kind b

  module _ (ok : Bool) (ring : List ℕ) (told : (ok ≡ room_for (length before) used (length b)) × (ring ≡ cond ok (filled before) before)) where
    room_is : (t : Bool) → ok ≡ t → room_for size used (length b) ≡ t
    room_is t e =
        let long : length before ≡ size = ap length (lent_is size store start i starts) ∙ here.ring_size in
        ap (λ (n : ℕ). room_for n used (length b)) (sym long) ∙ sym told.0 ∙ e

    ring_is : (t : Bool) → ok ≡ t → ring ≡ cond t (filled before) before
    ring_is t e = told.1 ∙ ap (λ (t : Bool). cond t (filled before) before) e

    pub no_room : ok ≡ false → (not_stored r refusal.NoRoom ≡ answer.arrived) × (back size store start ring ≡ answer.store)
    unfolding arrival
    no_room e =
        let none = room_is false e in
        (rw none refl, ap (back size store start) (ring_is false e) ∙ back_same size store start i starts ∙ rw none refl)

    -- an item that has room ends within its ring
    pub item_ends : ok ≡ true → used + item_head + length b ≤ most_store
    item_ends e = omega (arith, here.size_most, leb-true (item_head + length b) (size - used) (room_is true e))

    -- line i now holds n bytes
    abbrev pub holding : ℕ → Arrived
    holding n = record {
      answer = passed;
      next = record { plan = r.plan; rings = record { size = size; heads = r.rings.heads; used = set r.rings.used i n }; turns = r.turns };
    }

    pub is_stored : ok ≡ true → (holding (used + item_head + length b) ≡ answer.arrived) × (back size store start ring ≡ answer.store)
    unfolding arrival
    is_stored e =
        let some = room_is true e in
        let sum : used + item_head + length b ≡ used + (item_head + length b) = omega arith in
        let same : ring ≡ filled (ring_of size store i) = ring_is true e ∙ ap filled (lent_is size store start i starts) in
        (ap holding sum ∙ rw (some, set-get_or r.rings.heads i 0) refl, back_is size store start i starts ring ∙ ap (with_ring size store i) same ∙ rw some refl)

-- ---- an arrival that passes its checks, up to that of room

module _ (r : Receiver) (i : ℕ) (b store : List ℕ) (good : receiver_ok r ≡ true) (fits : store_fits r store ≡ true) (line : i < r.plan.lines) where
  -- whatever its own kind of item gives
  pub stored : (own : Checked) (kind : ℕ) → own ≡ passed → arrival (room_check r i b) r i kind b store ≡ arrival_of own r i kind b store
  unfolding arrival_of
  stored own kind is = rw (good, fits, lt-ltb i r.plan.lines line, is) refl

  pub data_stored : 1 ≤ length b → length b ≤ r.plan.max → arrival (room_check r i b) r i 0 b store ≡ data_arrival r i b store
  data_stored some most = stored (data_check r b) 0 (simp (le-leb 1 (length b) some, le-leb (length b) r.plan.max most))

  pub marker_stored : (m : Marker) → marker_on i (quantum r.plan i) b ≡ Ok m → arrival (room_check r i b) r i 1 b store ≡ marker_arrival r i b store
  marker_stored m e = stored (marker_check r i b) 1 (ap checked e)

-- ---- an arrival that is accepted has passed the checks of its own kind

module _ (r : Receiver) (i kind : ℕ) (b store : List ℕ) where
  own_zero : (own : Checked) → number_of (arrival_of own r i kind b store).arrived.answer ≡ 0 → number_of own ≡ 0
  unfolding arrival_of arrival
  own_zero own =
      by_checks (λ (a : Arrival). number_of a.arrived.answer ≡ 0 → number_of own ≡ 0) (arrival_checks own r i b store)
      (λ passes z.
      let state = check_passed (receiver_ok r) _ _ (ap number_of passes) in
      let long = check_passed (store_fits r store) _ _ state.1 in
      let line = check_passed (ltb i r.plan.lines) _ _ long.1 in
      (own_passed own (room_check r i b) line.1).0)
      (λ refusal fails z. absurd (no_zero refusal z))

pub data_in_range : (r : Receiver) (i : ℕ) (b store : List ℕ) → number_of (data_arrival r i b store).arrived.answer ≡ 0 → (1 ≤ length b) × (length b ≤ r.plan.max)
data_in_range r i b store e =
    from_range 1 (length b) r.plan.max (check_passed (in_range 1 (length b) r.plan.max) _ _ (own_zero r i 0 b store (data_check r b) e)).0

pub marker_whole : (r : Receiver) (i : ℕ) (b store : List ℕ) → number_of (marker_arrival r i b store).arrived.answer ≡ 0
    → (m : Marker) × (marker_on i (quantum r.plan i) b ≡ Ok m)
marker_whole r i b store e = go (marker_on i (quantum r.plan i) b) refl (own_zero r i 1 b store (marker_check r i b) e)
  where
    go : (t : MarkerRead) → marker_on i (quantum r.plan i) b ≡ t → number_of (checked t) ≡ 0 → (m : Marker) × (marker_on i (quantum r.plan i) b ≡ Ok m)
    go (Ok m) is z = (m, is)
    go (Err k) is z = absurd (no_zero k z)
