-- Arrivals: what each answers, and the state and the store as it leaves them.
use Rattle.std.specs.Prelude.{ℕ, ◌+◌, List, ltb, length, Err}
use Rattle.std.specs.Result.{result_and}
use Rattle.numbers.specs.declared.Refusal.{Refusal}
use Rattle.numbers.specs.declared.Refusal.TheVariants as refusal
use Rattle.numbers.specs.Checks.{Checked, passed, check, settled, checked, in_range}
use Rattle.plan.specs.Limits.{item_head}
use Rattle.plan.specs.Plan.{quantum}
use Rattle.report.specs.Report.{marker_on}
use Rattle.ring.specs.Ring.{room_for, stored}
use Rattle.receiving.specs.declared.Receiver.{Receiver}
use Rattle.receiving.specs.declared.Held.{Held}
use Rattle.receiving.specs.declared.Arrived.{Arrived}
use Rattle.receiving.specs.Receiver.{held_of, with_held, receiver_ok, store_fits, ring_of, with_ring}

-- what an arrival answers with the next state, and the store
pub record Arrival : Type 0 where
  pub arrived : Arrived
  pub store : List ℕ

-- ---- an item to be stored

-- line i's place in its ring
abbrev pub place_of : Receiver → ℕ → Held
place_of r i = held_of r.rings i

-- an item of n bytes, its head included, behind what a line holds
abbrev pub grown : Held → ℕ → Held
grown h n = record { head = h.head; used = h.used + n }

abbrev pub with_item : Receiver → ℕ → ℕ → Receiver
with_item r i n = record { plan = r.plan; rings = with_held r.rings i (grown (place_of r i) n); turns = r.turns }

abbrev pub with_stored : Receiver → ℕ → ℕ → List ℕ → List ℕ → List ℕ
with_stored r i kind b store =
    with_ring r.rings.size store i (stored (ring_of r.rings.size store i) (place_of r i).head (place_of r i).used kind b)

abbrev pub not_stored : Receiver → Refusal → Arrived
not_stored r refusal = record { answer = Err refusal; next = r }

-- once the arrival's checks have been made
unfoldable pub arrival : Checked → Receiver → ℕ → ℕ → List ℕ → List ℕ → Arrival
arrival row r i kind b store =
    settled row
    (record { arrived = record { answer = passed; next = with_item r i (item_head + length b) }; store = with_stored r i kind b store })
    (λ refusal. record { arrived = not_stored r refusal; store = store })

-- ---- the checks

-- 7: too little room; the last check of every arrival
abbrev pub room_check : Receiver → ℕ → List ℕ → Checked
room_check r i b = check (room_for r.rings.size (place_of r i).used (length b)) refusal.NoRoom passed

-- 2, 9 (length only), 3, then what its own kind of item gives, then 7
abbrev pub arrival_checks : Checked → Receiver → ℕ → List ℕ → List ℕ → Checked
arrival_checks own r i b store =
    check (receiver_ok r) refusal.State
    (check (store_fits r store) refusal.Store (check (ltb i r.plan.lines) refusal.Line (result_and own (room_check r i b))))

unfoldable pub arrival_of : Checked → Receiver → ℕ → ℕ → List ℕ → List ℕ → Arrival
arrival_of own r i kind b store = arrival (arrival_checks own r i b store) r i kind b store

-- data: 4
abbrev pub data_check : Receiver → List ℕ → Checked
data_check r b = check (in_range 1 (length b) r.plan.max) refusal.Length passed

abbrev pub data_arrival : Receiver → ℕ → List ℕ → List ℕ → Arrival
data_arrival r i b store = arrival_of (data_check r b) r i 0 b store

-- a marker: 5 and 6
abbrev pub marker_check : Receiver → ℕ → List ℕ → Checked
marker_check r i b = checked (marker_on i (quantum r.plan i) b)

abbrev pub marker_arrival : Receiver → ℕ → List ℕ → List ℕ → Arrival
marker_arrival r i b store = arrival_of (marker_check r i b) r i 1 b store
