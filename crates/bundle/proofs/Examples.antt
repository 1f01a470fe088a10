-- A small history, which computes: two lines of quantum 64, the second packet lost on its way, the fifth refused for room. Assumes nothing.
use mathlib.Core.Path.{◌≡◌, refl}
use Prim.Native.Nat.{ℕ}
use mathlib.Core.List.{List, [], ◌∷◌}
use lib.ListN.{length, replicate}
use Rattle.numbers.specs.Checks.{all_below}
use Rattle.numbers.specs.Coding.{reading_of, coded, row_bytes}
use Rattle.numbers.specs.Writing.{outcome}
use Rattle.plan.specs.declared.Plan.{Plan}
use Rattle.plan.specs.Plan.{plan_ok, counters_ok, store_ok, charge_of}
use Rattle.marker.specs.Marker.{record_read, judge}
use Rattle.theory.specs.Sending.{best, better}
use Rattle.theory.specs.System as T
use Rattle.report.specs.Report.{marker_on, ahead, report_of}
use Rattle.sending.specs.Sender.{sender_ok, open_sender, next_sender, send_checks, send_of, marker_from}
use Rattle.ring.specs.Ring.{from_ring, into_ring, held, stored, front_of}
use Rattle.receiving.specs.Receiver.{first_from, line_at, rings_ok, turns_ok, receiver_ok, open_receiver, ring_of, with_ring}
use Rattle.receiving.specs.Arriving.{arrival, arrival_of}
use Rattle.receiving.specs.Taking.{head_on, item_on, round_now, take_of}
use Rattle.bundle.specs.Worlds.{World, Call, sends, asks, arrives, loses, takes, start, sent_in, handed_in, reported_in}
use Rattle.bundle.specs.Log.{log}

abbrev small : Plan
small = record { lines = 2; max = 64; interval = 1; quanta = 64 ∷ 64 ∷ replicate 14 0 }

abbrev opened : World
opened = start small 67 (replicate 134 9)

-- packet n: each of its bytes is n
abbrev one : List ℕ
one = replicate 61 1

abbrev two : List ℕ
two = replicate 3 2

abbrev three : List ℕ
three = replicate 64 3

abbrev four : List ℕ
four = replicate 5 4

abbrev five : List ℕ
five = replicate 59 5

abbrev room : List ℕ
room = replicate 64 0

-- packets 1 and 2 go on line 0, 3 on line 1, 4 and 5 on line 0 again; the first take has no room, and the third finds the marker
-- behind packet 2
abbrev history : List Call
history =
    sends one ∷ sends two ∷ arrives 0 ∷ loses 0 ∷ takes [] ∷ takes room ∷ asks 0 room ∷ arrives 0 ∷ takes room ∷ sends three ∷ arrives 1
    ∷ sends [] ∷ sends four ∷ arrives 0 ∷ sends five ∷ arrives 0 ∷ takes room ∷ takes room ∷ []

pub example :
    (sent_in opened history ≡ one ∷ two ∷ three ∷ four ∷ five ∷ [])
    × (handed_in opened history ≡ one ∷ three ∷ four ∷ [])
    × (reported_in 0 opened history ≡ length two)
    × (reported_in 1 opened history ≡ 0)
    × (log opened history
    ≡ T.send one ∷ T.send two ∷ T.arrive 0 ∷ T.lose 0 ∷ T.take ∷ T.ask 0 ∷ T.arrive 0 ∷ T.take ∷ T.send three ∷ T.arrive 1
    ∷ T.send four ∷ T.arrive 0 ∷ T.send five ∷ T.lose 0 ∷ T.take ∷ T.take ∷ [])
unfolding open_sender send_of send_checks sender_ok counters_ok plan_ok all_below next_sender charge_of marker_from outcome row_bytes coded open_receiver
    store_ok arrival arrival_of receiver_ok rings_ok turns_ok line_at first_from ahead ring_of with_ring stored into_ring held from_ring front_of
    marker_on judge record_read reading_of report_of take_of head_on item_on round_now best better
example = (refl, refl, refl, refl, refl)
