-- The specification's examples, computed. Assumes nothing.
use mathlib.Core.Path.{refl}
use Rattle.numbers.specs.Checks.{all_below}
use Rattle.numbers.specs.Coding.{reading_of, coded, row_bytes}
use Rattle.numbers.specs.Writing.{outcome}
use Rattle.plan.specs.Plan.{plan_ok, counters_ok, store_ok, charge_of}
use Rattle.marker.specs.Marker.{record_read, judge}
use Rattle.theory.specs.Sending.{best, better}
use Rattle.report.specs.Report.{marker_on, ahead, report_of}
use Rattle.sending.specs.Sender.{sender_ok, open_sender, next_sender, send_checks, send_of, marker_from}
use Rattle.ring.specs.Ring.{from_ring, into_ring, held, stored, front_of}
use Rattle.receiving.specs.Receiver.{first_from, line_at, rings_ok, turns_ok, receiver_ok, open_receiver, ring_of, with_ring}
use Rattle.receiving.specs.Arriving.{arrival, arrival_of}
use Rattle.receiving.specs.Taking.{head_on, item_on, round_now, take_of}
use Rattle.paper.specs.Examples.{Examples}

pub examples : Examples
unfolding open_sender send_of send_checks sender_ok counters_ok plan_ok all_below next_sender charge_of marker_from outcome row_bytes coded open_receiver
    store_ok arrival arrival_of receiver_ok rings_ok turns_ok line_at first_from ahead ring_of with_ring stored into_ring held from_ring front_of
    marker_on judge record_read reading_of report_of take_of head_on item_on round_now best better
examples = record {
  choices = refl;
  markers = (refl, refl);
  packet_lost = (refl, refl);
  one_byte_and_two = (refl, refl, refl);
  largest_number = (refl, refl);
  moves_on = (refl, refl);
  wraps = refl;
  half_way = (refl, refl);
  same_round = (refl, refl);
}
