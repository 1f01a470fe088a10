-- The edges of the ranges, and numbers of one to five bytes: each by computing. Assumes nothing.
use mathlib.Core.Path.{refl}
use Rattle.numbers.specs.Checks.{all_below}
use Rattle.numbers.specs.Coding.{reading_of, coded, row_bytes}
use Rattle.numbers.specs.Writing.{outcome}
use Rattle.plan.specs.Plan.{plan_ok, store_ok, counters_ok, charge_of}
use Rattle.marker.specs.Marker.{record_read, judge, marker_read, marker_written}
use Rattle.report.specs.Report.{ahead}
use Rattle.sending.specs.Sender.{sender_ok, open_sender, send_checks, send_of}
use Rattle.receiving.specs.Receiver.{first_from, line_at, rings_ok, turns_ok, receiver_ok, open_receiver}
use Rattle.receiving.specs.Arriving.{arrival, arrival_of}
use Rattle.calls.specs.Edges.{Edges}

pub edges : Edges
unfolding open_sender open_receiver plan_ok store_ok all_below marker_written marker_read record_read judge outcome row_bytes reading_of coded sender_ok send_checks send_of counters_ok charge_of arrival_of arrival receiver_ok rings_ok turns_ok line_at first_from ahead
edges = record {
  lines = (refl, refl, refl, refl);
  max = (refl, refl, refl, refl);
  interval = (refl, refl, refl, refl);
  quantum = (refl, refl, refl, refl);
  store = (refl, refl, refl, refl);
  marker_line = (refl, refl, refl, refl);
  marker_counter = (refl, refl, refl, refl, refl, refl, refl, refl);
  counter = (refl, refl, refl, refl);
  length = (refl, refl, refl, refl);
  round = (refl, refl, refl, refl);
  written_as = (refl, refl, refl, refl, refl, refl, refl, refl, refl, refl);
  read_as = (refl, refl, refl, refl, refl, refl, refl, refl, refl, refl);
  not_read = (refl, refl, refl, refl);
}
