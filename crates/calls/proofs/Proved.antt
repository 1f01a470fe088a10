-- What each call answers and leaves, as four statements. Assumes nothing.
use mathlib.Core.Path.{refl}
use Rattle.numbers.proofs.Laws.{coded_small, coded_big}
use Rattle.calls.specs.Table.{Table}
use Rattle.calls.specs.Outcomes.{Outcomes}
use Rattle.calls.specs.Frame.{Frame}
use Rattle.calls.proofs.Records as records
use Rattle.calls.proofs.Booth as booth
use Rattle.calls.proofs.Arrivals as arrivals
use Rattle.calls.proofs.Takes as takes
use Rattle.calls.proofs.StageFrame as stage

pub table : Table
table = record {
  writes_number = records.table_writes_number;
  opens_sender = booth.table_opens_sender;
  opens_receiver = booth.table_opens_receiver;
  reads_plan = records.table_reads_plan;
  writes_plan = records.table_writes_plan;
  writes_marker = records.table_writes_marker;
  reads_marker = records.table_reads_marker;
  sends = booth.table_sends;
  asks = booth.table_asks;
  data_arrives = arrivals.table_data_arrives;
  marker_arrives = arrivals.table_marker_arrives;
  takes = takes.table_takes;
  runs = stage.table_runs;
}

pub outcomes : Outcomes
outcomes = record {
  last_byte = λ v. coded_small 32 v;
  more_bytes = λ v big small. coded_big 32 v small big;
  reads_number = records.outcome_reads_number;
  reads_only = records.outcome_reads_only;
  writes_number = records.outcome_writes_number;
  writes_plan = records.outcome_writes_plan;
  row_of = records.outcome_row_of;
  writes_marker = records.outcome_writes_marker;
  asks = records.outcome_asks;
  opens_sender = booth.outcome_opens_sender;
  opens_receiver = booth.outcome_opens_receiver;
  reads_plan = records.outcome_reads_plan;
  reads_marker = records.outcome_reads_marker;
  sends = booth.outcome_sends;
  data_stored = arrivals.outcome_data_stored;
  marker_stored = arrivals.outcome_marker_stored;
  words = λ line n. (refl, refl, refl);
  cannot_be = takes.outcome_cannot_be;
  takes = takes.outcome_takes;
}

pub frame : Frame
frame = record {
  writes_number = records.frame_writes_number;
  writes_plan = records.frame_writes_plan;
  writes_marker = records.frame_writes_marker;
  asks = records.frame_asks;
  reads_plan = records.frame_reads_plan;
  reads_marker = records.frame_reads_marker;
  opens_sender = booth.frame_opens_sender;
  opens_receiver = booth.frame_opens_receiver;
  sends_refused = booth.frame_sends_refused;
  sends_plan = booth.frame_sends_plan;
  sends_others = booth.frame_sends_others;
  data_arrives = arrivals.frame_data_arrives;
  marker_arrives = arrivals.frame_marker_arrives;
  takes = stage.frame_takes;
  runs = stage.frame_runs;
}
