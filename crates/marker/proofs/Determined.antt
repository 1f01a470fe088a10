-- Tightness of this crate's public functions. Assumes nothing.
use Rattle.numbers.proofs.Tight.{only, OneAnswer, OneOutcome}
use Rattle.marker.proofs.read_record.Reads as read-record
use Rattle.marker.proofs.read_record.Kinds as read-record-kinds
use Rattle.marker.proofs.write_record.Reads as write-record
use Rattle.marker.proofs.write_record.Kinds as write-record-kinds
use Rattle.marker.proofs.read_marker.Reads as read-marker
use Rattle.marker.proofs.read_marker.Kinds as read-marker-kinds
use Rattle.marker.proofs.write_marker.Reads as write-marker
use Rattle.marker.proofs.write_marker.Kinds as write-marker-kinds

pub read_record_tight : OneAnswer 1 read-record-kinds.ps read-record-kinds.r read-record.Post
read_record_tight κs a z z' e e' p q = only p q

pub write_record_tight : OneOutcome 1 write-record-kinds.ps write-record-kinds.r write-record.Post (λ κs e. e.1.0.now)
write_record_tight κs a z z' e e' p q = (only p.0 q.0, only p.1 q.1)

pub read_marker_tight : OneAnswer 1 read-marker-kinds.ps read-marker-kinds.r read-marker.Post
read_marker_tight κs a z z' e e' p q = only p q

pub write_marker_tight : OneOutcome 1 write-marker-kinds.ps write-marker-kinds.r write-marker.Post (λ κs e. e.1.0.now)
write_marker_tight κs a z z' e e' p q = (only p.0 q.0, only p.1 q.1)
