-- Tightness of this crate's public functions. Assumes nothing.
use Rattle.numbers.proofs.Tight.{only, OneAnswer, OneOutcome}
use Rattle.receiver.proofs.line_at.Reads as line_at_lem
use Rattle.receiver.proofs.line_at.Kinds as line-at-kinds
use Rattle.receiver.proofs.is_valid.Reads as is_valid
use Rattle.receiver.proofs.is_valid.Kinds as is-valid-kinds
use Rattle.receiver.proofs.closed.Reads as closing
use Rattle.receiver.proofs.closed.Kinds as closing-kinds
use Rattle.receiver.proofs.open.Reads as opening
use Rattle.receiver.proofs.open.Kinds as opening-kinds
use Rattle.receiver.proofs.rings_bytes.Reads as rings-bytes
use Rattle.receiver.proofs.rings_bytes.Kinds as rings-bytes-kinds
use Rattle.receiver.proofs.lent.Reads as lent
use Rattle.receiver.proofs.lent.Kinds as lent-kinds
use Rattle.receiver.proofs.data_arrives.Reads as data_arrives
use Rattle.receiver.proofs.data_arrives.Kinds as data-arrives-kinds
use Rattle.receiver.proofs.marker_arrives.Reads as marker_arrives
use Rattle.receiver.proofs.marker_arrives.Kinds as marker-arrives-kinds

pub line_at_tight : OneAnswer 0 line-at-kinds.ps line-at-kinds.r line_at_lem.Post
line_at_tight κs a z z' e e' p q = only p q

pub is_valid_tight : OneAnswer 0 is-valid-kinds.ps is-valid-kinds.r is_valid.Post
is_valid_tight κs a z z' e e' p q = only p q

pub closed_tight : OneAnswer 0 closing-kinds.ps closing-kinds.r closing.Post
closed_tight κs a z z' e e' p q = only p q

pub open_tight : OneAnswer 0 opening-kinds.ps opening-kinds.r opening.Post
open_tight κs a z z' e e' p q = only p q

pub rings_bytes_tight : OneAnswer 0 rings-bytes-kinds.ps rings-bytes-kinds.r rings-bytes.Post
rings_bytes_tight κs a z z' e e' p q = only p q

pub lent_tight : OneAnswer 0 lent-kinds.ps lent-kinds.r lent.Post
lent_tight κs a z z' e e' p q = only p q

pub data_arrives_tight : OneOutcome 2 data-arrives-kinds.ps data-arrives-kinds.r data_arrives.Post (λ κs e. e.1.1.1.0.now)
data_arrives_tight κs a z z' e e' p q = (only p.0 q.0, only p.1 q.1)

pub marker_arrives_tight : OneOutcome 2 marker-arrives-kinds.ps marker-arrives-kinds.r marker_arrives.Post (λ κs e. e.1.1.1.0.now)
marker_arrives_tight κs a z z' e e' p q = (only p.0 q.0, only p.1 q.1)
