-- Tightness of this crate's public functions. Assumes nothing.
use Rattle.numbers.proofs.Tight.{only, OneAnswer, OneOutcome}
use Rattle.sender.proofs.closed.Reads as closing
use Rattle.sender.proofs.closed.Kinds as closing-kinds
use Rattle.sender.proofs.open.Reads as opening
use Rattle.sender.proofs.open.Kinds as opening-kinds
use Rattle.sender.proofs.send.Reads as send
use Rattle.sender.proofs.send.Kinds as send-kinds
use Rattle.sender.proofs.marker_from.Reads as marker-from
use Rattle.sender.proofs.marker_from.Kinds as marker-from-kinds

pub closed_tight : OneAnswer 0 closing-kinds.ps closing-kinds.r closing.Post
closed_tight κs a z z' e e' p q = only p q

pub open_tight : OneAnswer 0 opening-kinds.ps opening-kinds.r opening.Post
open_tight κs a z z' e e' p q = only p q

pub send_tight : OneAnswer 0 send-kinds.ps send-kinds.r send.Post
send_tight κs a z z' e e' p q = only p q

pub marker_from_tight : OneOutcome 1 marker-from-kinds.ps marker-from-kinds.r marker-from.Post (λ κs e. e.1.1.0.now)
marker_from_tight κs a z z' e e' p q = (only p.0 q.0, only p.1 q.1)
