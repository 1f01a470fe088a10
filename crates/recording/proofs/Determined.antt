-- Tightness of this crate's public functions. Assumes nothing.
use Rattle.numbers.proofs.Tight.{only, OneAnswer}
use Rattle.recording.proofs.number_at.Reads as number_at
use Rattle.recording.proofs.number_at.Kinds as number-at-kinds
use Rattle.recording.proofs.part_at.Reads as part_at
use Rattle.recording.proofs.part_at.Kinds as part-at-kinds

pub number_at_tight : OneAnswer 1 number-at-kinds.ps number-at-kinds.r number_at.Post
number_at_tight κs a z z' e e' p q = only p q

pub part_at_tight : OneAnswer 1 part-at-kinds.ps part-at-kinds.r part_at.Post
part_at_tight κs a z z' e e' p q = only p q
