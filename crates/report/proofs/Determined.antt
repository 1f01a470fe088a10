-- Tightness of this crate's public functions. Assumes nothing.
use Rattle.numbers.proofs.Tight.{only, OneAnswer}
use Rattle.report.proofs.read_on.Reads as read-on
use Rattle.report.proofs.read_on.Kinds as read-on-kinds
use Rattle.report.proofs.rounds_ahead.Reads as rounds-ahead
use Rattle.report.proofs.rounds_ahead.Kinds as rounds-ahead-kinds
use Rattle.report.proofs.tell.Reads as tell
use Rattle.report.proofs.tell.Kinds as tell-kinds

pub read_on_tight : OneAnswer 1 read-on-kinds.ps read-on-kinds.r read-on.Post
read_on_tight κs a z z' e e' p q = only p q

pub rounds_ahead_tight : OneAnswer 0 rounds-ahead-kinds.ps rounds-ahead-kinds.r rounds-ahead.Post
rounds_ahead_tight κs a z z' e e' p q = only p q

pub tell_tight : OneAnswer 0 tell-kinds.ps tell-kinds.r tell.Post
tell_tight κs a z z' e e' p q = only p q
