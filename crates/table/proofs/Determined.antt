-- Tightness of this crate's public function. Assumes nothing.
use Rattle.numbers.proofs.Tight.{only, OneOutcome}
use Rattle.table.proofs.line_of.Reads as line-of
use Rattle.table.proofs.line_of.Kinds as line-of-kinds

pub line_of_tight : OneOutcome 1 line-of-kinds.ps line-of-kinds.r line-of.Post (λ κs e. e.1.1.0.now)
line_of_tight κs a z z' e e' p q =
    let table = only p.0 q.0 in
    let at = only p.1 q.1 in
    (λ k. record { table = table k; at = at k }, only p.2 q.2)
