-- `calls::promised` meets its contract, by the theorems.
-- Assumes nothing.
use Rattle.calls.proofs.Edges.{edges}
use Rattle.calls.proofs.Proved.{table, outcomes, frame}
use Rattle.calls.proofs.promised.Goals as goal

pub returns : goal.returns
returns c = (table, outcomes, frame, edges)
