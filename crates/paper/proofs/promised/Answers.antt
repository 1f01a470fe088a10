-- `paper::promised` meets its contract, by computation.
-- Assumes nothing.
use Rattle.paper.proofs.Examples.{examples}
use Rattle.paper.proofs.promised.Goals as goal

pub returns : goal.returns
returns c = examples
