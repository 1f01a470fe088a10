-- `theory::promised` meets its contract, by the theorems.
-- Assumes nothing.
use Rattle.theory.proofs.Proved.{promises, far_end}
use Rattle.theory.proofs.promised.Goals as goal

pub returns : goal.returns
returns c = λ p sound. (promises p sound, far_end p sound)
