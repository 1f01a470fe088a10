-- Each turn uses some of what is left of the piece.
use Rattle.std.proofs.Common.{length}
use Rattle.stripes.proofs.pass.Given as goal

abbrev pub decreases-loop-left : goal.decreases-loop-left
decreases-loop-left g l = length l.left
