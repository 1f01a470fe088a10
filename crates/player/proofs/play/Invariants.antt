-- Each step ends behind where it begins, and within the input.
use Rattle.std.proofs.Common.{◌-◌, length}
use Rattle.player.proofs.play.Given as goal

abbrev pub decreases-loop-at : goal.decreases-loop-at
decreases-loop-at g l = length l.input - l.at
