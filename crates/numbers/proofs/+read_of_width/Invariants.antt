-- `numbers::read_of_width` meets its contract: it goes by the definition's cases, with seven bits less at each call. Assumes nothing.
use Rattle.std.proofs.Common.{length}
use Rattle.numbers.proofs.+read_of_width.Given as goal

abbrev pub decreases-read_of_width : goal.decreases-read_of_width
decreases-read_of_width l = length l.s.now
