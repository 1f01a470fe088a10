-- `numbers::number_length` meets its contract: each turn of the loop passes one byte of the number's form. Assumes nothing.
use Rattle.std.proofs.Common.{length, ◌+◌, ◌≡◌, ◌≤◌}
use Rattle.numbers.specs.Coding.{coded}
use Rattle.numbers.proofs.number_length.Given as goal

abbrev pub invariant-loop-left : goal.invariant-loop-left
invariant-loop-left l = (l.left ≤ l.v) × (l.n + length (coded 32 l.left) ≡ 1 + length (coded 32 l.v))

abbrev pub decreases-loop-left : goal.decreases-loop-left
decreases-loop-left l = l.left
