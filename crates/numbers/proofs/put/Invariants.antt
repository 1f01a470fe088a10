-- `numbers::put` meets its contract: what the loop has still to store, stored, makes the output what it is to be.
-- Assumes nothing.
use Rattle.std.proofs.Common.{length, ◌+◌, ◌≡◌, ◌≤◌}
use lib.Seq.{sets}
use Rattle.numbers.specs.Coding.{coded}
use Rattle.numbers.proofs.put.Given as goal

abbrev pub invariant-loop-left : goal.invariant-loop-left
invariant-loop-left l =
    (l.left ≤ l.v) × (l.to + length (coded 32 l.left) ≡ l.at + length (coded 32 l.v)) × (length l.out ≡ length l.initial.out) × (sets l.out l.to (coded 32 l.left) ≡ sets l.initial.out l.at (coded 32 l.v))

abbrev pub decreases-loop-left : goal.decreases-loop-left
decreases-loop-left l = l.left
