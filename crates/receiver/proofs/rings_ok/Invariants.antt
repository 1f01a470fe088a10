-- `receiver::rings_ok` meets its contract: after so many lines their places were in range, or not. Assumes nothing.
use Rattle.std.proofs.Common.{length, ◌&&◌, ◌≡◌}
use Rattle.numbers.specs.Checks.{all_below}
use Rattle.plan.specs.Plan.{store_ok}
use Rattle.receiving.specs.Receiver.{held_ok}
use Rattle.receiver.proofs.rings_ok.Given as goal

abbrev pub invariant-loop-head : goal.invariant-loop-head
invariant-loop-head l = l.good ≡ store_ok l.fn.p l.g.size && all_below (held_ok l.g) (length l.yielded)
