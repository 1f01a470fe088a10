-- `receiver::turns_ok` meets its contract: after so many lines their rounds were near, or not. Assumes nothing.
use Rattle.std.proofs.Common.{◌&&◌, ◌≡◌}
use Rattle.numbers.specs.Checks.{all_below}
use Rattle.plan.specs.Plan.{counters_ok}
use Rattle.receiving.specs.Receiver.{near_ok}
use Rattle.receiver.proofs.turns_ok.Given as goal

abbrev pub invariant-loop-round : goal.invariant-loop-round
invariant-loop-round l = l.good ≡ counters_ok l.fn.p l.t.counters && all_below (near_ok l.t) l.round-index
