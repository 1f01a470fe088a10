-- `plan::counters_ok` meets its contract: the counters of the lines so far were in range, or not. Assumes nothing.
use Rattle.std.proofs.Common.{◌≡◌, length}
use Rattle.numbers.specs.Checks.{all_below}
use Rattle.plan.specs.Plan.{counter_ok}
use Rattle.plan.proofs.counters_ok.Given as goal

abbrev pub invariant-loop-c : goal.invariant-loop-c
invariant-loop-c l = l.good ≡ all_below (counter_ok l.fn.p l.fn.counters) (length l.yielded)
