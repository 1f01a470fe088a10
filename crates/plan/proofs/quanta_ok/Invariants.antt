-- `plan::quanta_ok` meets its contract: the quanta of the lines so far were in range, or not. Assumes nothing.
use Rattle.std.proofs.Common.{◌≡◌}
use Rattle.numbers.specs.Checks.{all_below}
use Rattle.plan.specs.Plan.{quantum_ok}
use Rattle.plan.proofs.quanta_ok.Given as goal

abbrev pub invariant-loop-q : goal.invariant-loop-q
invariant-loop-q l = l.good ≡ all_below (quantum_ok l.fn.p) l.q-index
