-- `taking::run_checked` meets its contract: what is left of the run, done from here, is the whole of it. Assumes nothing.
use Rattle.std.proofs.Common.{length, true, ◌-◌, ◌≡◌, ◌≤◌}
use Rattle.receiving.specs.Receiver.{receiver_ok, store_fits}
use Rattle.receiving.specs.Takes.{takes_from}
use Rattle.taking.proofs.run_checked.Given as goal

abbrev pub invariant-loop-taken : goal.invariant-loop-taken
invariant-loop-taken l = record {
  valid : receiver_ok l.state ≡ true;
  fits : store_fits l.state l.store ≡ true;
  within : l.bytes ≤ length l.out;
  left : takes_from (length l.initial.log - l.taken) l.store l.state l.taken l.bytes l.out l.log
      ≡ takes_from (length l.initial.log) l.store l.initial.state 0 0 l.initial.out l.initial.log;
}
