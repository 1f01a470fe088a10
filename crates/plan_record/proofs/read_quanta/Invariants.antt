-- `plan_record::read_quanta` meets its contract: the quanta that are left, read from here, make the whole answer. Assumes nothing.
use Rattle.std.proofs.Common.{drop, length, ◌-◌, ◌≡◌, ◌≤◌}
use Rattle.plan_record.specs.Record.{quanta_read}
use Rattle.plan_record.proofs.read_quanta.Given as goal

abbrev pub invariant-loop-i : goal.invariant-loop-i
invariant-loop-i l =
    (l.at ≤ length l.s) × (l.plan.max ≡ l.p.max) × (quanta_read (l.p.lines - l.i) l.i l.plan (drop l.at l.s) ≡ quanta_read l.p.lines 0 l.p l.s)
