-- `session::feed` meets its contract: what is left of the piece, fed from here, makes the whole answer. Assumes nothing.
use Rattle.std.proofs.Common.{drop, length, ◌-◌, ◌≤◌}
use Rattle.session.specs.Session.{feed_of}
use Rattle.session.proofs.Feeding.{Left}
use Rattle.session.proofs.feed.Given as goal

abbrev pub invariant-loop-used : goal.invariant-loop-used
invariant-loop-used l =
    (l.wrote ≤ length l.initial.out)
    × Left (feed_of l.initial.session l.bytes (length l.initial.out)) l.initial.out l.out l.used l.wrote (feed_of l.session (drop l.used l.bytes) (length l.initial.out - l.wrote))
