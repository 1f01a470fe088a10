-- `taking::nearest` meets its contract: after i turns the best of the first i lines is found. Assumes nothing.
use Rattle.std.proofs.Common.{List, get_or, ℕ, ◌≡◌}
use Rattle.report.specs.Report.{ahead}
use Rattle.theory.specs.Sending.{best}
use Rattle.taking.proofs.nearest.Given as goal

-- how far on a line's round is
abbrev pub key : List ℕ → ℕ → ℕ → ℕ
key rounds round j = ahead (get_or rounds j 0) round

abbrev pub invariant-loop-i : goal.invariant-loop-i
invariant-loop-i l = (l.found ≡ best (key l.t.rounds l.t.round) l.i) × (l.least ≡ key l.t.rounds l.t.round l.found)
