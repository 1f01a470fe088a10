-- What the steps of a take ask: nothing public rests on it.
use Rattle.std.specs.Prelude.{ℕ, ◌≤◌, ◌<◌}
use Rattle.plan.specs.declared.LinePlan.{LinePlan}
use Rattle.plan.specs.Limits.{least_max, most_max, most_quantum, most_store}
use Rattle.receiving.specs.declared.Line.{Line}

-- a line's plan in range, and its figures in range for it and for a ring of S
abbrev pub Ready : LinePlan → ℕ → Line → Type 0
Ready p size l =
    (least_max ≤ p.largest) × (p.largest ≤ most_max) × (p.largest ≤ p.quantum) × (p.quantum ≤ most_quantum) × (1 ≤ l.turn.counter)
    × (l.turn.counter ≤ p.quantum) × (l.held.head < size) × (l.held.used ≤ size) × (size ≤ most_store)
