-- What the steps of a send ask and answer: nothing public rests on it.
use Rattle.std.specs.Prelude.{ℕ, ◌+◌, ◌<◌, ◌≤◌, Result, Ok, Err}
use Rattle.numbers.specs.declared.Refusal.{Refusal}
use Rattle.numbers.specs.Checks.{settled}
use Rattle.plan.specs.Limits.{most_lines, most_quantum}
use Rattle.plan.specs.Plan.{at, quantum}
use Rattle.sending.specs.declared.Sender.{Sender}
use Rattle.sending.specs.Sender.{charge_now, send_checks}

-- what a packet is charged, or the refusal
abbrev pub charged : Sender → ℕ → Result ℕ Refusal
charged s length = settled (send_checks s length) (Ok (charge_now s length)) Err

-- a current line, figures in range, and a charge that the counter and its quantum cover
abbrev pub Ready : Sender → ℕ → Type 0
Ready s c =
    (s.line < s.plan.lines) × (s.plan.lines ≤ most_lines) × (1 ≤ s.countdown) × (at s.counters s.line ≤ quantum s.plan s.line)
    × (quantum s.plan s.line ≤ most_quantum) × (c < at s.counters s.line + quantum s.plan s.line)
