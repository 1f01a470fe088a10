-- A plan and a sender's figures as the theory has them.
use Rattle.std.specs.Prelude.{ℕ, Bool}
use Rattle.numbers.specs.Checks.{in_range}
use Rattle.plan.specs.declared.Plan.{Plan}
use Rattle.plan.specs.Plan.{at, quantum, line_plan, charge_of}
use Rattle.theory.specs.Sending as T
use Rattle.theory.specs.FirstForm.{Figures}
use Rattle.sending.specs.declared.Sender.{Sender}

-- a length that can be sent
abbrev pub is_packet : Plan → ℕ → Bool
is_packet p size = in_range 1 size p.max

abbrev pub in_theory : Plan → T.Plan
in_theory p = record {
  lines = p.lines;
  quantum = quantum p;
  charge = λ i length. charge_of (line_plan p i) length;
  largest = p.max;
  interval = p.interval;
}

abbrev pub figures_of : Sender → Figures
figures_of s = record { line = s.line; countdown = s.countdown; round = at s.rounds; counter = at s.counters }
