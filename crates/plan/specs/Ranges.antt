-- The table of ranges as plain propositions, in the specification's numbers. No test of the definitions is used.
use Rattle.std.specs.Prelude.{ℕ, ◌+◌, ◌≤◌, ◌<◌, List}
use Rattle.plan.specs.declared.Plan.{Plan}
use Rattle.plan.specs.Plan.{at, quantum}

-- x is from low to high
abbrev pub From : ℕ → ℕ → ℕ → Type 0
From low high x = (low ≤ x) × (x ≤ high)

pub record PlanIn (p : Plan) : Type 0 where
  pub lines : From 1 16 p.lines
  pub max : From 64 9000 p.max
  pub interval : From 1 65535 p.interval
  pub quanta : (i : ℕ) → i < p.lines → From p.max 1048576 (quantum p i)

-- S bytes a line
abbrev pub StoreIn : Plan → ℕ → Type 0
StoreIn p size = From (p.max + 3) 65536 size

-- each line's counter in 1 to q
abbrev pub CountersIn : Plan → List ℕ → Type 0
CountersIn p counters = (i : ℕ) → i < p.lines → From 1 (quantum p i) (at counters i)
