-- When a plan keeps to the table of ranges, and what a packet is charged.
use Rattle.std.specs.Prelude.{ℕ, ◌+◌, ◌-◌, ◌%◌, Bool, ◌&&◌, cond, List, ◌++◌, leb, take, get_or, replicate}
use Rattle.numbers.specs.Checks.{in_range, all_below}
use Rattle.numbers.specs.Wrap.{wrap}
use Rattle.plan.specs.declared.Plan.{Plan}
use Rattle.plan.specs.declared.LinePlan.{LinePlan}
use Rattle.plan.specs.Limits.{least_lines, most_lines, least_max, most_max, most_quantum, least_interval, most_interval, item_head, most_store}

-- ---- a line's plan

-- entry i of sixteen
abbrev pub at : List ℕ → ℕ → ℕ
at entries i = get_or entries i 0

-- line i's quantum
abbrev pub quantum : Plan → ℕ → ℕ
quantum p i = at p.quanta i

-- what line i needs of the plan
abbrev pub line_plan : Plan → ℕ → LinePlan
line_plan p i = record { quantum = quantum p i; largest = p.max }

-- what a packet of `length` bytes is charged on a line: its length
unfoldable pub charge_of : LinePlan → ℕ → ℕ
charge_of l length = length

-- A counter falls by a charge c. Where it is then zero or less, it rises by the quantum q, and its line's round by one.
abbrev pub spent : ℕ → ℕ → Bool
spent counter c = leb counter c

abbrev pub counter_after : ℕ → ℕ → ℕ → ℕ
counter_after q counter c = cond (spent counter c) (counter + q - c) (counter - c)

abbrev pub round_after : ℕ → ℕ → ℕ → ℕ
round_after round counter c = cond (spent counter c) ((round + 1) % wrap) round

-- ---- ranges

abbrev pub quantum_ok : Plan → ℕ → Bool
quantum_ok p i = in_range p.max (quantum p i) most_quantum

unfoldable pub plan_ok : Plan → Bool
plan_ok p =
    in_range least_lines p.lines most_lines && in_range least_max p.max most_max && in_range least_interval p.interval most_interval
    && all_below (quantum_ok p) p.lines

-- each counter in 1 to its line's quantum
abbrev pub counter_ok : Plan → List ℕ → ℕ → Bool
counter_ok p counters i = in_range 1 (at counters i) (quantum p i)

unfoldable pub counters_ok : Plan → List ℕ → Bool
counters_ok p counters = all_below (counter_ok p counters) p.lines

-- S bytes a line
unfoldable pub store_ok : Plan → ℕ → Bool
store_ok p size = in_range (p.max + item_head) size most_store

-- ---- zeros

abbrev pub zeros : List ℕ
zeros = replicate most_lines 0

abbrev pub no_plan : Plan
no_plan = record { lines = 0; max = 0; interval = 0; quanta = zeros }

-- the first n of sixteen entries, and zeros from there on
abbrev pub first_entries : ℕ → List ℕ → List ℕ
first_entries n entries = take n entries ++ replicate (most_lines - n) 0

-- the plan with zeros from line N on
abbrev pub trimmed : Plan → Plan
trimmed p = record { lines = p.lines; max = p.max; interval = p.interval; quanta = first_entries p.lines p.quanta }
