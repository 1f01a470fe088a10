-- The plan record: N, Max, K, then N quanta in line order, no byte over.
use Rattle.std.specs.Prelude.{ℕ, zero, suc, cond, List, ◌∷◌, length, take, set, eqb, Some, None, Result, Ok, Err}
use Rattle.std.specs.Result.{result_unwrap_or}
use Rattle.numbers.specs.declared.Refusal.{Refusal}
use Rattle.numbers.specs.declared.Refusal.TheVariants as refusal
use Rattle.numbers.specs.Checks.{check, in_range}
use Rattle.numbers.specs.Coding.{Reading, reading_of, onward, row_bytes}
use Rattle.numbers.specs.Writing.{Outcome, room, outcome}
use Rattle.plan.specs.declared.Plan.{Plan}
use Rattle.plan.specs.Limits.{least_lines, most_lines, least_max, most_max, most_quantum, least_interval, most_interval}
use Rattle.plan.specs.Plan.{zeros, no_plan, plan_ok}

-- ---- reading

-- the plan of three numbers, its quanta to come
abbrev pub bare : ℕ → ℕ → ℕ → Plan
bare n max interval = record { lines = n; max = max; interval = interval; quanta = zeros }

-- what a reading answers: the plan, or the refusal
abbrev pub PlanRead : Type 0
PlanRead = Result Plan Refusal

abbrev pub refused_plan : PlanRead
refused_plan = Err refusal.Plan

-- the plan of a reading; a refusal's is all zeros
abbrev pub plan_of : PlanRead → Plan
plan_of r = result_unwrap_or r no_plan

-- a reading, kept where its number is from low to high
abbrev pub within : ℕ → ℕ → Reading → Reading
within low high None = None
within low high (Some (v, at)) = cond {A = Reading} (in_range low v high) (Some (v, at)) None

-- one number of the record, from low to high; it and the bytes after it go on
abbrev pub field : ℕ → ℕ → List ℕ → (ℕ → List ℕ → PlanRead) → PlanRead
field low high s next = onward (within low high (reading_of 32 s)) s refused_plan next

abbrev pub with_quantum : Plan → ℕ → ℕ → Plan
with_quantum p i q = record { lines = p.lines; max = p.max; interval = p.interval; quanta = set p.quanta i q }

-- the quanta of so many lines from line i on, and no byte over
unfoldable pub quanta_read : ℕ → ℕ → Plan → List ℕ → PlanRead
quanta_read zero i p s = cond (eqb (length s) 0) (Ok p) refused_plan
quanta_read (suc lines) i p s = field p.max most_quantum s (λ q rest. quanta_read lines (suc i) (with_quantum p i q) rest)

unfoldable pub plan_read : List ℕ → PlanRead
plan_read s =
    field least_lines most_lines s (λ n after_n.
    field least_max most_max after_n (λ max after_max.
    field least_interval most_interval after_max (λ interval after_interval.
    quanta_read n 0 (bare n max interval) after_interval)))

-- ---- writing

-- the numbers of the record
abbrev pub plan_row : Plan → List ℕ
plan_row p = p.lines ∷ p.max ∷ p.interval ∷ take p.lines p.quanta

abbrev pub plan_bytes : Plan → List ℕ
plan_bytes p = row_bytes (plan_row p)

-- the plan writer's checks, 1 and then 8, and its outcome
unfoldable pub plan_written : Plan → List ℕ → Outcome
plan_written p out = outcome (check (plan_ok p) refusal.Plan (room (plan_bytes p) out)) (plan_bytes p) out
