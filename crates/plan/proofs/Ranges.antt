-- The tests of a plan, of S and of counters hold exactly where the plain ranges do. Assumes nothing.
use Prim.Native.Nat.{ℕ, ◌+◌}
use mathlib.Core.Bool.{true}
use mathlib.Core.List.{List}
use mathlib.Core.Path.{◌≡◌}
use Rattle.numbers.proofs.Checks.{in_range_lem as is_in_range, from_range, all}
use Rattle.plan.specs.declared.Plan.{Plan}
use Rattle.plan.specs.Limits.{least_lines, most_lines, least_max, most_max, most_quantum, least_interval, most_interval, item_head, most_store}
use Rattle.plan.specs.Plan.{quantum, quantum_ok, plan_ok, store_ok, counters_ok}
use Rattle.plan.specs.Ranges.{PlanIn, StoreIn, CountersIn}
use Rattle.plan.proofs.Laws.{in_range_lem, counters_in, are_counters}

pub plan_in : (p : Plan) → plan_ok p ≡ true → PlanIn p
plan_in p good =
    let r = in_range_lem p good in
    record {
      lines = (r.some_lines, r.few_lines);
      max = (r.max_least, r.max_most);
      interval = (r.interval_least, r.interval_most);
      quanta = λ i h. (r.quantum_least i h, r.quantum_most i h);
    }

pub plan_good_lem : (p : Plan) → PlanIn p → plan_ok p ≡ true
unfolding plan_ok
plan_good_lem p r =
    simp (
      is_in_range least_lines p.lines most_lines r.lines.0 r.lines.1,
      is_in_range least_max p.max most_max r.max.0 r.max.1,
      is_in_range least_interval p.interval most_interval r.interval.0 r.interval.1,
      all (quantum_ok p) p.lines (λ i h. is_in_range p.max (quantum p i) most_quantum (r.quanta i h).0 (r.quanta i h).1),
    )

pub store_in : (p : Plan) (size : ℕ) → store_ok p size ≡ true → StoreIn p size
unfolding store_ok
store_in p size e = from_range (p.max + item_head) size most_store e

pub store_good : (p : Plan) (size : ℕ) → StoreIn p size → store_ok p size ≡ true
unfolding store_ok
store_good p size r = is_in_range (p.max + item_head) size most_store r.0 r.1

pub counters_are : (p : Plan) (counters : List ℕ) → counters_ok p counters ≡ true → CountersIn p counters
counters_are = counters_in

pub counters_good : (p : Plan) (counters : List ℕ) → CountersIn p counters → counters_ok p counters ≡ true
counters_good = are_counters
