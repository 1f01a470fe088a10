-- The laws of a plan that keeps to its ranges. Callers cite these and not the definitions' text.
-- Assumes nothing.
use mathlib.Core.Path.{◌≡◌, ◌∙◌, refl, sym}
use Prim.Native.Nat.{ℕ, ◌-◌, ◌≤◌, ◌<◌}
use native.Mathlib.Omega.{arith}
use mathlib.Core.Bool.{Bool, true, false}
use mathlib.Core.List.{List}
use lib.ListN.{length, take, get_or, get_or-eq_default, replicate, length-append, length-replicate, get_or-replicate, get_or-append}
use lib.Seq.{length-take-le, get_or-take}
use Rattle.std.specs.Array.{AllOfLen}
use Rattle.std.proofs.lemmas.Grind.{same_number_lists}
use Rattle.numbers.specs.Checks.{in_range, all_below}
use Rattle.numbers.proofs.Checks.{both, in_range_lem as is_in_range, from_range, all_at, all}
use Rattle.plan.specs.declared.Plan.{Plan}
use Rattle.plan.specs.declared.LinePlan.{LinePlan}
use Rattle.plan.specs.Limits.{least_lines, most_lines, least_max, most_max, most_quantum, least_interval, most_interval}
use Rattle.plan.specs.Plan.{at, quantum, line_plan, charge_of, quantum_ok, plan_ok, counter_ok, counters_ok, zeros, no_plan, first_entries, trimmed}

-- ---- a plan in range

pub record InRange (p : Plan) : Type 0 where
  pub some_lines : least_lines ≤ p.lines
  pub few_lines : p.lines ≤ most_lines
  pub max_least : least_max ≤ p.max
  pub max_most : p.max ≤ most_max
  pub interval_least : least_interval ≤ p.interval
  pub interval_most : p.interval ≤ most_interval
  pub quantum_least : (i : ℕ) → i < p.lines → p.max ≤ quantum p i
  pub quantum_most : (i : ℕ) → i < p.lines → quantum p i ≤ most_quantum

pub in_range_lem : (p : Plan) → plan_ok p ≡ true → InRange p
unfolding plan_ok
in_range_lem p e =
    let a = both _ (all_below (quantum_ok p) p.lines) e in
    let b = both _ (in_range least_interval p.interval most_interval) a.0 in
    let c = both _ (in_range least_max p.max most_max) b.0 in
    let l = from_range least_lines p.lines most_lines c.0 in
    let m = from_range least_max p.max most_max c.1 in
    let k = from_range least_interval p.interval most_interval b.1 in
    record {
      some_lines = l.0;
      few_lines = l.1;
      max_least = m.0;
      max_most = m.1;
      interval_least = k.0;
      interval_most = k.1;
      quantum_least = λ i h. (from_range p.max (quantum p i) most_quantum (all_at (quantum_ok p) p.lines a.1 i h)).0;
      quantum_most = λ i h. (from_range p.max (quantum p i) most_quantum (all_at (quantum_ok p) p.lines a.1 i h)).1;
    }

-- the check of a plan, test by test
module _ (p : Plan) where
  pub lines_bad : in_range least_lines p.lines most_lines ≡ false → false ≡ plan_ok p
  unfolding plan_ok
  lines_bad e = simp e

  module _ (lines : in_range least_lines p.lines most_lines ≡ true) where
    pub max_bad : in_range least_max p.max most_max ≡ false → false ≡ plan_ok p
    unfolding plan_ok
    max_bad e = simp (lines, e)

    module _ (max : in_range least_max p.max most_max ≡ true) where
      pub interval_bad : in_range least_interval p.interval most_interval ≡ false → false ≡ plan_ok p
      unfolding plan_ok
      interval_bad e = simp (lines, max, e)

      -- the quanta are what is left
      pub quanta_left : in_range least_interval p.interval most_interval ≡ true → all_below (quantum_ok p) p.lines ≡ plan_ok p
      unfolding plan_ok
      quanta_left e = simp (lines, max, e)

-- it has sixteen lines at most
pub few_lines : (p : Plan) → plan_ok p ≡ true → p.lines ≤ most_lines
few_lines p good = (in_range_lem p good).few_lines

-- a line's plan in range
pub record LineInRange (l : LinePlan) : Type 0 where
  pub largest_least : least_max ≤ l.largest
  pub largest_most : l.largest ≤ most_max
  pub quantum_least : l.largest ≤ l.quantum
  pub quantum_most : l.quantum ≤ most_quantum

pub line_in_range : (p : Plan) → plan_ok p ≡ true → (i : ℕ) → i < p.lines → LineInRange (line_plan p i)
line_in_range p good i line =
    let r = in_range_lem p good in
    record {
      largest_least = r.max_least;
      largest_most = r.max_most;
      quantum_least = r.quantum_least i line;
      quantum_most = r.quantum_most i line;
    }

-- ---- what a packet is charged

module _ (l : LinePlan) (range : LineInRange l) where
  -- the quantum bounds the charge for the largest packet,
  pub max_charge_quantum : charge_of l l.largest ≤ l.quantum
  unfolding charge_of
  max_charge_quantum = range.quantum_least

  module _ (n : ℕ) (some : 1 ≤ n) (most : n ≤ l.largest) where
    pub charge_some : 1 ≤ charge_of l n
    unfolding charge_of
    charge_some = some

    -- and that bounds every charge
    pub charge_max : charge_of l n ≤ charge_of l l.largest
    unfolding charge_of
    charge_max = most

    pub charge_quantum : charge_of l n ≤ l.quantum
    charge_quantum = omega (arith, charge_max, max_charge_quantum)

-- ---- counters

pub counters_in : (p : Plan) (counters : List ℕ) → counters_ok p counters ≡ true → (i : ℕ) → i < p.lines
    → (1 ≤ at counters i) × (at counters i ≤ quantum p i)
unfolding counters_ok
counters_in p counters e i h = from_range 1 (at counters i) (quantum p i) (all_at (counter_ok p counters) p.lines e i h)

pub are_counters : (p : Plan) (counters : List ℕ) → ((i : ℕ) → i < p.lines → (1 ≤ at counters i) × (at counters i ≤ quantum p i))
    → counters_ok p counters ≡ true
unfolding counters_ok
are_counters p counters each =
    all (counter_ok p counters) p.lines (λ i h. is_in_range 1 (at counters i) (quantum p i) (each i h).0 (each i h).1)

-- the line behind the last entry has no counter
pub counters_many : (p : Plan) (counters : List ℕ) → length counters < p.lines → counters_ok p counters ≡ false
counters_many p counters many = go (counters_ok p counters) refl
  where
    go : (t : Bool) → counters_ok p counters ≡ t → counters_ok p counters ≡ false
    go false e = e
    go true e = absurd (omega (arith, counters_in p counters e (length counters) many, get_or-eq_default counters 0 {n = length counters} (omega arith)))

-- ---- entries from line N on do not matter

pub first_entry : (n : ℕ) (l : List ℕ) (i : ℕ) → i < n → n ≤ length l → get_or (first_entries n l) i 0 ≡ get_or l i 0
first_entry n l i h fits =
    let size : length (take n l) ≡ n = length-take-le n l fits in
    get_or-append (take n l) (replicate (most_lines - n) 0) 0 i (omega arith) ∙ get_or-take n l i 0 h

pub entries_length : (n : ℕ) (l : List ℕ) → n ≤ most_lines → length l ≡ most_lines → length (first_entries n l) ≡ most_lines
entries_length n l few sixteen =
    length-append (take n l) (replicate (most_lines - n) 0)
    ∙ omega (arith, length-take-le n l (omega arith), length-replicate {A = ℕ} (most_lines - n) 0)

-- what opening makes of sixteen ones
pub first_ones : (n : ℕ) → n ≤ most_lines → (i : ℕ) → i < n → at (first_entries n (replicate most_lines 1)) i ≡ 1
first_ones n few i h =
    first_entry n (replicate most_lines 1) i h (rw length-replicate few) ∙ get_or-replicate most_lines i 1 0 (omega (arith, few))

pub ones_length : (n : ℕ) → n ≤ most_lines → length (first_entries n (replicate most_lines 1)) ≡ most_lines
ones_length n few = entries_length n (replicate most_lines 1) few (length-replicate {A = ℕ} most_lines 1)

pub trimmed_quantum : (p : Plan) → plan_ok p ≡ true → length p.quanta ≡ most_lines → (i : ℕ) → i < p.lines → quantum (trimmed p) i ≡ quantum p i
trimmed_quantum p good sixteen i h = first_entry p.lines p.quanta i h (omega (arith, (in_range_lem p good).few_lines))

-- the plan that opening keeps is in range too
pub trimmed_ok : (p : Plan) → plan_ok p ≡ true → length p.quanta ≡ most_lines → plan_ok (trimmed p) ≡ true
unfolding plan_ok
trimmed_ok p good sixteen =
    let r = in_range_lem p good in
    simp (
      is_in_range least_lines p.lines most_lines r.some_lines r.few_lines,
      is_in_range least_max p.max most_max r.max_least r.max_most,
      is_in_range least_interval p.interval most_interval r.interval_least r.interval_most,
      all (quantum_ok (trimmed p)) p.lines
          (λ i h. rw (trimmed_quantum p good sixteen i h) (is_in_range p.max (quantum p i) most_quantum (r.quantum_least i h) (r.quantum_most i h))),
    )

-- ---- zeros

-- sixteen of them
pub are_zeros : (l : List ℕ) → AllOfLen (λ x. x ≡ 0) l most_lines → l ≡ zeros
are_zeros l all_of = same_number_lists l zeros all_of.long (λ i inside. all_of.at i 0 (omega arith) ∙ sym (get_or-replicate most_lines i 0 0 (omega arith)))

-- a plan from its parts
made : ℕ → ℕ → ℕ → List ℕ → Plan
made lines max interval quanta = record { lines = lines; max = max; interval = interval; quanta = quanta }

-- one that has zeros alone
pub all_zeros : (p : Plan) → (p.lines ≡ 0) × (p.max ≡ 0) × (p.interval ≡ 0) → AllOfLen (λ x. x ≡ 0) p.quanta most_lines → p ≡ no_plan
unfolding made
all_zeros p none quanta =
    let made_of : made p.lines p.max p.interval p.quanta ≡ made 0 0 0 zeros = rw (none.0, none.1, none.2, are_zeros p.quanta quanta) in
    made_of
