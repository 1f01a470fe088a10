-- What the plan record promises. Assumes nothing.
use mathlib.Core.Path.{◌≡◌, refl, ap, sym, ◌∙◌}
use Prim.Native.Nat.{ℕ, zero, suc, ◌-◌, ◌*◌, ◌≤◌, ◌<◌}
use native.Mathlib.Omega.{arith}
use mathlib.Core.Logic.{◌⊎◌, inl, inr}
use mathlib.Core.Bool.{true}
use mathlib.Core.List.{List, [], ◌∷◌, ◌++◌}
use lib.ListN.{length, take, get_or, replicate, length-append}
use lib.Seq.{take_at, length-take-le}
use Rattle.numbers.specs.Checks.{check, in_range}
use Rattle.numbers.specs.Writing.{length_of, room}
use Rattle.numbers.specs.Refusals.{number_of}
use Rattle.numbers.specs.declared.Refusal.TheVariants as refusal
use Rattle.std.specs.Prelude.{Ok}
use Rattle.numbers.specs.Coding.{Bytes, coded, row_bytes, reading_of}
use Rattle.numbers.proofs.Checks.{check_passed, in_range_lem as is_in_range, from_range, all}
use Rattle.numbers.proofs.Laws.{coded_size_of, accepted}
use Rattle.plan.specs.declared.Plan.{Plan}
use Rattle.plan.specs.Limits.{least_lines, most_lines, least_max, most_max, most_quantum, least_interval, most_interval}
use Rattle.plan.specs.Plan.{no_plan, quantum, quantum_ok, plan_ok, trimmed}
use Rattle.plan_record.specs.Record.{bare, refused_plan, plan_of, within, quanta_read, plan_read, plan_bytes, plan_written}
use Rattle.plan.proofs.Laws.{in_range_lem}
use Rattle.plan.proofs.Promises.{session}
use Rattle.plan_record.proofs.Records.{field_written, field_read, with_quanta, AllFit, quanta_written, quanta_read_lem, onward_settled, quanta_settled, laid, fit_take, fit_at}

-- the record of a plan in range
record_reads : (p : Plan) → plan_ok p ≡ true → length p.quanta ≡ most_lines → plan_read (plan_bytes p) ≡ Ok (trimmed p)
unfolding plan_read row_bytes
record_reads p good sixteen =
    let r = in_range_lem p good in
    let row = take p.lines p.quanta in
    let count : length row ≡ p.lines = length-take-le p.lines p.quanta (omega (arith, r.few_lines)) in
    let fit : AllFit p.max row =
    fit_take p.max p.lines p.quanta (omega (arith, r.few_lines))
    (λ i h. is_in_range p.max (quantum p i) _ (r.quantum_least i h) (r.quantum_most i h)) in
    field_written least_lines most_lines (omega arith) p.lines _ _ (is_in_range least_lines p.lines most_lines r.some_lines r.few_lines)
    ∙ field_written least_max most_max (omega arith) p.max _ _ (is_in_range least_max p.max most_max r.max_least r.max_most)
    ∙ field_written least_interval most_interval (omega arith) p.interval _ _ (is_in_range least_interval p.interval most_interval r.interval_least r.interval_most)
    ∙ ap (λ (n : ℕ). quanta_read n 0 (bare p.lines p.max p.interval) (row_bytes row)) (sym count)
    ∙ quanta_written row 0 (bare p.lines p.max p.interval) fit
    ∙ ap (λ (q : List ℕ). Ok (with_quanta p q)) (laid most_lines row (omega (arith, r.few_lines)) ∙ ap (λ (n : ℕ). row ++ replicate (most_lines - n) 0) count)

-- A plan in range, written and read, is the plan with zeros from line N on: whatever the writer takes, the front of the output, as
-- long as it answered, is read so. (A plan's quanta are an array of sixteen.)
pub written_reads_back : (p : Plan) (out : List ℕ) → length p.quanta ≡ most_lines → number_of (plan_written p out).answer ≡ 0
    → (plan_ok p ≡ true) × (plan_read (take (length_of (plan_written p out).answer) (plan_written p out).out) ≡ Ok (trimmed p))
unfolding plan_written
written_reads_back p out sixteen e =
    let w = accepted (check (plan_ok p) refusal.Plan (room (plan_bytes p) out)) (plan_bytes p) out e in
    let good = (check_passed (plan_ok p) _ _ w.0).0 in
    (good, rw w.1 (record_reads p good sixteen))

-- the plan of three numbers and a row of quanta, zeros behind it
module _ (n max interval : ℕ) (row : List ℕ) (count : length row ≡ n) where
  abbrev planned : Plan
  planned = with_quanta (bare n max interval) (row ++ replicate (most_lines - length row) 0)

  first_are : take n planned.quanta ≡ row
  first_are = take_at row (replicate (most_lines - length row) 0) n count

  planned_bytes : plan_bytes planned ≡ row_bytes (n ∷ max ∷ interval ∷ row)
  planned_bytes = ap (λ (t : List ℕ). row_bytes (n ∷ max ∷ interval ∷ t)) first_are

  planned_ok : in_range least_lines n most_lines ≡ true → in_range least_max max most_max ≡ true → in_range least_interval interval most_interval ≡ true
      → AllFit max row → plan_ok planned ≡ true
  unfolding plan_ok
  planned_ok lines largest every fit =
      simp (lines, largest, every, all (quantum_ok planned) n (λ i h. fit_at max row (replicate (most_lines - length row) 0) fit i (omega arith)))

  planned_trimmed : trimmed planned ≡ planned
  planned_trimmed =
      ap (with_quanta planned) (ap (λ (t : List ℕ). t ++ replicate (most_lines - n) 0) first_are ∙ ap (λ (k : ℕ). row ++ replicate (most_lines - k) 0) (sym count))

-- A record that reads is the one that would be written, of a plan that is in range and has zeros from line N on.
pub read_is_written : (s : List ℕ) (p : Plan) → Bytes s → plan_read s ≡ Ok p → (s ≡ plan_bytes p) × (plan_ok p ≡ true) × (trimmed p ≡ p)
unfolding plan_read row_bytes
read_is_written s p bytes e =
    let n = field_read least_lines most_lines s _ p bytes e in
    let m = field_read least_max most_max n.1 _ p n.4 n.5 in
    let k = field_read least_interval most_interval m.1 _ p m.4 m.5 in
    let q = quanta_read_lem n.0 0 (bare n.0 m.0 k.0) k.1 p k.4 k.5 in
    let few : length q.row ≤ most_lines = omega (arith, q.count, (from_range least_lines n.0 most_lines n.3).1) in
    let is : planned n.0 m.0 k.0 q.row q.count ≡ p = ap (with_quanta (bare n.0 m.0 k.0)) (sym (laid most_lines q.row few)) ∙ q.plan in
    let whole : s ≡ row_bytes (n.0 ∷ m.0 ∷ k.0 ∷ q.row) =
    n.2 ∙ ap (λ (t : List ℕ). coded 32 n.0 ++ t) (m.2 ∙ ap (λ (t : List ℕ). coded 32 m.0 ++ t) (k.2 ∙ ap (λ (t : List ℕ). coded 32 k.0 ++ t) q.bytes)) in (
      whole ∙ sym (planned_bytes n.0 m.0 k.0 q.row q.count) ∙ ap plan_bytes is,
      sym (ap plan_ok is) ∙ planned_ok n.0 m.0 k.0 q.row q.count n.3 m.3 k.3 q.fit,
      sym (ap trimmed is) ∙ planned_trimmed n.0 m.0 k.0 q.row q.count ∙ is,
    )

settled : (s : List ℕ) → (number_of (plan_read s) ≡ 0) ⊎ (plan_read s ≡ refused_plan)
unfolding plan_read
settled s =
    onward_settled (within least_lines most_lines (reading_of 32 s)) s _ (λ n s₁.
    onward_settled (within least_max most_max (reading_of 32 s₁)) s₁ _ (λ max s₂.
    onward_settled (within least_interval most_interval (reading_of 32 s₂)) s₂ _ (λ interval s₃.
    quanta_settled n 0 (bare n max interval) s₃)))

-- Any bytes read, or are refused with number 1 and an all-zero plan.
pub read_or_refused : (s : List ℕ) → (number_of (plan_read s) ≡ 0) ⊎ ((plan_read s ≡ refused_plan) × (plan_of (plan_read s) ≡ no_plan))
read_or_refused s = go (settled s)
  where
    go : (number_of (plan_read s) ≡ 0) ⊎ (plan_read s ≡ refused_plan) → (number_of (plan_read s) ≡ 0) ⊎ ((plan_read s ≡ refused_plan) × (plan_of (plan_read s) ≡ no_plan))
    go (inl read) = inl read
    go (inr refused) = inr (refused, ap plan_of refused)

-- three bytes for each quantum
quanta_short : (n : ℕ) (quanta : List ℕ) → ((i : ℕ) → i < n → get_or quanta i 0 ≤ most_quantum) → length (row_bytes (take n quanta)) ≤ 3 * n
unfolding row_bytes
quanta_short zero quanta most = omega arith
quanta_short (suc n) [] most = omega arith
quanta_short (suc n) (q ∷ quanta) most =
    let here : q ≤ most_quantum = most 0 (omega arith) in
    let later = quanta_short n quanta (λ i h. most (suc i) (omega arith)) in
    simp length-append (omega (arith, coded_size_of 32 21 q (omega arith) (omega arith) (omega arith)))

-- No record of a plan in range is longer than 54 bytes: one for N, two for Max, three for K, and three for each of sixteen quanta.
pub fifty_four_bytes : (p : Plan) → plan_ok p ≡ true → length (plan_bytes p) ≤ 54
unfolding row_bytes
fifty_four_bytes p good =
    let r = in_range_lem p good in
    let few = r.few_lines in
    let largest = r.max_most in
    let every = r.interval_most in
    let quanta = quanta_short p.lines p.quanta r.quantum_most in
    simp length-append
    (omega (
      arith,
      coded_size_of 32 7 p.lines (omega arith) (omega arith) (omega arith),
      coded_size_of 32 14 p.max (omega arith) (omega arith) (omega arith),
      coded_size_of 32 21 p.interval (omega arith) (omega arith) (omega arith),
    ))

-- An example: the session's plan is the record 02 F4 03 01 E8 07 F4 03.
abbrev pub session_record : List ℕ
session_record = 0x02 ∷ 0xF4 ∷ 0x03 ∷ 0x01 ∷ 0xE8 ∷ 0x07 ∷ 0xF4 ∷ 0x03 ∷ []

pub examples : (plan_bytes session ≡ session_record) × (plan_read session_record ≡ Ok session)
unfolding row_bytes coded plan_read quanta_read reading_of
examples = (refl, refl)
