-- From a row of numbers to the record's reading, and back. Assumes nothing.
use mathlib.Core.Path.{◌≡◌, refl, ap, ◌∙◌}
use Prim.Native.Nat.{ℕ, zero, suc, ◌-◌, ◌^◌, ◌≤◌, ◌<◌}
use native.Mathlib.Nat.{zero-add}
use native.Mathlib.Omega.{arith}
use mathlib.Core.Logic.{◌⊎◌, inl, inr}
use mathlib.Core.Bool.{Bool, true, false, cond}
use mathlib.Core.List.{List, [], ◌∷◌, ◌++◌}
use lib.ListN.{length, take, drop, get_or, replicate, length-replicate}
use lib.Seq.{sets, sets-eq}
use lib.Dec.{eqb}
use borrow.Author.Tests.{eqb-true}
use Rattle.std.specs.Prelude.{Some, None, Ok}
use Rattle.std.proofs.lemmas.List.{nil_from_length, drop-replicate}
use Rattle.numbers.specs.Refusals.{number_of}
use Rattle.numbers.specs.Checks.{in_range}
use Rattle.numbers.specs.Coding.{Bytes, Reading, reading_of, onward, coded, row_bytes}
use Rattle.numbers.proofs.Checks.{from_range}
use Rattle.numbers.proofs.Laws.{round_trip, onward_written, onward_number, split, bytes_drop}
use Rattle.plan.specs.declared.Plan.{Plan}
use Rattle.plan.specs.Limits.{most_quantum}
use Rattle.plan_record.specs.Record.{PlanRead, plan_of, refused_plan, within, field, with_quantum, quanta_read}
use Rattle.plan_record.proofs.Laws.{kept}

-- a plan that is read is none that is refused
pub read_not_refused : {p : Plan} → refused_plan ≡ Ok p → ⊥
read_not_refused e = omega (arith, ap (λ (r : PlanRead). number_of r) e)

-- ---- one number

module _ (low high : ℕ) (small : high < 2 ^ 32) where
  pub field_written : (v : ℕ) (t : List ℕ) (next : ℕ → List ℕ → PlanRead) → in_range low v high ≡ true → field low high (coded 32 v ++ t) next ≡ next v t
  field_written v t next h =
      let fits : v < 2 ^ 32 = omega (arith, (from_range low v high h).1) in
      let same : within low high (reading_of 32 (coded 32 v ++ t)) ≡ reading_of 32 (coded 32 v ++ t) = rw (round_trip 32 v t fits) (simp h) in
      rw same (onward_written v t refused_plan next fits)

-- what is read from bytes was written in their front
pub field_read : (low high : ℕ) (s : List ℕ) (next : ℕ → List ℕ → PlanRead) (p : Plan) → Bytes s → field low high s next ≡ Ok p
    → (v : ℕ) × (t : List ℕ) × (s ≡ coded 32 v ++ t) × (in_range low v high ≡ true) × (Bytes t) × (next v t ≡ Ok p)
field_read low high s next p bytes e =
    let n = onward_number (λ (r : PlanRead). r ≡ Ok p) (within low high (reading_of 32 s)) s refused_plan next read_not_refused e in
    let k = kept low high (reading_of 32 s) n.2 in
    (n.0, drop n.1 s, split 32 s k.0 bytes, k.1, bytes_drop n.1 s bytes, n.3)

-- ---- the quanta

abbrev pub with_quanta : Plan → List ℕ → Plan
with_quanta p q = record { lines = p.lines; max = p.max; interval = p.interval; quanta = q }

-- each of a list of quanta is in range
abbrev pub AllFit : ℕ → List ℕ → Type 0
AllFit max [] = Unit {0}
AllFit max (v ∷ vs) = (in_range max v most_quantum ≡ true) × AllFit max vs

pub quanta_written : (vs : List ℕ) (i : ℕ) (p : Plan) → AllFit p.max vs
    → quanta_read (length vs) i p (row_bytes vs) ≡ Ok (with_quanta p (sets p.quanta i vs))
unfolding quanta_read row_bytes
quanta_written [] i p f = refl
quanta_written (v ∷ vs) i p f =
    field_written p.max most_quantum (omega arith) v (row_bytes vs) _ f.0 ∙ quanta_written vs (suc i) (with_quantum p i v) f.1

pub record Quanta (n i : ℕ) (p : Plan) (s : List ℕ) (q : Plan) : Type 0 where
  pub row : List ℕ
  pub count : length row ≡ n
  pub bytes : s ≡ row_bytes row
  pub fit : AllFit p.max row
  pub plan : with_quanta p (sets p.quanta i row) ≡ q

pub quanta_read_lem : (n i : ℕ) (p : Plan) (s : List ℕ) (q : Plan) → Bytes s → quanta_read n i p s ≡ Ok q → Quanta n i p s q
unfolding quanta_read row_bytes
quanta_read_lem zero i p s q b e = go (eqb (length s) 0) refl e
  where
    go : (t : Bool) → eqb (length s) 0 ≡ t → cond t (Ok p) refused_plan ≡ Ok q → Quanta zero i p s q
    go true h e = record { row = []; count = refl; bytes = nil_from_length s (eqb-true (length s) 0 h); fit = tt; plan = ap plan_of e }
    go false h e = absurd (read_not_refused e)
quanta_read_lem (suc n) i p s q b e =
    let f = field_read p.max most_quantum s _ q b e in
    let r = quanta_read_lem n (suc i) (with_quantum p i f.0) f.1 q f.4 f.5 in
    record { row = f.0 ∷ r.row; count = ap suc r.count; bytes = f.2 ∙ ap (λ (t : List ℕ). coded 32 f.0 ++ t) r.bytes; fit = (f.3, r.fit); plan = r.plan }

-- a row laid over zeros
pub laid : (m : ℕ) (row : List ℕ) → length row ≤ m → sets (replicate m 0) 0 row ≡ row ++ replicate (m - length row) 0
laid m row h = sets-eq row (replicate m 0) 0 (rw length-replicate (omega arith)) ∙ rw (zero-add, drop-replicate)

-- ---- quanta that fit, in a list and by their lines

pub fit_take : (max n : ℕ) (q : List ℕ) → n ≤ length q → ((i : ℕ) → i < n → in_range max (get_or q i 0) most_quantum ≡ true) → AllFit max (take n q)
fit_take max zero q h f = tt
fit_take max (suc n) [] h f = absurd (omega arith)
fit_take max (suc n) (v ∷ q) h f = (f 0 (omega arith), fit_take max n q (omega arith) (λ i l. f (suc i) (omega arith)))

pub fit_at : (max : ℕ) (row rest : List ℕ) → AllFit max row → (i : ℕ) → i < length row → in_range max (get_or (row ++ rest) i 0) most_quantum ≡ true
fit_at max [] rest f i h = absurd (omega arith)
fit_at max (v ∷ row) rest f zero h = f.0
fit_at max (v ∷ row) rest f (suc i) h = fit_at max row rest f.1 i (omega arith)

-- ---- a reading is of a plan, or the refused one

abbrev pub Settled : PlanRead → Type 0
Settled r = (number_of r ≡ 0) ⊎ (r ≡ refused_plan)

pub onward_settled : (r : Reading) (s : List ℕ) (next : ℕ → List ℕ → PlanRead) → ((v : ℕ) (t : List ℕ) → Settled (next v t))
    → Settled (onward r s refused_plan next)
onward_settled None s next h = inr refl
onward_settled (Some (v, at)) s next h = h v (drop at s)

pub quanta_settled : (n i : ℕ) (p : Plan) (s : List ℕ) → Settled (quanta_read n i p s)
unfolding quanta_read
quanta_settled zero i p s = go (eqb (length s) 0)
  where
    go : (t : Bool) → Settled (cond t (Ok p) refused_plan)
    go true = inl refl
    go false = inr refl
quanta_settled (suc n) i p s =
    onward_settled (within p.max most_quantum (reading_of 32 s)) s _ (λ q rest. quanta_settled n (suc i) (with_quantum p i q) rest)
