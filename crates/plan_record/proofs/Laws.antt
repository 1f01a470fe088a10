-- The laws of a plan's record. Callers cite these and not the definitions' text. Assumes nothing.
use mathlib.Core.Path.{◌≡◌, refl, ap, sym, ◌∙◌}
use Prim.Native.Nat.{ℕ, suc, ◌+◌, ◌-◌, ◌≤◌, ◌<◌}
use native.Mathlib.Numerals.{add-one}
use native.Mathlib.Omega.{arith}
use mathlib.Core.Bool.{Bool, true, false, cond}
use mathlib.Core.List.{List}
use lib.ListN.{length, drop, length-take, length-drop}
use lib.Seq.{drop-drop}
use borrow.Author.Tests.{eq-eqb, ne_eqb}
use Rattle.std.specs.Prelude.{Some, None, Ok, Err}
use Rattle.numbers.specs.declared.Refusal.TheVariants as refusal
use Rattle.numbers.specs.Checks.{in_range}
use Rattle.numbers.specs.Coding.{Reading, reading_of}
use Rattle.numbers.specs.Writing.{written, outcome}
use Rattle.numbers.proofs.Laws.{never, same_number}
use Rattle.plan.proofs.Laws.{in_range_lem}
use Rattle.plan.specs.declared.Plan.{Plan}
use Rattle.plan.specs.Limits.{most_quantum}
use Rattle.plan.specs.Plan.{plan_ok}
use Rattle.plan_record.specs.Record.{refused_plan, within, with_quantum, quanta_read, plan_bytes, plan_written}

-- ---- a number of the record

-- a number that is kept was read, and is in range
pub kept : (low high : ℕ) (r : Reading) {v at : ℕ} → within low high r ≡ Some (v, at) → (r ≡ Some (v, at)) × (in_range low v high ≡ true)
kept low high None e = absurd (never refl e)
kept low high (Some (u, k)) {v} {at} e = go (in_range low u high) refl e
  where
    go : (t : Bool) → in_range low u high ≡ t → cond {A = Reading} t (Some (u, k)) None ≡ Some (v, at) → (◌≡◌ {A = Reading} (Some (u, k)) (Some (v, at))) × (in_range low v high ≡ true)
    go true q e = (e, ap (λ (x : ℕ). in_range low x high) (sym (same_number e).0) ∙ q)
    go false q e = absurd (never refl e)

-- ---- the quanta: what is left of them, read from here, is the answer

module _ (n i : ℕ) (p : Plan) (at : ℕ) (s : List ℕ) where
  one_left : i < n → n - i ≡ suc (n - (i + 1))
  one_left more = omega arith

  pub quantum_refused : i < n → within p.max most_quantum (reading_of 32 (drop at s)) ≡ None → refused_plan ≡ quanta_read (n - i) i p (drop at s)
  unfolding quanta_read
  quantum_refused more e = rw (one_left more) (simp e)

  pub quantum_next : i < n → (q d : ℕ) → within p.max most_quantum (reading_of 32 (drop at s)) ≡ Some (q, d)
      → quanta_read (n - (i + 1)) (i + 1) (with_quantum p i q) (drop (at + d) s) ≡ quanta_read (n - i) i p (drop at s)
  unfolding quanta_read
  quantum_next more q d e = rw (one_left more, ← drop-drop d at s) (simp (e, add-one i))

  pub bytes_over : n ≤ i → at < length s → refused_plan ≡ quanta_read (n - i) i p (drop at s)
  unfolding quanta_read
  bytes_over end h = let z : n - i ≡ 0 = omega arith in rw z (simp (ne_eqb (length (drop at s)) 0 (omega (arith, length-drop at s))))

  pub no_byte_over : n ≤ i → length s ≤ at → Ok p ≡ quanta_read (n - i) i p (drop at s)
  unfolding quanta_read
  no_byte_over end h = let z : n - i ≡ 0 = omega arith in rw z (simp (eq-eqb (length (drop at s)) 0 (omega (arith, length-drop at s))))

-- what a reader of the quanta goes by
pub ruleset quantum_by_quantum = (kept, quantum_refused, quantum_next, bytes_over, no_byte_over)

-- ---- writing

module _ (p : Plan) (out : List ℕ) where
  pub not_written : plan_ok p ≡ false → (Err refusal.Plan ≡ (plan_written p out).answer) × (out ≡ (plan_written p out).out)
  unfolding plan_written outcome
  not_written e = (simp e, simp e)

  pub as_written : plan_ok p ≡ true → written (plan_bytes p) out ≡ plan_written p out
  unfolding plan_written
  as_written e = simp e

pub ruleset as_a_row = (not_written, as_written, in_range_lem, length-take)
