-- Every length that C is told is below 256, and what a send answers fits; one that goes is no refusal. Assumes nothing.
use mathlib.Core.Path.{◌≡◌, refl}
use Rattle.answers.specs.Answers.{refused_in}
use Rattle.answers.proofs.Laws.{below_256}
use Prim.Native.Nat.{ℕ, ◌+◌, ◌≤◌, ◌<◌, ◌^◌}
use native.Mathlib.Omega.{arith}
use mathlib.Core.Bool.{Bool, true, false, cond}
use mathlib.Core.List.{List, [], ◌∷◌}
use lib.ListN.{length}
use Rattle.numbers.specs.Writing.{Outcome, length_of, written, outcome}
use Rattle.std.specs.Prelude.{Ok, Err}
use Rattle.numbers.specs.Checks.{Checked}
use Rattle.numbers.proofs.Checks.{by_checks, small}
use Rattle.numbers.specs.Coding.{coded}
use Rattle.numbers.proofs.Laws.{coded_short, row_short}
use Rattle.plan.specs.declared.Plan.{Plan}
use Rattle.plan.specs.Plan.{plan_ok, at}
use Rattle.plan_record.specs.Record.{plan_bytes, plan_written}
use Rattle.plan_record.proofs.Laws.{not_written, as_written}
use Rattle.plan_record.proofs.Promises.{fifty_four_bytes}
use Rattle.marker.specs.declared.Marker.{Marker}
use Rattle.marker.specs.Marker.{marker_of, marker_bytes, marker_written}
use Rattle.sending.specs.declared.Sender.{Sender}
use Rattle.sending.specs.declared.Went.{Went}
use Rattle.sending.specs.Sender.{Sent, send_of, line_marker, marker_from}
use Rattle.sending.proofs.Laws.{line_small}
use Rattle.sending.proofs.Promises.{sent_on_line}
use Rattle.booth.specs.Exports.{exported_sent}

outcome_short : (row : Checked) (bytes out : List ℕ) → length bytes ≤ 99 → length_of (outcome row bytes out).answer < 256
unfolding outcome
outcome_short row bytes out h = by_checks (λ (o : Outcome). length_of o.answer < 256) row (λ passes. omega arith) (λ refusal fails. omega arith)

-- ---- a number and a plan

pub value_short : (v : ℕ) (out : List ℕ) → length_of (written (coded 32 v) out).answer < 256
value_short v out = outcome_short _ (coded 32 v) out (omega (arith, coded_short 32 v))

pub plan_short : (p : Plan) (out : List ℕ) → length_of (plan_written p out).answer < 256
plan_short p out = go (plan_ok p) refl
  where
    go : (t : Bool) → plan_ok p ≡ t → length_of (plan_written p out).answer < 256
    go true good = rw (← as_written p out good) (outcome_short _ (plan_bytes p) out (omega (arith, fifty_four_bytes p good)))
    go false bad = rw (← (not_written p out bad).0) (omega arith)

-- ---- the markers

pub marker_short : (m : Marker) → length (marker_bytes m) ≤ 99
marker_short m = row_short (m.line ∷ m.round ∷ m.counter ∷ [])

pub written_short : (m : Marker) (out : List ℕ) → length_of (marker_written m out).answer < 256
unfolding marker_written
written_short m out = outcome_short _ (marker_bytes m) out (marker_short m)

pub asked_short : (s : Sender) (i : ℕ) (out : List ℕ) → length_of (marker_from s i out).answer < 256
unfolding marker_from
asked_short s i out = outcome_short _ (line_marker s i) out (marker_short (marker_of i (at s.rounds i) (at s.counters i)))

-- ---- a send: one of sixteen lines, or a refusal

due_small : (due : Bool) → cond due 16 0 ≤ 16
due_small true = omega arith
due_small false = omega arith

pub sent_fits : (s : Sender) (n : ℕ) → exported_sent (send_of s n).answer < 2 ^ 32
sent_fits s n = go (send_of s n).answer refl
  where
    go : (a : Sent) → (send_of s n).answer ≡ a → exported_sent a < 2 ^ 32
    go (Ok went) e = omega (arith, line_small s n went.line went.due e, due_small went.due)
    go (Err refusal) e = omega (arith, small refusal)

-- one that goes is read as no refusal
pub goes_unrefused : (s : Sender) (n : ℕ) (went : Went) → (send_of s n).answer ≡ Ok went → refused_in (exported_sent (send_of s n).answer) ≡ false
goes_unrefused s n went e = rw e (below_256 (went.line + cond went.due 16 0) (omega (arith, sent_on_line s n went.line went.due e, due_small went.due)))
