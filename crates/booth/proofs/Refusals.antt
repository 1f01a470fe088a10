-- A call that answers what C reads as a refusal leaves everything that it was lent as it was, but that a refused opening and a refused plan leave
-- zeros. Assumes nothing.
use mathlib.Core.Path.{◌≡◌, refl, ap, sym, ◌∙◌}
use Prim.Native.Nat.{ℕ, ◌≤◌, ◌<◌}
use native.Mathlib.Omega.{arith}
use mathlib.Core.Bool.{Bool, true, false, cond}
use mathlib.Core.Logic.{◌⊎◌, inl, inr}
use mathlib.Core.List.{List}
use lib.ListN.{length}
use Rattle.numbers.specs.Writing.{Written, outcome}
use Rattle.std.specs.Prelude.{Ok, Err}
use Rattle.numbers.specs.Coding.{coded}
use Rattle.numbers.specs.Writing as writing
use Rattle.numbers.proofs.Checks.{never}
use Rattle.numbers.proofs.Laws.{coded_short, answered_length, refused_out}
use Rattle.plan.specs.declared.Plan.{Plan}
use Rattle.answers.specs.Answers.{told, refused_in}
use Rattle.answers.proofs.Laws.{below_256, has_number}
use Rattle.plan.specs.Plan.{at, no_plan, plan_ok}
use Rattle.plan_record.specs.Record.{refused_plan, plan_read, plan_bytes, plan_written, plan_of}
use Rattle.plan_record.proofs.Laws.{not_written, as_written}
use Rattle.plan_record.proofs.Promises.{fifty_four_bytes, read_or_refused}
use Rattle.marker.specs.declared.Marker.{Marker}
use Rattle.marker.specs.Marker.{marker_of, marker_bytes, marker_written}
use Rattle.sending.specs.declared.Sender.{Sender}
use Rattle.sending.specs.Sender.{SenderOpened, Sent, closed_sender, opened_sender, open_sender, send_of, line_marker, marker_from, sender_of}
use Rattle.sending.proofs.Promises.{refused_stays}
use Rattle.booth.specs.Exports.{exported, exported_sent, copied}
use Rattle.booth.proofs.Small.{marker_short, goes_unrefused}
use Rattle.numbers.specs.Refusals.{number_of}
use Rattle.numbers.specs.declared.Refusal.TheVariants as refusal
use Rattle.numbers.specs.Checks.{Checked}

-- a writer
kept : (row : Checked) (bytes out : List ℕ) → length bytes ≤ 99 → refused_in (exported (outcome row bytes out).answer) ≡ true → (outcome row bytes out).out ≡ out
kept row bytes out short = go (outcome row bytes out).answer refl
  where
    go : (w : Written) → (outcome row bytes out).answer ≡ w → refused_in (exported (outcome row bytes out).answer) ≡ true → (outcome row bytes out).out ≡ out
    go (Ok n) e h =
        let small : n < 256 = omega (arith, answered_length row bytes out n e) in
        absurd (never (sym h ∙ ap (λ (w : Written). refused_in (exported w)) e ∙ below_256 n small))
    go (Err k) e h = refused_out row bytes out k e

pub number_refused : (v : ℕ) (out : List ℕ) → refused_in (exported (writing.written (coded 32 v) out).answer) ≡ true → (writing.written (coded 32 v) out).out ≡ out
number_refused v out = kept _ (coded 32 v) out (omega (arith, coded_short 32 v))

pub marker_refused : (m : Marker) (out : List ℕ) → refused_in (exported (marker_written m out).answer) ≡ true → (marker_written m out).out ≡ out
unfolding marker_written
marker_refused m out = kept _ (marker_bytes m) out (marker_short m)

pub asked_refused : (s : Sender) (i : ℕ) (out : List ℕ) → refused_in (exported (marker_from s i out).answer) ≡ true → (marker_from s i out).out ≡ out
unfolding marker_from
asked_refused s i out = kept _ (line_marker s i) out (marker_short (marker_of i (at s.rounds i) (at s.counters i)))

pub plan_refused : (p : Plan) (out : List ℕ) → refused_in (exported (plan_written p out).answer) ≡ true → (plan_written p out).out ≡ out
plan_refused p out = go (plan_ok p) refl
  where
    go : (t : Bool) → plan_ok p ≡ t → refused_in (exported (plan_written p out).answer) ≡ true → (plan_written p out).out ≡ out
    go true good = rw (← as_written p out good) (kept _ (plan_bytes p) out (omega (arith, fifty_four_bytes p good)))
    go false bad = rw (← (not_written p out bad).1) (λ h. refl)

pub copy_refused : (s out : List ℕ) → refused_in (exported (copied s out).answer) ≡ true → (copied s out).out ≡ out
copy_refused s out = plan_refused (plan_of (plan_read s)) out

pub send_refused : (s : Sender) (n : ℕ) → refused_in (exported_sent (send_of s n).answer) ≡ true → (send_of s n).next ≡ s
send_refused s n = go (send_of s n).answer refl
  where
    go : (t : Sent) → (send_of s n).answer ≡ t → refused_in (exported_sent (send_of s n).answer) ≡ true → (send_of s n).next ≡ s
    go (Ok went) e h = absurd (never (sym h ∙ goes_unrefused s n went e))
    go (Err k) e h = refused_stays s n k e

pub read_refused : (b : List ℕ) → refused_in (told (number_of (plan_read b))) ≡ true → plan_of (plan_read b) ≡ no_plan
read_refused b h = go (read_or_refused b)
  where
    go : (number_of (plan_read b) ≡ 0) ⊎ ((plan_read b ≡ refused_plan) × (plan_of (plan_read b) ≡ no_plan)) → plan_of (plan_read b) ≡ no_plan
    go (inl good) = absurd (has_number (number_of (plan_read b)) h good)
    go (inr bad) = bad.1

pub open_refused : (p : Plan) → refused_in (told (number_of (open_sender p))) ≡ true → sender_of (open_sender p) ≡ closed_sender
unfolding open_sender
open_refused p = go (plan_ok p)
  where
    opened : Bool → SenderOpened
    opened t = cond t (Ok (opened_sender p)) (Err refusal.Plan)

    go : (t : Bool) → refused_in (told (number_of (opened t))) ≡ true → sender_of (opened t) ≡ closed_sender
    go true h = absurd (has_number 0 h refl)
    go false h = refl
