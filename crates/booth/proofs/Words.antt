-- An answer tells what was answered: what C reads from it is that. So no two outcomes of a call have one answer, a good one and a refused one least
-- of all; and of a refusal none of C's macros gives a length, a place or a line that there is. Assumes nothing.
use mathlib.Core.Path.{◌≡◌, refl, ap, ap₂, sym, ◌∙◌}
use Prim.Native.Nat.{ℕ, ◌+◌, ◌*◌, ◌/◌, ◌%◌, ◌≤◌, ◌<◌}
use native.Mathlib.Omega.{arith}
use mathlib.Core.Bool.{true, false}
use mathlib.Core.List.{List}
use borrow.Author.Tests.{eq-eqb, ne_eqb}
use Rattle.numbers.specs.Coding.{Reading, reading_of, coded}
use Rattle.std.specs.Prelude.{Bool, true, false, eqb, Some, None, Ok, Err}
use Rattle.numbers.specs.Writing.{Written, length_of}
use Rattle.numbers.specs.Writing as writing
use Rattle.numbers.proofs.Laws.{place, size}
use Rattle.answers.specs.Answers.{refusal, told, refused_in, number_in, told_in, line_in}
use Rattle.answers.proofs.Laws.{refusal_read, refusal_back, bit_8_clear, below_256, answer_back}
use Rattle.plan.specs.declared.Plan.{Plan}
use Rattle.plan.specs.Limits.{most_lines, most_quantum}
use Rattle.plan_record.specs.Record.{plan_read, plan_written}
use Rattle.marker.specs.declared.Marker.{Marker}
use Rattle.marker.specs.Marker.{MarkerRead, marker_of, marker_read, marker_written}
use Rattle.marker.proofs.Laws.{whole_not_refused, read_in_range}
use Rattle.sending.specs.declared.Sender.{Sender}
use Rattle.sending.specs.Sender.{Sent, went_to, open_sender, send_of, marker_from}
use Rattle.sending.proofs.Promises.{sent_on_line}
use Rattle.booth.specs.Exports.{exported, written_in, exported_reading, reading_in, exported_marker, marker_in, exported_sent, sent_in}
use Rattle.booth.proofs.Small.{value_short, plan_short, written_short, asked_short, goes_unrefused}
use Rattle.numbers.specs.Refusals.{number, number_of}
use Rattle.numbers.proofs.Checks.{never, small}
use Rattle.numbers.specs.declared.Refusal.{Refusal}

-- ---- in figures, as include/booth.h has them

pub writer_figures : (n : ℕ) (k : Refusal) → (exported (Ok n) ≡ n) × (exported (Err k) ≡ 256 + number k)
writer_figures n k = (refl, refl)

pub reading_figures : (v at : ℕ) → (exported_reading (Some (v, at)) ≡ at + 4294967296 * v) × (exported_reading None ≡ 261)
reading_figures v at = (refl, refl)

pub marker_figures : (m : Marker) (k : Refusal)
    → (exported_marker (Ok m) ≡ m.line + 512 * m.counter + 4294967296 * m.round) × (exported_marker (Err k) ≡ 256 + number k)
marker_figures m k = (refl, refl)

pub send_figures : (line : ℕ) (k : Refusal)
    → (exported_sent (went_to line false) ≡ line) × (exported_sent (went_to line true) ≡ line + 16) × (exported_sent (Err k) ≡ 256 + number k)
send_figures line k = (omega arith, refl, refl)

-- ---- the writers, and what has nothing to tell but a refusal

written_back : (w : Written) → length_of w < 256 → written_in (exported w) ≡ w
unfolding written_in
written_back (Ok n) h = rw (below_256 n h) refl
written_back (Err k) h = rw (refusal_back k).0 (ap Err (refusal_back k).1)

pub value_reads_back : (v : ℕ) (out : List ℕ) → let w = (writing.written (coded 32 v) out).answer in written_in (exported w) ≡ w
value_reads_back v out = written_back _ (value_short v out)

pub plan_reads_back : (p : Plan) (out : List ℕ) → written_in (exported (plan_written p out).answer) ≡ (plan_written p out).answer
plan_reads_back p out = written_back _ (plan_short p out)

pub written_reads_back : (m : Marker) (out : List ℕ) → written_in (exported (marker_written m out).answer) ≡ (marker_written m out).answer
written_reads_back m out = written_back _ (written_short m out)

pub asked_reads_back : (s : Sender) (i : ℕ) (out : List ℕ) → written_in (exported (marker_from s i out).answer) ≡ (marker_from s i out).answer
asked_reads_back s i out = written_back _ (asked_short s i out)

pub plan_number_reads_back : (b : List ℕ) → told_in (told (number_of (plan_read b))) ≡ number_of (plan_read b)
plan_number_reads_back b = answer_back (plan_read b)

pub open_number_reads_back : (p : Plan) → told_in (told (number_of (open_sender p))) ≡ number_of (open_sender p)
open_number_reads_back p = answer_back (open_sender p)

-- ---- a number

pub reading_place : (s : List ℕ) (v at : ℕ) → reading_of 32 s ≡ Some (v, at) → (1 ≤ at) × (at ≤ 5)
reading_place s v at e = (omega (arith, (place 32 s e).0), omega (arith, size 32 s e (omega arith)))

abbrev number_at : ℕ → ℕ → Reading
number_at v at = Some (v, at)

-- a place that leaves bit 8 alone
abbrev ToldNumber : Reading → Type 0
ToldNumber None = Unit {0}
ToldNumber (Some (v, at)) = at < 256

number_told : (r : Reading) → ToldNumber r → reading_in (exported_reading r) ≡ r
unfolding reading_in
number_told None h = rw (refusal_read 5 (omega arith)).0 refl
number_told (Some (v, at)) h =
    let w = exported_reading (Some (v, at)) in
    rw (bit_8_clear w at (8388608 * v) (omega arith) h) (ap₂ (λ (v at : ℕ). number_at v at) (omega arith) (omega arith))

-- what C reads from a number's answer is the reading
pub number_reads_back : (s : List ℕ) → reading_in (exported_reading (reading_of 32 s)) ≡ reading_of 32 s
number_reads_back s = number_told (reading_of 32 s) (go (reading_of 32 s) refl)
  where
    go : (r : Reading) → reading_of 32 s ≡ r → ToldNumber r
    go None e = tt
    go (Some (v, at)) e = omega (arith, (reading_place s v at e).1)

-- ---- a marker

-- a line and a counter that leave bit 8 alone
abbrev ToldMarker : MarkerRead → Type 0
ToldMarker (Ok m) = (m.line < most_lines) × (m.counter ≤ most_quantum)
ToldMarker (Err k) = Unit {0}

marker_told_lem : (r : MarkerRead) → ToldMarker r → marker_in (exported_marker r) ≡ r
unfolding marker_in
marker_told_lem (Err k) h = rw (refusal_back k).0 (ap Err (refusal_back k).1)
marker_told_lem (Ok m) h =
    let w = exported_marker (Ok m) in
    let line : w % 512 ≡ m.line = omega arith in
    let round : w / 4294967296 ≡ m.round = omega arith in
    let low : w % 4294967296 ≡ m.line + 512 * m.counter = omega arith in
    let counter : w % 4294967296 / 512 ≡ m.counter = omega (arith, low) in
    rw (bit_8_clear w m.line (m.counter + 8388608 * m.round) (omega arith) (omega arith)) (ap Ok (λ k. marker_of (line k) (round k) (counter k)))

-- what C reads from a marker's answer is the reading
pub marker_reads_back : (s : List ℕ) → marker_in (exported_marker (marker_read s)) ≡ marker_read s
marker_reads_back s = marker_told_lem (marker_read s) (go (marker_read s) refl)
  where
    go : (r : MarkerRead) → marker_read s ≡ r → ToldMarker r
    go (Ok m) e = let k = read_in_range s m e in (k.0, k.1)
    go (Err k) e = tt

pub good_is_not_refused : (s t : List ℕ) (m : Marker) (k : Refusal) → marker_read s ≡ Ok m → marker_read t ≡ Err k
    → exported_marker (marker_read s) ≡ exported_marker (marker_read t) → ⊥
good_is_not_refused s t m k good bad e =
    let same : marker_read s ≡ marker_read t = sym (marker_reads_back s) ∙ ap marker_in e ∙ marker_reads_back t in
    whole_not_refused (sym bad ∙ sym same ∙ good)

-- ---- a send

abbrev ToldSent : Sent → Type 0
ToldSent (Ok went) = went.line < most_lines
ToldSent (Err k) = Unit {0}

sent_told : (t : Sent) → ToldSent t → sent_in (exported_sent t) ≡ t
unfolding sent_in
sent_told (Ok went) h = rw (below_256 (word went.due) (low went.due)) (ap₂ went_to (line went.due) (flag went.due))
  where
    word : Bool → ℕ
    word due = exported_sent (went_to went.line due)

    low : (due : Bool) → word due < 256
    low true = omega arith
    low false = omega arith

    line : (due : Bool) → line_in (word due) ≡ went.line
    line true = omega arith
    line false = omega arith

    flag : (due : Bool) → eqb (word due / 16 % 2) 1 ≡ due
    flag true = eq-eqb (word true / 16 % 2) 1 (omega arith)
    flag false = ne_eqb (word false / 16 % 2) 1 (omega arith)
sent_told (Err k) h = rw (refusal_back k).0 (ap Err (refusal_back k).1)

-- what C reads from a send's answer is what was answered
pub sent_reads_back : (s : Sender) (n : ℕ) → sent_in (exported_sent (send_of s n).answer) ≡ (send_of s n).answer
sent_reads_back s n = sent_told (send_of s n).answer (go (send_of s n).answer refl)
  where
    go : (t : Sent) → (send_of s n).answer ≡ t → ToldSent t
    go (Ok went) e = omega (arith, sent_on_line s n went.line went.due e)
    go (Err k) e = tt

-- and the number of a refused one is the table's, whichever it is
pub sent_number : (s : Sender) (n : ℕ) → refused_in (exported_sent (send_of s n).answer) ≡ true
    → number_in (exported_sent (send_of s n).answer) ≡ number_of (send_of s n).answer
sent_number s n = go (send_of s n).answer refl
  where
    go : (t : Sent) → (send_of s n).answer ≡ t → refused_in (exported_sent (send_of s n).answer) ≡ true
        → number_in (exported_sent (send_of s n).answer) ≡ number_of (send_of s n).answer
    go (Ok went) e h = absurd (never (sym h ∙ goes_unrefused s n went e))
    go (Err k) e h = ap (λ (t : Sent). number_in (exported_sent t)) e ∙ (refusal_read (number k) (omega (arith, small k))).1 ∙ sym (ap number_of e)

-- ---- of a refusal C's macros give nothing that there is: no place, no line, no counter; and no markers are due
pub refusal_says_nothing : (k : ℕ) → k < 256 → let w = refusal k in (256 ≤ w % 512) × (256 ≤ line_in w) × (w % 4294967296 / 512 ≡ 0)
refusal_says_nothing k h = (omega arith, omega arith, omega arith)
