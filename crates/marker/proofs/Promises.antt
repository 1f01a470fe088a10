-- What the marker record promises. Assumes nothing.
use mathlib.Core.Path.{◌≡◌, refl, ap, sym, ◌∙◌}
use Prim.Native.Nat.{ℕ, ◌^◌, ◌≤◌, ◌<◌}
use native.Mathlib.Omega.{arith}
use mathlib.Core.Bool.{true}
use mathlib.Core.List.{List, [], ◌∷◌}
use borrow.Author.Tests.{ltb-true}
use lib.ListN.{length, take, length-append}
use Rattle.numbers.specs.Coding.{Bytes, coded, row_bytes}
use Rattle.numbers.specs.Checks.{check}
use Rattle.std.specs.Prelude.{Ok, Err}
use Rattle.numbers.specs.declared.Refusal.TheVariants as refusal
use Rattle.numbers.specs.Refusals.{number_of}
use Rattle.numbers.specs.Writing.{length_of, room}
use Rattle.numbers.proofs.Checks.{check_passed, from_range}
use Rattle.numbers.proofs.Laws.{coded_size, coded_size_of, accepted}
use Rattle.plan.specs.Limits.{most_lines, most_quantum}
use Rattle.marker.specs.declared.Marker.{Marker}
use Rattle.marker.specs.Marker.{MarkerRead, values_of, record_read, marker_bytes, counter_ok, line_ok, judged, read_checks, marker_read, marker_written}
use Rattle.marker.proofs.Laws.{record_written, record_read_lem, record_accepted, both_good, comes_back, whole_not_refused}

-- A marker reads back as written: whatever the writer takes, the front of the output, as long as it answered, is read as the same
-- line, round and counter. (A round is kept modulo 2^32.)
pub written_reads_back : (m : Marker) (out : List ℕ) → m.round < 2 ^ 32 → number_of (marker_written m out).answer ≡ 0
    → let front = take (length_of (marker_written m out).answer) (marker_written m out).out in
    (number_of (marker_read front) ≡ 0) × (values_of (marker_read front) ≡ m.line ∷ m.round ∷ m.counter ∷ [])
unfolding marker_written marker_read
written_reads_back m out round e =
    let w = accepted (check (line_ok m) refusal.Line (check (counter_ok m) refusal.NoMarker (room (marker_bytes m) out))) (marker_bytes m) out e in
    let line = check_passed (line_ok m) _ _ w.0 in
    let counter = check_passed (counter_ok m) _ _ line.1 in
    let l = ltb-true m.line most_lines line.0 in
    let c = from_range 1 m.counter most_quantum counter.0 in
    let is : judged read_checks (record_read (marker_bytes m)) ≡ Ok m = ap (judged read_checks) (record_written m (omega arith) round (omega arith)) ∙ sym (both_good m counter.0 line.0) in
    rw w.1 (ap number_of is, ap values_of is)

-- Bytes that read are exactly those that would be written, of a marker that the writer takes.
pub read_is_written : (s : List ℕ) → Bytes s → number_of (marker_read s) ≡ 0
    → (m : Marker) × (values_of (marker_read s) ≡ m.line ∷ m.round ∷ m.counter ∷ []) × (s ≡ marker_bytes m) × (line_ok m ≡ true) × (counter_ok m ≡ true) × (m.round < 2 ^ 32)
unfolding marker_read
read_is_written s bytes e = go (record_read s) refl e
  where
    go : (r : MarkerRead) → record_read s ≡ r → number_of (judged read_checks r) ≡ 0
        → (m : Marker) × (values_of (judged read_checks (record_read s)) ≡ m.line ∷ m.round ∷ m.counter ∷ []) × (s ≡ marker_bytes m) × (line_ok m ≡ true) × (counter_ok m ≡ true) × (m.round < 2 ^ 32)
    go (Err k) h z = absurd (let w = record_accepted s (ap number_of h ∙ z) in whole_not_refused (sym h ∙ w.1))
    go (Ok m) h z =
        let p = comes_back m z in
        let r = record_read_lem s m bytes h in
        (m, ap values_of (ap (judged read_checks) h ∙ p.0), r.0, p.2, p.1, r.2)

-- No marker that the writer takes is longer than nine bytes: one for the line, five for the round, three for the counter.
pub nine_bytes : (m : Marker) → line_ok m ≡ true → counter_ok m ≡ true → m.round < 2 ^ 32 → length (marker_bytes m) ≤ 9
unfolding row_bytes
nine_bytes m line counter round =
    let l = ltb-true m.line most_lines line in
    let c = from_range 1 m.counter most_quantum counter in
    simp length-append
    (omega (arith, coded_size_of 32 7 m.line (omega arith) (omega arith) (omega arith), coded_size 32 m.round (omega arith) round, coded_size_of 32 21 m.counter (omega arith) (omega arith) (omega arith)))

-- An example: the session's markers after packet 5 are 00 02 A0 06 and 01 02 DE 02.
pub examples :
    (marker_bytes (record { line = 0; round = 2; counter = 800 }) ≡ 0x00 ∷ 0x02 ∷ 0xA0 ∷ 0x06 ∷ [])
    × (marker_bytes (record { line = 1; round = 2; counter = 350 }) ≡ 0x01 ∷ 0x02 ∷ 0xDE ∷ 0x02 ∷ [])
unfolding row_bytes coded
examples = (refl, refl)
