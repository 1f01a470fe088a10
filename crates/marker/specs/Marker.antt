-- The marker record: line, round, counter, no byte over.
use Rattle.std.specs.Prelude.{ℕ, Bool, cond, List, [], ◌∷◌, length, ltb, eqb, Result, Ok, Err}
use Rattle.numbers.specs.declared.Refusal.{Refusal}
use Rattle.numbers.specs.declared.Refusal.TheVariants as refusal
use Rattle.numbers.specs.Checks.{Checked, passed, check, settled, in_range}
use Rattle.numbers.specs.Coding.{reading_of, onward, row_bytes}
use Rattle.numbers.specs.Writing.{Outcome, room, outcome}
use Rattle.plan.specs.Limits.{most_lines, most_quantum}
use Rattle.marker.specs.declared.Marker.{Marker}

-- what a reading answers: the marker, or the refusal
abbrev pub MarkerRead : Type 0
MarkerRead = Result Marker Refusal

-- line, round and counter, all three zero when refused
abbrev pub values_of : MarkerRead → List ℕ
values_of (Ok m) = m.line ∷ m.round ∷ m.counter ∷ []
values_of (Err refusal) = 0 ∷ 0 ∷ 0 ∷ []

-- ---- the layout

abbrev pub marker_of : ℕ → ℕ → ℕ → Marker
marker_of line round counter = record { line = line; round = round; counter = counter }

-- one number of the record; it and the bytes after it go on
abbrev pub field : List ℕ → (ℕ → List ℕ → MarkerRead) → MarkerRead
field s next = onward (reading_of 32 s) s (Err refusal.NoMarker) next

unfoldable pub record_read : List ℕ → MarkerRead
record_read s =
    field s (λ line after_line.
    field after_line (λ round after_round.
    field after_round (λ counter over.
    cond (eqb (length over) 0) (Ok (marker_of line round counter)) (Err refusal.NoMarker))))

abbrev pub marker_bytes : Marker → List ℕ
marker_bytes m = row_bytes (m.line ∷ m.round ∷ m.counter ∷ [])

-- ---- a marker that is read, judged by a row of checks

unfoldable pub judge : Checked → Marker → MarkerRead
judge row m = settled row (Ok m) Err

abbrev pub judged : (Marker → Checked) → MarkerRead → MarkerRead
judged checks (Ok m) = judge (checks m) m
judged checks (Err refusal) = Err refusal

-- ---- the standalone calls, for any plan

abbrev pub counter_ok : Marker → Bool
counter_ok m = in_range 1 m.counter most_quantum

abbrev pub line_ok : Marker → Bool
line_ok m = ltb m.line most_lines

-- reading: 5, 3
abbrev pub read_checks : Marker → Checked
read_checks m = check (counter_ok m) refusal.NoMarker (check (line_ok m) refusal.Line passed)

unfoldable pub marker_read : List ℕ → MarkerRead
marker_read s = judged read_checks (record_read s)

-- writing: 3, 5, 8
unfoldable pub marker_written : Marker → List ℕ → Outcome
marker_written m out = outcome (check (line_ok m) refusal.Line (check (counter_ok m) refusal.NoMarker (room (marker_bytes m) out))) (marker_bytes m) out
