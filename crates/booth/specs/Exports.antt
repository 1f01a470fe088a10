-- Answers as the booth's C gets them, one number each, by the rule of `answers`; and how C reads them back.
use Rattle.std.specs.Prelude.{ℕ, ◌+◌, ◌*◌, ◌/◌, ◌%◌, cond, List, eqb, Some, None, Ok, Err}
use Rattle.numbers.specs.declared.Refusal.TheVariants as table
use Rattle.numbers.specs.Coding.{Reading}
use Rattle.numbers.specs.Writing.{Written, Outcome}
use Rattle.answers.specs.Answers.{refusal, refused_in, number_in, line_in}
use Rattle.plan_record.specs.Record.{plan_read, plan_written, plan_of}
use Rattle.marker.specs.Marker.{MarkerRead, marker_of}
use Rattle.sending.specs.Sender.{Sent, went_to}
use Rattle.numbers.specs.Refusals.{number, refusal_of}

-- a writer's: the length written, or the refusal
abbrev pub exported : Written → ℕ
exported (Ok n) = n
exported (Err r) = refusal (number r)

unfoldable pub written_in : ℕ → Written
written_in a = cond (refused_in a) (Err (refusal_of (number_in a))) (Ok a)

-- where the upper half of an answer of 64 bits begins
abbrev pub bit32 : ℕ
bit32 = 4294967296

-- a number's reading: the place after it, with the number in the upper half; 5 for nothing
abbrev pub exported_reading : Reading → ℕ
exported_reading None = refusal (number table.NoMarker)
exported_reading (Some (v, at)) = at + bit32 * v

unfoldable pub reading_in : ℕ → Reading
reading_in a = cond {A = Reading} (refused_in a) None (Some (a / bit32, a % 512))

-- a marker's: the line, 512 times the counter, and the round in the upper half
abbrev pub exported_marker : MarkerRead → ℕ
exported_marker (Ok k) = k.line + 512 * k.counter + bit32 * k.round
exported_marker (Err r) = refusal (number r)

unfoldable pub marker_in : ℕ → MarkerRead
marker_in a = cond (refused_in a) (Err (refusal_of (number_in a))) (Ok (marker_of (a % 512) (a / bit32) (a % bit32 / 512)))

-- a send's: the line, 16 added when markers are due
abbrev pub exported_sent : Sent → ℕ
exported_sent (Ok went) = went.line + cond went.due 16 0
exported_sent (Err r) = refusal (number r)

unfoldable pub sent_in : ℕ → Sent
sent_in a = cond (refused_in a) (Err (refusal_of (number_in a))) (went_to (line_in a) (eqb (a / 16 % 2) 1))

-- the plan of a record, written again
abbrev pub copied : List ℕ → List ℕ → Outcome
copied bytes out = plan_written (plan_of (plan_read bytes)) out
