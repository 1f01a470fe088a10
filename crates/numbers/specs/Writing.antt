-- A writer's outcome. A written record goes to the front of the output, the rest of the output stays, and its length is
-- answered; a refusal answers its number and changes nothing.
use Rattle.std.specs.Prelude.{ℕ, List, ◌++◌, length, drop, leb, Result, Ok, Err}
use Rattle.numbers.specs.declared.Refusal.{Refusal}
use Rattle.numbers.specs.declared.Refusal.TheVariants.{ShortOutput}
use Rattle.numbers.specs.Checks.{Checked, passed, check, settled}

-- what a writer answers: the length written, or the refusal
abbrev pub Written : Type 0
Written = Result ℕ Refusal

-- the length that it tells
abbrev pub length_of : Written → ℕ
length_of (Ok n) = n
length_of (Err refusal) = 0

-- what a writer answers, and the output as it leaves it
pub record Outcome : Type 0 where
  pub answer : Written
  pub out : List ℕ

-- 8: output shorter than what is to be written; the last check of every writer
abbrev pub room : List ℕ → List ℕ → Checked
room bytes out = check (leb (length bytes) (length out)) ShortOutput passed

-- bytes to be written to an output, once the writer's checks have been made
unfoldable pub outcome : Checked → List ℕ → List ℕ → Outcome
outcome row bytes out =
    settled row
    (record { answer = Ok (length bytes); out = bytes ++ drop (length bytes) out })
    (λ refusal. record { answer = Err refusal; out = out })

-- the outcome of a writer that has no other check
abbrev pub written : List ℕ → List ℕ → Outcome
written bytes out = outcome (room bytes out) bytes out
