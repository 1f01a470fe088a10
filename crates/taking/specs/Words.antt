-- A take's answer as one number, and how a run of takes ended.
use Rattle.std.specs.Prelude.{ℕ, ◌+◌, Result, Ok, Err}
use Rattle.answers.specs.Answers.{refusal}
use Rattle.numbers.specs.Refusals.{number}
use Rattle.receiving.specs.Taking.{TakeAnswer}
use Rattle.receiving.specs.declared.Taken.{Taken}
use Rattle.receiving.specs.declared.Taken.TheVariants.{Waiting, Data, Missing, Behind}
use Rattle.receiving.specs.Takes.{RunEnd}
use Rattle.receiving.specs.declared.Ended.{Ended}
use Rattle.receiving.specs.declared.Ended.TheVariants as ended
use Rattle.receiving.specs.Takes.{word_of}

-- the word that a run of takes logs, where it would have one; else the line that is waited for and 16 times 3, or the refusal, by the number that is told
abbrev pub word_by : {R : Type 0} → (R → ℕ) → Result Taken R → ℕ
word_by number (Ok (Waiting line)) = 48 + line
word_by number (Ok (Data line n)) = word_of (Ok (Data line n))
word_by number (Ok (Missing line missing)) = word_of (Ok (Missing line missing))
word_by number (Ok (Behind line)) = word_of (Ok (Behind line))
word_by number (Err r) = refusal (number r)

-- 16 times 4 where the log is full; else the word of the take that stopped the run
abbrev pub ended_by : {R : Type 0} → (R → ℕ) → Result Ended R → ℕ
ended_by number (Ok ended.Full) = 64
ended_by number (Ok (ended.Waiting line)) = word_by number (Ok (Waiting line))
ended_by number (Err r) = word_by number (Err r)

-- a refusal of the table is told by its number there
abbrev pub taken_word : TakeAnswer → ℕ
taken_word answer = word_by number answer

abbrev pub ended_word : RunEnd → ℕ
ended_word end = ended_by number end
