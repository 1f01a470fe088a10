-- Answers as the stage's C gets them, one number each by the rule of `answers`, three for a run of takes; and how C reads them back.
use Rattle.std.specs.Prelude.{ℕ, ◌/◌, ◌%◌, cond, eqb, Ok, Err}
use Rattle.answers.specs.Answers.{refused_in, number_in, line_in}
use Rattle.receiving.specs.Taking.{TakeAnswer}
use Rattle.receiving.specs.declared.Taken.TheVariants.{Waiting, Data, Missing, Behind}
use Rattle.receiving.specs.Takes.{RunEnd}
use Rattle.receiving.specs.declared.Ended.TheVariants as ended
use Rattle.receiving.specs.declared.TakesResult.{TakesResult}
use Rattle.taking.specs.Words.{ended_word}
use Rattle.stage.specs.declared.StageRun.{StageRun}
use Rattle.numbers.specs.Refusals.{refusal_of}

-- what C is told of a run
abbrev pub stage_run : TakesResult → StageRun
stage_run t = record { why = ended_word t.ended; taken = t.taken; bytes = t.bytes }

-- a word as C reads it: what it was, from bit 4 to bit 8, and what stands above; its line is `line_in` of `answers`
abbrev pub kind_in : ℕ → ℕ
kind_in w = w / 16 % 32

abbrev pub value_in : ℕ → ℕ
value_in w = w / 512

unfoldable pub read_taken : ℕ → TakeAnswer
read_taken w =
    cond (refused_in w) (Err (refusal_of (number_in w)))
    (cond (eqb (kind_in w) 0) (Ok (Data (line_in w) (value_in w)))
    (cond (eqb (kind_in w) 1) (Ok (Missing (line_in w) (value_in w)))
    (cond (eqb (kind_in w) 2) (Ok (Behind (line_in w))) (Ok (Waiting (line_in w))))))

-- why a run ended, as C reads it
unfoldable pub read_ended : ℕ → RunEnd
read_ended w = cond (refused_in w) (Err (refusal_of (number_in w))) (cond (eqb (kind_in w) 4) (Ok ended.Full) (Ok (ended.Waiting (line_in w))))
