-- A run of takes is takes, one behind another.
use Rattle.std.specs.Prelude.{ℕ, ◌<◌, List, [], ◌∷◌, ◌++◌, map, ◌⊎◌, ◌≡◌, length, take, drop, Ok, Err}
use Rattle.receiving.specs.Taking.{TakeAnswer, take_of}
use Rattle.receiving.specs.declared.Taken.TheVariants as taken
use Rattle.receiving.specs.Takes.{RunEnd, ended_number, word_of, Run, takes_of}
use Rattle.receiving.specs.declared.Ended.TheVariants as ended
use Rattle.bundle.specs.Worlds.{World, takes, call, calls, handed_in}
use Rattle.numbers.specs.declared.Refusal.{Refusal}

-- bytes one behind another
abbrev pub joined : List (List ℕ) → List ℕ
joined [] = []
joined (x ∷ rest) = x ++ joined rest

-- what takes into these outputs answer
abbrev pub answers_in : World → List (List ℕ) → List TakeAnswer
answers_in w [] = []
answers_in w (out ∷ outs) = (take_of w.receiver w.store out).result.answer ∷ answers_in (call w (takes out)) outs

-- a run that ended so stopped at a take of this answer: it waits, or is refused
abbrev pub StopsAt : RunEnd → TakeAnswer → Type 0
StopsAt end answer =
    ((i : ℕ) × (answer ≡ Ok (taken.Waiting i)) × (end ≡ Ok (ended.Waiting i))) ⊎ ((refusal : Refusal) × (answer ≡ Err refusal) × (end ≡ Err refusal))

-- From any world, with any output and log: there are as many takes as the run counts, which leave the receiver as the run does; their packets
-- lie one behind another at the front of the run's output, as many bytes as the run tells, and their words at the front of its log. The log is full then,
-- or it is not and the next take, into what is left of the output, would wait or be refused; and the run tells which. (A state or a store that is refused, with 2 or
-- 9, is so before the log is looked at.)
pub record Runs (w : World) (log : List ℕ) (run : Run) : Type 0 where
  pub outs : List (List ℕ)
  pub count : length outs ≡ run.result.taken
  pub world : (calls w (map takes outs)).receiver ≡ run.result.next
  pub bytes : joined (handed_in w (map takes outs)) ≡ take run.result.bytes run.out
  pub told : length (joined (handed_in w (map takes outs))) ≡ run.result.bytes
  pub words : map word_of (answers_in w outs) ≡ take run.result.taken run.log
  pub stops :
      ((run.result.taken ≡ length log) × (run.result.ended ≡ Ok ended.Full))
      ⊎ (StopsAt run.result.ended (take_of run.result.next w.store (drop run.result.bytes run.out)).result.answer
      × ((run.result.taken < length log) ⊎ (ended_number run.result.ended ≡ 2) ⊎ (ended_number run.result.ended ≡ 9)))

abbrev pub RunIsTakes : Type 0
RunIsTakes = (w : World) (out log : List ℕ) → Runs w log (takes_of w.receiver w.store out log)
