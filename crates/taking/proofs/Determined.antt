-- Tightness of this crate's public functions. Assumes nothing.
use Rattle.answers.specs.declared.Numbered as Numbered
use denote.Param.Laws.{Laws}
use mir.Syntax.{Dict}
use Rattle.numbers.proofs.Tight.{only, OneAnswer, OneOutcome}
use Rattle.taking.proofs.take.Reads as take
use Rattle.taking.proofs.take.Kinds as take-kinds
use Rattle.taking.proofs.word_of.Reads as word_of
use Rattle.taking.proofs.word_of.Kinds as word-of-kinds
use Rattle.taking.proofs.ended_word.Reads as ended-word
use Rattle.taking.proofs.ended_word.Kinds as ended-word-kinds
use Rattle.taking.proofs.take_run.Reads as take-run
use Rattle.taking.proofs.take_run.Kinds as take-run-kinds

pub take_tight : OneOutcome 2 take-kinds.ps take-kinds.r take.Post (λ κs e. e.1.1.0.now)
take_tight κs a z z' e e' p q = (only p.0 q.0, only p.1 q.1)

pub word_of_tight : (g : _) (laws : Laws g) (numbered : Numbered.Ghosts g.Denot) (dict : Dict) → OneAnswer 1 (word-of-kinds.ps g laws) (word-of-kinds.r g laws) (word_of.Post g laws numbered dict)
word_of_tight g laws numbered dict κs a z z' e e' p q = only p q

pub ended_word_tight : (g : _) (laws : Laws g) (numbered : Numbered.Ghosts g.Denot) (dict : Dict) → OneAnswer 1 (ended-word-kinds.ps g laws) (ended-word-kinds.r g laws) (ended-word.Post g laws numbered dict)
ended_word_tight g laws numbered dict κs a z z' e e' p q = only p q

-- the output, and the log
pub take_run_tight : OneOutcome 3 take-run-kinds.ps take-run-kinds.r take-run.Post (λ κs e. e.1.1.0.now)
take_run_tight κs a z z' e e' p q = (only p.0 q.0, only p.1 q.1)

pub take_run_log_tight : OneOutcome 3 take-run-kinds.ps take-run-kinds.r take-run.Post (λ κs e. e.1.1.1.0.now)
take_run_log_tight κs a z z' e e' p q = (only p.0 q.0, only p.2 q.2)
