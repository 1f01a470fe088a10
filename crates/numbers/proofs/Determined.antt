-- Tightness of this crate's public functions. Assumes nothing.
use denote.Param.Laws.{Laws}
use mir.Syntax.{Dict}
use Rattle.numbers.proofs.Tight.{only, OneAnswer, OneOutcome}
use Rattle.numbers.proofs.Refusal.number.Reads as number
use Rattle.numbers.proofs.Refusal.number.Kinds as number-kinds
use Rattle.numbers.proofs.number_of.Reads as number-of
use Rattle.numbers.proofs.number_of.Kinds as number-of-kinds
use Rattle.numbers.proofs.in_range.Reads as in_range_lem
use Rattle.numbers.proofs.in_range.Kinds as in-range-kinds
use Rattle.numbers.proofs.read_number.Reads as read_number
use Rattle.numbers.proofs.read_number.Kinds as read-number-kinds
use Rattle.numbers.proofs.number_length.Reads as number-length
use Rattle.numbers.proofs.number_length.Kinds as number-length-kinds
use Rattle.numbers.proofs.write_number.Reads as write-number
use Rattle.numbers.proofs.write_number.Kinds as write-number-kinds
use Rattle.numbers.proofs.write_row.Reads as write-row
use Rattle.numbers.proofs.write_row.Kinds as write-row-kinds

pub number_tight : OneAnswer 0 number-kinds.ps number-kinds.r number.Post
number_tight κs a z z' e e' p q = only p q

pub number_of_tight : (g : _) (laws : Laws g) (dict : Dict) → OneAnswer 1 (number-of-kinds.ps g laws) (number-of-kinds.r g laws) (number-of.Post g laws dict)
number_of_tight g laws dict κs a z z' e e' p q = only p q

pub in_range_tight : OneAnswer 0 in-range-kinds.ps in-range-kinds.r in_range_lem.Post
in_range_tight κs a z z' e e' p q = only p q

pub read_number_tight : OneAnswer 1 read-number-kinds.ps read-number-kinds.r read_number.Post
read_number_tight κs a z z' e e' p q = only p q

pub number_length_tight : OneAnswer 0 number-length-kinds.ps number-length-kinds.r number-length.Post
number_length_tight κs a z z' e e' p q = only p q

pub write_number_tight : OneOutcome 1 write-number-kinds.ps write-number-kinds.r write-number.Post (λ κs e. e.1.0.now)
write_number_tight κs a z z' e e' p q = (only p.0 q.0, only p.1 q.1)

pub write_row_tight : OneOutcome 2 write-row-kinds.ps write-row-kinds.r write-row.Post (λ κs e. e.1.0.now)
write_row_tight κs a z z' e e' p q = (only p.0 q.0, only p.1 q.1)
