-- Tightness of this crate's public functions. Assumes nothing.
use Rattle.numbers.proofs.Tight.{only, OneAnswer, OneOutcome}
use Rattle.text.proofs.put_text.Reads as put-text
use Rattle.text.proofs.put_text.Kinds as put-text-kinds
use Rattle.text.proofs.put_decimal.Reads as put-decimal
use Rattle.text.proofs.put_decimal.Kinds as put-decimal-kinds
use Rattle.text.proofs.put_spaced.Reads as put-spaced
use Rattle.text.proofs.put_spaced.Kinds as put-spaced-kinds
use Rattle.text.proofs.is_digit.Reads as is_digit
use Rattle.text.proofs.is_digit.Kinds as is-digit-kinds
use Rattle.text.proofs.read_row.Reads as read-row
use Rattle.text.proofs.read_row.Kinds as read-row-kinds

pub put_text_tight : OneOutcome 2 put-text-kinds.ps put-text-kinds.r put-text.Post (λ κs e. e.1.0.now)
put_text_tight κs a z z' e e' p q = (only p.0 q.0, only p.1 q.1)

pub put_decimal_tight : OneOutcome 1 put-decimal-kinds.ps put-decimal-kinds.r put-decimal.Post (λ κs e. e.1.0.now)
put_decimal_tight κs a z z' e e' p q = (only p.0 q.0, only p.1 q.1)

pub put_spaced_tight : OneOutcome 1 put-spaced-kinds.ps put-spaced-kinds.r put-spaced.Post (λ κs e. e.1.0.now)
put_spaced_tight κs a z z' e e' p q = (only p.0 q.0, only p.1 q.1)

pub is_digit_tight : OneAnswer 0 is-digit-kinds.ps is-digit-kinds.r is_digit.Post
is_digit_tight κs a z z' e e' p q = only p q

pub read_row_tight : OneAnswer 1 read-row-kinds.ps read-row-kinds.r read-row.Post
read_row_tight κs a z z' e e' p q = only p q
