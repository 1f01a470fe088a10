-- Tightness of this crate's public functions. Assumes nothing.
use borrow.Fn.Kinds.{Dens}
use mathlib.Core.Path.{◌≡◌}
use Rattle.numbers.specs.Refusals.{number}
use Rattle.numbers.proofs.Tight.{only, OneAnswer}
use Rattle.answers.proofs.RefusalNumbered.told_number.Reads as of_table
use Rattle.answers.proofs.RefusalNumbered.told_number.Kinds as of-table-kinds
use Rattle.answers.proofs.U32Numbered.told_number.Reads as of_any
use Rattle.answers.proofs.U32Numbered.told_number.Kinds as of-any-kinds
use Rattle.answers.proofs.told.Reads as told
use Rattle.answers.proofs.told.Kinds as told-kinds

pub told_tight : OneAnswer 0 told-kinds.ps told-kinds.r told.Post
told_tight κs a z z' e e' p q = only p q

pub of_table_tight : OneAnswer 0 of-table-kinds.ps of-table-kinds.r of_table.Post
of_table_tight κs a z z' e e' p q = only p q

pub of_any_tight : OneAnswer 0 of-any-kinds.ps of-any-kinds.r of_any.Post
of_any_tight κs a z z' e e' p q = only p q

-- What tells a number: one of the table by its number there, and a number by itself.
pub table_number : (κs : _) (a : Dens κs of-table-kinds.ps) (z : _) (e : _) → of_table.Post κs a z e → z ≡ number a.0
table_number κs a z e p = p

pub own_number : (κs : _) (a : Dens κs of-any-kinds.ps) (z : _) (e : _) → of_any.Post κs a z e → z ≡ a.0
own_number κs a z e p = p
