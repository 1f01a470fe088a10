-- The numbers of a line in a row of fixed size.
use Rattle.std.specs.Prelude.{Option, Some, None, cond, List, ◌++◌, ℕ, ◌-◌, leb, length, replicate}
use Rattle.text.specs.declared.Row.{Row}
use Rattle.text.specs.Text.{Said, numbers, bad_text}

-- the numbers that a row holds; `limits` of src/lib.rt ties it to the constant of `Row`
abbrev pub most_numbers : ℕ
most_numbers = 19

-- the numbers, and zeros behind them
abbrev pub row_with : List ℕ → Row
row_with ns = record { count = length ns; values = ns ++ replicate (most_numbers - length ns) 0 }

-- none: bad text, or more numbers than a row holds
unfoldable pub row_of : Said → Option Row
row_of bad_text = None
row_of (numbers ns) = cond (leb (length ns) most_numbers) (Some (row_with ns)) None
