-- `text::read_row` meets its contract: what is left of the line, read from here, makes the whole row. Assumes nothing.
use Rattle.std.proofs.Common.{drop, length, replicate, take, ◌-◌, ◌<◌, ◌^◌, ◌≡◌, ◌≤◌}
use Rattle.text.specs.Text.{said_from, said}
use Rattle.text.specs.Rows.{most_numbers, row_of}
use Rattle.text.proofs.read_row.Given as goal

abbrev pub invariant-loop-b : goal.invariant-loop-b
invariant-loop-b l =
    (l.row.count < most_numbers) × (length l.row.values ≡ most_numbers) × (l.digits ≤ 10) × (l.value < 10 ^ l.digits)
    × (drop l.row.count l.row.values ≡ replicate (most_numbers - l.row.count) 0)
    × (row_of (said_from (take l.row.count l.row.values) l.digits l.value (drop l.b-index l.line)) ≡ row_of (said l.line))
