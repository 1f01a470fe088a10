-- `numbers::write_row` meets its contract: what the row has from here on, stored from here, makes the output what it is to be.
-- Assumes nothing.
use Rattle.std.proofs.Common.{drop, length, ◌+◌, ◌≡◌}
use lib.Seq.{sets}
use Rattle.numbers.specs.Coding.{row_bytes}
use Rattle.numbers.proofs.write_row.Given as goal

abbrev pub invariant-loop-v : goal.invariant-loop-v
invariant-loop-v l =
    (l.at + length (row_bytes (drop l.v-index l.row)) ≡ l.size) × (length l.out ≡ length l.initial.out) × (sets l.out l.at (row_bytes (drop l.v-index l.row)) ≡ sets l.initial.out 0 (row_bytes l.row))
