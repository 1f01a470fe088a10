-- `numbers::row_length` meets its contract: what the numbers are long, one by one, adds up to the row's length. Assumes nothing.
use Rattle.std.proofs.Common.{arith, length, rules, ◌<◌, ◌^◌}
use Rattle.std.specs.List.{sum_by}
use Rattle.numbers.specs.Coding.{coded}
use Rattle.numbers.proofs.Laws.{row_sum, row_size}
use Rattle.numbers.proofs.row_length.Goals as goal

pub sum-requires-clause-fits : goal.sum-requires-clause-fits
sum-requires-clause-fits c =
    let row = c.args.row.now in
    let fits : sum_by (λ v. length (coded 32 v)) row < 2 ^ 64 = omega (arith, row_sum row, row_size row (λ i. (c.type_inv.row i).fits)) in
    search rules
