-- `table::plan_from` meets its contract. Assumes nothing.
use Rattle.std.proofs.Common.{rules, length, get_or, ℕ, ◌≡◌, ◌+◌}
use Rattle.text.specs.Rows.{most_numbers}
use Rattle.table.specs.Table.{narrow}
use Rattle.table.proofs.Making.{given_at, quanta_made}
use Rattle.table.proofs.plan_from.Goals as goal

pub returns : goal.returns
returns c =
    let values = c.args.values in
    let all : length values ≡ most_numbers = search rules in
    let made = c.from_fn.ensures.items in
    let q = quanta_made values all c.from_fn.result made.long (given_at (λ (i : ℕ). narrow (get_or values (3 + i) 0)) (λ i y q k. search rules) made) in
    λ k. record { lines = c.narrow.ensures k; max = c.narrow-2.ensures k; interval = c.narrow-3.ensures k; quanta = q k }
