-- `table::went` meets its contract. Assumes nothing.
use Rattle.std.proofs.Common.{Fits, arith, get_or, refl, rules, w32}
use Rattle.table.specs.Table.{next}
use Rattle.table.proofs.Printing.{row_size}
use Rattle.table.proofs.went.Goals as goal

pub returns : goal.returns
returns c =
    let a = c.args in
    let round : Fits w32 (get_or a.t.sender.rounds a.to.line 0) = search rules in (
      refl,
      refl,
      row_size (next a.t.packets) a.n a.to.line (get_or a.t.sender.rounds a.to.line 0) (get_or a.t.sender.counters a.to.line 0) a.to.due
          (omega arith) c.requires.1 c.requires.0 round.fits c.requires.2,
    )
