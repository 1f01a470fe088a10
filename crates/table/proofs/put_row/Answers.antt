-- `table::put_row` meets its contract: its parts are put one after another. Assumes nothing.
use Rattle.table.specs.Table.{row}
use Rattle.text.proofs.Printing.{put_first, put_next, put_last}
use Rattle.table.proofs.Printing.{row_parts, row_is}
use Rattle.table.proofs.put_row.Goals as goal

pub returns : goal.returns
returns c =
    let a = c.args in
    let p = c.args.p in
    put_last
    (put_next (put_next (put_next (put_next (put_next (put_next
    (put_first (row p.number p.size p.line p.round p.counter p.due) (row_parts p.number p.size p.line p.round p.counter p.due) a.at a.out.now
    (row_is p.number p.size p.line p.round p.counter p.due) c.requires)
    c.put_spaced-after_number.ensures) c.put_spaced-after_size.ensures) c.put_spaced-after_line.ensures) c.put_spaced-after_round.ensures) c.put_spaced-after_counter.ensures)
    (rw c.mark.ensures at c.put_text.ensures))
