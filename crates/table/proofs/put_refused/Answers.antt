-- `table::put_refused` meets its contract: its parts are put one after another. Assumes nothing.
use Rattle.table.specs.Table.{refused_text}
use Rattle.text.proofs.Printing.{put_first, put_next, put_last}
use Rattle.table.proofs.Printing.{refused_parts, refused_is}
use Rattle.table.proofs.put_refused.Goals as goal

pub returns : goal.returns
returns c =
    let a = c.args in
    put_last
    (put_next (put_next (put_next (put_next
    (put_first (refused_text a.number a.line) (refused_parts a.number a.line) a.at a.out.now (refused_is a.number a.line) c.requires)
    c.put_text-after_word.ensures) c.put_spaced-after_number.ensures) c.put_decimal-after_line.ensures) c.put_text.ensures)
