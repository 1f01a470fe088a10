-- `table::packet_line` meets its contract. Assumes nothing.
use Rattle.std.proofs.Common.{get_or}
use Rattle.table.proofs.Making.{went_line}
use Rattle.table.proofs.packet_line.Goals as goal

pub went-requires : goal.went-requires
went-requires c =
    went_line c.args.t.sender (get_or c.args.row.values 0 0) c.send-sent.result c.send-sent.ensures c.in-Ok.to c.in-Ok.is
