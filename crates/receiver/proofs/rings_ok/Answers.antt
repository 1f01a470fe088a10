-- `receiver::rings_ok` meets its contract: the places of this turn are the next line's. Assumes nothing.
use Rattle.std.proofs.Common.{arith, take}
use Rattle.std.proofs.lemmas.Grind.{common_steps}
use Rattle.std.proofs.lemmas.List.{length_push}
use Rattle.std.proofs.lemmas.Slice.Zip.{zip_turn}
use Rattle.numbers.proofs.Checks.{all_more}
use Rattle.receiver.proofs.rings_ok.Goals as goal

pub loop-head-preserved : goal.loop-head-preserved
loop-head-preserved c =
    let a = c.args in
    let heads = take a.p.lines a.g.now.heads in
    let used = take a.p.lines a.g.now.used in
    let turn = zip_turn heads used _ c.into_iter-head-iterator.result _ c.next.new.self _ (cc) (cc) c.loop-head.yielded_by _ c.in-Some.is c.next.ensures.steps in
    grind (arith, common_steps, all_more, turn.2 0, turn.3 0, length_push c.loop-head.yielded (c.in-Some.head, c.in-Some.used))
