-- `plan::counters_ok` meets its contract: this turn's pair is the next line's. Assumes nothing.
use Rattle.std.proofs.Common.{arith, get_or-take, length, length-take, take, sym, ◌∙◌, ◌<◌, ◌≡◌}
use Rattle.std.proofs.lemmas.List.{length_push}
use Rattle.std.proofs.lemmas.Slice.Zip.{zip_turn}
use Rattle.numbers.proofs.Checks.{all_more}
use Rattle.plan.specs.Plan.{at, counter_ok, quantum}
use Rattle.plan.proofs.counters_ok.Goals as goal

pub loop-c-preserved : goal.loop-c-preserved
loop-c-preserved c =
    let p = c.args.p in
    let counters = c.args.counters in
    let line = length c.loop-c.yielded in
    let turn = zip_turn (take p.lines counters) (take p.lines p.quanta) c.loop-c.yielded c.into_iter-c-iterator.result c.loop-c.c-iterator c.next.new.self _ (cc) (cc) c.loop-c.yielded_by (c.in-Some.c, c.in-Some.q) c.in-Some.is c.next.ensures.steps in
    let below : line < p.lines = omega (arith, turn.0, length-take p.lines counters) in
    let its_counter : c.in-Some.c.now ≡ at counters line = turn.2 0 ∙ get_or-take p.lines counters line 0 below in
    let its_quantum : c.in-Some.q.now ≡ quantum p line = turn.3 0 ∙ get_or-take p.lines p.quanta line 0 below in
    rw (c.loop-c.invariant, c.in_range-good.ensures, its_counter, its_quantum, length_push) (sym (all_more (counter_ok p counters) line))
