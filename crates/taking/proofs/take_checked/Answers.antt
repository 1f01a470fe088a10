-- `taking::take_checked` meets its contract. Assumes nothing.
use Rattle.std.proofs.Common.{arith, ◌<◌}
use Rattle.receiving.proofs.Laws.{valid}
use Rattle.receiving.proofs.Stores.{few_rings, Place, place, lent_is}
use Rattle.receiving.proofs.Taking.{ready, took}
use Rattle.taking.proofs.take_checked.Goals as goal
use Rattle.taking.proofs.take_checked.Goals.{After-line_at-number}

-- the current line, as it was found
current : (c : After-line_at-number) → c.line_at-number.result < c.args.r.plan.lines
current c = rw c.line_at-number.ensures (valid c.args.r c.requires.0).current

here : (c : After-line_at-number) → Place c.args.r c.args.store.now c.line_at-number.result
here c = place c.args.r c.args.store.now c.line_at-number.result c.requires.0 c.requires.1 (current c)

pub slice_bounds-lane-end : goal.slice_bounds-lane-end
slice_bounds-lane-end c =
    omega (arith, c.rings_bytes-start.ensures, (here (goal.at.slice_bounds-lane-end c).After-line_at-number).ring_ends)

pub invariant_of-lane : goal.invariant_of-lane
invariant_of-lane c =
    let a = c.args in
    record {
      ready = ready a.r a.store.now a.out.now c.requires.0 c.requires.1 _ c.line_at-number.ensures _ c.line_plan.ensures _ c.line_of.ensures _
          (lent_is a.r.rings.size a.store.now _ c.line_at-number.result c.rings_bytes-start.ensures);
    }

pub with_line-requires : goal.with_line-requires
with_line-requires c = (current (goal.at.with_line-requires c).After-line_at-number, (few_rings c.args.r c.requires.0).0)

pub returns : goal.returns
returns c =
    let a = c.args in
    took a.r a.store.now a.out.now c.requires.0 c.requires.1 _ c.line_at-number.ensures _ c.line_plan.ensures _ c.line_of.ensures _
    (lent_is a.r.rings.size a.store.now _ c.line_at-number.result c.rings_bytes-start.ensures)
    _ _ c.take-step.ensures.0 c.take-step.ensures.1 _ c.with_line.ensures
