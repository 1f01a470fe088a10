-- Each number of a step ends behind where it begins, and so does the row of bytes.
use Rattle.std.proofs.Common.{arith, sym, ◌∙◌}
use Rattle.recording.proofs.Laws.{within, part_within}
use Rattle.player.proofs.step.step_at.Goals as goal

pub returns-clause-onward : goal.returns-clause-onward
returns-clause-onward c =
    let s = c.args.input.now in
    let kind = within s c.args.at (sym c.number_at.ensures ∙ c.in_ok-kind.was) in
    let a = within s c.in_ok-kind.after (sym c.number_at-2.ensures ∙ c.in_ok-a.was) in
    let b = within s c.in_ok-a.after (sym c.number_at-3.ensures ∙ c.in_ok-b.was) in
    let n = within s c.in_ok-b.after (sym c.number_at-4.ensures ∙ c.in_ok-c.was) in
    let bytes = part_within s c.in_ok-c.after (sym c.part_at.ensures ∙ c.in_ok-bytes.was) in
    omega arith
