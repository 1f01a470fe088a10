-- `stripes::pass` meets its contract: a feed uses some of what is left of the piece, and no more.
use Rattle.std.proofs.Common.{arith, length, length-drop, length-take, rules, tests, drop, ◌-◌, ◌<◌, ◌≤◌, ◌≡◌}
use Rattle.session.proofs.Promises as promise
use Rattle.stripes.proofs.pass.Goals as goal

pub slice_bounds-left-count : goal.slice_bounds-left-count
slice_bounds-left-count g c =
    omega (arith, promise.within c.loop-left.s c.loop-left.left.now (length c.loop-left.out), c.feed-fed.ensures.1)

pub slice_bounds-left-start : goal.slice_bounds-left-start
slice_bounds-left-start g c =
    let within : c.feed-fed.result.used ≤ length c.loop-left.left.now =
    omega (arith, promise.within c.loop-left.s c.loop-left.left.now (length c.loop-left.out), c.feed-fed.ensures.1) in
    search rules

pub loop-left-smaller : goal.loop-left-smaller
loop-left-smaller g c =
    let left = c.loop-left.left.now in
    let used = c.feed-fed.result.used in
    let room : length c.loop-left.out ≡ 65536 = search rules in
    let more : 0 < length left = search (rules, tests) in
    let some : 0 < used = omega (arith, promise.some c.loop-left.s left (length c.loop-left.out) more (omega (arith, room)), c.feed-fed.ensures.1) in
    omega (arith, length-take (length left - used) (drop used left), length-drop used left)
