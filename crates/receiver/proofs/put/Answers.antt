-- `receiver::put` meets its contract: the line's ring is lent, and the store with the ring that comes back is the definition's. Assumes nothing.
use Rattle.receiving.proofs.Arrivals.{no_room, is_stored}
use Rattle.receiving.proofs.Stores.{Place, place}
use Rattle.receiver.proofs.put.Goals as goal
use Rattle.receiver.proofs.put.Goals.{Start}

here : (c : Start) → Place c.args.r c.args.store.now c.args.line
here c = let a = c.args in place a.r a.store.now a.line c.requires.0 c.requires.1 c.requires.2

pub bounds-r-i : goal.bounds-r-i
bounds-r-i c = (here (goal.at.bounds-r-i c).Start).is_line

pub bounds-r-i-2 : goal.bounds-r-i-2
bounds-r-i-2 c = (here (goal.at.bounds-r-i-2 c).Start).is_line

pub bounds-next-i : goal.bounds-next-i
bounds-next-i c = (here (goal.at.bounds-next-i c).Start).is_line

pub returns-then-not-store : goal.returns-then-not-store
returns-then-not-store c =
    let a = c.args in
    rw c.not_stored.ensures
    (no_room a.r a.line a.kind a.bytes.now a.store.now (here (goal.at.returns-then-not-store c).Start) _ c.rings_bytes-start.ensures
    _ _ c.store.ensures c.if-not-store.true)

pub returns : goal.returns
returns c =
    let a = c.args in
    is_stored a.r a.line a.kind a.bytes.now a.store.now (here (goal.at.returns c).Start) _ c.rings_bytes-start.ensures
    _ _ c.store.ensures c.if-not-store.false
