-- `ring::copy` meets its contract: up to here the bytes are those that are copied. Assumes nothing.
use Rattle.std.proofs.Common.{◌≡◌, take}
use Rattle.ring.proofs.copy.Given as goal

abbrev pub invariant-loop-at : goal.invariant-loop-at
invariant-loop-at l = take l.at l.to ≡ take l.at l.from
