-- The laws of an item at the head of a lane. Assumes nothing.
use mathlib.Core.Path.{◌≡◌}
use Prim.Native.Nat.{ℕ, ◌≤◌}
use native.Mathlib.Omega.{arith}
use mathlib.Core.List.{List, ◌++◌}
use lib.ListN.{length, take}
use lib.Seq.{take_at}
use Rattle.plan.specs.Plan.{charge_of}
use Rattle.plan.proofs.Laws.{LineInRange, charge_quantum}
use Rattle.ring.proofs.Laws.{in_front_length}
use Rattle.taking.specs.declared.Item.{Item}
use Rattle.taking.specs.Lanes.{bytes_in}

module _ (item : Item) where
  -- all of its bytes are there,
  pub item_length : length (bytes_in item) ≡ item.length
  item_length = in_front_length item.lane.ring.now item.lane.figures.held.head item.length (omega (arith, item.whole, item.lane.ready.7))

  -- and are the front of what they are copied to
  pub item_copied : (rest : List ℕ) → take item.length (bytes_in item ++ rest) ≡ bytes_in item
  item_copied rest = take_at (bytes_in item) rest item.length item_length

  -- the line's quantum covers what a packet is charged
  pub item_covered : 1 ≤ item.length → item.length ≤ item.lane.plan.largest → charge_of item.lane.plan item.length ≤ item.lane.plan.quantum
  item_covered some most =
      let g = item.lane.ready in
      let range : LineInRange item.lane.plan = record { largest_least = g.0; largest_most = g.1; quantum_least = g.2; quantum_most = g.3 } in
      charge_quantum item.lane.plan range item.length some most
