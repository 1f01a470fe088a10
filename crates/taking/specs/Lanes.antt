-- What the steps of a take say of a line's lane and of the item at its head: nothing public rests on it.
use Rattle.std.specs.Prelude.{ℕ, List, length}
use Rattle.ring.specs.Ring.{in_front}
use Rattle.receiving.specs.Taking.{Head, Stepped, step_of}
use Rattle.taking.specs.declared.Lane.{Lane}
use Rattle.taking.specs.declared.Item.{Item}

-- what a take makes of a head
abbrev pub step_on : Lane → List ℕ → Head → Stepped
step_on lane out h = step_of lane.plan (length lane.ring.now) lane.number lane.figures out h

-- the item's bytes, behind its head of three
abbrev pub bytes_in : Item → List ℕ
bytes_in item = in_front item.lane.ring.now item.lane.figures.held.head item.length
