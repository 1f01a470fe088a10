-- The words in which the demands are said of calls.
use Rattle.std.specs.Prelude.{ℕ, zero, suc, ◌+◌, ◌*◌, ◌≤◌, List, [], ◌∷◌, ◌++◌, ◌≡◌, length, Ok, Err}
use Rattle.plan.specs.declared.Plan.{Plan}
use Rattle.plan.specs.Ranges.{PlanIn, StoreIn}
use Rattle.theory.specs.System as T
use Rattle.ring.specs.Queue.{Entry}
use Rattle.receiving.specs.Taking.{TakeAnswer}
use Rattle.receiving.specs.declared.Taken.TheVariants as taken
use Rattle.receiving.specs.Stage.{stage, queue_on}
use Rattle.bundle.specs.Events.{Parcel, packet, marker}
use Rattle.bundle.specs.Worlds.{World, Call}
use Rattle.numbers.specs.Refusals.{number}

-- A plan and S in range, and a store of N × S bytes (a plan's quanta are an array of sixteen). Both ends open then, and only then.
pub record Opens (p : Plan) (size : ℕ) (store : List ℕ) : Type 0 where
  pub sixteen : length p.quanta ≡ 16
  pub plan : PlanIn p
  pub room : StoreIn p size
  pub long : length store ≡ p.lines * size

-- one call more
abbrev pub and_then : List Call → Call → List Call
and_then h e = h ++ (e ∷ [])

-- a list from its end
abbrev pub back : {A : Type 0} → List A → List A
back [] = []
back (x ∷ xs) = back xs ++ (x ∷ [])

-- an answer of a take about line i: no marker is behind, and it is refused only for want of room
abbrev pub Names : ℕ → TakeAnswer → Type 0
Names i (Ok (taken.Waiting line)) = i ≡ line
Names i (Ok (taken.Data line n)) = i ≡ line
Names i (Ok (taken.Missing line m)) = i ≡ line
Names i (Ok (taken.Behind line)) = ⊥
Names i (Err refusal) = number refusal ≡ 8

-- an output has room for what is in front
abbrev pub RoomFor : List T.Item → List ℕ → Type 0
RoomFor [] out = Unit {0}
RoomFor (T.packet k x ∷ rest) out = length x ≤ length out
RoomFor (T.marker k m ∷ rest) out = Unit {0}

-- line i's queue, and the items held on the lines below n
abbrev pub queue_at : World → ℕ → List Entry
queue_at w i = queue_on i (stage w.receiver w.store)

abbrev pub held_below : World → ℕ → ℕ
held_below w zero = 0
held_below w (suc n) = held_below w n + length (queue_at w n)

-- the bytes that a queue takes in its ring: three for an item's kind and length, and its own
abbrev pub queue_bytes : List Entry → ℕ
queue_bytes [] = 0
queue_bytes (e ∷ es) = 3 + length e.bytes + queue_bytes es

-- no packet is queued; none is under way
abbrev pub NoPacket : List Entry → Type 0
NoPacket [] = Unit {0}
NoPacket (e ∷ es) = (e.kind ≡ 0 → ⊥) × NoPacket es

abbrev pub NoPacketOn : List Parcel → Type 0
NoPacketOn [] = Unit {0}
NoPacketOn (packet b ∷ rest) = ⊥
NoPacketOn (marker b ∷ rest) = NoPacketOn rest

abbrev pub bytes_of : Parcel → List ℕ
bytes_of (packet b) = b
bytes_of (marker b) = b
