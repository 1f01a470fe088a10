-- A line's ring: S bytes that are used round their end, and the items in it.
use Rattle.std.specs.Prelude.{ℕ, ◌+◌, ◌-◌, ◌*◌, ◌/◌, ◌%◌, Bool, cond, List, [], ◌∷◌, ◌++◌, leb, length, take, drop, Option, Some, None}
use Rattle.plan.specs.Limits.{item_head}

-- ---- bytes of a ring

-- the ring as it is read from a place on, round its end
abbrev pub turned : ℕ → List ℕ → List ℕ
turned at ring = drop at ring ++ take at ring

-- n bytes from a place on
unfoldable pub from_ring : List ℕ → ℕ → ℕ → List ℕ
from_ring ring at n = take n (turned at ring)

-- bytes laid over the front of others
abbrev pub onto : List ℕ → List ℕ → List ℕ
onto s over = s ++ drop (length s) over

-- the ring with s laid in from a place on: over the front of the ring as it is read from there, and turned back
unfoldable pub into_ring : List ℕ → ℕ → List ℕ → List ℕ
into_ring ring at s = turned (length ring - at) (onto s (turned at ring))

-- ---- items: a kind byte (0 data, 1 marker), the length in two bytes low first, then the bytes

abbrev pub item_bytes : ℕ → List ℕ → List ℕ
item_bytes kind b = kind ∷ length b % 256 ∷ length b / 256 % 256 ∷ b

-- the bytes that a ring holds, oldest first
unfoldable pub held : List ℕ → ℕ → ℕ → List ℕ
held ring head used = from_ring ring (head % length ring) used

-- there is room for an item of so many bytes in a ring of S
abbrev pub room_for : ℕ → ℕ → ℕ → Bool
room_for size used n = leb (item_head + n) (size - used)

-- a new item starts at head plus used, modulo S
unfoldable pub stored : List ℕ → ℕ → ℕ → ℕ → List ℕ → List ℕ
stored ring head used kind b = into_ring ring ((head + used) % length ring) (item_bytes kind b)

-- an item's kind and length, or nothing that can be one
abbrev pub Front : Type 0
Front = Option (ℕ × ℕ)

-- the kind and the length of the item in front: there is none where fewer bytes are held than that
unfoldable pub front_of : List ℕ → Front
front_of [] = None
front_of (kind ∷ []) = None
front_of (kind ∷ low ∷ []) = None
front_of (kind ∷ low ∷ high ∷ rest) = cond {A = Front} (leb (low + high * 256) (length rest)) (Some (kind, low + high * 256)) None

-- the n bytes of the item at the head
abbrev pub in_front : List ℕ → ℕ → ℕ → List ℕ
in_front ring head n = from_ring ring ((head + item_head) % length ring) n
