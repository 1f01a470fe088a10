-- What a ring means: the items in it, oldest first.
use Rattle.std.specs.Prelude.{ℕ, zero, suc, ◌+◌, ◌≤◌, ◌<◌, ◌≡◌, List, [], ◌∷◌, ◌++◌, length, take, drop, Some, None}
use Rattle.plan.specs.Limits.{item_head}
use Rattle.ring.specs.Ring.{Front, item_bytes, held, front_of}

-- an item of a queue
pub record Entry : Type 0 where
  pub kind : ℕ
  pub bytes : List ℕ

abbrev pub entry : ℕ → List ℕ → Entry
entry kind bytes = record { kind = kind; bytes = bytes }

-- the items at the front of the bytes, at most so many
abbrev pub and_more : List ℕ → (List ℕ → List Entry) → Front → List Entry
and_more s more None = []
and_more s more (Some (kind, n)) = entry kind (take n (drop item_head s)) ∷ more (drop (item_head + n) s)

unfoldable pub items_in : ℕ → List ℕ → List Entry
items_in zero s = []
items_in (suc most) s = and_more s (items_in most) (front_of s)

-- the queue that a ring holds: every item has a byte at least
unfoldable pub queue : List ℕ → ℕ → ℕ → List Entry
queue ring head used = items_in used (held ring head used)

-- items one behind another, as storing lays them
unfoldable pub row_of : List Entry → List ℕ
row_of [] = []
row_of (e ∷ es) = item_bytes e.kind e.bytes ++ row_of es

-- each of a length that two bytes can say
abbrev pub Short : List Entry → Type 0
Short [] = Unit {0}
Short (e ∷ es) = (length e.bytes < 65536) × Short es

-- the ring holds these items and nothing else
pub record Holds (ring : List ℕ) (head used : ℕ) (es : List Entry) : Type 0 where
  pub fits : used ≤ length ring
  pub row : held ring head used ≡ row_of es
  pub short : Short es
