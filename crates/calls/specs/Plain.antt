-- The specification's words as plain propositions: valid states and layouts, in its own numbers. No test of the calls' definitions is used.
-- (The table of ranges: `plan/specs/Ranges.antt`.)
use Rattle.std.specs.Prelude.{ℕ, zero, suc, ◌+◌, ◌*◌, ◌%◌, ◌≤◌, ◌<◌, List, [], ◌∷◌, ◌++◌, ◌⊎◌, ◌≡◌, length, take, get_or}
use Rattle.numbers.specs.Coding.{coded, row_bytes}
use Rattle.plan.specs.declared.Plan.{Plan}
use Rattle.plan.specs.Plan.{at, quantum}
use Rattle.plan.specs.Ranges.{From, PlanIn, StoreIn, CountersIn}
use Rattle.sending.specs.declared.Sender.{Sender}
use Rattle.receiving.specs.declared.Receiver.{Receiver}

abbrev pub Not : Type 0 → Type 0
Not P = P → ⊥

-- every entry from n on is zero
abbrev pub ZeroFrom : ℕ → List ℕ → Type 0
ZeroFrom n entries = (i : ℕ) → n ≤ i → at entries i ≡ 0

-- ---- valid states

-- a state's lists are arrays of sixteen
pub record SenderArrays (s : Sender) : Type 0 where
  pub quanta : length s.plan.quanta ≡ 16
  pub rounds : length s.rounds ≡ 16
  pub counters : length s.counters ≡ 16

pub record ReceiverArrays (r : Receiver) : Type 0 where
  pub quanta : length r.plan.quanta ≡ 16
  pub heads : length r.rings.heads ≡ 16
  pub used : length r.rings.used ≡ 16
  pub rounds : length r.turns.rounds ≡ 16
  pub counters : length r.turns.counters ≡ 16

pub record SenderIn (s : Sender) : Type 0 where
  pub plan : PlanIn s.plan
  pub line : s.line < s.plan.lines
  pub countdown : From 1 s.plan.interval s.countdown
  pub counters : CountersIn s.plan s.counters

-- a round is d rounds ahead of another, by subtraction that wraps at 2^32
abbrev pub Ahead : ℕ → ℕ → ℕ → Type 0
Ahead round from d = (d < 4294967296) × ((from + d) % 4294967296 ≡ round % 4294967296)

-- line i is the lowest-numbered line whose round equals the current round
abbrev pub Current : Receiver → ℕ → Type 0
Current r i =
    (i < r.plan.lines) × (at r.turns.rounds i ≡ r.turns.round)
    × ((j : ℕ) → j < i → Not (at r.turns.rounds j ≡ r.turns.round))

pub record ReceiverIn (r : Receiver) : Type 0 where
  pub plan : PlanIn r.plan
  pub store : StoreIn r.plan r.rings.size
  pub heads : (i : ℕ) → i < r.plan.lines → at r.rings.heads i < r.rings.size
  pub used : (i : ℕ) → i < r.plan.lines → at r.rings.used i ≤ r.rings.size
  pub counters : CountersIn r.plan r.turns.counters
  pub rounds : (i : ℕ) → i < r.plan.lines → (d : ℕ) × Ahead (at r.turns.rounds i) r.turns.round d × (d < 2147483648)
  pub current : (i : ℕ) × Current r i

-- ---- records: numbers in shortest form, one behind another, and no byte over

pub record PlanSpelled (b : List ℕ) (p : Plan) : Type 0 where
  pub in_range : PlanIn p
  pub sixteen : length p.quanta ≡ 16
  pub rest_zero : ZeroFrom p.lines p.quanta
  pub bytes : b ≡ coded 32 p.lines ++ coded 32 p.max ++ coded 32 p.interval ++ row_bytes (take p.lines p.quanta)

pub record MarkerSpelled (b : List ℕ) (line round counter : ℕ) : Type 0 where
  pub line_small : line < 4294967296
  pub round_small : round < 4294967296
  pub counter_small : counter < 4294967296
  pub bytes : b ≡ coded 32 line ++ coded 32 round ++ coded 32 counter

-- some marker is spelled, its counter from 1 to q
abbrev pub MarkerTo : ℕ → List ℕ → Type 0
MarkerTo q b = (line round counter : ℕ) × MarkerSpelled b line round counter × From 1 q counter

-- some marker is spelled, of a line that passes
abbrev pub MarkerOf : (ℕ → Type 0) → List ℕ → Type 0
MarkerOf Line b = (line round counter : ℕ) × MarkerSpelled b line round counter × Line line

-- ---- the store: line i owns the S bytes from i × S and uses them as a ring

-- the place of byte k behind a position of line i's ring
abbrev pub place_in : ℕ → ℕ → ℕ → ℕ → ℕ
place_in size i from k = i * size + (from + k) % size

-- byte k of what line i holds, oldest first
abbrev pub held_byte : Receiver → List ℕ → ℕ → ℕ → ℕ
held_byte r store i k = get_or store (place_in r.rings.size i (at r.rings.heads i) k) 0

-- the first n of some numbers
abbrev pub first_of : (ℕ → ℕ) → ℕ → List ℕ
first_of f zero = []
first_of f (suc n) = f 0 ∷ first_of (λ k. f (suc k)) n

-- An item of this kind, with these bytes, stands at the head of line i's queue: the kind, the length in two bytes low first, then the bytes, all
-- within what is held.
pub record HeadIs (r : Receiver) (store : List ℕ) (i kind : ℕ) (b : List ℕ) : Type 0 where
  pub fits : 3 + length b ≤ at r.rings.used i
  pub kind_byte : held_byte r store i 0 ≡ kind
  pub length_bytes : held_byte r store i 1 + held_byte r store i 2 * 256 ≡ length b
  pub bytes : b ≡ first_of (λ k. held_byte r store i (3 + k)) (length b)

-- that can be an item: data of a length in 1 to Max, or a marker of line i with a counter in 1 to its quantum
abbrev pub DataHead : Receiver → List ℕ → ℕ → List ℕ → Type 0
DataHead r store i b = HeadIs r store i 0 b × From 1 r.plan.max (length b)

pub record MarkerHead (r : Receiver) (store : List ℕ) (i round counter : ℕ) : Type 0 where
  pub bytes : List ℕ
  pub head : HeadIs r store i 1 bytes
  pub spelled : MarkerSpelled bytes i round counter
  pub in_range : From 1 (quantum r.plan i) counter

abbrev pub ItemHead : Receiver → List ℕ → ℕ → Type 0
ItemHead r store i = ((b : List ℕ) × DataHead r store i b) ⊎ ((round counter : ℕ) × MarkerHead r store i round counter)

-- a marker of that round and counter is behind its line: ahead is 2^31 or more, or 0 and its counter above the line's
abbrev pub BehindLine : Receiver → ℕ → ℕ → ℕ → Type 0
BehindLine r i round counter =
    (d : ℕ) × Ahead round (at r.turns.rounds i) d
    × ((2147483648 ≤ d) ⊎ ((d ≡ 0) × (at r.turns.counters i < counter)))
