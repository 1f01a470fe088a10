-- Sending over lines, by what each line has carried. Everything is counted in unbounded numbers; a vector of positions, v, gives for
-- each line what it has carried, in charges.
use Rattle.std.specs.Prelude.{ℕ, zero, suc, ◌+◌, ◌-◌, ◌/◌, ◌%◌, Bool, ◌&&◌, cond, ltb, eqb}
use Rattle.numbers.specs.Wrap.{wrap}

-- A plan: how many lines, each line's quantum, what a packet of so many bytes is charged on a line, the bytes of the largest packet,
-- and the rounds from one set of markers to the next.
pub record Plan : Type 0 where
  pub lines : ℕ
  pub quantum : ℕ → ℕ
  pub charge : ℕ → ℕ → ℕ
  pub largest : ℕ
  pub interval : ℕ

-- a line's round is one more than the whole quanta in what it has carried
abbrev pub rounds : Plan → (ℕ → ℕ) → ℕ → ℕ
rounds p v i = v i / p.quantum i + 1

-- of the numbers below n the one of least key, the lowest on a tie
unfoldable pub better : (ℕ → ℕ) → ℕ → ℕ → ℕ
better key n b = cond (ltb (key n) (key b)) n b

unfoldable pub best : (ℕ → ℕ) → ℕ → ℕ
best key zero = zero
best key (suc n) = better key n (best key n)

-- the line that the next packet goes to: the one of lowest round, lower number on a tie
unfoldable pub choose : Plan → (ℕ → ℕ) → ℕ
choose p v = best (rounds p v) p.lines

-- what the lines have carried after one more packet, of `length` bytes
unfoldable pub charged : Plan → (ℕ → ℕ) → ℕ → ℕ → ℕ
charged p v length i = cond (eqb (choose p v) i) (v i + p.charge i length) (v i)

-- Packet n has lengths n bytes. What the lines have carried after the first n packets, and the line of packet n.
unfoldable pub carried : Plan → (ℕ → ℕ) → ℕ → ℕ → ℕ
carried p lengths zero = λ i. 0
carried p lengths (suc n) = charged p (carried p lengths n) (lengths n)

abbrev pub line_of : Plan → (ℕ → ℕ) → ℕ → ℕ
line_of p lengths n = choose p (carried p lengths n)

-- A send ends a full round when the line that it goes to rises to a new round and line 0 is next.
unfoldable pub ends : Plan → (ℕ → ℕ) → ℕ → Bool
ends p v length =
    ltb (rounds p v (choose p v)) (rounds p (charged p v length) (choose p v)) && eqb (choose p (charged p v length)) 0

-- how many full rounds the first n packets have ended
unfoldable pub ended : Plan → (ℕ → ℕ) → ℕ → ℕ
ended p lengths zero = 0
ended p lengths (suc n) = ended p lengths n + cond (ends p (carried p lengths n) (lengths n)) 1 0

-- markers are due after packet n: it ends a full round whose number is a multiple of the interval
unfoldable pub due_after : Plan → (ℕ → ℕ) → ℕ → Bool
due_after p lengths n = ends p (carried p lengths n) (lengths n) && eqb (ended p lengths (suc n) % p.interval) 0

-- ---- a line's figures at a position, and the countdown to the markers once so many rounds have ended

abbrev pub round_at : ℕ → ℕ → ℕ
round_at q x = (x / q + 1) % wrap

abbrev pub counter_at : ℕ → ℕ → ℕ
counter_at q x = q - x % q

abbrev pub countdown_at : ℕ → ℕ → ℕ
countdown_at interval k = interval - k % interval
