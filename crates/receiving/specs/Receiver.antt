-- The receiver's state, line by line: when it is valid, and how it opens.
use Rattle.std.specs.Prelude.{ℕ, zero, suc, ◌+◌, ◌*◌, Bool, ◌&&◌, cond, List, ◌++◌, ltb, leb, eqb, length, take, drop, set, replicate, Result, Ok, Err}
use Rattle.std.specs.Result.{result_unwrap_or}
use Rattle.numbers.specs.declared.Refusal.{Refusal}
use Rattle.numbers.specs.declared.Refusal.TheVariants as refusal
use Rattle.numbers.specs.Checks.{all_below}
use Rattle.numbers.specs.Wrap.{half}
use Rattle.plan.specs.declared.Plan.{Plan}
use Rattle.plan.specs.Limits.{most_lines}
use Rattle.plan.specs.Plan.{at, plan_ok, store_ok, counters_ok, zeros, no_plan, first_entries, trimmed}
use Rattle.report.specs.Report.{ahead}
use Rattle.receiving.specs.declared.Rings.{Rings}
use Rattle.receiving.specs.declared.Turns.{Turns}
use Rattle.receiving.specs.declared.Receiver.{Receiver}
use Rattle.receiving.specs.declared.Held.{Held}
use Rattle.receiving.specs.declared.Turn.{Turn}
use Rattle.receiving.specs.declared.Line.{Line}

-- ---- one line's figures

abbrev pub held_of : Rings → ℕ → Held
held_of g i = record { head = at g.heads i; used = at g.used i }

abbrev pub turn_of : Turns → ℕ → Turn
turn_of t i = record { round = at t.rounds i; counter = at t.counters i }

abbrev pub line_of : Receiver → ℕ → Line
line_of r i = record { held = held_of r.rings i; turn = turn_of r.turns i }

-- either half with other figures for line i
abbrev pub with_held : Rings → ℕ → Held → Rings
with_held g i h = record { size = g.size; heads = set g.heads i h.head; used = set g.used i h.used }

abbrev pub with_turn : Turns → ℕ → Turn → Turns
with_turn t i x = record { round = t.round; rounds = set t.rounds i x.round; counters = set t.counters i x.counter }

-- ---- the current line

-- the first of so many numbers, from i on, of which f holds; the one after them where it holds of none
unfoldable pub first_from : (ℕ → Bool) → ℕ → ℕ → ℕ
first_from f zero i = i
first_from f (suc n) i = cond (f i) i (first_from f n (suc i))

-- the lowest-numbered line at a round
unfoldable pub line_at : ℕ → (ℕ → ℕ) → ℕ → ℕ
line_at lines rounds round = first_from (λ i. eqb (rounds i) round) lines 0

abbrev pub round_of : Turns → ℕ → ℕ
round_of t i = (turn_of t i).round

-- the lowest-numbered line whose round equals the current round
abbrev pub current_line : Receiver → ℕ
current_line r = line_at r.plan.lines (round_of r.turns) r.turns.round

-- ---- a valid state

-- S in range; heads below S, used at most S
abbrev pub held_ok : Rings → ℕ → Bool
held_ok g i = ltb (held_of g i).head g.size && leb (held_of g i).used g.size

unfoldable pub rings_ok : Plan → Rings → Bool
rings_ok p g = store_ok p g.size && all_below (held_ok g) p.lines

-- each counter in 1 to q, each round less than 2^31 ahead of the current one
abbrev pub near_ok : Turns → ℕ → Bool
near_ok t i = ltb (ahead (round_of t i) t.round) half

unfoldable pub turns_ok : Plan → Turns → Bool
turns_ok p t = counters_ok p t.counters && all_below (near_ok t) p.lines

-- and some line is at the current round
unfoldable pub receiver_ok : Receiver → Bool
receiver_ok r =
    plan_ok r.plan && rings_ok r.plan r.rings && turns_ok r.plan r.turns && ltb (current_line r) r.plan.lines

-- ---- opening

abbrev pub empty_rings : ℕ → Rings
empty_rings size = record { size = size; heads = zeros; used = zeros }

-- all zeros
abbrev pub closed_receiver : Receiver
closed_receiver = record { plan = no_plan; rings = empty_rings 0; turns = record { round = 0; rounds = zeros; counters = zeros } }

-- each round 1 and each counter its quantum, every ring empty from position 0; every entry from line N on is zero
abbrev pub opened_receiver : Plan → ℕ → Receiver
opened_receiver p size = record {
  plan = trimmed p;
  rings = empty_rings size;
  turns = record { round = 1; rounds = first_entries p.lines (replicate most_lines 1); counters = (trimmed p).quanta };
}

-- what opening answers: the receiver, or the refusal
abbrev pub ReceiverOpened : Type 0
ReceiverOpened = Result Receiver Refusal

unfoldable pub open_receiver : Plan → ℕ → ReceiverOpened
open_receiver p size = cond (plan_ok p && store_ok p size) (Ok (opened_receiver p size)) (Err refusal.Plan)

-- the receiver of an opening; a refusal's is the closed one
abbrev pub receiver_of : ReceiverOpened → Receiver
receiver_of o = result_unwrap_or o closed_receiver

-- ---- the store: line i owns the S bytes from i × S

abbrev pub store_fits : Receiver → List ℕ → Bool
store_fits r store = eqb (length store) (r.plan.lines * r.rings.size)

unfoldable pub ring_of : ℕ → List ℕ → ℕ → List ℕ
ring_of size store i = take size (drop (i * size) store)

-- the store with another ring for line i, all other bytes as they are
unfoldable pub with_ring : ℕ → List ℕ → ℕ → List ℕ → List ℕ
with_ring size store i ring = take (i * size) store ++ ring ++ drop (i * size + size) store
