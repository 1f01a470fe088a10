-- What an accepted call answers and leaves, in plain figures. Of any valid state, reached or not.
use Rattle.std.specs.Prelude.{ℕ, ◌+◌, ◌-◌, ◌*◌, ◌/◌, ◌%◌, ◌≤◌, ◌<◌, List, [], ◌∷◌, ◌++◌, ◌≡◌, length, take, drop, Ok, Err}
use Rattle.numbers.specs.Coding.{Bytes, yields, reading_of, coded, row_bytes}
use Rattle.numbers.specs.Writing.{Outcome}
use Rattle.numbers.specs.Writing as writing
use Rattle.numbers.specs.declared.Refusal.TheVariants as refusal
use Rattle.numbers.specs.Refusals.{number_of}
use Rattle.plan.specs.declared.Plan.{Plan}
use Rattle.plan.specs.Plan.{at, quantum, line_plan, charge_of}
use Rattle.plan.specs.Ranges.{From, PlanIn, StoreIn}
use Rattle.plan_record.specs.Record.{plan_read, plan_written}
use Rattle.marker.specs.declared.Marker.{Marker}
use Rattle.marker.specs.Marker.{marker_read, marker_written}
use Rattle.theory.specs.FirstForm.{first_send, first_due}
use Rattle.sending.specs.declared.Sender.{Sender}
use Rattle.sending.specs.Sender.{went_to, open_sender, sender_of, send_of, marker_from}
use Rattle.sending.specs.InTheory.{in_theory, figures_of}
use Rattle.receiving.specs.declared.Receiver.{Receiver}
use Rattle.receiving.specs.declared.Taken.TheVariants as taken
use Rattle.receiving.specs.Receiver.{open_receiver, receiver_of}
use Rattle.receiving.specs.Arriving.{Arrival, data_arrival, marker_arrival}
use Rattle.receiving.specs.Taking.{take_of}
use Rattle.receiving.specs.Takes.{word_of}
use Rattle.calls.specs.Plain.{Not, ZeroFrom, SenderArrays, ReceiverArrays, SenderIn, Ahead, Current, ReceiverIn, PlanSpelled, MarkerSpelled, place_in, held_byte, first_of, DataHead, MarkerHead, ItemHead, BehindLine}

-- ---- opening

-- the plan as it is kept: its figures, and zeros from line N on
pub record Keeps (p kept : Plan) : Type 0 where
  pub lines : kept.lines ≡ p.lines
  pub max : kept.max ≡ p.max
  pub interval : kept.interval ≡ p.interval
  pub quanta : (i : ℕ) → i < p.lines → quantum kept i ≡ quantum p i
  pub rest_zero : ZeroFrom p.lines kept.quanta

-- each line's round 1 and counter q, and zeros from line N on
pub record Starts (p : Plan) (rounds counters : List ℕ) : Type 0 where
  pub round : (i : ℕ) → i < p.lines → at rounds i ≡ 1
  pub counter : (i : ℕ) → i < p.lines → at counters i ≡ quantum p i
  pub rounds_zero : ZeroFrom p.lines rounds
  pub counters_zero : ZeroFrom p.lines counters

pub record SenderOpens (p : Plan) (s : Sender) : Type 0 where
  pub plan : Keeps p s.plan
  pub line : s.line ≡ 0
  pub countdown : s.countdown ≡ p.interval
  pub starts : Starts p s.rounds s.counters

pub record ReceiverOpens (p : Plan) (size : ℕ) (r : Receiver) : Type 0 where
  pub plan : Keeps p r.plan
  pub size_kept : r.rings.size ≡ size
  pub heads : ZeroFrom 0 r.rings.heads
  pub used : ZeroFrom 0 r.rings.used
  pub round : r.turns.round ≡ 1
  pub starts : Starts p r.turns.rounds r.turns.counters

-- ---- an item stored on line i, or taken from it

-- the bytes of an item: kind, length in two bytes low first, then the bytes
abbrev pub laid_out : ℕ → List ℕ → List ℕ
laid_out kind b = kind ∷ length b % 256 ∷ length b / 256 % 256 ∷ b

-- its bytes stand behind what the line held, and used has risen by them
pub record Stores (r : Receiver) (i kind : ℕ) (b store : List ℕ) (a : Arrival) : Type 0 where
  pub used : at a.arrived.next.rings.used i ≡ at r.rings.used i + (3 + length b)
  pub bytes : (k : ℕ) → k < 3 + length b
      → at a.store (place_in r.rings.size i (at r.rings.heads i + at r.rings.used i) k) ≡ at (laid_out kind b) k

-- used falls by its 3 + n bytes and the head moves on by as much, modulo S
pub record Removes (r next : Receiver) (i n : ℕ) : Type 0 where
  pub used : at next.rings.used i + (3 + n) ≡ at r.rings.used i
  pub head : at next.rings.heads i ≡ (at r.rings.heads i + (3 + n)) % r.rings.size

-- the counter falls by a charge; where it is then zero or less it rises by q, and the round by one, modulo 2^32
pub record Charges (q round counter charge round' counter' : ℕ) : Type 0 where
  pub stays : charge < counter → (round' ≡ round) × (counter' + charge ≡ counter)
  pub moves_on : counter ≤ charge → (round' ≡ (round + 1) % 4294967296) × (counter' + charge ≡ counter + q)

-- the round that the state is at: where it was while some line is there, else the nearest that some line has
pub record MovesOn (r next : Receiver) : Type 0 where
  pub stays : (j : ℕ) → j < r.plan.lines → at next.turns.rounds j ≡ r.turns.round → next.turns.round ≡ r.turns.round
  pub nearest : ((j : ℕ) → j < r.plan.lines → Not (at next.turns.rounds j ≡ r.turns.round))
      → (j : ℕ) × (j < r.plan.lines) × (next.turns.round ≡ at next.turns.rounds j)
      × ((k d e : ℕ) → k < r.plan.lines → Ahead (at next.turns.rounds k) r.turns.round d → Ahead next.turns.round r.turns.round e → e ≤ d)

-- What cannot be an item of line i: used below 3; a kind that is neither 0 nor 1; 3 + length above used; data of a length outside 1 to Max; a marker whose
-- bytes spell none of the line's, with a counter in 1 to its quantum.
module _ (r : Receiver) (store : List ℕ) (i : ℕ) where
  -- the length that the head tells, and its bytes
  abbrev told : ℕ
  told = held_byte r store i 1 + held_byte r store i 2 * 256

  abbrev body : List ℕ
  body = first_of (λ k. held_byte r store i (3 + k)) told

  pub record CannotBe : Type 0 where
    pub few : at r.rings.used i < 3 → Not (ItemHead r store i)
    pub other_kind : 1 < held_byte r store i 0 → Not (ItemHead r store i)
    pub cut_short : at r.rings.used i < 3 + told → Not (ItemHead r store i)
    pub bad_data : held_byte r store i 0 ≡ 0 → Not (From 1 r.plan.max told) → Not (ItemHead r store i)
    pub bad_marker : held_byte r store i 0 ≡ 1
        → ((round counter : ℕ) → MarkerSpelled body i round counter → Not (From 1 (quantum r.plan i) counter)) → Not (ItemHead r store i)

-- the outcomes of a take, by what stands at the head of the current line
module _ (r : Receiver) (store out : List ℕ) (i : ℕ) where
  abbrev next : Receiver
  next = (take_of r store out).result.next

  abbrev q : ℕ
  q = quantum r.plan i

  abbrev round : ℕ
  round = at r.turns.rounds i

  abbrev counter : ℕ
  counter = at r.turns.counters i

  pub record TakeOutcomes : Type 0 where
    -- nothing
    pub waits : at r.rings.used i ≡ 0 → take_of r store out ≡ record { result = record { answer = Ok (taken.Waiting i); next = r }; out = out }
    -- what cannot be an item
    pub no_item : Bytes store → Not (at r.rings.used i ≡ 0) → Not (ItemHead r store i)
        → take_of r store out ≡ record { result = record { answer = Err refusal.Store; next = r }; out = out }
    -- a packet that is longer than the output, and one that it has room for
    pub too_long : (b : List ℕ) → DataHead r store i b → length out < length b
        → take_of r store out ≡ record { result = record { answer = Err refusal.ShortOutput; next = r }; out = out }
    pub hands_out : (b : List ℕ) → DataHead r store i b → length b ≤ length out
        → ((take_of r store out).result.answer ≡ Ok (taken.Data i (length b))) × ((take_of r store out).out ≡ b ++ drop (length b) out)
        × Removes r next i (length b)
        × Charges q round counter (charge_of (line_plan r.plan i) (length b)) (at next.turns.rounds i) (at next.turns.counters i)
        × MovesOn r next
    -- a marker that is behind: round, rounds and counters are kept
    pub behind : (round' counter' : ℕ) (m : MarkerHead r store i round' counter') → BehindLine r i round' counter'
        → ((take_of r store out).result.answer ≡ Ok (taken.Behind i)) × ((take_of r store out).out ≡ out) × Removes r next i (length m.bytes) × (next.turns ≡ r.turns)
    -- a marker d rounds ahead, that is not: what is missing, and the line's round and counter are its own
    pub missing : (round' counter' d : ℕ) (m : MarkerHead r store i round' counter') → Ahead round' round d → Not (BehindLine r i round' counter')
        → ((take_of r store out).result.answer ≡ Ok (taken.Missing i (d * q + counter - counter'))) × ((take_of r store out).out ≡ out)
        × Removes r next i (length m.bytes)
        × (at next.turns.rounds i ≡ round') × (at next.turns.counters i ≡ counter') × MovesOn r next

abbrev pub Takes : Type 0
Takes =
    (r : Receiver) (store out : List ℕ) (i : ℕ) → ReceiverArrays r → ReceiverIn r → length store ≡ r.plan.lines * r.rings.size → Current r i → TakeOutcomes r store out i

-- ---- writing

-- these bytes stand at the front of the output, the rest is as it was, and their length is answered
pub record WritesOut (b out : List ℕ) (o : Outcome) : Type 0 where
  pub answer : o.answer ≡ Ok (length b)
  pub output : o.out ≡ b ++ drop (length b) out

-- ---- call by call

pub record Outcomes : Type 0 where
  -- numbers on the wire: low seven bits first, the top bit of a byte set when another follows, shortest form only
  pub last_byte : (v : ℕ) → v < 128 → coded 32 v ≡ v ∷ []
  pub more_bytes : (v : ℕ) → 128 ≤ v → v < 4294967296 → coded 32 v ≡ (v % 128 + 128) ∷ coded 32 (v / 128)
  pub reads_number : (v : ℕ) (rest : List ℕ) → v < 4294967296 → yields (reading_of 32 (coded 32 v ++ rest)) ≡ v ∷ length (coded 32 v) ∷ []
  pub reads_only : (b : List ℕ) (v n : ℕ) → Bytes b → yields (reading_of 32 b) ≡ v ∷ n ∷ [] → (v < 4294967296) × (b ≡ coded 32 v ++ drop n b)
  -- what the writers write: a number; a plan's N, Max, K and quanta; a marker's line, round and counter; and of a state its line's
  pub writes_number : (v : ℕ) (out : List ℕ) → let o = writing.written (coded 32 v) out in number_of o.answer ≡ 0 → WritesOut (coded 32 v) out o
  pub writes_plan : (p : Plan) (out : List ℕ) → number_of (plan_written p out).answer ≡ 0
      → WritesOut (coded 32 p.lines ++ coded 32 p.max ++ coded 32 p.interval ++ row_bytes (take p.lines p.quanta)) out (plan_written p out)
  pub row_of : (v : ℕ) (row : List ℕ) → (row_bytes [] ≡ []) × (row_bytes (v ∷ row) ≡ coded 32 v ++ row_bytes row)
  pub writes_marker : (m : Marker) (out : List ℕ) → number_of (marker_written m out).answer ≡ 0
      → WritesOut (coded 32 m.line ++ coded 32 m.round ++ coded 32 m.counter) out (marker_written m out)
  pub asks : (s : Sender) (i : ℕ) (out : List ℕ) → number_of (marker_from s i out).answer ≡ 0
      → WritesOut (coded 32 i ++ coded 32 (at s.rounds i) ++ coded 32 (at s.counters i)) out (marker_from s i out)
  pub opens_sender : (p : Plan) → PlanIn p → length p.quanta ≡ 16 → SenderOpens p (sender_of (open_sender p))
  pub opens_receiver : (p : Plan) (size : ℕ) → PlanIn p → StoreIn p size → length p.quanta ≡ 16 → ReceiverOpens p size (receiver_of (open_receiver p size))
  -- a record reads as the plan that it spells, and a marker as the three numbers
  pub reads_plan : (b : List ℕ) (p : Plan) → PlanSpelled b p → plan_read b ≡ Ok p
  pub reads_marker : (b : List ℕ) (line round counter : ℕ) → MarkerSpelled b line round counter → line < 16 → From 1 1048576 counter
      → marker_read b ≡ Ok (record { line = line; round = round; counter = counter })
  -- a packet goes on the current line, by the first form of sending
  pub sends : (s : Sender) (n : ℕ) → SenderArrays s → SenderIn s → From 1 s.plan.max n
      → ((send_of s n).answer ≡ went_to s.line (first_due (in_theory s.plan) (figures_of s) n))
      × (figures_of (send_of s n).next ≡ first_send (in_theory s.plan) (figures_of s) n)
  -- what is stored
  pub data_stored : (r : Receiver) (i : ℕ) (b store : List ℕ) → ReceiverArrays r → number_of (data_arrival r i b store).arrived.answer ≡ 0
      → Stores r i 0 b store (data_arrival r i b store)
  pub marker_stored : (r : Receiver) (i : ℕ) (b store : List ℕ) → ReceiverArrays r → number_of (marker_arrival r i b store).arrived.answer ≡ 0
      → Stores r i 1 b store (marker_arrival r i b store)
  -- a take's word in a run's log: its line, 16 times what it was (0 data, 1 missing, 2 behind), and 512 times the length or the bytes missing
  pub words : (line n : ℕ)
      → (word_of (Ok (taken.Data line n)) ≡ line + 512 * n) × (word_of (Ok (taken.Missing line n)) ≡ 16 + line + 512 * n) × (word_of (Ok (taken.Behind line)) ≡ 32 + line)
  pub cannot_be : (r : Receiver) (store : List ℕ) (i : ℕ) → CannotBe r store i
  pub takes : Takes
