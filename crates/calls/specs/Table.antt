-- The table of numbers: for each call its numbers in the order of its checks, each given exactly when its row holds and none before it does, and 0,
-- accepted, exactly when none holds. Of any plan, state, length, bytes and buffers, reached or not.
use Rattle.std.specs.Prelude.{ℕ, ◌+◌, ◌-◌, ◌*◌, ◌≤◌, ◌<◌, List, ◌⊎◌, ◌≡◌, length, drop}
use Rattle.numbers.specs.Refusals.{number_of}
use Rattle.numbers.specs.Coding.{Bytes, coded}
use Rattle.numbers.specs.Writing.{written}
use Rattle.plan.specs.declared.Plan.{Plan}
use Rattle.plan.specs.Plan.{at, quantum, line_plan, charge_of}
use Rattle.plan.specs.Ranges.{From, PlanIn, StoreIn}
use Rattle.plan_record.specs.Record.{plan_read, plan_bytes, plan_written}
use Rattle.marker.specs.declared.Marker.{Marker}
use Rattle.marker.specs.Marker.{marker_bytes, marker_read, marker_written}
use Rattle.sending.specs.declared.Sender.{Sender}
use Rattle.sending.specs.Sender.{open_sender, send_of, line_marker, marker_from}
use Rattle.receiving.specs.declared.Receiver.{Receiver}
use Rattle.receiving.specs.Receiver.{open_receiver}
use Rattle.receiving.specs.Arriving.{data_arrival, marker_arrival}
use Rattle.receiving.specs.Taking.{taken_number, take_of}
use Rattle.receiving.specs.Takes.{ended_number, takes_of}
use Rattle.calls.specs.Plain.{Not, SenderIn, Current, ReceiverIn, PlanSpelled, MarkerTo, MarkerOf, DataHead, MarkerHead, ItemHead, BehindLine}

-- n is the number k where the row holds, else what the rows after it give; 0 ends the rows
abbrev pub given : ℕ → Type 0 → (ℕ → Type 0) → ℕ → Type 0
given k Holds next n = (Holds × (n ≡ k)) ⊎ (Not Holds × next n)

abbrev pub accepted : ℕ → Type 0
accepted n = n ≡ 0

-- 8: the output is shorter than what is to be written
abbrev pub short : List ℕ → List ℕ → Type 0
short bytes out = length out < length bytes

-- ---- of the current line of a valid receiver

abbrev pub CurrentEmpty : Receiver → Type 0
CurrentEmpty r = (i : ℕ) × Current r i × (at r.rings.used i ≡ 0)

abbrev pub CurrentItem : Receiver → List ℕ → Type 0
CurrentItem r store = (i : ℕ) × Current r i × ItemHead r store i

abbrev pub PacketLonger : Receiver → List ℕ → ℕ → Type 0
PacketLonger r store room = (i : ℕ) × Current r i × (b : List ℕ) × DataHead r store i b × (room < length b)

abbrev pub MarkerBehind : Receiver → List ℕ → Type 0
MarkerBehind r store = (i : ℕ) × Current r i × (round counter : ℕ) × MarkerHead r store i round counter × BehindLine r i round counter

-- a state, and a store of N × S bytes: 2, 9
abbrev pub lent_to : Receiver → List ℕ → (ℕ → Type 0) → ℕ → Type 0
lent_to r store next = given 2 (Not (ReceiverIn r)) (given 9 (Not (length store ≡ r.plan.lines * r.rings.size)) next)

-- too little room for an item of n bytes on line i: 7
abbrev pub room_on : Receiver → ℕ → ℕ → ℕ → Type 0
room_on r i n = given 7 (r.rings.size - at r.rings.used i < 3 + n) accepted

-- ---- call by call

pub record Table : Type 0 where
  -- numbers
  pub writes_number : (v : ℕ) (out : List ℕ) → given 8 (short (coded 32 v) out) accepted (number_of (written (coded 32 v) out).answer)
  -- opening
  pub opens_sender : (p : Plan) → given 1 (Not (PlanIn p)) accepted (number_of (open_sender p))
  pub opens_receiver : (p : Plan) (size : ℕ) → given 1 (Not (PlanIn p × StoreIn p size)) accepted (number_of (open_receiver p size))
  -- the plan's record: reading (and checking) it, and writing it
  pub reads_plan : (b : List ℕ) → Bytes b → given 1 (Not ((p : Plan) × PlanSpelled b p)) accepted (number_of (plan_read b))
  pub writes_plan : (p : Plan) (out : List ℕ) → given 1 (Not (PlanIn p)) (given 8 (short (plan_bytes p) out) accepted) (number_of (plan_written p out).answer)
  -- the standalone marker calls
  pub writes_marker : (m : Marker) (out : List ℕ)
      → given 3 (16 ≤ m.line) (given 5 (Not (From 1 1048576 m.counter)) (given 8 (short (marker_bytes m) out) accepted))
      (number_of (marker_written m out).answer)
  pub reads_marker : (b : List ℕ) → Bytes b
      → given 5 (Not (MarkerTo 1048576 b)) (given 3 (Not (MarkerOf (λ line. line < 16) b)) accepted)
      (number_of (marker_read b))
  -- the booth
  pub sends : (s : Sender) (n : ℕ)
      → given 2 (Not (SenderIn s)) (given 4 (Not (From 1 s.plan.max n))
      (given 10 (at s.counters s.line + quantum s.plan s.line ≤ charge_of (line_plan s.plan s.line) n) accepted))
      (number_of (send_of s n).answer)
  pub asks : (s : Sender) (i : ℕ) (out : List ℕ)
      → given 2 (Not (SenderIn s)) (given 3 (s.plan.lines ≤ i) (given 8 (short (line_marker s i) out) accepted))
      (number_of (marker_from s i out).answer)
  -- the stage
  pub data_arrives : (r : Receiver) (i : ℕ) (b store : List ℕ)
      → lent_to r store (given 3 (r.plan.lines ≤ i) (given 4 (Not (From 1 r.plan.max (length b))) (room_on r i (length b))))
      (number_of (data_arrival r i b store).arrived.answer)
  pub marker_arrives : (r : Receiver) (i : ℕ) (b store : List ℕ) → Bytes b
      → lent_to r store
      (given 3 (r.plan.lines ≤ i) (given 5 (Not (MarkerTo (quantum r.plan i) b)) (given 6 (Not (MarkerOf (λ line. line ≡ i) b)) (room_on r i (length b)))))
      (number_of (marker_arrival r i b store).arrived.answer)
  -- 0 where the current line's queue is empty: waiting
  pub takes : (r : Receiver) (store out : List ℕ) → Bytes store
      → lent_to r store
      (given 0 (CurrentEmpty r) (given 9 (Not (CurrentItem r store)) (given 8 (PacketLonger r store (length out)) (given 11 (MarkerBehind r store) accepted))))
      (taken_number (take_of r store out).result.answer)
  -- a run ends with 0 where the log is full, and else with the number of the take behind its last, into what is left of the output
  pub runs : (r : Receiver) (store out log : List ℕ)
      → let run = takes_of r store out log in
      lent_to r store
      (λ n. ((run.result.taken ≡ length log) × (n ≡ 0))
      ⊎ ((run.result.taken < length log) × (n ≡ taken_number (take_of run.result.next store (drop run.result.bytes run.out)).result.answer)))
      (ended_number run.result.ended)
