-- The frame: what each call leaves as it was. Of any plan, state, length, bytes and buffers, reached or not.
use Rattle.std.specs.Prelude.{ℕ, ◌+◌, ◌≤◌, ◌<◌, List, [], ◌∷◌, ◌≡◌, length, drop, Ok, Err}
use Rattle.numbers.specs.Coding.{coded}
use Rattle.numbers.specs.Writing.{length_of, Outcome, written}
use Rattle.numbers.specs.declared.Refusal.{Refusal}
use Rattle.numbers.specs.Refusals.{number_of}
use Rattle.plan.specs.declared.Plan.{Plan}
use Rattle.plan.specs.Plan.{at}
use Rattle.plan_record.specs.Record.{plan_read, plan_of, plan_written}
use Rattle.marker.specs.declared.Marker.{Marker}
use Rattle.marker.specs.Marker.{values_of, marker_read, marker_written}
use Rattle.sending.specs.declared.Sender.{Sender}
use Rattle.sending.specs.Sender.{open_sender, sender_of, send_of, marker_from}
use Rattle.receiving.specs.declared.Receiver.{Receiver}
use Rattle.receiving.specs.declared.Taken.TheVariants as taken
use Rattle.receiving.specs.Receiver.{open_receiver, receiver_of}
use Rattle.receiving.specs.Arriving.{Arrival, data_arrival, marker_arrival}
use Rattle.receiving.specs.Taking.{TakeOutcome, take_of}
use Rattle.receiving.specs.Takes.{Run, takes_of}
use Rattle.calls.specs.Plain.{Not, Current, place_in}

-- ---- outputs

-- A writer: as long as before, and every byte behind what is written is as it was; all of it where the writer refuses.
pub record Writes (out : List ℕ) (o : Outcome) : Type 0 where
  pub same_length : length o.out ≡ length out
  pub behind : drop (length_of o.answer) o.out ≡ drop (length_of o.answer) out
  pub refused : Not (number_of o.answer ≡ 0) → o.out ≡ out

-- ---- states

-- entry j of every list of a sender, or of a receiver, is as it was
pub record SenderEntry (s next : Sender) (j : ℕ) : Type 0 where
  pub round : at next.rounds j ≡ at s.rounds j
  pub counter : at next.counters j ≡ at s.counters j

pub record ReceiverEntry (r next : Receiver) (j : ℕ) : Type 0 where
  pub head : at next.rings.heads j ≡ at r.rings.heads j
  pub used : at next.rings.used j ≡ at r.rings.used j
  pub round : at next.turns.rounds j ≡ at r.turns.rounds j
  pub counter : at next.turns.counters j ≡ at r.turns.counters j

-- An arrival on line i: a refusal leaves everything. Else the plan, S, every head and every turn stay, and what other lines hold; and every byte of
-- the store but the item's own places, of which there are 3 + n behind what the line holds.
pub record Arrives (r : Receiver) (i : ℕ) (b store : List ℕ) (a : Arrival) : Type 0 where
  pub refused : Not (number_of a.arrived.answer ≡ 0) → (a.arrived.next ≡ r) × (a.store ≡ store)
  pub plan : a.arrived.next.plan ≡ r.plan
  pub size : a.arrived.next.rings.size ≡ r.rings.size
  pub heads : (j : ℕ) → at a.arrived.next.rings.heads j ≡ at r.rings.heads j
  pub turns : a.arrived.next.turns ≡ r.turns
  pub others : (j : ℕ) → Not (j ≡ i) → at a.arrived.next.rings.used j ≡ at r.rings.used j
  pub same_length : length a.store ≡ length store
  pub elsewhere : (place : ℕ)
      → ((k : ℕ) → k < 3 + length b → Not (place ≡ place_in r.rings.size i (at r.rings.heads i + at r.rings.used i) k))
      → at a.store place ≡ at store place

-- A take: the plan and S stay, and every line but the current one, those from N on among them; only data writes to the output, n bytes at its front.
-- A take that waits or is refused leaves everything.
pub record TakesFrame (r : Receiver) (out : List ℕ) (t : TakeOutcome) : Type 0 where
  pub plan : t.result.next.plan ≡ r.plan
  pub size : t.result.next.rings.size ≡ r.rings.size
  pub others : (i j : ℕ) → Current r i → Not (j ≡ i) → ReceiverEntry r t.result.next j
  pub same_length : length t.out ≡ length out
  pub data_only : ((i n : ℕ) → Not (t.result.answer ≡ Ok (taken.Data i n))) → t.out ≡ out
  pub behind_data : (i n : ℕ) → t.result.answer ≡ Ok (taken.Data i n) → drop n t.out ≡ drop n out
  pub waits : (i : ℕ) → t.result.answer ≡ Ok (taken.Waiting i) → t.result.next ≡ r
  pub refused : (refusal : Refusal) → t.result.answer ≡ Err refusal → t.result.next ≡ r

-- A run writes its packets at the front of the output and its words at the front of the log, and leaves what is behind them; the plan and S stay, and every
-- entry from line N on.
pub record RunsFrame (r : Receiver) (out log : List ℕ) (run : Run) : Type 0 where
  pub output_length : length run.out ≡ length out
  pub log_length : length run.log ≡ length log
  pub behind_bytes : drop run.result.bytes run.out ≡ drop run.result.bytes out
  pub behind_words : drop run.result.taken run.log ≡ drop run.result.taken log
  pub plan : run.result.next.plan ≡ r.plan
  pub size : run.result.next.rings.size ≡ r.rings.size
  pub entries : (j : ℕ) → r.plan.lines ≤ j → ReceiverEntry r run.result.next j

-- ---- call by call

-- sixteen zeros
abbrev pub sixteen_zeros : List ℕ
sixteen_zeros = 0 ∷ 0 ∷ 0 ∷ 0 ∷ 0 ∷ 0 ∷ 0 ∷ 0 ∷ 0 ∷ 0 ∷ 0 ∷ 0 ∷ 0 ∷ 0 ∷ 0 ∷ 0 ∷ []

abbrev pub zero_plan : Plan
zero_plan = record { lines = 0; max = 0; interval = 0; quanta = sixteen_zeros }

pub record Frame : Type 0 where
  -- writers
  pub writes_number : (v : ℕ) (out : List ℕ) → Writes out (written (coded 32 v) out)
  pub writes_plan : (p : Plan) (out : List ℕ) → Writes out (plan_written p out)
  pub writes_marker : (m : Marker) (out : List ℕ) → Writes out (marker_written m out)
  pub asks : (s : Sender) (i : ℕ) (out : List ℕ) → Writes out (marker_from s i out)
  -- refused readings and openings are all zeros
  pub reads_plan : (b : List ℕ) → Not (number_of (plan_read b) ≡ 0) → plan_of (plan_read b) ≡ zero_plan
  pub reads_marker : (b : List ℕ) → Not (number_of (marker_read b) ≡ 0) → values_of (marker_read b) ≡ 0 ∷ 0 ∷ 0 ∷ []
  pub opens_sender : (p : Plan) → Not (number_of (open_sender p) ≡ 0)
      → sender_of (open_sender p) ≡ record { plan = zero_plan; line = 0; countdown = 0; rounds = sixteen_zeros; counters = sixteen_zeros }
  pub opens_receiver : (p : Plan) (size : ℕ) → Not (number_of (open_receiver p size) ≡ 0)
      → receiver_of (open_receiver p size) ≡ record {
        plan = zero_plan;
        rings = record { size = 0; heads = sixteen_zeros; used = sixteen_zeros };
        turns = record { round = 0; rounds = sixteen_zeros; counters = sixteen_zeros };
      }
  -- a send leaves the plan and every line but its own, those from N on among them; a refusal leaves everything
  pub sends_refused : (s : Sender) (n : ℕ) → Not (number_of (send_of s n).answer ≡ 0) → (send_of s n).next ≡ s
  pub sends_plan : (s : Sender) (n : ℕ) → (send_of s n).next.plan ≡ s.plan
  pub sends_others : (s : Sender) (n j : ℕ) → Not (j ≡ s.line) → SenderEntry s (send_of s n).next j
  -- the stage
  pub data_arrives : (r : Receiver) (i : ℕ) (b store : List ℕ) → Arrives r i b store (data_arrival r i b store)
  pub marker_arrives : (r : Receiver) (i : ℕ) (b store : List ℕ) → Arrives r i b store (marker_arrival r i b store)
  pub takes : (r : Receiver) (store out : List ℕ) → TakesFrame r out (take_of r store out)
  pub runs : (r : Receiver) (store out log : List ℕ) → RunsFrame r out log (takes_of r store out log)
