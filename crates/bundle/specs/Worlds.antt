-- What the booth and the stage hold, and histories of their calls. Each end after a call is the definition that the public function's contract
-- cites, and nothing else; the roads follow from what is seen.
use Rattle.std.specs.Prelude.{ℕ, cond, List, [], ◌∷◌, ◌++◌, eqb, length, take, drop, Ok, Err}
use Rattle.numbers.specs.Writing.{Written}
use Rattle.plan.specs.declared.Plan.{Plan}
use Rattle.sending.specs.declared.Sender.{Sender}
use Rattle.sending.specs.Sender.{Sent, open_sender, send_of, marker_from, sender_of}
use Rattle.receiving.specs.declared.Receiver.{Receiver}
use Rattle.receiving.specs.Taking.{TakeAnswer, take_of}
use Rattle.receiving.specs.declared.Taken.TheVariants as taken
use Rattle.receiving.specs.Receiver.{open_receiver, receiver_of}
use Rattle.receiving.specs.Arriving.{Arrival, data_arrival, marker_arrival}
use Rattle.receiving.specs.Stage.{Stage, stage}
use Rattle.bundle.specs.Events.{Parcel, packet, marker, Event, sent, marked, stored, turned_away, lost, nothing, handed, missing, behind, waiting, refused}
use Rattle.bundle.specs.Events.{Handed, sent_by, handed_by, reported_by, each, sum, bytes_out}
use Rattle.numbers.specs.Refusals.{number, number_of}

-- both ends and the store as the public functions take them, and each line's parcels under way, oldest first
pub record World : Type 0 where
  pub sender : Sender
  pub receiver : Receiver
  pub store : List ℕ
  pub road : ℕ → List Parcel

-- both ends opened on one plan, with S bytes a line, over a store
abbrev pub start : Plan → ℕ → List ℕ → World
start p size store = record { sender = sender_of (open_sender p); receiver = receiver_of (open_receiver p size); store = store; road = λ i. [] }

-- a packet of these bytes is sent; a marker is asked for on a line, into an output; a line's oldest parcel arrives, or is lost; a take, into an output
pub data Call : Type 0 where
  sends : List ℕ → Call
  asks : ℕ → List ℕ → Call
  arrives : ℕ → Call
  loses : ℕ → Call
  takes : List ℕ → Call

-- ---- what is seen of a call

abbrev pub send_seen : List ℕ → Sent → Event
send_seen x (Ok went) = sent went.line x went.due
send_seen x (Err refusal) = refused (number refusal)

-- a marker's bytes are at the front of the output, as the call leaves it
abbrev pub ask_seen : ℕ → List ℕ → Written → Event
ask_seen i out (Ok n) = marked i (take n out)
ask_seen i out (Err refusal) = refused (number refusal)

-- a parcel is handed to the receiver
abbrev pub landing : Receiver → List ℕ → ℕ → Parcel → Arrival
landing r store i (packet b) = data_arrival r i b store
landing r store i (marker b) = marker_arrival r i b store

abbrev pub land_seen : ℕ → Parcel → ℕ → Event
land_seen i x number = cond (eqb number 0) (stored i x) (turned_away i x number)

abbrev pub arrive_seen : World → ℕ → List Parcel → Event
arrive_seen w i [] = nothing
arrive_seen w i (x ∷ rest) = land_seen i x (number_of (landing w.receiver w.store i x).arrived.answer)

abbrev pub lose_seen : ℕ → List Parcel → Event
lose_seen i [] = nothing
lose_seen i (x ∷ rest) = lost i x

-- and so are a packet's
abbrev pub take_seen : List ℕ → TakeAnswer → Event
take_seen out (Ok (taken.Waiting i)) = waiting i
take_seen out (Ok (taken.Data i n)) = handed i (take n out)
take_seen out (Ok (taken.Missing i m)) = missing i m
take_seen out (Ok (taken.Behind i)) = behind i
take_seen out (Err refusal) = refused (number refusal)

abbrev pub seen : World → Call → Event
seen w (sends x) = send_seen x (send_of w.sender (length x)).answer
seen w (asks i out) = ask_seen i (marker_from w.sender i out).out (marker_from w.sender i out).answer
seen w (arrives i) = arrive_seen w i (w.road i)
seen w (loses i) = lose_seen i (w.road i)
seen w (takes out) = take_seen (take_of w.receiver w.store out).out (take_of w.receiver w.store out).result.answer

-- ---- what a call leaves

-- the parcels under way, with line i's as they are now
abbrev pub with_road : ℕ → List Parcel → (ℕ → List Parcel) → ℕ → List Parcel
with_road i parcels road j = cond (eqb i j) parcels (road j)

abbrev pub joins : ℕ → Parcel → (ℕ → List Parcel) → ℕ → List Parcel
joins i x road = with_road i (road i ++ (x ∷ [])) road

abbrev pub leaves : ℕ → (ℕ → List Parcel) → ℕ → List Parcel
leaves i road = with_road i (drop 1 (road i)) road

-- what is sent joins its line's road, and what arrives or is lost leaves it
abbrev pub roads_after : Event → (ℕ → List Parcel) → ℕ → List Parcel
roads_after (sent i x due) road = joins i (packet x) road
roads_after (marked i b) road = joins i (marker b) road
roads_after (stored i x) road = leaves i road
roads_after (turned_away i x k) road = leaves i road
roads_after (lost i x) road = leaves i road
roads_after nothing road = road
roads_after (handed i b) road = road
roads_after (missing i m) road = road
roads_after (behind i) road = road
roads_after (waiting i) road = road
roads_after (refused k) road = road

-- asking changes no state
abbrev pub booth_after : World → Call → Sender
booth_after w (sends x) = (send_of w.sender (length x)).next
booth_after w (asks i out) = w.sender
booth_after w (arrives i) = w.sender
booth_after w (loses i) = w.sender
booth_after w (takes out) = w.sender

abbrev pub landed : World → ℕ → List Parcel → Stage
landed w i [] = stage w.receiver w.store
landed w i (x ∷ rest) =
    stage (landing w.receiver w.store i x).arrived.next (landing w.receiver w.store i x).store

abbrev pub stage_after : World → Call → Stage
stage_after w (sends x) = stage w.receiver w.store
stage_after w (asks i out) = stage w.receiver w.store
stage_after w (arrives i) = landed w i (w.road i)
stage_after w (loses i) = stage w.receiver w.store
stage_after w (takes out) = stage (take_of w.receiver w.store out).result.next w.store

abbrev pub call : World → Call → World
call w e = record {
  sender = booth_after w e;
  receiver = (stage_after w e).receiver;
  store = (stage_after w e).store;
  road = roads_after (seen w e) w.road;
}

-- ---- a history

abbrev pub calls : World → List Call → World
calls w [] = w
calls w (e ∷ h) = calls (call w e) h

abbrev pub events : World → List Call → List Event
events w [] = []
events w (e ∷ h) = seen w e ∷ events (call w e) h

abbrev pub sent_in : World → List Call → List (List ℕ)
sent_in w h = each sent_by (events w h)

abbrev pub handed_out : World → List Call → List Handed
handed_out w h = each handed_by (events w h)

abbrev pub handed_in : World → List Call → List (List ℕ)
handed_in w h = bytes_out (handed_out w h)

abbrev pub reported_in : ℕ → World → List Call → ℕ
reported_in i w h = sum (reported_by i) (events w h)
