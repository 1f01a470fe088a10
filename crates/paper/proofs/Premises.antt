-- Every premise of the promises is met on the session on paper, by computation: none of them speaks of nothing. Assumes nothing.
use Prim.Native.Nat.{ℕ, ◌+◌, ◌-◌, ◌≤◌, ◌<◌}
use mathlib.Core.Bool.{Bool, true, cond}
use mathlib.Core.List.{List, [], ◌∷◌, ◌++◌, map}
use mathlib.Core.Logic.{inl, inr}
use mathlib.Core.Path.{◌≡◌, refl}
use lib.Dec.{leb, eqb}
use lib.ListN.{length, replicate, take, drop}
use borrow.Author.Tests.{ltb-true, leb-true}
use Rattle.std.specs.Prelude.{Ok, Err}
use Rattle.numbers.specs.Checks.{all_below}
use Rattle.numbers.specs.Coding.{reading_of, coded, row_bytes}
use Rattle.numbers.specs.Writing.{outcome}
use Rattle.plan.specs.Limits.{item_head}
use Rattle.plan.specs.Plan.{plan_ok, counters_ok, store_ok, charge_of}
use Rattle.plan.proofs.Ranges.{plan_in, store_in}
use Rattle.marker.specs.Marker.{record_read, judge}
use Rattle.theory.specs.Sending.{better, best, choose, charged, ends}
use Rattle.theory.specs.Sending as S
use Rattle.theory.specs.Demands.{Lowest}
use Rattle.theory.specs.System.{State}
use Rattle.theory.specs.System as T
use Rattle.theory.specs.Words.{Yielded, NoneBehind, HasMarker, to_come}
use Rattle.theory.specs.FarEnd as F
use Rattle.report.specs.Report.{marker_on, ahead, report_of}
use Rattle.sending.specs.Sender.{went_to, sender_ok, open_sender, next_sender, send_checks, send_of, marker_from}
use Rattle.sending.specs.Sender as sender
use Rattle.ring.specs.Ring.{from_ring, into_ring, held, stored}
use Rattle.ring.specs.Ring as ring
use Rattle.ring.specs.Queue.{Entry, items_in, queue}
use Rattle.receiving.specs.Taking.{TakeAnswer, head_on, item_on, round_now, take_of}
use Rattle.receiving.specs.declared.Taken.TheVariants as taken
use Rattle.receiving.specs.Receiver.{held_of, first_from, line_at, rings_ok, turns_ok, receiver_ok, open_receiver, ring_of, with_ring}
use Rattle.receiving.specs.Arriving.{arrival, arrival_of}
use Rattle.bundle.specs.Events.{packet}
use Rattle.bundle.specs.Worlds.{World, Call, takes, landing, handed_in, reported_in}
use Rattle.bundle.specs.Words.{Opens, NoPacketOn, bytes_of}
use Rattle.bundle.specs.Demands as D
use Rattle.bundle.specs.Words as words
use Rattle.paper.proofs.Tests.{Enough, enough_test, enough, plain_steps, Plain, beginning, near_test, near, of_system, on_lines, on_both, first_lowest}
use Rattle.paper.specs.Session.{session, numbered, room, some_takes, size, bytes, opened, calm, lossy, lossier, closing}
use Rattle.numbers.specs.declared.Refusal.TheVariants as refusal
use Rattle.numbers.specs.Refusals.{number_of}

-- ---- the words of the demands, of the session; and how they follow from what computes

abbrev after : List Call → World
after h = D.after session size bytes h

abbrev theirs : S.Plan
theirs = D.theirs session size bytes

abbrev system : List Call → State
system h = D.system session size bytes h

abbrev Near : List Call → Type 0
Near h = D.Near session size bytes h

-- the system's state after the calls' own steps
abbrev state : List Call → State
state h = F.after theirs (plain_steps h)

abbrev nearly : List Call → Bool
nearly h = near_test theirs T.at_opening (plain_steps h)

-- of `Reports`: after h line 0 has the lowest round, and a marker in front; a take answers that 500 bytes are missing there, where nothing was reported
-- before
abbrev answer_in : World → TakeAnswer
answer_in w = (take_of w.receiver w.store room).result.answer

-- a marker in front, by its label and its position
abbrev front_of : List T.Item → List ℕ
front_of [] = []
front_of (T.packet k x ∷ rest) = []
front_of (T.marker k m ∷ rest) = k ∷ m ∷ []

abbrev Finds : List Call → Type 0
Finds h =
    Near (h ++ (takes room ∷ [])) × Lowest theirs (T.positions (system h)) 0 × (front_of ((system h).line 0).store ≡ 5 ∷ 1200 ∷ [])
    × (answer_in (after h) ≡ Ok (taken.Missing 0 500)) × (reported_in 0 opened h ≡ 0)

finds : (h : List Call) → Plain opened (h ++ (takes room ∷ [])) → nearly (h ++ (takes room ∷ [])) ≡ true
    → leb (S.rounds theirs (T.positions (state h)) 0) (S.rounds theirs (T.positions (state h)) 1) ≡ true → front_of ((state h).line 0).store ≡ 5 ∷ 1200 ∷ []
    → answer_in (after h) ≡ Ok (taken.Missing 0 500) → reported_in 0 opened h ≡ 0 → Finds h
finds h plain passed low mark answer first =
    let before : Plain opened h = beginning h (takes room ∷ []) opened plain in (
      near session size bytes (h ++ (takes room ∷ [])) plain passed,
      of_system session size bytes h before (λ s. Lowest theirs (T.positions s) 0) (first_lowest theirs refl (T.positions (state h)) low),
      of_system session size bytes h before (λ s. front_of (s.line 0).store ≡ 5 ∷ 1200 ∷ []) mark,
      answer,
      first,
    )

-- of `Order`, with line i's marker labelled c i; and what h₂ hands out is all that was to come
abbrev due_in : List (List ℕ) → (ℕ → ℕ) → State → List (List ℕ)
due_in sent c s = F.handed_bytes (to_come theirs (T.nth sent) c s (length sent))

abbrev Orders : List Call → List Call → (ℕ → ℕ) → List (List ℕ) → Type 0
Orders h₁ h₂ c handed =
    Near (h₁ ++ h₂) × ((i : ℕ) → i < session.lines → Yielded (c i) ((system h₁).line i).taken)
    × ((i : ℕ) → i < session.lines → NoneBehind (c i) ((system (h₁ ++ h₂)).line i).lost) × (handed_in (after h₁) h₂ ≡ handed)
    × (due_in (D.sent_of session size bytes (h₁ ++ h₂)) c (system h₁) ≡ handed)

module _ (h₁ h₂ : List Call) (c : ℕ → ℕ) (handed : List (List ℕ)) (plain : Plain opened (h₁ ++ h₂)) where
  orders : nearly (h₁ ++ h₂) ≡ true → Yielded (c 0) ((state h₁).line 0).taken → Yielded (c 1) ((state h₁).line 1).taken
      → NoneBehind (c 0) ((state (h₁ ++ h₂)).line 0).lost → NoneBehind (c 1) ((state (h₁ ++ h₂)).line 1).lost
      → handed_in (after h₁) h₂ ≡ handed → due_in (D.sent_of session size bytes (h₁ ++ h₂)) c (state h₁) ≡ handed → Orders h₁ h₂ c handed
  orders passed yielded₀ yielded₁ behind₀ behind₁ out due =
      let first : Plain opened h₁ = beginning h₁ h₂ opened plain in (
        near session size bytes (h₁ ++ h₂) plain passed,
        on_lines session size bytes h₁ first (λ s i. Yielded (c i) (s.line i).taken) yielded₀ yielded₁,
        on_lines session size bytes (h₁ ++ h₂) plain (λ s i. NoneBehind (c i) (s.line i).lost) behind₀ behind₁,
        out,
        of_system session size bytes h₁ first (λ s. due_in (D.sent_of session size bytes (h₁ ++ h₂)) c s ≡ handed) due,
      )

-- of `Cleared`; and after the takes these kinds of item are queued on the two lines
abbrev kinds : World → List (List ℕ)
kinds w = map (λ (e : Entry). e.kind) (words.queue_at w 0) ∷ map (λ (e : Entry). e.kind) (words.queue_at w 1) ∷ []

abbrev Clears : List Call → List (List ℕ) → List (List ℕ) → Type 0
Clears h outs queued =
    ((i : ℕ) → i < session.lines → HasMarker (system h).sent ((system h).line i).store)
    × Enough session size bytes h outs × Near (h ++ map takes outs) × (kinds (after (h ++ map takes outs)) ≡ queued)

module _ (h : List Call) (outs queued : List (List ℕ)) (plain : Plain opened (h ++ map takes outs)) where
  clears : HasMarker (state h).sent ((state h).line 0).store → HasMarker (state h).sent ((state h).line 1).store
      → enough_test session size bytes h outs ≡ true → nearly (h ++ map takes outs) ≡ true → kinds (after (h ++ map takes outs)) ≡ queued → Clears h outs queued
  clears marked₀ marked₁ as_many passed left = (
    on_lines session size bytes h (beginning h (map takes outs) opened plain) (λ s i. HasMarker s.sent (s.line i).store) marked₀ marked₁,
    enough session size bytes h outs plain as_many,
    near session size bytes (h ++ map takes outs) plain passed,
    left,
  )

-- ---- the premises

pub opens : Opens session size bytes
unfolding plan_ok store_ok all_below
opens = record { sixteen = refl; plan = plan_in session refl; room = store_in session size refl; long = refl }

-- the markers' labels: on both lines those after packet 5; on line 0 only, and line 1 stands at the opening
abbrev both_marked : ℕ → ℕ
both_marked i = 5

abbrev first_marked : ℕ → ℕ
first_marked i = cond (eqb i 0) 5 0

-- Of `InOrder` and `AllOut`: nothing is lost, six items are held; and all eight packets are handed out.
pub nothing_lost :
    Near (calm ++ some_takes 6) × D.NothingLost session size bytes calm × D.NoPacketUnderWay session size bytes calm × Enough session size bytes calm (replicate 6 room)
    × (handed_in opened (calm ++ some_takes 6)
    ≡ numbered 1 400 ∷ numbered 2 500 ∷ numbered 3 300 ∷ numbered 4 450 ∷ numbered 5 200 ∷ numbered 6 500 ∷ numbered 7 500 ∷ numbered 8 100 ∷ [])
unfolding all_below reading_of coded row_bytes outcome plan_ok store_ok charge_of record_read better best choose charged T.at_line
    marker_on judge ahead report_of sender_ok counters_ok open_sender next_sender send_checks send_of marker_from from_ring into_ring held stored ring.front_of
    first_from line_at receiver_ok rings_ok turns_ok open_receiver ring_of with_ring arrival arrival_of head_on item_on round_now take_of items_in queue
nothing_lost =
    let plain : Plain opened (calm ++ some_takes 6) = refl in (
      near session size bytes (calm ++ some_takes 6) plain refl,
      on_lines session size bytes calm (beginning calm (some_takes 6) opened plain) (λ s i. (s.line i).lost ≡ []) refl refl,
      on_both (λ i. NoPacketOn ((after calm).road i)) tt tt,
      enough session size bytes calm (replicate 6 room) plain refl,
      refl,
    )

-- Packet 2 is lost. The third take, behind the arrival of packet 6, finds line 0's marker; when both lines have yielded their markers,
-- packet 8 is to come.
pub packet_lost : Near (lossy ++ some_takes 5) × Finds (take 18 lossy) × Orders (lossy ++ some_takes 4) (some_takes 1) both_marked (numbered 8 100 ∷ [])
unfolding all_below reading_of coded row_bytes outcome plan_ok store_ok charge_of record_read better best choose charged T.at_line marker_on
    judge ahead report_of sender_ok counters_ok open_sender next_sender send_checks send_of marker_from from_ring into_ring held stored ring.front_of first_from
    line_at receiver_ok rings_ok turns_ok open_receiver ring_of with_ring arrival arrival_of head_on item_on round_now take_of S.carried
packet_lost =
    let plain : Plain opened (lossy ++ some_takes 5) = refl in (
      near session size bytes (lossy ++ some_takes 5) plain refl,
      finds (take 18 lossy) (beginning (take 19 lossy) (drop 19 lossy ++ some_takes 5) opened plain) refl refl refl refl refl,
      orders (lossy ++ some_takes 4) (some_takes 1) both_marked (numbered 8 100 ∷ []) plain refl (inl refl) (inl refl) (ltb-true 1 5 refl, tt) tt refl refl,
    )

-- Line 1's marker is lost too, but none of its packets: line 1 stands from the opening, and order holds from line 0's marker on.
pub marker_lost :
    Near (lossier ++ some_takes 4) × Finds (take 18 lossier)
    × Orders (take 19 lossier) (drop 19 lossier ++ some_takes 4) first_marked
    (numbered 4 450 ∷ numbered 5 200 ∷ numbered 6 500 ∷ numbered 7 500 ∷ numbered 8 100 ∷ [])
unfolding all_below reading_of coded row_bytes outcome plan_ok store_ok charge_of record_read better best choose charged T.at_line
    marker_on judge ahead report_of sender_ok counters_ok open_sender next_sender send_checks send_of marker_from from_ring into_ring held stored ring.front_of
    first_from line_at receiver_ok rings_ok turns_ok open_receiver ring_of with_ring arrival arrival_of head_on item_on round_now take_of S.carried
marker_lost =
    let plain : Plain opened (lossier ++ some_takes 4) = refl in (
      near session size bytes (lossier ++ some_takes 4) plain refl,
      finds (take 18 lossier) (beginning (take 19 lossier) (drop 19 lossier ++ some_takes 4) opened plain) refl refl refl refl refl,
      orders (take 19 lossier) (drop 19 lossier ++ some_takes 4) first_marked
          (numbered 4 450 ∷ numbered 5 200 ∷ numbered 6 500 ∷ numbered 7 500 ∷ numbered 8 100 ∷ []) plain refl (inl refl) refl (ltb-true 1 5 refl, tt) tt refl refl,
    )

-- Markers are sent after the last packet: as many takes as items held leave no packet, only line 0's last marker.
pub all_marked :
    Clears (lossy ++ closing) (replicate 7 room) ((1 ∷ []) ∷ [] ∷ []) × Clears (lossier ++ closing) (replicate 6 room) ((1 ∷ []) ∷ [] ∷ [])
unfolding all_below reading_of coded row_bytes outcome plan_ok store_ok charge_of record_read better best choose charged T.at_line marker_on
    judge ahead report_of sender_ok counters_ok open_sender next_sender send_checks send_of marker_from from_ring into_ring held stored ring.front_of first_from
    line_at receiver_ok rings_ok turns_ok open_receiver ring_of with_ring arrival arrival_of head_on item_on round_now take_of items_in queue
all_marked = (
  clears (lossy ++ closing) (replicate 7 room) _ refl (inl refl) (inr (inl refl)) refl refl refl,
  clears (lossier ++ closing) (replicate 6 room) _ refl (inl refl) (inl refl) refl refl refl,
)

-- Of `Rule` and `Share`: packet 5 is in range, and behind the first four it ends a full round.
pub round_ends :
    (1 ≤ length (numbered 5 200)) × (length (numbered 5 200) ≤ session.max)
    × (ends theirs (D.carried session size bytes (take 8 calm)) (length (numbered 5 200)) ≡ true)
unfolding all_below plan_ok store_ok charge_of better best choose charged S.carried ends ahead sender_ok counters_ok open_sender next_sender send_checks send_of
    stored into_ring first_from line_at receiver_ok rings_ok turns_ok open_receiver ring_of with_ring arrival arrival_of
round_ends = (leb-true _ _ refl, leb-true _ _ refl, refl)

-- Of `OnlyForCause`: there is room for a marker, for the first packet, once sent, in its line's ring, and for the largest in a take's output.
pub room_enough :
    (length (sender.line_marker (after (take 9 calm)).sender 0) ≤ length room)
    × (((after (take 1 calm)).road 0 ≡ packet (numbered 1 400) ∷ [])
    × (item_head + length (bytes_of (packet (numbered 1 400))) ≤ size - (held_of (after (take 1 calm)).receiver.rings 0).used))
    × (session.max ≤ length room)
unfolding all_below coded row_bytes plan_ok store_ok charge_of sender_ok counters_ok open_sender next_sender send_checks send_of open_receiver
room_enough = (
  leb-true _ _ refl,
  (refl, leb-true _ _ refl),
  leb-true _ _ refl,
)

-- Of `ValidStaysValid`, and of `RefusedChangesNothing`: a packet of no bytes, a marker with no room, a packet on a line that is not there, and a
-- take with no room are refused.
pub valid_opened : (sender_ok opened.sender ≡ true) × (receiver_ok opened.receiver ≡ true)
unfolding all_below plan_ok store_ok ahead sender_ok counters_ok open_sender first_from line_at receiver_ok rings_ok turns_ok open_receiver
valid_opened = (refl, refl)

pub some_refused :
    ((send_of opened.sender 0).answer ≡ Err refusal.Length) × ((marker_from opened.sender 0 []).answer ≡ Err refusal.ShortOutput)
    × (number_of (landing opened.receiver bytes 2 (packet (numbered 1 400))).arrived.answer ≡ 3)
    × ((take_of (after (take 2 calm)).receiver (after (take 2 calm)).store []).result.answer ≡ Err refusal.ShortOutput)
unfolding all_below coded row_bytes outcome plan_ok store_ok charge_of ahead sender_ok counters_ok open_sender send_checks send_of marker_from from_ring
    into_ring held stored ring.front_of first_from line_at receiver_ok rings_ok turns_ok open_receiver ring_of with_ring arrival arrival_of head_on item_on take_of
some_refused = (refl, refl, refl, refl)
