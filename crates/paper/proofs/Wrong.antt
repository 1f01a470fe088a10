-- Answers that are wrong in the session on paper, and that the promises rule out: what each promise concludes is false of them. Assumes nothing.
use Prim.Native.Nat.{ℕ, ◌+◌, ◌-◌, ◌*◌, ◌≤◌, ◌<◌}
use native.Mathlib.Omega.{arith}
use mathlib.Core.Bool.{true, false, cond}
use mathlib.Core.List.{List, [], ◌∷◌, ◌++◌, map}
use mathlib.Core.Path.{◌≡◌, refl, sym, ap, ◌∙◌, subst}
use lib.Dec.{ltb, leb, eqb}
use lib.ListN.{length, get_or, take, drop}
use borrow.Author.Tests.{ltb-true, leb-true, eq-eqb, lt-ltb, le-leb}
use Rattle.numbers.specs.Writing.{Written, outcome}
use Rattle.std.specs.Prelude.{Ok, Err}
use Rattle.numbers.specs.Checks.{all_below}
use Rattle.numbers.specs.Coding.{reading_of, coded, row_bytes}
use Rattle.numbers.specs.Writing as writing
use Rattle.numbers.proofs.Checks.{never}
use Rattle.plan.specs.declared.Plan.{Plan}
use Rattle.plan.specs.Limits.{item_head}
use Rattle.plan.specs.Plan.{at, quantum, plan_ok, counters_ok, store_ok, charge_of}
use Rattle.marker.specs.Marker.{record_read, judge}
use Rattle.theory.specs.Sending.{better, best, choose, charged, ends, ended, due_after}
use Rattle.theory.specs.Sending as S
use Rattle.theory.specs.Demands.{Lowest}
use Rattle.theory.specs.System as T
use Rattle.theory.specs.Words.{Beginning, total, before, Yielded, NoneBehind, to_come}
use Rattle.theory.specs.FarEnd as F
use Rattle.report.specs.Report.{marker_on, ahead, report_of}
use Rattle.sending.specs.declared.Sender.{Sender}
use Rattle.sending.specs.Sender.{Sent, went_to, sender_ok, open_sender, next_sender, send_checks, send_of, marker_from}
use Rattle.sending.specs.Sender as sender
use Rattle.ring.specs.Ring.{from_ring, into_ring, held, stored, front_of}
use Rattle.ring.specs.Queue.{items_in}
use Rattle.ring.specs.Queue as ring
use Rattle.receiving.specs.Taking.{TakeAnswer, taken_number, taken_values, head_on, item_on, round_now, take_of}
use Rattle.receiving.specs.declared.Taken.TheVariants as taken
use Rattle.receiving.specs.Receiver.{held_of, first_from, line_at, rings_ok, turns_ok, receiver_ok, open_receiver, ring_of, with_ring}
use Rattle.receiving.specs.Receiver as receiver
use Rattle.receiving.specs.Arriving.{arrival, arrival_of}
use Rattle.bundle.specs.Events.{Parcel}
use Rattle.bundle.specs.Events as event
use Rattle.bundle.specs.Worlds.{World, Call, sends, takes, landing, handed_in, reported_in}
use Rattle.bundle.specs.Words.{and_then, Names, queue_at, NoPacket}
use Rattle.bundle.specs.Log.{parcel_of, entry_of}
use Rattle.bundle.specs.Demands as D
use Rattle.paper.specs.Session.{session, numbered, room, size, bytes, opened, calm, lossy, closing}
use Rattle.numbers.specs.Refusals.{number_of}
use Rattle.numbers.specs.declared.Refusal.{Refusal}
use Rattle.numbers.specs.declared.Refusal.TheVariants as refusal

-- ---- a test that fails refutes what it tests

differ : (a b : ℕ) → eqb a b ≡ false → a ≡ b → ⊥
differ a b test same = never (sym (eq-eqb a b same) ∙ test)

above : (a b : ℕ) → leb a b ≡ false → a ≤ b → ⊥
above a b test most = never (sym (le-leb a b most) ∙ test)

not_below : (a b : ℕ) → ltb a b ≡ false → a < b → ⊥
not_below a b test less = never (sym (lt-ltb a b less) ∙ test)

-- which packet stands at place n of a list: each of its bytes says so
abbrev named : ℕ → List (List ℕ) → ℕ
named n packets = get_or (get_or packets n []) 0 0

-- ---- the words of the promises, of the session

abbrev kept : Plan
kept = D.kept session size bytes

abbrev theirs : S.Plan
theirs = D.theirs session size bytes

abbrev after : List Call → World
after h = D.after session size bytes h

abbrev log_of : List Call → List T.Step
log_of h = D.log_of session size bytes h

abbrev system : List Call → T.State
system h = D.system session size bytes h

abbrev sent_of : List Call → List (List ℕ)
sent_of h = D.sent_of session size bytes h

abbrev carried : List Call → ℕ → ℕ
carried h = D.carried session size bytes h

abbrev rounds_ended : List Call → ℕ
rounds_ended h = D.rounds_ended session size bytes h

-- four packets are sent, and the fifth, which ends the round
abbrev four : List Call
four = take 8 calm

abbrev five : List Call
five = and_then four (sends (numbered 5 200))

-- packet 2 is lost: line 0's marker, labelled 5, is in front, and it is taken
abbrev marked : List Call
marked = take 18 lossy

abbrev passed : List Call
passed = take 19 lossy

-- ---- what a promise concludes, with any answer in the place of the one that is given

-- `Rule`, of what packet 5 is answered
abbrev RuleOf : Sent → Type 0
RuleOf answer =
    (i : ℕ) × Lowest theirs (carried four) i × (answer ≡ went_to i (due_after theirs (T.sizes (sent_of five)) (length (sent_of four))))

-- `SameRule`, of what the take that finds the marker is answered
abbrev SameRuleOf : TakeAnswer → Type 0
SameRuleOf answer = (i : ℕ) × Lowest theirs (T.positions (system marked)) i × Names i answer

-- `Reports`, of what that take is answered: the marker in front is labelled 5
abbrev ReportsOf : TakeAnswer → Type 0
ReportsOf answer = (m : ℕ) × (answer ≡ Ok (taken.Missing 0 m)) × (m + reported_in 0 opened marked ≡ total (before theirs 0 5) ((system marked).line 0).lost)

-- `Answered`, of what a take into an output of no bytes is answered, packet 1 in front, and of one with room
abbrev TooLongOf : TakeAnswer → Type 0
TooLongOf answer = answer ≡ Err refusal.ShortOutput

abbrev PacketOf : TakeAnswer → List ℕ → Type 0
PacketOf answer out = (answer ≡ Ok (taken.Data 0 400)) × (out ≡ numbered 1 400 ++ drop 400 room)

-- `OnlyForCause`, of what an arrival of packet 1 is answered, of a marker asked for on line 0, and of a take with room
abbrev LandOf : ℕ → Type 0
LandOf number = number ≡ 0

abbrev AskOf : Written → Type 0
AskOf answer = answer ≡ Ok (length (sender.line_marker (after five).sender 0))

abbrev TakeOf : TakeAnswer → Type 0
TakeOf answer = (refusal : Refusal) → answer ≡ Err refusal → ⊥

-- `RefusedChangesNothing`, of the state that a refused send leaves, and of the output that a refused take does
abbrev SendLeaves : Sender → Type 0
SendLeaves next = next ≡ opened.sender

abbrev TakeLeaves : List ℕ → Type 0
TakeLeaves out = out ≡ room

-- `Order`, of what is handed out from there on; line 1, which loses nothing, stands from the opening
abbrev labels : ℕ → ℕ
labels i = cond (eqb i 0) 5 0

abbrev OrderOf : List (List ℕ) → Type 0
OrderOf handed =
    let sent = sent_of (passed ++ drop 19 lossy) in
    Beginning handed (F.handed_bytes (to_come theirs (T.nth sent) labels (system passed) (length sent)))

-- With the answer that the ends give, each is what its promise concludes.
pub record Concluded : Type 0 where
  pub rule : D.Rule session size bytes → RuleOf (send_of (after four).sender 200).answer
  pub same_rule : D.SameRule session size bytes → D.Near session size bytes passed
      → SameRuleOf (take_of (after marked).receiver (after marked).store room).result.answer
  pub reports : D.Reports session size bytes → D.Near session size bytes passed → Lowest theirs (T.positions (system marked)) 0
      → (position : ℕ) (rest : List T.Item) → ((system marked).line 0).store ≡ T.marker 5 position ∷ rest
      → ReportsOf (take_of (after marked).receiver (after marked).store room).result.answer
  pub too_long : D.Answered session size bytes → D.Near session size bytes (and_then (take 2 calm) (takes [])) → Lowest theirs (T.positions (system (take 2 calm))) 0
      → (rest : List T.Item) → ((system (take 2 calm)).line 0).store ≡ T.packet 0 (numbered 1 400) ∷ rest
      → TooLongOf (take_of (after (take 2 calm)).receiver (after (take 2 calm)).store []).result.answer
  pub packet : D.Answered session size bytes → D.Near session size bytes (and_then (take 2 calm) (takes room)) → Lowest theirs (T.positions (system (take 2 calm))) 0
      → (rest : List T.Item) → ((system (take 2 calm)).line 0).store ≡ T.packet 0 (numbered 1 400) ∷ rest
      → let t = take_of (after (take 2 calm)).receiver (after (take 2 calm)).store room in PacketOf t.result.answer t.out
  pub land : D.OnlyForCause session size bytes → (rest : List Parcel) → (after (take 1 calm)).road 0 ≡ event.packet (numbered 1 400) ∷ rest
      → item_head + 400 ≤ size - (held_of (after (take 1 calm)).receiver.rings 0).used
      → LandOf (number_of (landing (after (take 1 calm)).receiver (after (take 1 calm)).store 0 (event.packet (numbered 1 400))).arrived.answer)
  pub ask : D.OnlyForCause session size bytes → length (sender.line_marker (after five).sender 0) ≤ length room → AskOf (marker_from (after five).sender 0 room).answer
  pub take : D.OnlyForCause session size bytes → D.Near session size bytes passed
      → TakeOf (take_of (after marked).receiver (after marked).store room).result.answer
  pub order : D.Order session size bytes → D.Near session size bytes lossy
      → ((i : ℕ) → i < session.lines → Yielded (labels i) ((system passed).line i).taken)
      → ((i : ℕ) → i < session.lines → NoneBehind (labels i) ((system lossy).line i).lost) → OrderOf (handed_in (after passed) (drop 19 lossy))

pub concluded : Concluded
concluded = record {
  rule = λ promise. promise four (numbered 5 200) (leb-true 1 200 refl) (leb-true 200 500 refl);
  same_rule = λ promise. promise marked room;
  reports = λ promise near low position rest e. let r = promise marked room 0 5 position rest near low e in (r.0, r.1, r.3);
  too_long = λ promise near low rest e. (promise (take 2 calm) [] 0 near low).too_long 0 (numbered 1 400) rest e (ltb-true 0 400 refl);
  packet = λ promise near low rest e. (promise (take 2 calm) room 0 near low).packet 0 (numbered 1 400) rest e (leb-true 400 500 refl);
  land = λ promise rest e free. promise.land (take 1 calm) 0 (event.packet (numbered 1 400)) rest e free;
  ask = λ promise has. promise.ask five 0 room (ltb-true 0 2 refl) has;
  take = λ promise near. promise.take marked room near (leb-true 500 500 refl);
  order = λ promise. promise passed (drop 19 lossy) labels;
}

-- ---- the wrong answers

pub record Wrong : Type 0 where
  -- `LogShown`: a send that the log forgets; a packet handed out damaged, or gone from the road, or from the queue
  pub log_sent : sent_of (take 1 calm) ≡ T.packets [] → ⊥
  pub log_handed : numbered 9 400 ∷ [] ≡ F.handed_bytes (T.outs theirs T.at_opening (log_of (take 15 calm))) → ⊥
  pub log_road : [] ≡ map (parcel_of kept 0) ((system (take 1 calm)).line 0).road → ⊥
  pub log_queued : [] ≡ map (entry_of kept 0) ((system (take 2 calm)).line 0).store → ⊥
  -- `ChargedBytes`: a byte more
  pub charged_more : theirs.charge 0 400 + 1 ≡ 400 → ⊥
  -- `Rule`: the other line; no marker due; a refusal
  pub rule_other : RuleOf (went_to 0 true) → ⊥
  pub rule_undue : RuleOf (went_to 1 false) → ⊥
  pub rule_refused : RuleOf (Err refusal.Length) → ⊥
  -- `Share`: a round more than has ended; nothing above the quanta
  pub share_more : (rounds_ended five + 1) * quantum session 0 ≤ carried five 0 → ⊥
  pub share_less : carried five 0 < rounds_ended five * quantum session 0 → ⊥
  -- `SameRule`: the other line waits, or hands out; the marker is behind; a refusal
  pub same_rule_waits : SameRuleOf (Ok (taken.Waiting 1)) → ⊥
  pub same_rule_other : SameRuleOf (Ok (taken.Data 1 450)) → ⊥
  pub same_rule_behind : SameRuleOf (Ok (taken.Behind 0)) → ⊥
  pub same_rule_refused : SameRuleOf (Err refusal.Store) → ⊥
  -- `InOrder`: two packets swapped; one left out
  pub in_order_swapped : Beginning (numbered 2 500 ∷ numbered 1 400 ∷ []) (sent_of calm) → ⊥
  pub in_order_gap : Beginning (numbered 1 400 ∷ numbered 3 300 ∷ []) (sent_of calm) → ⊥
  -- `AllOut`: takes that wait, and hand out no more than was; the last packet twice
  pub all_out_waits : handed_in opened calm ≡ sent_of calm → ⊥
  pub all_out_twice : sent_of calm ++ (numbered 8 100 ∷ []) ≡ sent_of calm → ⊥
  -- `Reports`: nothing; a byte too many; a marker that is waited for, or told as behind
  pub reports_nothing : ReportsOf (Ok (taken.Missing 0 0)) → ⊥
  pub reports_more : ReportsOf (Ok (taken.Missing 0 501)) → ⊥
  pub reports_waits : ReportsOf (Ok (taken.Waiting 0)) → ⊥
  pub reports_behind : ReportsOf (Ok (taken.Behind 0)) → ⊥
  -- `Answered`: a packet that waits where it is too long, or is refused with 9; one that is refused where there is room, or cut short
  pub too_long_waits : TooLongOf (Ok (taken.Waiting 0)) → ⊥
  pub too_long_nine : TooLongOf (Err refusal.Store) → ⊥
  pub packet_refused : PacketOf (Err refusal.ShortOutput) room → ⊥
  pub packet_cut : PacketOf (Ok (taken.Data 0 399)) (numbered 1 399 ++ drop 399 room) → ⊥
  -- `Order`: two packets swapped; one left out
  pub order_swapped : OrderOf (numbered 5 200 ∷ numbered 4 450 ∷ []) → ⊥
  pub order_gap : OrderOf (numbered 4 450 ∷ numbered 6 500 ∷ []) → ⊥
  -- `Cleared`: takes that wait, and leave all that is queued
  pub cleared_waits : NoPacket (queue_at (after (lossy ++ closing)) 0) → ⊥
  -- `Valid`: ends that are closed
  pub valid_sender : sender_ok sender.closed_sender ≡ true → ⊥
  pub valid_receiver : receiver_ok receiver.closed_receiver ≡ true → ⊥
  -- `OnlyForCause`: a marker refused, or cut short; a packet not stored; a take refused
  pub ask_refused : AskOf (Err refusal.ShortOutput) → ⊥
  pub ask_short : AskOf (Ok 3) → ⊥
  pub land_refused : LandOf 7 → ⊥
  pub take_refused : TakeOf (Err refusal.ShortOutput) → ⊥
  -- `RefusedChangesNothing`: a refused send that charges its line; a refused take that writes over its output
  pub refused_charges : SendLeaves (next_sender opened.sender 100) → ⊥
  pub refused_writes : TakeLeaves (numbered 1 500) → ⊥

-- a report of m bytes is no report of n
reported : {m n : ℕ} → ◌≡◌ {A = TakeAnswer} (Ok (taken.Missing 0 m)) (Ok (taken.Missing 0 n)) → m ≡ n
reported e = ap (λ (t : TakeAnswer). get_or (taken_values t) 1 0) e

not_reported : (m : ℕ) → eqb (m + reported_in 0 opened marked) (total (before theirs 0 5) ((system marked).line 0).lost) ≡ false → ReportsOf (Ok (taken.Missing 0 m)) → ⊥
not_reported m test r = differ _ _ test (ap (λ (n : ℕ). n + reported_in 0 opened marked) (reported r.1) ∙ r.2)

-- an answer by what it is: data, missing, behind, waiting, refused
abbrev kind_of : TakeAnswer → ℕ
kind_of (Ok (taken.Data i n)) = 0
kind_of (Ok (taken.Missing i m)) = 1
kind_of (Ok (taken.Behind i)) = 2
kind_of (Ok (taken.Waiting i)) = 3
kind_of (Err k) = 4

pub wrong : Wrong
unfolding all_below reading_of coded row_bytes outcome plan_ok store_ok charge_of record_read better best choose charged S.carried ends ended
    due_after T.at_line marker_on judge ahead report_of sender_ok counters_ok open_sender next_sender send_checks send_of marker_from from_ring into_ring held stored
    front_of items_in ring.queue first_from line_at receiver_ok rings_ok turns_ok open_receiver ring_of with_ring arrival arrival_of head_on item_on
    round_now take_of
wrong =
    let other : Lowest theirs (T.positions (system marked)) 1 → ⊥ = λ low. above 1 0 refl (low.on_tie 0 (omega arith) refl) in
    record {
      log_sent = λ e. differ _ _ refl (ap length e);
      log_handed = λ e. differ _ _ refl (ap (named 0) e);
      log_road = λ e. differ _ _ refl (ap length e);
      log_queued = λ e. differ _ _ refl (ap length e);
      charged_more = differ _ _ refl;
      rule_other = λ r.
          let line : r.0 ≡ 0 = sym (ap (λ (s : Sent). get_or (sender.sent_values s) 0 0) r.2) in
          above _ _ refl ((subst (Lowest theirs (carried four)) line r.1).lowest 1 (omega arith));
      rule_undue = λ r. differ _ _ refl (ap (λ (s : Sent). get_or (sender.sent_values s) 1 0) r.2);
      rule_refused = λ r. differ _ _ refl (ap number_of r.2);
      share_more = above _ _ refl;
      share_less = not_below _ _ refl;
      same_rule_waits = λ r. other (subst (Lowest theirs (T.positions (system marked))) r.2 r.1);
      same_rule_other = λ r. other (subst (Lowest theirs (T.positions (system marked))) r.2 r.1);
      same_rule_behind = λ r. r.2;
      same_rule_refused = λ r. differ 9 8 refl r.2;
      in_order_swapped = λ b. differ _ _ refl (ap (named 0) b.1);
      in_order_gap = λ b. differ _ _ refl (ap (named 1) b.1);
      all_out_waits = λ e. differ _ _ refl (ap length e);
      all_out_twice = λ e. differ _ _ refl (ap length e);
      reports_nothing = not_reported 0 refl;
      reports_more = not_reported 501 refl;
      reports_waits = λ r. differ 3 1 refl (ap kind_of r.1);
      reports_behind = λ r. differ 2 1 refl (ap kind_of r.1);
      too_long_waits = λ e. differ 3 4 refl (ap kind_of e);
      too_long_nine = λ e. differ 9 8 refl (ap taken_number e);
      packet_refused = λ r. differ 4 0 refl (ap kind_of r.0);
      packet_cut = λ r. differ 399 400 refl (ap (λ (t : TakeAnswer). get_or (taken_values t) 1 0) r.0);
      order_swapped = λ b. differ _ _ refl (ap (named 0) b.1);
      order_gap = λ b. differ _ _ refl (ap (named 1) b.1);
      cleared_waits = λ c. c.0 refl;
      valid_sender = λ e. never (sym e);
      valid_receiver = λ e. never (sym e);
      ask_refused = λ e. differ 8 0 refl (ap number_of e);
      ask_short = λ e. differ _ _ refl (ap writing.length_of e);
      land_refused = differ 7 0 refl;
      take_refused = λ none. none refusal.ShortOutput refl;
      refused_charges = λ e. differ _ _ refl (ap (λ (s : Sender). at s.counters 0) e);
      refused_writes = λ e. differ _ _ refl (ap (λ (out : List ℕ). get_or out 0 0) e);
    }
