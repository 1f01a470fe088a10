-- The demands, of histories of calls.
use Rattle.std.specs.Prelude.{ℕ, ◌+◌, ◌-◌, ◌*◌, ◌≤◌, ◌<◌, true, List, [], ◌∷◌, ◌++◌, map, ◌≡◌, length, drop, Ok, Err}
use Rattle.plan.specs.declared.Plan.{Plan}
use Rattle.plan.specs.Limits.{item_head}
use Rattle.plan.specs.Plan.{quantum, line_plan, charge_of, trimmed}
use Rattle.theory.specs.Sending.{ends, due_after}
use Rattle.theory.specs.Sending as S
use Rattle.theory.specs.Demands.{Lowest}
use Rattle.theory.specs.System as T
use Rattle.theory.specs.Words.{Beginning, total, before, Yielded, NoneBehind, HasMarker, to_come}
use Rattle.theory.specs.FarEnd as F
use Rattle.sending.specs.Sender.{went_to, sender_ok, send_of, line_marker, marker_from}
use Rattle.sending.specs.InTheory.{in_theory}
use Rattle.receiving.specs.declared.Taken.TheVariants as taken
use Rattle.receiving.specs.Receiver.{held_of, receiver_ok}
use Rattle.receiving.specs.Taking.{TakeOutcome, take_of}
use Rattle.bundle.specs.Events.{Parcel, put_by, left_by, lost_by, stored_by, each}
use Rattle.bundle.specs.Worlds.{World, Call, sends, takes, start, landing, calls, events, sent_in, handed_in, reported_in}
use Rattle.bundle.specs.Words.{and_then, back, Names, RoomFor, queue_at, queue_bytes, held_below, NoPacket, NoPacketOn, bytes_of}
use Rattle.bundle.specs.Log.{log, parcel_of, entry_of}
use Rattle.bundle.specs.Booth.{carried_by, ended_by}
use Rattle.numbers.specs.Refusals.{number_of}
use Rattle.numbers.specs.declared.Refusal.{Refusal}
use Rattle.numbers.specs.declared.Refusal.TheVariants as refusal

module _ (p : Plan) (size : ℕ) (store : List ℕ) where
  -- the plan as both ends keep it: zeros from line N on
  abbrev pub kept : Plan
  kept = trimmed p

  abbrev pub theirs : S.Plan
  theirs = in_theory kept

  -- the world after a history, and the system's state after its log
  abbrev pub opened : World
  opened = start p size store

  abbrev pub after : List Call → World
  after h = calls opened h

  abbrev pub log_of : List Call → List T.Step
  log_of h = log opened h

  abbrev pub system : List Call → T.State
  system h = F.after theirs (log_of h)

  -- the packets sent, and by them what each line has carried and how many full rounds have ended
  abbrev pub sent_of : List Call → List (List ℕ)
  sent_of h = sent_in opened h

  abbrev pub carried : List Call → ℕ → ℕ
  carried h = carried_by kept (sent_of h)

  abbrev pub rounds_ended : List Call → ℕ
  rounds_ended h = ended_by kept (sent_of h)

  -- a take into this output, next
  abbrev pub taking : List Call → List ℕ → TakeOutcome
  taking h out = take_of (after h).receiver (after h).store out

  -- each marker, when taken, is fewer than 2^31 rounds ahead of its line
  abbrev pub Near : List Call → Type 0
  Near h = F.Near theirs T.at_opening (log_of h)

  -- nothing lost: on no line, on its way or refused where it arrived; no packet under way
  abbrev pub NothingLost : List Call → Type 0
  NothingLost h = F.NothingLost theirs (system h)

  abbrev pub NoPacketUnderWay : List Call → Type 0
  NoPacketUnderWay h = (i : ℕ) → i < p.lines → NoPacketOn ((after h).road i)

  -- with nothing lost every marker is near
  abbrev pub LosslessNear : Type 0
  LosslessNear = (h : List Call) → NothingLost h → Near h

  -- ---- the log is of this world

  -- what it says was sent was, and what it has under way is. What was put on a line is, in order, what has left it and what is under way; of what has
  -- left it, the log has lost what was lost, and has taken and queued what was stored.
  pub record LogShown : Type 0 where
    pub sent : (h : List Call) → sent_of h ≡ T.packets (log_of h)
    pub road : (h : List Call) (i : ℕ) → (after h).road i ≡ map (parcel_of kept i) ((system h).line i).road
    pub put : (h : List Call) (i : ℕ) → each (put_by i) (events opened h) ≡ each (left_by i) (events opened h) ++ (after h).road i
    pub lost : (h : List Call) (i : ℕ) → each (lost_by i) (events opened h) ≡ map (parcel_of kept i) (back ((system h).line i).lost)
    pub stored : (h : List Call) (i : ℕ)
        → each (stored_by i) (events opened h) ≡ map (entry_of kept i) (back ((system h).line i).taken ++ ((system h).line i).store)

  -- what it says was handed out was, and what it has queued is what the rings hold, and uses of them
  pub record StageShown (h : List Call) : Type 0 where
    pub handed : handed_in opened h ≡ F.handed_bytes (T.outs theirs T.at_opening (log_of h))
    pub queued : (i : ℕ) → i < p.lines → queue_at (after h) i ≡ map (entry_of kept i) ((system h).line i).store
    pub used : (i : ℕ) → i < p.lines → (held_of (after h).receiver.rings i).used ≡ queue_bytes (queue_at (after h) i)

  abbrev pub StageIsShown : Type 0
  StageIsShown = (h : List Call) → Near h → StageShown h

  -- a packet is charged its length: charges are bytes
  abbrev pub ChargedBytes : Type 0
  ChargedBytes = (i n : ℕ) → theirs.charge i n ≡ n

  -- ---- demand 2, the booth

  -- A packet in range is sent, to the line of lowest round by what the lines have carried, lower number on a tie; and markers are due exactly when
  -- it ends a full round whose number is a multiple of the interval.
  abbrev pub Rule : Type 0
  Rule =
      (h : List Call) (x : List ℕ) → 1 ≤ length x → length x ≤ p.max
      → (i : ℕ) × Lowest theirs (carried h) i
      × ((send_of (after h).sender (length x)).answer ≡ went_to i (due_after theirs (T.sizes (sent_of (and_then h (sends x)))) (length (sent_of h))))

  -- A send that ends the k-th full round leaves on every line at least k quanta, and less than k quanta plus one largest packet.
  abbrev pub Share : Type 0
  Share =
      (h : List Call) (x : List ℕ) → 1 ≤ length x → length x ≤ p.max → ends theirs (carried h) (length x) ≡ true → (i : ℕ) → i < p.lines
      → (rounds_ended (and_then h (sends x)) * quantum p i ≤ carried (and_then h (sends x)) i)
      × (carried (and_then h (sends x)) i < rounds_ended (and_then h (sends x)) * quantum p i + charge_of (line_plan kept i) p.max)

  -- ---- demand 2, the stage

  -- It takes lines by the same rule, on the positions that markers and packets have given it. No take answers 11, and none is refused but with 8.
  abbrev pub SameRule : Type 0
  SameRule =
      (h : List Call) (out : List ℕ) → Near (and_then h (takes out))
      → (i : ℕ) × Lowest theirs (T.positions (system h)) i × Names i (taking h out).result.answer

  -- What the next take answers, by what stands in front of that line. Nothing: it waits for the line. A packet: its line, its length and its bytes
  -- where the output is as long, and else it is refused with 8. (A marker: `Reports`.)
  pub record Answers (h : List Call) (out : List ℕ) (i : ℕ) : Type 0 where
    pub empty : ((system h).line i).store ≡ [] → (taking h out).result.answer ≡ Ok (taken.Waiting i)
    pub packet : (k : ℕ) (x : List ℕ) (rest : List T.Item) → ((system h).line i).store ≡ T.packet k x ∷ rest → length x ≤ length out
        → ((taking h out).result.answer ≡ Ok (taken.Data i (length x))) × ((taking h out).out ≡ x ++ drop (length x) out)
    pub too_long : (k : ℕ) (x : List ℕ) (rest : List T.Item) → ((system h).line i).store ≡ T.packet k x ∷ rest → length out < length x
        → (taking h out).result.answer ≡ Err refusal.ShortOutput

  abbrev pub Answered : Type 0
  Answered = (h : List Call) (out : List ℕ) (i : ℕ) → Near (and_then h (takes out)) → Lowest theirs (T.positions (system h)) i → Answers h out i

  -- takes into these outputs, each of which has room for what is in front then
  abbrev pub Roomy : List Call → List (List ℕ) → Type 0
  Roomy h [] = Unit {0}
  Roomy h (out ∷ outs) = RoomFor (F.front theirs (system h)).store out × Roomy (and_then h (takes out)) outs

  -- Nothing lost: what is handed out is a beginning of what was sent,
  abbrev pub InOrder : Type 0
  InOrder = (h : List Call) → NothingLost h → Beginning (handed_in opened h) (sent_of h)

  -- and once no packet is under way, as many takes with room as items held hand out the rest.
  abbrev pub AllOut : Type 0
  AllOut =
      (h : List Call) → NothingLost h → NoPacketUnderWay h
      → (outs : List (List ℕ)) → length outs ≡ held_below (after h) p.lines → Roomy h outs
      → handed_in opened (h ++ map takes outs) ≡ sent_of h

  -- ---- demand 3

  -- A marker, labelled k, stands in front of the line of lowest round: the next take reports it, and what it reports, with what was reported before on
  -- its line, are the bytes of the packets lost on the line before it.
  abbrev pub Reports : Type 0
  Reports =
      (h : List Call) (out : List ℕ) (i k position : ℕ) (rest : List T.Item) → Near (and_then h (takes out)) → Lowest theirs (T.positions (system h)) i
      → ((system h).line i).store ≡ T.marker k position ∷ rest
      → (m : ℕ) × ((taking h out).result.answer ≡ Ok (taken.Missing i m)) × ((taking h out).out ≡ out)
      × (m + reported_in i opened h ≡ total (before theirs i k) ((system h).line i).lost)

  -- Calls h₁ up to some moment, h₂ from there on. In h₁ each line i has yielded a marker, labelled c i, behind which no packet is lost: what is
  -- handed out in h₂ is, in sent order without gaps, a beginning of the packets sent behind those markers and still to come.
  abbrev pub Order : Type 0
  Order =
      (h₁ h₂ : List Call) (c : ℕ → ℕ) → Near (h₁ ++ h₂)
      → ((i : ℕ) → i < p.lines → Yielded (c i) ((system h₁).line i).taken)
      → ((i : ℕ) → i < p.lines → NoneBehind (c i) ((system (h₁ ++ h₂)).line i).lost)
      → Beginning (handed_in (after h₁) h₂) (F.handed_bytes (to_come theirs (T.nth (sent_of (h₁ ++ h₂))) c (system h₁) (length (sent_of (h₁ ++ h₂)))))

  -- With a marker sent after the last packet stored on every line, as many takes with room as items held leave no packet queued.
  abbrev pub Cleared : Type 0
  Cleared =
      (h : List Call) → ((i : ℕ) → i < p.lines → HasMarker (system h).sent ((system h).line i).store)
      → (outs : List (List ℕ)) → length outs ≡ held_below (after h) p.lines → Roomy h outs → Near (h ++ map takes outs)
      → (i : ℕ) → i < p.lines → NoPacket (queue_at (after (h ++ map takes outs)) i)

  -- ---- demand 1, from the opening on

  abbrev pub Valid : Type 0
  Valid = (h : List Call) → (sender_ok (after h).sender ≡ true) × (receiver_ok (after h).receiver ≡ true)

  -- Nothing is refused but for cause (for a packet to be sent: `Rule`): a marker with room is written, a parcel put on a line is stored where its
  -- ring has room, and a take with room for the largest packet is not refused. (Without this an end that refuses everything would pass.)
  pub record OnlyForCause : Type 0 where
    pub ask : (h : List Call) (i : ℕ) (out : List ℕ) → i < p.lines → length (line_marker (after h).sender i) ≤ length out
        → (marker_from (after h).sender i out).answer ≡ Ok (length (line_marker (after h).sender i))
    pub land : (h : List Call) (i : ℕ) (x : Parcel) (rest : List Parcel) → (after h).road i ≡ x ∷ rest
        → item_head + length (bytes_of x) ≤ size - (held_of (after h).receiver.rings i).used → number_of (landing (after h).receiver (after h).store i x).arrived.answer ≡ 0
    pub take : (h : List Call) (out : List ℕ) → Near (and_then h (takes out)) → p.max ≤ length out → (refusal : Refusal)
        → (taking h out).result.answer ≡ Err refusal → ⊥

-- what is promised of both ends, once opened
pub record Promises (p : Plan) (size : ℕ) (store : List ℕ) : Type 0 where
  pub log_shown : LogShown p size store
  pub stage_shown : StageIsShown p size store
  pub lossless_near : LosslessNear p size store
  pub charged_bytes : ChargedBytes p size store
  pub rule : Rule p size store
  pub share : Share p size store
  pub same_rule : SameRule p size store
  pub answers : Answered p size store
  pub in_order : InOrder p size store
  pub all_out : AllOut p size store
  pub reports : Reports p size store
  pub order : Order p size store
  pub cleared : Cleared p size store
  pub valid : Valid p size store
  pub only_for_cause : OnlyForCause p size store
