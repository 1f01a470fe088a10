-- One take: what it answers, and the state and the output as it leaves them.
use Rattle.std.specs.Prelude.{ℕ, ◌+◌, ◌-◌, ◌%◌, cond, List, [], ◌∷◌, ltb, leb, eqb, length, take, drop, Some, None, Result, Ok, Err}
use Rattle.numbers.specs.declared.Refusal.{Refusal}
use Rattle.numbers.specs.declared.Refusal.TheVariants as refusal
use Rattle.numbers.specs.Refusals.{number}
use Rattle.numbers.specs.Checks.{in_range}
use Rattle.plan.specs.declared.LinePlan.{LinePlan}
use Rattle.plan.specs.Limits.{item_head}
use Rattle.plan.specs.Plan.{line_plan, charge_of, counter_after, round_after}
use Rattle.marker.specs.declared.Marker.{Marker}
use Rattle.marker.specs.Marker.{MarkerRead}
use Rattle.theory.specs.Sending.{best}
use Rattle.report.specs.Report.{Report, marker_on, ahead, report_of}
use Rattle.ring.specs.Ring.{Front, onto, held, front_of}
use Rattle.receiving.specs.declared.Turns.{Turns}
use Rattle.receiving.specs.declared.Receiver.{Receiver}
use Rattle.receiving.specs.declared.Held.{Held}
use Rattle.receiving.specs.declared.Turn.{Turn}
use Rattle.receiving.specs.declared.Line.{Line}
use Rattle.receiving.specs.declared.Step.{Step}
use Rattle.receiving.specs.declared.Taken.{Taken}
use Rattle.receiving.specs.declared.Taken.TheVariants.{Waiting, Data, Missing, Behind}
use Rattle.receiving.specs.declared.TakeResult.{TakeResult}
use Rattle.receiving.specs.Receiver.{line_of, with_held, with_turn, line_at, round_of, current_line, receiver_ok, store_fits, ring_of}

-- what a take answers, or the refusal
abbrev pub TakeAnswer : Type 0
TakeAnswer = Result Taken Refusal

-- the table's number that a take gives, 0 for none; and its line, with the length of data or the bytes missing
abbrev pub taken_number : TakeAnswer → ℕ
taken_number (Ok (Waiting line)) = 0
taken_number (Ok (Data line n)) = 0
taken_number (Ok (Missing line missing)) = 0
taken_number (Ok (Behind line)) = 11
taken_number (Err refusal) = number refusal

abbrev pub taken_values : TakeAnswer → List ℕ
taken_values (Ok (Waiting line)) = line ∷ []
taken_values (Ok (Data line n)) = line ∷ n ∷ []
taken_values (Ok (Missing line missing)) = line ∷ missing ∷ []
taken_values (Ok (Behind line)) = line ∷ 0 ∷ []
taken_values (Err refusal) = []

-- ---- what stands at the head of a line's queue

-- nothing; a packet; a marker of so many bytes; or what cannot be an item
pub data Head : Type 0 where
  nothing : Head
  packet : List ℕ → Head
  marker : ℕ → Marker → Head
  no_item : Head

abbrev pub data_head : LinePlan → List ℕ → Head
data_head p b = cond (in_range 1 (length b) p.largest) (packet b) no_item

abbrev pub marker_head : ℕ → MarkerRead → Head
marker_head n (Ok m) = marker n m
marker_head n (Err refusal) = no_item

-- an item on line i: kind 0 is data, 1 a marker, and no other is one
unfoldable pub item_on : LinePlan → ℕ → ℕ → List ℕ → Head
item_on p i kind b =
    cond (eqb kind 0) (data_head p b)
    (cond (eqb kind 1) (marker_head (length b) (marker_on i p.quantum b))
    no_item)

abbrev pub front_on : LinePlan → ℕ → List ℕ → Front → Head
front_on p i bytes None = no_item
front_on p i bytes (Some (kind, n)) = item_on p i kind (take n (drop item_head bytes))

unfoldable pub head_on : LinePlan → ℕ → Held → List ℕ → Head
head_on p i h ring =
    cond (eqb h.used 0) nothing (front_on p i (held ring h.head h.used) (front_of (held ring h.head h.used)))

-- ---- what a take makes of it: i is the line's number, l its figures, S the bytes of its ring

-- what a take does to its line, with its answer, and the output
pub record Stepped : Type 0 where
  pub step : Step
  pub out : List ℕ

abbrev pub stays : Line → TakeAnswer → List ℕ → Stepped
stays l answer out = record { step = record { answer = answer; line = l }; out = out }

-- an item of n bytes is gone from the ring, and the line's turn is now this
abbrev pub past : ℕ → Line → ℕ → Turn → Line
past size l n turn = record {
  held = record { head = (l.held.head + (item_head + n)) % size; used = l.held.used - (item_head + n) };
  turn = turn;
}

-- data: the counter moves as in sending
abbrev pub charged_turn : LinePlan → Turn → ℕ → Turn
charged_turn p t n = record {
  round = round_after t.round t.counter (charge_of p n);
  counter = counter_after p.quantum t.counter (charge_of p n);
}

-- a marker: it is behind, or what is missing is reported and the line's round and counter become the marker's
abbrev pub told_step : ℕ → ℕ → Line → ℕ → Marker → Report → Step
told_step size i l n m None = record { answer = Ok (Behind i); line = past size l n l.turn }
told_step size i l n m (Some x) = record { answer = Ok (Missing i x); line = past size l n (record { round = m.round; counter = m.counter }) }

-- waiting, 9 (item), 8 for data, outcome
abbrev pub step_of : LinePlan → ℕ → ℕ → Line → List ℕ → Head → Stepped
step_of p size i l out nothing = stays l (Ok (Waiting i)) out
step_of p size i l out no_item = stays l (Err refusal.Store) out
step_of p size i l out (packet b) =
    cond (leb (length b) (length out))
    (record { step = record { answer = Ok (Data i (length b)); line = past size l (length b) (charged_turn p l.turn (length b)) }; out = onto b out })
    (stays l (Err refusal.ShortOutput) out)
step_of p size i l out (marker n m) = record { step = told_step size i l n m (report_of p.quantum l.turn.round l.turn.counter m); out = out }

-- a take of one line, over its ring
abbrev pub line_step : LinePlan → ℕ → Line → List ℕ → List ℕ → Stepped
line_step p i l ring out = step_of p (length ring) i l out (head_on p i l.held ring)

-- ---- the whole state

-- if no line is at the current round, it becomes the nearest one that some line has
unfoldable pub round_now : ℕ → (ℕ → ℕ) → ℕ → ℕ
round_now lines rounds round =
    cond (ltb (line_at lines rounds round) lines) round (rounds (best (λ i. ahead (rounds i) round) lines))

abbrev pub moved_on : ℕ → Turns → Turns
moved_on lines t = record { round = round_now lines (round_of t) t.round; rounds = t.rounds; counters = t.counters }

-- the state with other figures for line i, and the current round moved on
abbrev pub with_line : Receiver → ℕ → Line → Receiver
with_line r i l = record {
  plan = r.plan;
  rings = with_held r.rings i l.held;
  turns = moved_on r.plan.lines (with_turn r.turns i l.turn);
}

-- what a take answers with the next state, and the output
pub record TakeOutcome : Type 0 where
  pub result : TakeResult
  pub out : List ℕ

abbrev pub not_taken : Receiver → Refusal → TakeResult
not_taken r refusal = record { answer = Err refusal; next = r }

abbrev pub refused_take : Receiver → Refusal → List ℕ → TakeOutcome
refused_take r refusal out = record { result = not_taken r refusal; out = out }

abbrev pub taken : Receiver → ℕ → Stepped → TakeOutcome
taken r i s = record { result = record { answer = s.step.answer; next = with_line r i s.step.line }; out = s.out }

-- a take looks only at the current line
abbrev pub take_at : Receiver → ℕ → List ℕ → List ℕ → TakeOutcome
take_at r i store out = taken r i (line_step (line_plan r.plan i) i (line_of r i) (ring_of r.rings.size store i) out)

-- 2, 9 (length), then what the line gives
unfoldable pub take_of : Receiver → List ℕ → List ℕ → TakeOutcome
take_of r store out =
    cond (receiver_ok r) (cond (store_fits r store) (take_at r (current_line r) store out) (refused_take r refusal.Store out)) (refused_take r refusal.State out)
