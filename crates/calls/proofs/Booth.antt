-- The booth and both openings: their rows of the table, their outcomes, and what they leave as it was. Assumes nothing.
use Prim.Native.Nat.{ℕ, ◌+◌, ◌-◌, ◌≤◌, ◌<◌}
use native.Mathlib.Decide.{dec_lt}
use native.Mathlib.Omega.{arith}
use mathlib.Core.Bool.{Bool, true, false, ◌&&◌, cond}
use mathlib.Core.List.{List}
use mathlib.Core.Logic.{dite}
use mathlib.Core.Path.{◌≡◌, refl, ap, sym, ◌∙◌}
use lib.ListN.{length, take, replicate, get_or-replicate, length-replicate, get_or-eq_default}
use lib.Seq.{length-take-le, get_or-append-add, get_or-set_other}
use Rattle.numbers.specs.declared.Refusal.TheVariants as refusal
use Rattle.numbers.specs.Refusals.{number_of}
use Rattle.numbers.specs.Checks.{passed, check}
use Rattle.numbers.proofs.Checks.{both, in_range_lem, by_checks}
use Rattle.plan.specs.declared.Plan.{Plan}
use Rattle.plan.specs.Limits.{most_lines}
use Rattle.plan.specs.Plan.{at, quantum, plan_ok, store_ok, line_plan, charge_of, first_entries, trimmed}
use Rattle.plan.specs.Ranges.{From, PlanIn, StoreIn}
use Rattle.plan.proofs.Laws.{first_ones, trimmed_quantum}
use Rattle.plan.proofs.Ranges.{plan_in, plan_good_lem, store_in, store_good}
use Rattle.theory.specs.FirstForm.{first_send, first_due}
use Rattle.sending.specs.declared.Sender.{Sender}
use Rattle.sending.specs.declared.SendResult.{SendResult}
use Rattle.sending.specs.Sender.{SenderOpened, went_to, sender_ok, open_sender, sender_of, next_sender, charge_now, send_checks, send_of, line_marker, marker_from}
use Rattle.sending.specs.InTheory.{in_theory, figures_of}
use Rattle.sending.proofs.Laws as sending
use Rattle.sending.proofs.Steps.{next_figures, packet_goes}
use Rattle.receiving.specs.declared.Receiver.{Receiver}
use Rattle.receiving.specs.Receiver.{ReceiverOpened, open_receiver, receiver_of}
use Rattle.receiving.proofs.Laws as receiving
use Rattle.calls.specs.Plain.{Not, ZeroFrom, SenderArrays, SenderIn}
use Rattle.calls.specs.Table.{given, accepted, short}
use Rattle.calls.specs.Outcomes.{Keeps, Starts, SenderOpens, ReceiverOpens}
use Rattle.calls.specs.Frame.{SenderEntry, sixteen_zeros, zero_plan}
use Rattle.calls.proofs.States.{sender_in, sender_good}
use Rattle.calls.proofs.Rows.{ends, unless, range_row, below_row, room_row, answered}

-- ---- openings: the table and the frame

-- what is one thing where a test passes and another where it fails
tested : {A : Type 0} (P : Bool → A → Type 0) (t : Bool) {good bad : A} → P true good → P false bad → P t (cond t good bad)
tested P true holds fails = holds
tested P false holds fails = fails

-- all zeros, as the frame has them
abbrev zero_sender : Sender
zero_sender = record { plan = zero_plan; line = 0; countdown = 0; rounds = sixteen_zeros; counters = sixteen_zeros }

abbrev zero_receiver : Receiver
zero_receiver = record {
  plan = zero_plan;
  rings = record { size = 0; heads = sixteen_zeros; used = sixteen_zeros };
  turns = record { round = 0; rounds = sixteen_zeros; counters = sixteen_zeros };
}

module _ (p : Plan) where
  sender_number : number_of (open_sender p) ≡ number_of (check (plan_ok p) refusal.Plan passed)
  unfolding open_sender
  sender_number = tested (λ (t : Bool) (o : SenderOpened). number_of o ≡ number_of (check t refusal.Plan passed)) (plan_ok p) refl refl

  pub table_opens_sender : given 1 (Not (PlanIn p)) accepted (number_of (open_sender p))
  table_opens_sender = rw sender_number (unless refusal.Plan (plan_ok p) (plan_in p) (plan_good_lem p) (λ h. ends)).proof

  pub frame_opens_sender : Not (number_of (open_sender p) ≡ 0) → sender_of (open_sender p) ≡ zero_sender
  unfolding open_sender
  frame_opens_sender =
      tested (λ (t : Bool) (o : SenderOpened). Not (number_of o ≡ 0) → sender_of o ≡ zero_sender) (plan_ok p) (λ refused. absurd (refused refl)) (λ refused. refl)

module _ (p : Plan) (size : ℕ) where
  -- one test for both ranges
  abbrev ok : Bool
  ok = plan_ok p && store_ok p size

  both_in : ok ≡ true → PlanIn p × StoreIn p size
  both_in e = let b = both (plan_ok p) (store_ok p size) e in (plan_in p b.0, store_in p size b.1)

  both_good : PlanIn p × StoreIn p size → ok ≡ true
  both_good h = simp (plan_good_lem p h.0, store_good p size h.1)

  receiver_number : number_of (open_receiver p size) ≡ number_of (check ok refusal.Plan passed)
  unfolding open_receiver
  receiver_number = tested (λ (t : Bool) (o : ReceiverOpened). number_of o ≡ number_of (check t refusal.Plan passed)) ok refl refl

  pub table_opens_receiver : given 1 (Not (PlanIn p × StoreIn p size)) accepted (number_of (open_receiver p size))
  table_opens_receiver = rw receiver_number (unless refusal.Plan ok both_in both_good (λ h. ends)).proof

  pub frame_opens_receiver : Not (number_of (open_receiver p size) ≡ 0) → receiver_of (open_receiver p size) ≡ zero_receiver
  unfolding open_receiver
  frame_opens_receiver =
      tested (λ (t : Bool) (o : ReceiverOpened). Not (number_of o ≡ 0) → receiver_of o ≡ zero_receiver) ok (λ refused. absurd (refused refl)) (λ refused. refl)

-- ---- openings: the outcomes

-- zeros are zero at every entry, past their end too
zero_at : (n i : ℕ) → at (replicate n 0) i ≡ 0
zero_at n i =
    dite (dec_lt i n) (get_or-replicate n i 0 0)
    (λ h. get_or-eq_default (replicate n 0) 0 {n = i} (omega (arith, length-replicate {A = ℕ} n 0)))

-- so are the entries behind the first n
zero_from : (n : ℕ) (entries : List ℕ) → n ≤ length entries → ZeroFrom n (first_entries n entries)
zero_from n entries fits i h =
    let front : length (take n entries) ≡ n = length-take-le n entries fits in
    let place : i ≡ length (take n entries) + (i - n) = omega arith in
    ap (at (first_entries n entries)) place ∙ get_or-append-add (take n entries) (replicate (most_lines - n) 0) (i - n) 0 ∙ zero_at (most_lines - n) (i - n)

-- what both openings keep and start with
module _ (p : Plan) (range : PlanIn p) (sixteen : length p.quanta ≡ 16) where
  quanta_kept : (i : ℕ) → i < p.lines → quantum (trimmed p) i ≡ quantum p i
  quanta_kept = trimmed_quantum p (plan_good_lem p range) sixteen

  quanta_zero : ZeroFrom p.lines (trimmed p).quanta
  quanta_zero = zero_from p.lines p.quanta (omega (arith, range.lines))

  keeps : Keeps p (trimmed p)
  keeps = record { lines = refl; max = refl; interval = refl; quanta = quanta_kept; rest_zero = quanta_zero }

  starts : Starts p (first_entries p.lines (replicate most_lines 1)) (trimmed p).quanta
  starts = record {
    round = first_ones p.lines range.lines.1;
    counter = quanta_kept;
    rounds_zero = zero_from p.lines (replicate most_lines 1) range.lines.1;
    counters_zero = quanta_zero;
  }

pub outcome_opens_sender : (p : Plan) → PlanIn p → length p.quanta ≡ 16 → SenderOpens p (sender_of (open_sender p))
outcome_opens_sender p range sixteen =
    rw (← sending.is_opened p (plan_good_lem p range))
    (record { plan = keeps p range sixteen; line = refl; countdown = refl; starts = starts p range sixteen })

pub outcome_opens_receiver : (p : Plan) (size : ℕ) → PlanIn p → StoreIn p size → length p.quanta ≡ 16
    → ReceiverOpens p size (receiver_of (open_receiver p size))
outcome_opens_receiver p size range store sixteen =
    rw (← receiving.is_opened p size (both_good p size (range, store)))
    (record {
      plan = keeps p range sixteen;
      size_kept = refl;
      heads = λ i h. zero_at most_lines i;
      used = λ i h. zero_at most_lines i;
      round = refl;
      starts = starts p range sixteen;
    })

-- ---- sends

module _ (s : Sender) (n : ℕ) where
  -- the answer gives the number that the checks give
  sent_number : number_of (send_of s n).answer ≡ number_of (send_checks s n)
  unfolding send_of
  sent_number =
      by_checks (λ (x : SendResult). number_of x.answer ≡ number_of (send_checks s n)) (send_checks s n)
      (λ e. sym (ap number_of e)) (λ k e. sym (ap number_of e))

  pub table_sends : given 2 (Not (SenderIn s)) (given 4 (Not (From 1 s.plan.max n))
      (given 10 (at s.counters s.line + quantum s.plan s.line ≤ charge_of (line_plan s.plan s.line) n) accepted))
      (number_of (send_of s n).answer)
  unfolding send_checks
  table_sends =
      let covering = at s.counters s.line + quantum s.plan s.line in
      rw sent_number
      (unless refusal.State (sender_ok s) (sender_in s) (sender_good s)
      (λ v. range_row refusal.Length 1 n s.plan.max (λ h. below_row refusal.Counter (charge_now s n) covering (λ c. ends)))).proof

  pub frame_sends_refused : Not (number_of (send_of s n).answer ≡ 0) → (send_of s n).next ≡ s
  unfolding send_of
  frame_sends_refused =
      by_checks (λ (x : SendResult). Not (number_of x.answer ≡ 0) → x.next ≡ s) (send_checks s n)
      (λ none refused. absurd (refused refl)) (λ k some refused. refl)

  pub frame_sends_plan : (send_of s n).next.plan ≡ s.plan
  unfolding send_of next_sender
  frame_sends_plan = by_checks (λ (x : SendResult). x.next.plan ≡ s.plan) (send_checks s n) (λ none. refl) (λ k some. refl)

  -- a send sets only the current line's entries
  pub frame_sends_others : (j : ℕ) → Not (j ≡ s.line) → SenderEntry s (send_of s n).next j
  unfolding send_of next_sender
  frame_sends_others j other =
      by_checks (λ (x : SendResult). SenderEntry s x.next j) (send_checks s n)
      (λ none. record { round = get_or-set_other s.rounds s.line j _ 0 other; counter = get_or-set_other s.counters s.line j _ 0 other })
      (λ k some. record { round = refl; counter = refl })

  -- the current line has an entry in both lists, for the send to set
  pub outcome_sends : SenderArrays s → SenderIn s → From 1 s.plan.max n
      → ((send_of s n).answer ≡ went_to s.line (first_due (in_theory s.plan) (figures_of s) n))
      × (figures_of (send_of s n).next ≡ first_send (in_theory s.plan) (figures_of s) n)
  outcome_sends arrays v packet =
      rw (packet_goes s (sender_good s v) n (in_range_lem 1 n s.plan.max packet.0 packet.1))
      (refl, next_figures s n (omega (arith, v.line, v.plan.lines, arrays.rounds)) (omega (arith, v.line, v.plan.lines, arrays.counters)))

-- ---- a marker from a state

pub table_asks : (s : Sender) (i : ℕ) (out : List ℕ)
    → given 2 (Not (SenderIn s)) (given 3 (s.plan.lines ≤ i) (given 8 (short (line_marker s i) out) accepted))
    (number_of (marker_from s i out).answer)
unfolding marker_from
table_asks s i out =
    answered (line_marker s i) out
    (unless refusal.State (sender_ok s) (sender_in s) (sender_good s) (λ v. below_row refusal.Line i s.plan.lines (λ h. room_row (line_marker s i) out)))
