-- The tests of a state hold exactly where the plain statements do; and `ahead` and the current line are the plain ones. Assumes nothing.
use Prim.Native.Nat.{ℕ, ◌<◌}
use native.Mathlib.Decide.{dec_lt}
use native.Mathlib.Omega.{arith}
use mathlib.Core.Bool.{true}
use mathlib.Core.Path.{◌≡◌, subst, sym, ◌∙◌}
use mathlib.Core.Logic.{dite}
use lib.Dec.{eqb}
use borrow.Author.Tests.{eq-eqb}
use Rattle.numbers.proofs.Checks.{never}
use Rattle.plan.specs.Plan.{at}
use Rattle.plan.proofs.Ranges.{plan_in, plan_good_lem, store_in, store_good}
use Rattle.report.specs.Report.{ahead}
use Rattle.sending.specs.declared.Sender.{Sender}
use Rattle.sending.specs.Sender.{sender_ok}
use Rattle.sending.proofs.Laws as sending
use Rattle.receiving.specs.declared.Receiver.{Receiver}
use Rattle.receiving.specs.Receiver.{line_at, round_of, current_line, receiver_ok}
use Rattle.receiving.proofs.Laws.{first_is, valid, is_valid, at_round}
use Rattle.receiving.proofs.Valid.{found}
use Rattle.calls.specs.Plain.{Not, SenderIn, Ahead, Current, ReceiverIn}

-- ---- the sender

pub sender_in : (s : Sender) → sender_ok s ≡ true → SenderIn s
sender_in s good =
    let v = sending.valid s good in
    record {
      plan = plan_in s.plan v.plan;
      line = v.is_line;
      countdown = (v.countdown_least, v.countdown_most);
      counters = λ i h. (v.counter_least i h, v.counter_most i h);
    }

pub sender_good : (s : Sender) → SenderIn s → sender_ok s ≡ true
sender_good s v =
    sending.is_valid s (record {
      plan = plan_good_lem s.plan v.plan;
      is_line = v.line;
      countdown_least = v.countdown.0;
      countdown_most = v.countdown.1;
      counter_least = λ i h. (v.counters i h).0;
      counter_most = λ i h. (v.counters i h).1;
    })

-- ---- rounds ahead

pub ahead_is : (round from : ℕ) → Ahead round from (ahead round from)
unfolding ahead
ahead_is round from = (omega arith, omega arith)

pub ahead_only : (round from d : ℕ) → Ahead round from d → d ≡ ahead round from
unfolding ahead
ahead_only round from d h = omega (arith, h.0, h.1)

-- ---- the current line

-- no line before it is at the round
none_before : (lines : ℕ) (rounds : ℕ → ℕ) (round j : ℕ) → j < line_at lines rounds round → Not (rounds j ≡ round)
unfolding line_at
none_before lines rounds round j h e =
    never (sym (eq-eqb (rounds j) round e) ∙ (first_is (λ i. eqb (rounds i) round) lines 0).none j (omega arith) h)

pub current_is : (r : Receiver) → receiver_ok r ≡ true → Current r (current_line r)
current_is r good =
    let lines = r.plan.lines in
    let rounds = round_of r.turns in
    let round = r.turns.round in
    let here = (valid r good).current in
    (here, at_round lines rounds round here, none_before lines rounds round)

-- two lines that both are the lowest at the round are one
pub current_only : (r : Receiver) (i : ℕ) → Current r i → i ≡ current_line r
current_only r i c =
    let lines = r.plan.lines in
    let rounds = round_of r.turns in
    let round = r.turns.round in
    let k = current_line r in
    let here : k < lines = found lines rounds round i c.0 c.1 in
    dite (dec_lt k i)
    (λ h. absurd (c.2 k h (at_round lines rounds round here)))
    (λ h. dite (dec_lt i k) (λ l. absurd (none_before lines rounds round i l c.1)) (λ l. omega arith))

-- ---- the receiver

pub receiver_in : (r : Receiver) → receiver_ok r ≡ true → ReceiverIn r
receiver_in r good =
    let v = valid r good in
    record {
      plan = plan_in r.plan v.plan;
      store = store_in r.plan r.rings.size v.store;
      heads = λ i h. (v.held i h).head_below;
      used = λ i h. (v.held i h).used_most;
      counters = λ i h. ((v.turn i h).counter_least, (v.turn i h).counter_most);
      rounds = λ i h. (ahead (at r.turns.rounds i) r.turns.round, ahead_is (at r.turns.rounds i) r.turns.round, (v.turn i h).near);
      current = (current_line r, current_is r good);
    }

pub receiver_good : (r : Receiver) → ReceiverIn r → receiver_ok r ≡ true
receiver_good r v =
    is_valid r (record {
      plan = plan_good_lem r.plan v.plan;
      store = store_good r.plan r.rings.size v.store;
      held = λ i h. record { head_below = v.heads i h; used_most = v.used i h };
      turn = λ i h.
          let d = v.rounds i h in
          record {
            counter_least = (v.counters i h).0;
            counter_most = (v.counters i h).1;
            near = subst (λ (x : ℕ). x < 2147483648) (ahead_only _ _ d.0 d.1) d.2;
          };
      current = found r.plan.lines (round_of r.turns) r.turns.round v.current.0 v.current.1.0 v.current.1.1;
    })
