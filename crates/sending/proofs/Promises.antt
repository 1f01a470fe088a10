-- What the sender promises of one call: valid stays valid; and the session on paper, computed. (Of every history of calls: `bundle`.) Assumes nothing.
use mathlib.Core.Path.{◌≡◌, refl, ap}
use Prim.Native.Nat.{ℕ, ◌+◌, ◌<◌}
use mathlib.Core.Bool.{Bool, true}
use mathlib.Core.List.{List, [], ◌∷◌}
use lib.ListN.{length, replicate}
use native.Mathlib.Omega.{arith}
use lib.Dec.{ltb}
use borrow.Author.Tests.{ltb-true}
use Rattle.numbers.specs.Checks.{in_range, all_below}
use Rattle.numbers.specs.Coding.{coded, row_bytes}
use Rattle.numbers.proofs.Checks.{check_passed, by_checks}
use Rattle.plan.specs.declared.Plan.{Plan}
use Rattle.plan.specs.Limits.{most_lines}
use Rattle.plan.specs.Plan.{at, quantum, plan_ok, counters_ok, charge_of}
use Rattle.plan.proofs.Promises.{session}
use Rattle.sending.specs.declared.Sender.{Sender}
use Rattle.std.specs.Prelude.{Err}
use Rattle.numbers.specs.declared.Refusal.{Refusal}
use Rattle.numbers.specs.Refusals.{number_of}
use Rattle.sending.specs.declared.SendResult.{SendResult}
use Rattle.sending.specs.Sender.{went_to, sent_values, sender_of, sender_ok, open_sender, next_sender, charge_now, send_checks, send_of, line_marker}
use Rattle.sending.proofs.Laws.{valid, is_valid, line_small}
use Rattle.sending.proofs.Steps.{next_valid}

-- Demand 1: a send of any state, reached or not, leaves a valid state valid.
pub stays_valid : (s : Sender) (size : ℕ) → sender_ok s ≡ true → sender_ok (send_of s size).next ≡ true
unfolding send_of send_checks
stays_valid s size good =
    by_checks (λ (r : SendResult). sender_ok r.next ≡ true) (send_checks s size)
    (λ passes.
    let ranged = (check_passed (sender_ok s) _ _ (ap number_of passes)).1 in
    let covered = (check_passed (in_range 1 size s.plan.max) _ _ ranged).1 in
    let c = (check_passed (ltb (charge_now s size) (at s.counters s.line + quantum s.plan s.line)) _ _ covered).0 in
    is_valid (next_sender s (charge_now s size)) (next_valid s (valid s good) (charge_now s size) (ltb-true _ _ c)))
    (λ refusal fails. good)

-- A refused send hands back the state; one that went, went on a line.
module _ (s : Sender) (size : ℕ) where
  pub refused_stays : (refusal : Refusal) → (send_of s size).answer ≡ Err refusal → (send_of s size).next ≡ s
  unfolding send_of
  refused_stays refusal =
      by_checks (λ (r : SendResult). r.answer ≡ Err refusal → r.next ≡ s) (send_checks s size)
      (λ passes e. absurd (let z : ◌≡◌ {A = ℕ} 0 1 = cc in omega arith))
      (λ told fails e. refl)

  pub sent_on_line : (line : ℕ) (due : Bool) → (send_of s size).answer ≡ went_to line due → line < 16
  sent_on_line = line_small s size

-- ---- examples, computed

-- the values of the answers to some sends, and the state after them
abbrev answers : Sender → List ℕ → List (List ℕ)
answers s [] = []
answers s (size ∷ sizes) = sent_values (send_of s size).answer ∷ answers (send_of s size).next sizes

abbrev sends : Sender → List ℕ → Sender
sends s [] = s
sends s (size ∷ sizes) = sends (send_of s size).next sizes

-- the eight choices: each line, and whether markers are due
pub choices :
    answers (sender_of (open_sender session)) (400 ∷ 500 ∷ 300 ∷ 450 ∷ 200 ∷ 500 ∷ 500 ∷ 100 ∷ [])
    ≡ (0 ∷ 0 ∷ []) ∷ (0 ∷ 0 ∷ []) ∷ (0 ∷ 0 ∷ []) ∷ (1 ∷ 0 ∷ []) ∷ (1 ∷ 1 ∷ []) ∷ (0 ∷ 0 ∷ []) ∷ (0 ∷ 0 ∷ []) ∷ (1 ∷ 0 ∷ []) ∷ []
unfolding open_sender send_of send_checks sender_ok plan_ok counters_ok all_below next_sender charge_of
choices = refl

-- the markers after packet 5
abbrev after_five : Sender
after_five = sends (sender_of (open_sender session)) (400 ∷ 500 ∷ 300 ∷ 450 ∷ 200 ∷ [])

pub markers : (line_marker after_five 0 ≡ 0x00 ∷ 0x02 ∷ 0xA0 ∷ 0x06 ∷ []) × (line_marker after_five 1 ≡ 0x01 ∷ 0x02 ∷ 0xDE ∷ 0x02 ∷ [])
unfolding open_sender send_of send_checks sender_ok plan_ok counters_ok all_below next_sender charge_of row_bytes coded
markers = (refl, refl)

-- counter 500, length 500, q 500: moves on, counter 500; length 499: stays, counter 1
abbrev single : Plan
single = record { lines = 2; max = 500; interval = 1; quanta = 500 ∷ 500 ∷ replicate 14 0 }

abbrev sent_first : ℕ → List ℕ
sent_first size =
    let s : Sender = (send_of (sender_of (open_sender single)) size).next in
    s.line ∷ at s.counters 0 ∷ []

pub topped_up : (sent_first 500 ≡ 1 ∷ 500 ∷ []) × (sent_first 499 ≡ 0 ∷ 1 ∷ [])
unfolding open_sender send_of send_checks sender_ok plan_ok counters_ok all_below next_sender charge_of
topped_up = (refl, refl)

-- entries behind a plan's lines are zero once it is opened
abbrev untidy : Plan
untidy = record { lines = 2; max = 500; interval = 1; quanta = 500 ∷ 500 ∷ replicate 14 7 }

pub behind_the_lines :
    (sender_of (open_sender untidy))
    ≡ record { plan = single; line = 0; countdown = 1; rounds = 1 ∷ 1 ∷ replicate 14 0; counters = 500 ∷ 500 ∷ replicate 14 0 }
unfolding open_sender plan_ok all_below
behind_the_lines = refl

-- a plan that opens is there
pub premises : (plan_ok session ≡ true) × (length session.quanta ≡ most_lines)
unfolding plan_ok all_below
premises = (refl, refl)
