-- The laws of a valid sender and of its calls, test by test. Assumes nothing.
use mathlib.Core.Path.{◌≡◌, ap}
use Prim.Native.Nat.{ℕ, suc, ◌+◌, ◌-◌, ◌%◌, ◌≤◌, ◌<◌}
use native.Mathlib.Numerals.{add-one}
use native.Mathlib.Omega.{arith}
use mathlib.Core.Bool.{Bool, true, false}
use mathlib.Core.List.{List}
use lib.ListN.{set, get_or}
use lib.Seq.{set-get_or}
use lib.Dec.{ltb}
use borrow.Author.Tests.{ltb-true, lt-ltb, le-ltb, le-leb, lt-leb, eq-eqb, ne_eqb}
use Rattle.std.specs.Array.{AllOfLen}
use Rattle.std.specs.Prelude.{Ok, Err}
use Rattle.numbers.specs.declared.Refusal.TheVariants as refusal
use Rattle.numbers.specs.Refusals.{number_of}
use Rattle.numbers.specs.Checks.{in_range}
use Rattle.numbers.specs.Wrap.{wrap}
use Rattle.numbers.specs.Writing.{written, outcome}
use Rattle.numbers.proofs.Checks.{check_passed, by_checks, both, in_range_lem as is_in_range, from_range}
use Rattle.plan.specs.declared.Plan.{Plan}
use Rattle.plan.specs.Limits.{most_lines}
use Rattle.plan.specs.Plan.{at, quantum, plan_ok, counters_ok, zeros, no_plan}
use Rattle.plan.proofs.Laws.{in_range_lem, counters_in, are_counters, are_zeros}
use Rattle.sending.specs.declared.Sender.{Sender}
use Rattle.sending.specs.declared.SendResult.{SendResult}
use Rattle.sending.specs.Sender.{Sent, went_to, sent_values, sender_ok, closed_sender, opened_sender, open_sender, next_sender, went, charge_now, send_checks, send_of, line_marker, marker_from}

-- ---- a valid state

pub record Valid (s : Sender) : Type 0 where
  pub plan : plan_ok s.plan ≡ true
  pub is_line : s.line < s.plan.lines
  pub countdown_least : 1 ≤ s.countdown
  pub countdown_most : s.countdown ≤ s.plan.interval
  pub counter_least : (i : ℕ) → i < s.plan.lines → 1 ≤ at s.counters i
  pub counter_most : (i : ℕ) → i < s.plan.lines → at s.counters i ≤ quantum s.plan i

pub valid : (s : Sender) → sender_ok s ≡ true → Valid s
unfolding sender_ok
valid s e =
    let a = both _ (counters_ok s.plan s.counters) e in
    let b = both _ (in_range 1 s.countdown s.plan.interval) a.0 in
    let c = both (plan_ok s.plan) (ltb s.line s.plan.lines) b.0 in
    let d = from_range 1 s.countdown s.plan.interval b.1 in
    record {
      plan = c.0;
      is_line = ltb-true s.line s.plan.lines c.1;
      countdown_least = d.0;
      countdown_most = d.1;
      counter_least = λ i h. (counters_in s.plan s.counters a.1 i h).0;
      counter_most = λ i h. (counters_in s.plan s.counters a.1 i h).1;
    }

pub is_valid : (s : Sender) → Valid s → sender_ok s ≡ true
unfolding sender_ok
is_valid s v =
    simp (
      v.plan,
      lt-ltb s.line s.plan.lines v.is_line,
      is_in_range 1 s.countdown s.plan.interval v.countdown_least v.countdown_most,
      are_counters s.plan s.counters (λ i h. (v.counter_least i h, v.counter_most i h)),
    )

-- ---- a send, step by step

-- a state whose figures are these, all else as it was
abbrev moved : Sender → ℕ → ℕ → List ℕ → List ℕ → Sender
moved s line countdown rounds counters = record { plan = s.plan; line = line; countdown = countdown; rounds = rounds; counters = counters }

module _ (s : Sender) (c : ℕ) where
  abbrev answered : Bool → Sender → SendResult
  answered due next = record { answer = went_to s.line due; next = next }

  pub stays : c < at s.counters s.line
      → answered false (moved s s.line s.countdown s.rounds (set s.counters s.line (at s.counters s.line - c))) ≡ went s c
  unfolding next_sender
  stays h = simp (lt-leb (at s.counters s.line) c h, set-get_or s.rounds s.line 0)

  module _ (out : at s.counters s.line ≤ c) where
    abbrev topped : List ℕ
    topped = set s.counters s.line (at s.counters s.line + quantum s.plan s.line - c)

    abbrev raised : List ℕ
    raised = set s.rounds s.line ((at s.rounds s.line + 1) % wrap)

    pub next_line : s.line + 1 < s.plan.lines → answered false (moved s (s.line + 1) s.countdown raised topped) ≡ went s c
    unfolding next_sender
    next_line h =
        let l : suc s.line < s.plan.lines = omega arith in
        simp (le-leb (at s.counters s.line) c out, add-one s.line, lt-ltb (suc s.line) s.plan.lines l, ne_eqb (suc s.line) s.plan.lines (λ e. omega arith))

    module _ (last : suc s.line ≡ s.plan.lines) where
      pub markers_due : s.countdown ≡ 1 → answered true (moved s 0 s.plan.interval raised topped) ≡ went s c
      unfolding next_sender
      markers_due h =
          simp (le-leb (at s.counters s.line) c out, le-ltb (suc s.line) s.plan.lines (omega arith), eq-eqb (suc s.line) s.plan.lines last, eq-eqb s.countdown 1 h)

      pub round_over : (s.countdown ≡ 1 → ⊥) → answered false (moved s 0 (s.countdown - 1) raised topped) ≡ went s c
      unfolding next_sender
      round_over h =
          simp (le-leb (at s.counters s.line) c out, le-ltb (suc s.line) s.plan.lines (omega arith), eq-eqb (suc s.line) s.plan.lines last, ne_eqb s.countdown 1 h)

-- ---- a send that is not refused

pub covered_went : (s : Sender) (length : ℕ) → sender_ok s ≡ true → 1 ≤ length → length ≤ s.plan.max
    → charge_now s length < at s.counters s.line + quantum s.plan s.line → went s (charge_now s length) ≡ send_of s length
unfolding send_of send_checks
covered_went s length good some most h =
    simp (good, le-leb 1 length some, le-leb length s.plan.max most, lt-ltb (charge_now s length) (at s.counters s.line + quantum s.plan s.line) h)

-- it was of a valid state
pub number_valid : (s : Sender) (size : ℕ) → number_of (send_checks s size) ≡ 0 → sender_ok s ≡ true
unfolding send_checks
number_valid s size e = (check_passed (sender_ok s) _ _ e).0

-- ---- a marker from a state, check by check

module _ (s : Sender) (i : ℕ) (out : List ℕ) where
  pub state_not_asked : sender_ok s ≡ false → (Err refusal.State ≡ (marker_from s i out).answer) × (out ≡ (marker_from s i out).out)
  unfolding marker_from outcome
  state_not_asked e = (simp e, simp e)

  module _ (good : sender_ok s ≡ true) where
    pub line_not_asked : s.plan.lines ≤ i → (Err refusal.Line ≡ (marker_from s i out).answer) × (out ≡ (marker_from s i out).out)
    unfolding marker_from outcome
    line_not_asked h = (simp (good, le-ltb i s.plan.lines h), simp (good, le-ltb i s.plan.lines h))

    pub as_asked : i < s.plan.lines → written (line_marker s i) out ≡ marker_from s i out
    unfolding marker_from
    as_asked h = simp (good, lt-ltb i s.plan.lines h)

-- ---- opening

pub is_opened : (p : Plan) → plan_ok p ≡ true → Ok (opened_sender p) ≡ open_sender p
unfolding open_sender
is_opened p e = simp e

made : Plan → ℕ → ℕ → List ℕ → List ℕ → Sender
made plan line countdown rounds counters = record { plan = plan; line = line; countdown = countdown; rounds = rounds; counters = counters }

-- zeros alone are the closed state
pub all_zeros : (s : Sender) → s.plan ≡ no_plan → (s.line ≡ 0) × (s.countdown ≡ 0) → AllOfLen (λ x. x ≡ 0) s.rounds most_lines
    → AllOfLen (λ x. x ≡ 0) s.counters most_lines → s ≡ closed_sender
unfolding made
all_zeros s plan none rounds counters =
    let made_of : made s.plan s.line s.countdown s.rounds s.counters ≡ made no_plan 0 0 zeros zeros =
    rw (plan, none.0, none.1, are_zeros s.rounds rounds, are_zeros s.counters counters) in
    made_of

-- ---- the line that a packet goes to is one of sixteen

pub line_small : (s : Sender) (size : ℕ) (line : ℕ) (due : Bool) → (send_of s size).answer ≡ went_to line due → line < most_lines
unfolding send_of
line_small s size line due =
    by_checks (λ (r : SendResult). r.answer ≡ went_to line due → line < most_lines) (send_checks s size)
    (λ passes e.
    let v = valid s (number_valid s size (ap number_of passes)) in
    let same : s.line ≡ line = line_of e in
    omega (arith, v.is_line, (in_range_lem s.plan v.plan).few_lines))
    (λ refusal fails e. absurd (let z : ◌≡◌ {A = ℕ} 0 1 = cc in omega arith))
  where
    line_of : {i j : ℕ} {d b : Bool} → went_to i d ≡ went_to j b → i ≡ j
    line_of e = ap (λ (a : Sent). get_or (sent_values a) 0 0) e
