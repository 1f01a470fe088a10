-- One send of a valid state: it stays valid, and its figures move as the first form of sending says. Assumes nothing.
use mathlib.Core.Path.{◌≡◌, refl, sym, fun_ext}
use Prim.Native.Nat.{ℕ, suc, ◌+◌, ◌-◌, ◌%◌, ◌≤◌, ◌<◌}
use native.Mathlib.Decide.{dec_lt, ℕ_discrete}
use native.Mathlib.Omega.{arith}
use mathlib.Core.Bool.{Bool, true, false, cond}
use mathlib.Core.List.{List}
use lib.ListN.{length, set, get_or-eq_default}
use lib.Seq.{get_or-set_same, get_or-set_other}
use lib.Dec.{ltb, eqb}
use borrow.Author.Tests.{leb-true, leb-false, ltb-true, eqb-false, eq-eqb, ne_eqb}
use Rattle.numbers.proofs.Checks.{from_range}
use Rattle.numbers.specs.Wrap.{wrap}
use Rattle.plan.specs.Plan.{at, quantum, line_plan}
use Rattle.plan.proofs.Laws.{line_in_range, charge_quantum}
use Rattle.theory.specs.FirstForm.{change, first_send}
use Rattle.sending.specs.declared.Sender.{Sender}
use Rattle.sending.specs.Sender.{sender_ok, runs_out, completes, next_sender, not_sent, went, charge_now, send_checks, send_of}
use Rattle.sending.specs.InTheory.{is_packet, in_theory, figures_of}
use Rattle.sending.proofs.Laws.{Valid, valid, covered_went}
use Rattle.numbers.specs.declared.Refusal.TheVariants as refusal

-- ---- entries

-- an entry above zero stands in the list
pub stands : (l : List ℕ) (i : ℕ) → 1 ≤ at l i → i < length l
stands l i h = go (dec_lt i (length l))
  where
    go : Dec (i < length l) → i < length l
    go (yes d) = d
    go (no d) = absurd (omega (arith, get_or-eq_default l 0 {n = i} (omega arith)))

entry : (l : List ℕ) (i y : ℕ) → i < length l → (j : ℕ) → at (set l i y) j ≡ change (at l) i y j
entry l i y h j = go (ℕ_discrete i j)
  where
    go : Dec (i ≡ j) → at (set l i y) j ≡ cond (eqb i j) y (at l j)
    go (yes d) = rw (eq-eqb i j d, ← d) (get_or-set_same l i y 0 h)
    go (no d) = rw (ne_eqb i j d) (get_or-set_other l i j y 0 (λ e. d (sym e)))

-- ---- valid stays valid

module _ (s : Sender) (v : Valid s) (c : ℕ) (covered : c < at s.counters s.line + quantum s.plan s.line) where
  in_list : s.line < length s.counters
  in_list = stands s.counters s.line (v.counter_least s.line v.is_line)

  next_line : (a b : Bool) → ltb (suc s.line) s.plan.lines ≡ b → cond a (cond b (suc s.line) 0) s.line < s.plan.lines
  next_line false b e = v.is_line
  next_line true true e = ltb-true _ _ e
  next_line true false e = omega (arith, v.is_line)

  abbrev next_countdown : Bool → Bool → ℕ
  next_countdown a b = cond a (cond b s.plan.interval (s.countdown - 1)) s.countdown

  countdown_in : (a b : Bool) → eqb s.countdown 1 ≡ b → (1 ≤ next_countdown a b) × (next_countdown a b ≤ s.plan.interval)
  countdown_in false b e = (v.countdown_least, v.countdown_most)
  countdown_in true true e = (omega (arith, v.countdown_least, v.countdown_most), omega arith)
  countdown_in true false e = (omega (arith, v.countdown_least, eqb-false s.countdown 1 e), omega (arith, v.countdown_most))

  abbrev next_counter : Bool → ℕ
  next_counter a = cond a (at s.counters s.line + quantum s.plan s.line - c) (at s.counters s.line - c)

  counter_in : (a : Bool) → runs_out s c ≡ a → (1 ≤ next_counter a) × (next_counter a ≤ quantum s.plan s.line)
  counter_in true e = (omega arith, omega (arith, leb-true (at s.counters s.line) c e))
  counter_in false e = (omega (arith, leb-false (at s.counters s.line) c e), omega (arith, v.counter_most s.line v.is_line))

  counters_in : (i : ℕ) → i < s.plan.lines
      → (1 ≤ change (at s.counters) s.line (next_counter (runs_out s c)) i) × (change (at s.counters) s.line (next_counter (runs_out s c)) i ≤ quantum s.plan i)
  counters_in i h = go (ℕ_discrete s.line i)
    where
      go : Dec (s.line ≡ i)
          → (1 ≤ change (at s.counters) s.line (next_counter (runs_out s c)) i) × (change (at s.counters) s.line (next_counter (runs_out s c)) i ≤ quantum s.plan i)
      go (yes d) = rw (eq-eqb s.line i d, ← d) (counter_in (runs_out s c) refl)
      go (no d) = rw (ne_eqb s.line i d) (v.counter_least i h, v.counter_most i h)

  pub next_valid : Valid (next_sender s c)
  unfolding next_sender
  next_valid = record {
    plan = v.plan;
    is_line = next_line (runs_out s c) (ltb (suc s.line) s.plan.lines) refl;
    countdown_least = (countdown_in (completes s c) (eqb s.countdown 1) refl).0;
    countdown_most = (countdown_in (completes s c) (eqb s.countdown 1) refl).1;
    counter_least = λ i h. rw (entry s.counters s.line (next_counter (runs_out s c)) in_list i) (counters_in i h).0;
    counter_most = λ i h. rw (entry s.counters s.line (next_counter (runs_out s c)) in_list i) (counters_in i h).1;
  }

-- ---- the first form

pub next_figures : (s : Sender) (size : ℕ) → s.line < length s.rounds → s.line < length s.counters
    → figures_of (next_sender s (charge_now s size)) ≡ first_send (in_theory s.plan) (figures_of s) size
unfolding next_sender first_send
next_figures s size r k =
    let c = charge_now s size in
    let rounds = fun_ext (entry s.rounds s.line (cond (runs_out s c) ((at s.rounds s.line + 1) % wrap) (at s.rounds s.line)) r) in
    let counters =
    fun_ext
    (entry s.counters s.line (cond (runs_out s c) (at s.counters s.line + quantum s.plan s.line - c) (at s.counters s.line - c)) k) in
    λ j. record { line = (next_sender s c).line; countdown = (next_sender s c).countdown; round = rounds j; counter = counters j }

-- ---- sends of a valid state

-- the counter and its quantum cover every packet, so it is sent
pub packet_covered : (s : Sender) → sender_ok s ≡ true → (size : ℕ) → is_packet s.plan size ≡ true
    → charge_now s size < at s.counters s.line + quantum s.plan s.line
packet_covered s good size packet =
    let v = valid s good in
    let r = from_range 1 size s.plan.max packet in
    omega (arith, charge_quantum (line_plan s.plan s.line) (line_in_range s.plan v.plan s.line v.is_line) size r.0 r.1, v.counter_least s.line v.is_line)

pub packet_goes : (s : Sender) → sender_ok s ≡ true → (size : ℕ) → is_packet s.plan size ≡ true → send_of s size ≡ went s (charge_now s size)
packet_goes s good size packet =
    let r = from_range 1 size s.plan.max packet in
    sym (covered_went s size good r.0 r.1 (packet_covered s good size packet))

pub other_refused : (s : Sender) → sender_ok s ≡ true → (size : ℕ) → is_packet s.plan size ≡ false → send_of s size ≡ not_sent s refusal.Length
unfolding send_of send_checks
other_refused s good size e = rw (good, e) refl
