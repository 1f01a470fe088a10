-- The sender and the theory, step by step: a plan in range is sound, the opening shows that nothing is carried, and a send moves the sender as the
-- first form of sending says. Assumes nothing.
use mathlib.Core.Path.{◌≡◌, refl, sym, ap, ◌∙◌}
use Prim.Native.Nat.{ℕ, suc, ◌≤◌, ◌<◌}
use native.Mathlib.Omega.{arith}
use mathlib.Core.Bool.{true}
use lib.ListN.{length, length-set}
use Rattle.numbers.proofs.Checks.{from_range}
use Rattle.plan.specs.declared.Plan.{Plan}
use Rattle.plan.specs.Limits.{most_lines}
use Rattle.plan.specs.Plan.{line_plan, plan_ok, trimmed}
use Rattle.plan.proofs.Laws.{in_range_lem, line_in_range, charge_some, charge_max, max_charge_quantum, first_ones, ones_length, trimmed_ok}
use Rattle.theory.specs.FirstForm.{Figures, first_send, first_after}
use Rattle.theory.specs.Demands.{Sound, Shows}
use Rattle.theory.proofs.Proved.{promises}
use Rattle.sending.specs.declared.Sender.{Sender}
use Rattle.sending.specs.declared.SendResult.{SendResult}
use Rattle.sending.specs.Sender.{sender_ok, opened_sender, open_sender, next_sender, charge_now, send_of, sender_of}
use Rattle.sending.specs.InTheory.{is_packet, in_theory, figures_of}
use Rattle.sending.proofs.Laws.{Valid, valid, is_valid, is_opened}
use Rattle.sending.proofs.Steps.{stands, next_valid, next_figures, packet_covered, packet_goes}

-- ---- a plan in range is sound, and its packets fit

module _ (p : Plan) (good : plan_ok p ≡ true) where
  pub sound : Sound (in_theory p)
  sound =
      let r = in_range_lem p good in
      record {
        some_line = r.some_lines;
        some_round = r.interval_least;
        some_charge = λ i h. charge_some (line_plan p i) (line_in_range p good i h) p.max (omega (arith, r.max_least)) (omega arith);
        enough = λ i h. max_charge_quantum (line_plan p i) (line_in_range p good i h);
      }

  pub packet_fits_lem : (size : ℕ) → is_packet p size ≡ true → (i : ℕ) → i < p.lines → (in_theory p).charge i size ≤ (in_theory p).charge i p.max
  packet_fits_lem size e i h = let r = from_range 1 size p.max e in charge_max (line_plan p i) (line_in_range p good i h) size r.0 r.1

-- ---- one send

-- what every state from the opening on has: it is valid, on the plan p, and its rounds are sixteen
pub record On (p : Plan) (s : Sender) : Type 0 where
  pub good : sender_ok s ≡ true
  pub plan : s.plan ≡ p
  pub sixteen : length s.rounds ≡ most_lines

pub send_on : (p : Plan) (s : Sender) (size : ℕ) → On p s → is_packet p size ≡ true → On p (send_of s size).next
unfolding next_sender
send_on p s size on packet =
    let v = valid s on.good in
    let is_packet_lem : is_packet s.plan size ≡ true = rw on.plan packet in
    let goes : (send_of s size).next ≡ next_sender s (charge_now s size) = ap (λ (r : SendResult). r.next) (packet_goes s on.good size is_packet_lem) in
    rw goes (record {
      good = is_valid (next_sender s (charge_now s size)) (next_valid s v (charge_now s size) (packet_covered s on.good size is_packet_lem));
      plan = on.plan;
      sixteen = simp length-set on.sixteen;
    })

-- the sender is where the first form is, from a start, after the first n packets
abbrev pub Agrees : Plan → Figures → Sender → (ℕ → ℕ) → ℕ → Type 0
Agrees p start s sizes n = On p s × (figures_of s ≡ first_after (in_theory p) start sizes n)

pub one_send : (p : Plan) (start : Figures) (s : Sender) (sizes : ℕ → ℕ) (n size : ℕ) → is_packet p size ≡ true → sizes n ≡ size
    → Agrees p start s sizes n → Agrees p start (send_of s size).next sizes (suc n)
unfolding first_after
one_send p start s sizes n size packet e a =
    let on = a.0 in
    let v = valid s on.good in
    let is_packet_lem : is_packet s.plan size ≡ true = rw on.plan packet in
    let few = (in_range_lem s.plan v.plan).few_lines in
    let goes : (send_of s size).next ≡ next_sender s (charge_now s size) = ap (λ (r : SendResult). r.next) (packet_goes s on.good size is_packet_lem) in (
      send_on p s size on packet,
      ap figures_of goes
          ∙ next_figures s size (omega (arith, v.is_line, on.sixteen)) (stands s.counters s.line (v.counter_least s.line v.is_line))
          ∙ ap (λ (q : Plan). first_send (in_theory q) (figures_of s) size) on.plan
          ∙ rw e (ap (λ (f : Figures). first_send (in_theory p) f size) a.1),
    )

-- ---- opening

module _ (p : Plan) (good : plan_ok p ≡ true) (sixteen : length p.quanta ≡ most_lines) where
  kept_ok : plan_ok (trimmed p) ≡ true
  kept_ok = trimmed_ok p good sixteen

  few : p.lines ≤ most_lines
  few = (in_range_lem p good).few_lines

  pub opens : sender_of (open_sender p) ≡ opened_sender p
  opens = ap sender_of (sym (is_opened p good))

  opened_valid : Valid (opened_sender p)
  opened_valid =
      let r = in_range_lem (trimmed p) kept_ok in
      record {
        plan = kept_ok;
        is_line = r.some_lines;
        countdown_least = r.interval_least;
        countdown_most = omega arith;
        counter_least = λ i h. omega (arith, r.quantum_least i h, r.max_least);
        counter_most = λ i h. omega arith;
      }

  pub opened_on : On (trimmed p) (opened_sender p)
  opened_on = record { good = is_valid (opened_sender p) opened_valid; plan = refl; sixteen = ones_length p.lines few }

  -- the sender opens as the first form does
  pub opened_shows : Shows (in_theory (trimmed p)) (figures_of (opened_sender p)) (λ i. 0) 0
  opened_shows =
      let o = (promises (in_theory (trimmed p)) (sound (trimmed p) kept_ok)).opens in
      record { line = o.line; countdown = o.countdown; round = λ i h. first_ones p.lines few i h ∙ o.round i h; counter = o.counter }
