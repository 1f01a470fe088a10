-- What a valid state, and a packet that passes its checks, give the steps of a send. Assumes nothing.
use Rattle.std.proofs.Common.{◌≡◌, ℕ, ◌+◌, ◌<◌, ◌≤◌, true, Ok, Err, arith, refl, ltb, ltb-true}
use Rattle.numbers.specs.declared.Refusal.{Refusal}
use Rattle.numbers.specs.declared.Refusal.TheVariants as refusal
use Rattle.numbers.specs.Checks.{Checked, passed, check, settled, in_range}
use Rattle.numbers.proofs.Checks.{held}
use Rattle.plan.specs.Limits.{most_lines, most_quantum}
use Rattle.plan.specs.Plan.{at, quantum}
use Rattle.plan.proofs.Laws.{in_range_lem}
use Rattle.sending.specs.declared.Sender.{Sender}
use Rattle.sending.specs.Sender.{sender_ok, send_checks, send_of, went, not_sent, charge_now}
use Rattle.sending.proofs.Laws.{valid}
use Rattle.sender.specs.Ready.{charged, Ready}

-- a valid state's figures
pub in_reach : (s : Sender) → sender_ok s ≡ true
    → (sender_ok s ≡ true) × (s.line < s.plan.lines) × (s.plan.lines ≤ most_lines) × (1 ≤ s.countdown) × (at s.counters s.line ≤ quantum s.plan s.line) × (quantum s.plan s.line ≤ most_quantum)
in_reach s good =
    let v = valid s good in
    let p = in_range_lem s.plan v.plan in
    (good, v.is_line, p.few_lines, v.countdown_least, v.counter_most s.line v.is_line, p.quantum_most s.line v.is_line)

-- so it is ready for every charge that its line's counter and quantum cover
pub ready_for : (s : Sender) → sender_ok s ≡ true → (c : ℕ) → c < at s.counters s.line + quantum s.plan s.line → Ready s c
ready_for s good c h = let r = in_reach s good in (r.1, r.2, r.3, r.4, r.5, h)

module _ (s : Sender) (length : ℕ) where
  -- the charge of a packet that passes its checks
  pub passes : {charge : ℕ} → charged s length ≡ Ok charge → (send_checks s length ≡ passed) × (charge_now s length ≡ charge)
  passes {charge} = go (send_checks s length)
    where
      go : (row : Checked) → settled row (Ok (charge_now s length)) Err ≡ Ok charge → (row ≡ passed) × (charge_now s length ≡ charge)
      go (Ok u) e = (refl, cc)
      go (Err refusal) e = absurd (let z : ◌≡◌ {A = ℕ} 0 1 = cc in omega arith)

  pub ready : {charge : ℕ} → charged s length ≡ Ok charge → Ready s charge
  unfolding send_checks
  ready {charge} e =
      let p = passes e in
      let covered = ltb (charge_now s length) (at s.counters s.line + quantum s.plan s.line) in
      let last = check covered refusal.Counter passed in
      let sized = in_range 1 length s.plan.max in
      let first = held (sender_ok s) refusal.State (check sized refusal.Length last) p.0 in
      let second = held covered refusal.Counter passed (held sized refusal.Length last first.1).1 in
      let r = in_reach s first.0 in
      (r.1, r.2, r.3, r.4, r.5, omega (arith, ltb-true (charge_now s length) (at s.counters s.line + quantum s.plan s.line) second.0, p.1))

  pub goes : {charge : ℕ} → charged s length ≡ Ok charge → went s charge ≡ send_of s length
  unfolding send_of
  goes e = let p = passes e in rw (p.0, p.1) refl

  pub refused : {refusal : Refusal} → charged s length ≡ Err refusal → not_sent s refusal ≡ send_of s length
  unfolding send_of
  refused {refusal} = go (send_checks s length)
    where
      go : (row : Checked) → settled row (Ok (charge_now s length)) Err ≡ Err refusal → not_sent s refusal ≡ settled row (went s (charge_now s length)) (not_sent s)
      go (Ok u) e = absurd (let z : ◌≡◌ {A = ℕ} 0 1 = cc in omega arith)
      go (Err k) e = let same : k ≡ refusal = cc in rw same refl
