-- The sender of a history of both ends: demand 2 in the history's own words, and what its answers say. Assumes nothing.
use Prim.Native.Nat.{ℕ, ◌≤◌, ◌<◌}
use native.Mathlib.Decide.{dec_lt}
use native.Mathlib.Omega.{arith}
use mathlib.Core.Bool.{Bool, true, false}
use mathlib.Core.List.{List, [], ◌∷◌, ◌++◌}
use mathlib.Core.Path.{◌≡◌, refl, sym, ap, ◌∙◌}
use lib.ListN.{length, take, get_or}
use lib.Seq.{sets}
use Rattle.numbers.specs.Writing.{Written, length_of, room, Outcome, written as writes}
use Rattle.std.specs.Prelude.{Ok, Err}
use Rattle.numbers.proofs.Checks.{in_range_lem, from_range}
use Rattle.numbers.proofs.Laws.{accepted, written_fits}
use Rattle.plan.specs.declared.Plan.{Plan}
use Rattle.plan.specs.Plan.{plan_ok, trimmed}
use Rattle.plan.proofs.Ranges as range
use Rattle.plan.proofs.Laws.{trimmed_ok, trimmed_quantum}
use Rattle.theory.specs.Sending.{choose, due_after}
use Rattle.theory.specs.Sending as S
use Rattle.theory.specs.System as T
use Rattle.sending.specs.declared.Sender.{Sender}
use Rattle.sending.specs.Sender.{Sent, went_to, sent_values, send_of, line_marker, marker_from}
use Rattle.sending.specs.declared.SendResult.{SendResult}
use Rattle.sending.specs.InTheory.{is_packet}
use Rattle.sending.proofs.Laws.{as_asked, line_not_asked}
use Rattle.sending.proofs.InTheory.{On}
use Rattle.bundle.specs.Worlds.{Call, sends}
use Rattle.bundle.specs.Log.{mark_of}
use Rattle.bundle.specs.Words.{and_then, Opens}
use Rattle.bundle.specs.Booth.{and_packet, Keeps}
use Rattle.bundle.specs.Demands.{Rule, Share, theirs, after, opened, sent_of, carried}
use Rattle.bundle.proofs.Histories.{sent_append}
use Rattle.bundle.proofs.Booth as booth
use Rattle.bundle.proofs.Booth.{sent_now, every_history}
use Rattle.numbers.specs.Refusals.{number_of}
use Rattle.numbers.specs.declared.Refusal.{Refusal}

-- ---- what an answer says

pub went_not_refused : {t : Sent} {i : ℕ} {refusal : Refusal} {due : Bool} → t ≡ Err refusal → t ≡ went_to i due → ⊥
went_not_refused a b = let z : ◌≡◌ {A = ℕ} 0 1 = cc in omega arith

went_there : {t : Sent} {i j : ℕ} {d e : Bool} → t ≡ went_to i d → t ≡ went_to j e → i ≡ j
went_there a b = ap (λ (t : Sent). get_or (sent_values t) 0 0) (sym a ∙ b)

pub written_not_refused : {t : Written} {n : ℕ} {refusal : Refusal} → t ≡ Err refusal → t ≡ Ok n → ⊥
written_not_refused a b = let z : ◌≡◌ {A = ℕ} 0 1 = cc in omega arith

-- what is answered as written stands at the output's front
written_front : (bytes out : List ℕ) (n : ℕ) → (writes bytes out).answer ≡ Ok n → take n (writes bytes out).out ≡ bytes
written_front bytes out n e =
    ap (λ (k : ℕ). take k (writes bytes out).out) (sym (ap length_of e)) ∙ (accepted (room bytes out) bytes out (ap number_of e)).1

module _ (p : Plan) (size : ℕ) (store : List ℕ) (o : Opens p size store) where
  abbrev kept : Plan
  kept = trimmed p

  abbrev plan : S.Plan
  plan = theirs p size store

  abbrev now : List Call → Sender
  now h = (after p size store h).sender

  abbrev packets : List Call → List (List ℕ)
  packets h = sent_of p size store h

  pub plan_good_lem : plan_ok p ≡ true
  plan_good_lem = range.plan_good_lem p o.plan

  pub kept_good : plan_ok (trimmed p) ≡ true
  kept_good = trimmed_ok p plan_good_lem o.sixteen

  on : (h : List Call) → On kept (now h)
  on h = booth.on p plan_good_lem o.sixteen (opened p size store) refl h

  pub keeps : (h : List Call) → Keeps (trimmed p) (sent_of p size store h) (after p size store h).sender
  keeps h = every_history p o.plan o.sixteen (opened p size store) refl h

  -- packets sent are in range
  pub sent_fit : (h : List Call) (n : ℕ) → n < length (sent_of p size store h)
      → (1 ≤ length (T.nth (sent_of p size store h) n)) × (length (T.nth (sent_of p size store h) n) ≤ p.max)
  sent_fit h n l =
      from_range 1 (length (T.nth (packets h) n)) p.max (booth.sent_in_range p plan_good_lem o.sixteen (opened p size store) refl h n l)

  -- a packet in range is one more
  one_more : (h : List Call) (x : List ℕ) → is_packet kept (length x) ≡ true → packets (and_then h (sends x)) ≡ and_packet (packets h) x
  one_more h x e =
      sent_append h (sends x ∷ []) (opened p size store)
      ∙ ap (λ (l : List (List ℕ)). packets h ++ (l ++ [])) (sent_now kept (after p size store h) (on h) x e)

  pub rule : Rule p size store
  rule h x least most =
      let packet : is_packet kept (length x) ≡ true = in_range_lem 1 (length x) p.max least most in (
        (now h).line,
        (keeps h).rule,
        (keeps h).goes x packet ∙ ap (λ (ps : List (List ℕ)). went_to (now h).line (due_after plan (T.sizes ps) (length (packets h)))) (sym (one_more h x packet)),
      )

  pub share : Share p size store
  share h x least most ends i l =
      let packet : is_packet kept (length x) ≡ true = in_range_lem 1 (length x) p.max least most in
      rw (one_more h x packet, ← trimmed_quantum p plan_good_lem o.sixteen i l) ((keeps h).share x packet ends i l)

  in_range_sent : (h : List Call) (n i : ℕ) (due : Bool) → (send_of (now h) n).answer ≡ went_to i due → is_packet kept n ≡ true
  in_range_sent h n i due e = go (is_packet kept n) refl
    where
      go : (t : Bool) → is_packet kept n ≡ t → is_packet kept n ≡ true
      go true q = q
      go false q = absurd (went_not_refused (ap (λ (r : SendResult). r.answer) ((keeps h).refuses n q)) e)

  -- a packet that is sent is in range, and goes to the choice by what the lines have carried
  pub goes : (h : List Call) (x : List ℕ) (i : ℕ) (due : Bool) → (send_of (after p size store h).sender (length x)).answer ≡ went_to i due
      → (i ≡ choose (theirs p size store) (carried p size store h)) × (i < p.lines) × (1 ≤ length x) × (length x ≤ p.max)
  goes h x i due e =
      let packet = in_range_sent h (length x) i due e in
      let fits = from_range 1 (length x) p.max packet in
      let line : i ≡ (now h).line = went_there e ((keeps h).goes x packet) in
      (line ∙ (keeps h).figures.line, rw line (keeps h).rule.is_line, fits.0, fits.1)

  asked_on_line : (h : List Call) (i : ℕ) (out : List ℕ) (n : ℕ) → (marker_from (now h) i out).answer ≡ Ok n → i < p.lines
  asked_on_line h i out n e = go (dec_lt i p.lines)
    where
      go : Dec (i < p.lines) → i < p.lines
      go (yes d) = d
      go (no d) =
          let off : (now h).plan.lines ≤ i = rw (on h).plan (omega arith) in
          absurd (written_not_refused (sym (line_not_asked (now h) i out (keeps h).valid off).0) e)

  -- a marker that is written is on a line, and shows what that line has carried
  pub marks : (h : List Call) (i : ℕ) (out : List ℕ) (n : ℕ) → (marker_from (after p size store h).sender i out).answer ≡ Ok n
      → (i < p.lines) × (take n (marker_from (after p size store h).sender i out).out ≡ mark_of (trimmed p) i (carried p size store h i))
  marks h i out n e =
      let line = asked_on_line h i out n e in
      let shown = (keeps h).marks i line out in
      let front = written_front (mark_of kept i (carried p size store h i)) out n (ap (λ (r : Outcome). r.answer) (sym shown) ∙ e) in
      (line, ap (λ (r : Outcome). take n r.out) shown ∙ front)

  pub marker_written_lem : (h : List Call) (i : ℕ) (out : List ℕ) → i < p.lines → length (line_marker (after p size store h).sender i) ≤ length out
      → (marker_from (after p size store h).sender i out).answer ≡ Ok (length (line_marker (after p size store h).sender i))
  marker_written_lem h i out l room =
      let bytes : List ℕ = line_marker (now h) i in
      ap (λ (r : Outcome). r.answer) (sym (as_asked (now h) i out (keeps h).valid (rw (on h).plan l)))
      ∙ sym (written_fits bytes out (length bytes) refl room (sets out 0 bytes) refl).0
