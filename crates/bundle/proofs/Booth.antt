-- Demand 2 of the booth's end, of every history of calls. Assumes nothing.
use Prim.Native.Nat.{ℕ, suc, ◌+◌, ◌*◌, ◌≤◌, ◌<◌}
use native.Mathlib.Numerals.{add-one}
use native.Mathlib.Omega.{arith}
use mathlib.Core.Bool.{Bool, true, false}
use mathlib.Core.List.{List, [], ◌∷◌, ◌++◌, append-nil}
use mathlib.Core.Path.{◌≡◌, refl, sym, ap, ◌∙◌, subst}
use lib.ListN.{length, length-append, get_or-append}
use lib.Seq.{get_or-append_seam}
use Rattle.numbers.specs.Writing.{written}
use Rattle.plan.specs.declared.Plan.{Plan}
use Rattle.plan.specs.Limits.{most_lines}
use Rattle.plan.specs.Plan.{at, quantum, line_plan, charge_of, plan_ok, trimmed}
use Rattle.plan.proofs.Laws.{trimmed_ok}
use Rattle.plan.proofs.Ranges.{plan_good_lem}
use Rattle.marker.specs.Marker.{marker_of, marker_bytes}
use Rattle.theory.specs.Sending as S
use Rattle.theory.specs.FirstForm.{Figures, first_due, first_after}
use Rattle.theory.specs.System.{nth, sizes}
use Rattle.theory.specs.Demands.{Fit, Lowest, Shows, Promises}
use Rattle.theory.proofs.Proved.{promises}
use Rattle.theory.proofs.Carried.{carried_by_packets}
use Rattle.sending.specs.declared.Sender.{Sender}
use Rattle.sending.specs.Sender.{went_to, opened_sender, open_sender, not_sent, send_of, marker_from, sender_of}
use Rattle.sending.specs.declared.SendResult.{SendResult}
use Rattle.sending.specs.InTheory.{is_packet, in_theory, figures_of}
use Rattle.sending.proofs.Laws.{as_asked}
use Rattle.sending.proofs.Steps.{packet_goes, other_refused}
use Rattle.sending.proofs.InTheory.{sound, packet_fits_lem, On, Agrees, one_send, opens, opened_on, opened_shows}
use Rattle.bundle.specs.Events.{sent_by}
use Rattle.bundle.specs.Log.{mark_of}
use Rattle.bundle.specs.Worlds.{World, Call, sends, asks, arrives, loses, takes, send_seen, seen, booth_after, calls, sent_in}
use Rattle.bundle.specs.Booth.{carried_by, ended_by, and_packet, Keeps, EveryHistory}
use Rattle.bundle.proofs.Histories.{along, calls_and, each_and, ask_sends, arrive_sends, lose_sends, take_sends}
use Rattle.numbers.specs.declared.Refusal.TheVariants as refusal

-- a sender on a plan sends a packet in range, and nothing else
pub sent_now : (p : Plan) (w : World) → On p w.sender → (x : List ℕ) → is_packet p (length x) ≡ true → sent_by (seen w (sends x)) ≡ x ∷ []
sent_now p w on x e =
    ap (λ (r : SendResult). sent_by (send_seen x r.answer)) (packet_goes w.sender on.good (length x) (rw on.plan e))

sent_none : (p : Plan) (w : World) → On p w.sender → (x : List ℕ) → is_packet p (length x) ≡ false → sent_by (seen w (sends x)) ≡ []
sent_none p w on x e =
    ap (λ (r : SendResult). sent_by (send_seen x r.answer)) (other_refused w.sender on.good (length x) (rw on.plan e))

-- ---- one packet behind others

module _ (packets : List (List ℕ)) (x : List ℕ) where
  more_same : (m : ℕ) → m < length packets → nth (and_packet packets x) m ≡ nth packets m
  more_same m l = get_or-append packets (x ∷ []) [] m l

  more_last : nth (and_packet packets x) (length packets) ≡ x
  more_last = get_or-append_seam packets x [] []

  one_more : length (and_packet packets x) ≡ suc (length packets)
  one_more = length-append packets (x ∷ []) ∙ add-one (length packets)

  -- what holds of them all holds of each place
  more_each : (P : List ℕ → Type 0) → ((m : ℕ) → m < length packets → P (nth packets m)) → P x → (m : ℕ) → m < suc (length packets) → P (nth (and_packet packets x) m)
  more_each P all one m l = go (native.Mathlib.Decide.dec_lt m (length packets))
    where
      go : Dec (m < length packets) → P (nth (and_packet packets x) m)
      go (yes d) = rw (more_same m d) (all m d)
      go (no d) = let last : m ≡ length packets = omega arith in rw (last, more_last) one

-- ---- once these packets are sent, all in range, the sender is where the first form is, for any sizes that begin with theirs

abbrev InRange : Plan → List (List ℕ) → Type 0
InRange p packets = (n : ℕ) → n < length packets → is_packet p (length (nth packets n)) ≡ true

module _ (p : Plan) (start : Figures) where
  pub record Ran (packets : List (List ℕ)) (s : Sender) : Type 0 where
    pub in_range_lem : InRange p packets
    pub agrees : (all : ℕ → ℕ) → ((m : ℕ) → m < length packets → all m ≡ sizes packets m) → Agrees p start s all (length packets)

  pub on_plan : {packets : List (List ℕ)} {s : Sender} → Ran packets s → On p s
  on_plan {packets} r = (r.agrees (sizes packets) (λ m l. refl)).0

  -- a packet that is sent
  one_goes : (packets : List (List ℕ)) (s : Sender) (x : List ℕ) → is_packet p (length x) ≡ true → Ran packets s → Ran (and_packet packets x) (send_of s (length x)).next
  one_goes packets s x e r =
      let n = one_more packets x in
      record {
        in_range_lem = λ m l. more_each packets x (λ b. is_packet p (length b) ≡ true) r.in_range_lem e m (rw n at l);
        agrees = λ all is.
            let first : (m : ℕ) → m < length packets → all m ≡ sizes packets m = λ m l. is m (omega (arith, n)) ∙ ap length (more_same packets x m l) in
            let last : all (length packets) ≡ length x = is (length packets) (omega (arith, n)) ∙ ap length (more_last packets x) in
            rw n (one_send p start s all (length packets) (length x) e last (r.agrees all first));
      }

  one_call : (packets : List (List ℕ)) (w : World) (e : Call) → Ran packets w.sender → Ran (packets ++ sent_by (seen w e)) (booth_after w e)
  one_call packets w (sends x) r = go (is_packet p (length x)) refl
    where
      on : On p w.sender
      on = on_plan r

      go : (t : Bool) → is_packet p (length x) ≡ t → Ran (packets ++ sent_by (seen w (sends x))) (send_of w.sender (length x)).next
      go true e = rw (sent_now p w on x e) (one_goes packets w.sender x e r)
      go false e =
          let stays : (send_of w.sender (length x)).next ≡ w.sender =
          ap (λ (r : SendResult). r.next) (other_refused w.sender on.good (length x) (rw on.plan e)) in
          rw (sent_none p w on x e, append-nil, stays) r
  one_call packets w (asks i out) r = rw (ask_sends w i out, append-nil) r
  one_call packets w (arrives i) r = rw (arrive_sends w i, append-nil) r
  one_call packets w (loses i) r = rw (lose_sends w i, append-nil) r
  one_call packets w (takes out) r = rw (take_sends w out, append-nil) r

  all_calls : (w : World) → Ran [] w.sender → (h : List Call) → Ran (sent_in w h) (calls w h).sender
  all_calls w first = along (λ h. Ran (sent_in w h) (calls w h).sender) first (λ h e now. rw (each_and sent_by h e w, calls_and h e w) (one_call (sent_in w h) (calls w h) e now))

-- ---- from the opening

module _ (p : Plan) (good : plan_ok p ≡ true) (sixteen : length p.quanta ≡ most_lines) (w : World) (is_open : w.sender ≡ sender_of (open_sender p)) where
  abbrev kept : Plan
  kept = trimmed p

  abbrev theirs : S.Plan
  theirs = in_theory kept

  kept_ok : plan_ok kept ≡ true
  kept_ok = trimmed_ok p good sixteen

  promised : Promises theirs
  promised = promises theirs (sound kept kept_ok)

  begins : w.sender ≡ opened_sender p
  begins = is_open ∙ opens p good sixteen

  first : On kept w.sender
  first = subst (On kept) (sym begins) (opened_on p good sixteen)

  module _ (h : List Call) where
    abbrev s : Sender
    s = (calls w h).sender

    abbrev packets : List (List ℕ)
    packets = sent_in w h

    abbrev n : ℕ
    n = length packets

    ran : Ran kept (figures_of w.sender) packets s
    unfolding first_after
    ran = all_calls kept (figures_of w.sender) w (record { in_range_lem = λ n l. absurd (omega arith); agrees = λ all is. (first, refl) }) h

    pub on : On kept s
    on = on_plan kept (figures_of w.sender) ran

    opens_so : Shows theirs (figures_of w.sender) (λ i. 0) 0
    opens_so = subst (λ (s : Sender). Shows theirs (figures_of s) (λ i. 0) 0) (sym begins) (opened_shows p good sixteen)

    fit : Fit theirs (sizes packets) n
    fit m l i line = packet_fits_lem kept kept_ok (sizes packets m) (ran.in_range_lem m l) i line

    shows : Shows theirs (figures_of s) (carried_by kept packets) (ended_by kept packets)
    shows = rw (ran.agrees (sizes packets) (λ m l. refl)).1 (promised.forms_agree (figures_of w.sender) opens_so (sizes packets) n fit)

    -- one packet more
    module _ (x : List ℕ) (packet : is_packet kept (length x) ≡ true) where
      abbrev more : ℕ → ℕ
      more = sizes (and_packet packets x)

      same : (m : ℕ) → m < n → more m ≡ sizes packets m
      same m l = ap length (more_same packets x m l)

      last : more n ≡ length x
      last = ap length (more_last packets x)

      more_fit : Fit theirs more (suc n)
      more_fit m l i line = more_each packets x (λ b. theirs.charge i (length b) ≤ theirs.charge i kept.max) (λ k d. fit k d i line) (packet_fits_lem kept kept_ok (length x) packet i line) m l

      due : first_due theirs (figures_of s) (length x) ≡ S.due_after theirs more n
      due =
          let end = first_after theirs (figures_of w.sender) more n in
          ap (λ (f : Figures). first_due theirs f (length x)) (ran.agrees more same).1 ∙ ap (first_due theirs end) (sym last)
          ∙ promised.dues_agree (figures_of w.sender) opens_so more n more_fit

      answers : (send_of s (length x)).answer ≡ went_to s.line (S.due_after theirs more n)
      answers =
          ap (λ (r : SendResult). r.answer) (packet_goes s on.good (length x) (rw on.plan packet))
          ∙ ap (λ (q : Plan). went_to s.line (first_due (in_theory q) (figures_of s) (length x))) on.plan ∙ ap (went_to s.line) due

      -- the packet's own length does not count before it is sent
      before : S.carried theirs more n ≡ carried_by kept packets
      before = carried_by_packets theirs more (sizes packets) n same

      shares : S.ends theirs (carried_by kept packets) (length x) ≡ true → (i : ℕ) → i < kept.lines
          → (ended_by kept (and_packet packets x) * quantum kept i ≤ carried_by kept (and_packet packets x) i)
          × (carried_by kept (and_packet packets x) i < ended_by kept (and_packet packets x) * quantum kept i + charge_of (line_plan kept i) kept.max)
      shares e i l = rw (one_more packets x) (promised.share more n more_fit (rw (before, last) e) i l)

    refuses : (size : ℕ) → is_packet kept size ≡ false → send_of s size ≡ not_sent s refusal.Length
    refuses size e = other_refused s on.good size (rw on.plan e)

    lowest : Lowest theirs (carried_by kept packets) s.line
    lowest = rw shows.line (promised.rule (sizes packets) n)

    marks : (i : ℕ) → i < kept.lines → (out : List ℕ) → marker_from s i out ≡ written (mark_of kept i (carried_by kept packets i)) out
    marks i l out =
        sym (as_asked s i out on.good (rw on.plan l))
        ∙ ap (λ (r : ℕ). written (marker_bytes (marker_of i r (at s.counters i))) out) (shows.round i l)
        ∙ ap (λ (c : ℕ). written (marker_bytes (marker_of i (S.round_at (quantum kept i) (carried_by kept packets i)) c)) out) (shows.counter i l)

    pub sent_in_range : InRange (trimmed p) (sent_in w h)
    sent_in_range = ran.in_range_lem

    pub keeps : Keeps (trimmed p) (sent_in w h) (calls w h).sender
    keeps = record {
      valid = on.good;
      figures = shows;
      rule = lowest;
      goes = answers;
      refuses = refuses;
      share = shares;
      marks = marks;
    }

pub every_history : EveryHistory
every_history p range sixteen w is_open h = keeps p (plan_good_lem p range) sixteen w is_open h
