-- The demands hold of every history of calls. Assumes nothing.
use Prim.Native.Nat.{ℕ, ◌+◌, ◌-◌, ◌≤◌}
use native.Mathlib.Nat.{le_trans}
use native.Mathlib.Omega.{arith}
use mathlib.Core.Bool.{Bool, true, false, cond}
use mathlib.Core.List.{List, [], ◌∷◌, ◌++◌, map}
use mathlib.Core.Path.{◌≡◌, refl, ap, sym, ◌∙◌, subst}
use lib.Dec.{leb}
use lib.ListN.{length, drop}
use borrow.Author.Tests.{le-leb, lt-leb}
use Rattle.plan.specs.declared.Plan.{Plan}
use Rattle.plan.specs.Plan.{charge_of, trimmed}
use Rattle.theory.specs.Sending.{rounds}
use Rattle.theory.specs.Sending as S
use Rattle.theory.specs.Demands.{Lowest}
use Rattle.theory.specs.System.{Item, packet, marker, Line, State, Step, take, fetched, positions, current, step, run, packets, nth, outs}
use Rattle.theory.specs.System as T
use Rattle.theory.specs.Words.{total, before, NoneBehind, to_come}
use Rattle.theory.specs.Words as W
use Rattle.theory.specs.FarEnd.{front, handed_bytes}
use Rattle.theory.specs.FarEnd as F
use Rattle.theory.proofs.Lines.{fetched_lost}
use Rattle.theory.proofs.Choose.{only_one_wins, choose_wins}
use Rattle.theory.proofs.Histories.{at_field, run_append, outs_append, near_split}
use Rattle.theory.proofs.Lossless.{lossless_near}
use Rattle.ring.specs.Queue.{Entry}
use Rattle.receiving.specs.declared.Receiver.{Receiver}
use Rattle.receiving.specs.Taking.{TakeAnswer, take_of}
use Rattle.receiving.specs.declared.Taken.TheVariants.{Waiting, Data, Missing, Behind}
use Rattle.std.specs.Prelude.{Ok, Err}
use Rattle.receiving.specs.Receiver.{open_receiver}
use Rattle.receiving.proofs.Opening.{opens_in, is_open}
use Rattle.bundle.specs.Events.{Parcel, lost_by, stored_by, each}
use Rattle.bundle.specs.Worlds.{World, Call, takes, take_seen, seen, call, events, handed_in}
use Rattle.bundle.specs.Log.{steps_of, log, parcel_of, entry_of}
use Rattle.bundle.specs.Words.{and_then, back, Opens, Names, NoPacket, NoPacketOn}
use Rattle.bundle.specs.Demands.{theirs, opened, after, log_of, system, sent_of, taking, Near, NothingLost, LosslessNear}
use Rattle.bundle.specs.Demands.{LogShown, StageIsShown, ChargedBytes, SameRule, Answered, InOrder, AllOut, Reports, Order, Cleared, Valid, OnlyForCause, Promises}
use Rattle.bundle.proofs.Meeting.{AllFit}
use Rattle.bundle.proofs.Histories.{along, each_and, log_append, handed_append, log_packets}
use Rattle.bundle.proofs.Shown.{put_shown, call_tells}
use Rattle.bundle.proofs.Senders.{kept_good, keeps, rule, share, marker_written_lem}
use Rattle.bundle.proofs.Arrivals.{land_stored}
use Rattle.bundle.proofs.Takes.{says, writes}
use Rattle.bundle.proofs.Runs.{bytes_append, plan_sound, far, system_and, near_and, some, roads, reaches}
use Rattle.bundle.proofs.Queues.{from_opening, size_kept, queues_kept}
use Rattle.bundle.proofs.Drained.{none_queued, answers, leaves, queued, used_is, drained}
use Rattle.numbers.specs.Refusals.{number_of}
use Rattle.numbers.specs.declared.Refusal.TheVariants as refusal
use Rattle.numbers.specs.declared.Refusal.{Refusal}

-- ---- lists

append_cancel : (xs ys zs : List (List ℕ)) → xs ++ ys ≡ xs ++ zs → ys ≡ zs
append_cancel [] ys zs e = e
append_cancel (x ∷ xs) ys zs e = append_cancel xs ys zs (ap (drop 1) e)

-- ---- what a take says

names_says : (out : List ℕ) (i : ℕ) (items : List Item) (x : ℕ) → Names i (says out i items x)
names_says out i [] x = refl
names_says out i (packet k b ∷ rest) x = go (leb (length b) (length out))
  where
    go : (t : Bool) → Names i (cond t (Ok (Data i (length b))) (Err refusal.ShortOutput))
    go true = refl
    go false = refl
names_says out i (marker k m ∷ rest) x = refl

-- one with room for the largest packet is not refused
data_not_refused : {i n : ℕ} {k : Refusal} → ◌≡◌ {A = TakeAnswer} (Ok (Data i n)) (Err k) → ⊥
data_not_refused e = let z : ◌≡◌ {A = ℕ} 0 1 = cc in omega arith

missing_not_refused : {i m : ℕ} {k : Refusal} → ◌≡◌ {A = TakeAnswer} (Ok (Missing i m)) (Err k) → ⊥
missing_not_refused e = let z : ◌≡◌ {A = ℕ} 0 1 = cc in omega arith

waiting_not_refused : {i : ℕ} {k : Refusal} → ◌≡◌ {A = TakeAnswer} (Ok (Waiting i)) (Err k) → ⊥
waiting_not_refused e = let z : ◌≡◌ {A = ℕ} 0 1 = cc in omega arith

room_says : (p : Plan) (out : List ℕ) (i : ℕ) (items : List Item) (x : ℕ) → AllFit p items → p.max ≤ length out → (k : Refusal) → says out i items x ≡ Err k → ⊥
room_says p out i [] x fit room k e = waiting_not_refused e
room_says p out i (packet j b ∷ rest) x fit room k e =
    data_not_refused (ap (λ (t : Bool). cond t (Ok (Data i (length b))) (Err refusal.ShortOutput)) (sym (le-leb (length b) (length out) (le_trans fit.0.1 room))) ∙ e)
room_says p out i (marker j m ∷ rest) x fit room k e = missing_not_refused e

-- ---- takes lose nothing

takes_lose : (p : S.Plan) (outs : List (List ℕ)) (w : World) (s : State) (i : ℕ) → ((run p s (log w (map takes outs))).line i).lost ≡ (s.line i).lost
takes_lose p [] w s i = refl
takes_lose p (out ∷ outs) w s i =
    go (take_of w.receiver w.store out).result.answer
    (takes_lose p outs (call w (takes out)) (step p s take) i
    ∙ at_field (λ (l : Line). l.lost) (current p s) (fetched p (current p s)) s.line (fetched_lost p (current p s)) i)
    (takes_lose p outs (call w (takes out)) s i)
  where
    rest : List Step
    rest = log (call w (takes out)) (map takes outs)

    go : (t : TakeAnswer) → ((run p (step p s take) rest).line i).lost ≡ (s.line i).lost → ((run p s rest).line i).lost ≡ (s.line i).lost
        → ((run p s (steps_of (take_seen (take_of w.receiver w.store out).out t) ++ rest)).line i).lost ≡ (s.line i).lost
    go (Ok (Waiting j)) one none = one
    go (Ok (Data j n)) one none = one
    go (Ok (Missing j m)) one none = one
    go (Ok (Behind j)) one none = one
    go (Err k) one none = none

module _ (p : Plan) (size : ℕ) (store : List ℕ) (o : Opens p size store) where
  abbrev plan : S.Plan
  plan = theirs p size store

  abbrev begin : World
  begin = opened p size store

  abbrev world : List Call → World
  world h = after p size store h

  abbrev state : List Call → State
  state h = system p size store h

  abbrev steps : List Call → List Step
  steps h = log_of p size store h

  -- by what was lost and stored along the calls
  tells : (h : List Call) (i : ℕ) → (each (lost_by i) (events begin h) ≡ map (parcel_of (trimmed p) i) (back ((state h).line i).lost))
      × (each (stored_by i) (events begin h) ≡ map (entry_of (trimmed p) i) (back ((state h).line i).taken ++ ((state h).line i).store))
  tells h i =
      along (λ h. (each (lost_by i) (events begin h) ≡ lost_of h) × (each (stored_by i) (events begin h) ≡ stored_of h)) (refl, refl)
      (λ h e now.
      let t = call_tells (trimmed p) (world h) (state h) (roads p size store o h) e in
      rw (each_and (lost_by i) h e begin, each_and (stored_by i) h e begin, system_and p size store o h e) (
        ap (λ (l : List Parcel). l ++ lost_by i (seen (world h) e)) now.0 ∙ sym (t.lost_more i),
        ap (λ (l : List Entry). l ++ stored_by i (seen (world h) e)) now.1 ∙ sym (t.stored_more i),
      )) h
    where
      lost_of : List Call → List Parcel
      lost_of h = map (parcel_of (trimmed p) i) (back ((state h).line i).lost)

      stored_of : List Call → List Entry
      stored_of h = map (entry_of (trimmed p) i) (back ((state h).line i).taken ++ ((state h).line i).store)

  log_shown : LogShown p size store
  log_shown = record {
    sent = λ h. sym (log_packets h begin);
    road = λ h i. (roads p size store o h).same i;
    put = λ h i. put_shown begin i refl h;
    lost = λ h i. (tells h i).0;
    stored = λ h i. (tells h i).1;
  }

  stage_shown : StageIsShown p size store
  stage_shown h near = record { handed = (reaches p size store o h near).hands; queued = queued p size store o h near; used = used_is p size store o h near }

  charged_bytes : ChargedBytes p size store
  unfolding charge_of
  charged_bytes i n = refl

  -- the line of lowest round is one
  lowest : (h : List Call) → Lowest plan (positions (state h)) (current plan (state h))
  lowest h =
      let w = choose_wins plan (some p size store o) (positions (state h)) in
      record { is_line = w.is_below; lowest = λ j l. (w.beats j l).low; on_tie = λ j l e. (w.beats j l).tie (omega arith) }

  only_lowest : (h : List Call) (i : ℕ) → Lowest plan (positions (state h)) i → current plan (state h) ≡ i
  only_lowest h i is =
      only_one_wins (rounds plan (positions (state h))) p.lines _ i (choose_wins plan (some p size store o) (positions (state h)))
      (record { is_below = is.is_line; beats = λ j l. record { low = is.lowest j l; tie = λ q. is.on_tie j l (omega (arith, is.lowest j l)) } })

  same_rule : SameRule p size store
  same_rule h out near = (
    current plan (state h),
    lowest h,
    subst (Names (current plan (state h))) (sym (answers p size store o h out near)) (names_says out (current plan (state h)) (front plan (state h)).store (front plan (state h)).position),
  )

  -- what a take says, by what is known to stand in front
  module _ (h : List Call) (out : List ℕ) (i : ℕ) (near : Near p size store (and_then h (takes out))) (is : Lowest plan (positions (state h)) i)
      (items : List Item) (e : ((state h).line i).store ≡ items) where
    in_front_lem : (front plan (state h)).store ≡ items
    in_front_lem = ap (λ (j : ℕ). ((state h).line j).store) (only_lowest h i is) ∙ e

    says_so : (taking p size store h out).result.answer ≡ says out i items ((state h).line i).position
    says_so =
        answers p size store o h out near
        ∙ ap (λ (l : List Item). says out (current plan (state h)) l (front plan (state h)).position) in_front_lem
        ∙ ap (λ (j : ℕ). says out j items ((state h).line j).position) (only_lowest h i is)

    leaves_so : (taking p size store h out).out ≡ writes out items
    leaves_so = leaves p size store o h out near ∙ ap (writes out) in_front_lem

  answered : Answered p size store
  answered h out i near is = record {
    empty = λ e. says_so h out i near is [] e;
    packet = λ k x rest e fits.
        let t = le-leb (length x) (length out) fits in
        (says_so h out i near is (packet k x ∷ rest) e ∙ simp t, leaves_so h out i near is (packet k x ∷ rest) e ∙ simp t);
    too_long = λ k x rest e short. says_so h out i near is (packet k x ∷ rest) e ∙ simp (lt-leb (length x) (length out) short);
  }

  calm : LosslessNear p size store
  calm h none = lossless_near plan (plan_sound p size store o) (steps h) none

  in_order : InOrder p size store
  in_order h none =
      let b = (far p size store o).in_order (steps h) none in
      (b.0, ap (λ (l : List (List ℕ)). l ++ b.0) (reaches p size store o h (calm h none)).hands ∙ b.1 ∙ log_packets h begin)

  system_append : (h g : List Call) → state (h ++ g) ≡ run plan (state h) (log (world h) g)
  system_append h g = ap (run plan T.at_opening) (log_append h g begin) ∙ run_append plan (steps h) (log (world h) g) T.at_opening

  all_out : AllOut p size store
  all_out h none empty outs many room =
      let g : List Call = h ++ map takes outs in
      let none-later : NothingLost p size store g =
      λ i line. ap (λ (s : State). (s.line i).lost) (system_append h (map takes outs)) ∙ takes_lose plan outs (world h) (state h) i ∙ none i line in
      let near = calm g none-later in
      (reaches p size store o g near).hands
      ∙ ap (λ (l : List Step). handed_bytes (T.outs plan T.at_opening l)) (drained p size store o h outs many room near)
      ∙ (far p size store o).all_out (steps h) none (λ i line. no_packet i ((state h).line i).road (subst NoPacketOn ((roads p size store o h).same i) (empty i line)))
      ∙ log_packets h begin
    where
      no_packet : (i : ℕ) (items : List Item) → NoPacketOn (map (parcel_of (trimmed p) i) items) → W.NoPacketIn items
      no_packet i [] none = tt
      no_packet i (packet k x ∷ rest) none = absurd none
      no_packet i (marker k m ∷ rest) none = no_packet i rest none

  reports : Reports p size store
  reports h out i k position rest near is e =
      let q = (far p size store o).missing (steps h) k position rest (in_front_lem h out i near is _ e) in
      let told = (reaches p size store o h (near_and p size store o h (takes out) near).0).reports i in (
        position - ((state h).line i).position,
        says_so h out i near is _ e,
        leaves_so h out i near is _ e,
        ap (λ (n : ℕ). (position - ((state h).line i).position) + n) told
            ∙ subst (λ (j : ℕ). (position - ((state h).line j).position) + ((state h).line j).reported ≡ total (before plan j k) ((state h).line j).lost) (only_lowest h i is) q.1,
      )

  -- what the calls behind h₁ hand out
  handed_since : (h₁ h₂ : List Call) → Near p size store (h₁ ++ h₂) → handed_in (world h₁) h₂ ≡ handed_bytes (T.outs plan (state h₁) (log (world h₁) h₂))
  handed_since h₁ h₂ near =
      let l₁ = steps h₁ in
      let l₂ = log (world h₁) h₂ in
      let first = (near_split plan l₁ l₂ T.at_opening (subst (F.Near plan T.at_opening) (log_append h₁ h₂ begin) near)).0 in
      append_cancel (handed_in begin h₁) (handed_in (world h₁) h₂) (handed_bytes (T.outs plan (state h₁) l₂))
      (sym (handed_append h₁ h₂ begin) ∙ (reaches p size store o (h₁ ++ h₂) near).hands
      ∙ ap (λ (l : List Step). handed_bytes (T.outs plan T.at_opening l)) (log_append h₁ h₂ begin)
      ∙ ap handed_bytes (outs_append plan l₁ l₂ T.at_opening)
      ∙ bytes_append (T.outs plan T.at_opening l₁) (T.outs plan (state h₁) l₂)
      ∙ ap (λ (l : List (List ℕ)). l ++ handed_bytes (T.outs plan (state h₁) l₂)) (sym (reaches p size store o h₁ first).hands))

  order : Order p size store
  order h₁ h₂ c near yields safe =
      let l₁ = steps h₁ in
      let l₂ = log (world h₁) h₂ in
      let whole : steps (h₁ ++ h₂) ≡ l₁ ++ l₂ = log_append h₁ h₂ begin in
      let sent : packets (l₁ ++ l₂) ≡ sent_of p size store (h₁ ++ h₂) = ap packets (sym whole) ∙ log_packets (h₁ ++ h₂) begin in
      let b = (far p size store o).order l₁ l₂ c yields (λ i line. subst (λ (l : List Step). NoneBehind (c i) ((F.after plan l).line i).lost) whole (safe i line)) in (
        handed_bytes b.0,
        ap (λ (l : List (List ℕ)). l ++ handed_bytes b.0) (handed_since h₁ h₂ near) ∙ sym (bytes_append (T.outs plan (state h₁) l₂) b.0) ∙ ap handed_bytes b.1
            ∙ ap (λ (ps : List (List ℕ)). handed_bytes (to_come plan (nth ps) c (state h₁) (length ps))) sent,
      )

  cleared : Cleared p size store
  cleared h marks outs many room near i line =
      let g : List Call = h ++ map takes outs in
      subst NoPacket (sym (queued p size store o g near i line))
      (none_queued (trimmed p) i ((state g).line i).store
      (subst (λ (l : List Step). W.NoPacketIn ((F.after plan l).line i).store) (sym (drained p size store o h outs many room near)) ((far p size store o).cleared (steps h) marks i line)))

  opens : (number_of (open_receiver p size)) ≡ 0
  opens = opens_in p size o.plan o.room

  valid : Valid p size store
  valid h = ((keeps p size store o h).valid, (queues_kept p size o.sixteen opens begin refl o.long h).valid)

  only_for_cause : OnlyForCause p size store
  only_for_cause = record {
    ask = marker_written_lem p size store o;
    land = λ h i x rest e room.
        let k = from_opening p size o.sixteen opens begin refl o.long h in
        land_stored (trimmed p) (world h) (state h) (roads p size store o h) (kept_good p size store o) k.sound
        (k.plan ∙ ap (λ (r : Receiver). r.plan) (is_open p size opens)) i x rest e
        (rw (size_kept p size o.sixteen opens begin refl o.long h) room);
    take = λ h out near room k e.
        let n = (near_and p size store o h (takes out) near).0 in
        room_says (trimmed p) out _ (front plan (state h)).store _
        ((reaches p size store o h n).far_end.fit (current plan (state h)) (choose_wins plan (some p size store o) (positions (state h))).is_below) room k
        (sym (answers p size store o h out near) ∙ e);
  }

  pub promises : Promises p size store
  promises = record {
    log_shown = log_shown;
    stage_shown = stage_shown;
    lossless_near = calm;
    charged_bytes = charged_bytes;
    rule = rule p size store o;
    share = share p size store o;
    same_rule = same_rule;
    answers = answered;
    in_order = in_order;
    all_out = all_out;
    reports = reports;
    order = order;
    cleared = cleared;
    valid = valid;
    only_for_cause = only_for_cause;
  }
