-- The stage's end of every history of calls: its state is valid, and its queues are what was stored less what was taken. Assumes nothing.
use Prim.Native.Nat.{ℕ, zero, suc, ◌+◌, ◌*◌, ◌≤◌, ◌<◌}
use native.Mathlib.Omega.{arith}
use mathlib.Core.Bool.{Bool, true, false, ◌&&◌, cond}
use mathlib.Core.List.{List, [], ◌∷◌, ◌++◌, append-nil}
use mathlib.Core.Logic.{inl, inr}
use mathlib.Core.Path.{◌≡◌, refl, ap, sym, ◌∙◌, subst}
use lib.Dec.{leb, eqb}
use borrow.Author.Tests.{eqb-true}
use lib.ListN.{length, drop, length-append, length-drop}
use lib.Seq.{drop-append-le, drop-drop}
use Rattle.plan.specs.declared.Plan.{Plan}
use Rattle.plan.specs.declared.LinePlan.{LinePlan}
use Rattle.plan.specs.Plan.{quantum, line_plan, trimmed}
use Rattle.plan.proofs.Laws.{trimmed_quantum}
use Rattle.plan.specs.Limits.{most_lines}
use Rattle.std.specs.Prelude.{Ok, Err, Some, None}
use Rattle.marker.specs.Marker.{marker_of}
use Rattle.report.specs.Report.{Report, marker_on, report_of}
use Rattle.report.proofs.Laws.{on_line, read_on_line}
use Rattle.ring.specs.Ring.{onto}
use Rattle.ring.specs.Queue.{Entry}
use Rattle.ring.proofs.Promises.{read_back}
use Rattle.sending.specs.Sender.{Sent, send_of, marker_from}
use Rattle.receiving.specs.declared.Receiver.{Receiver}
use Rattle.receiving.specs.Taking.{TakeAnswer}
use Rattle.receiving.specs.declared.Taken.TheVariants as taken
use Rattle.receiving.specs.Receiver.{current_line, open_receiver, receiver_of}
use Rattle.receiving.specs.Arriving.{Arrival}
use Rattle.receiving.specs.declared.Line.{Line}
use Rattle.receiving.specs.Taking.{Head, nothing, packet as head_packet, marker as head_marker, no_item, taken_number, marker_head, item_on, stays, past, charged_turn, told_step, step_of, TakeOutcome, take_of}
use Rattle.receiving.specs.Stage.{Stage, stage}
use Rattle.receiving.specs.Stage as stage
use Rattle.receiving.proofs.Laws.{valid}
use Rattle.receiving.proofs.Stages.{Sound, HoldsOn}
use Rattle.receiving.proofs.Taking.{is_data, data_item, marker_item}
use Rattle.receiving.proofs.Heads.{empty_waits, head_taken}
use Rattle.receiving.proofs.Arrivals.{data_in_range, marker_whole}
use Rattle.receiving.proofs.Storing.{Lands, left, kept as Stored-on, landed_holds, landed_sound, landed_plan}
use Rattle.receiving.proofs.Dropping.{taken_holds, taken_sound, taken_plan}
use Rattle.receiving.proofs.Valid.{take_valid, kept_sizes}
use Rattle.receiving.proofs.Opening.{opens_in, plan_opened, is_open, open_sound, open_empty}
use Rattle.bundle.specs.Events.{Parcel, packet, marker, Event, as_entry, stored_by, taken_by, each, sum}
use Rattle.bundle.specs.Events as event
use Rattle.bundle.specs.Worlds.{World, Call, sends, asks, arrives, loses, takes, send_seen, landing, land_seen, arrive_seen, take_seen, seen, landed, stage_after, call, calls, events}
use Rattle.bundle.specs.Words.{and_then}
use Rattle.bundle.specs.Queues.{Good, AllGood, KeepsQueues, EveryHistory}
use Rattle.bundle.proofs.Histories.{along, calls_and, each_and, sum_and, ask_cases, lose_cases}
use Rattle.bundle.proofs.Arrivals.{land_lands, land_valid}
use Rattle.numbers.specs.Refusals.{number_of}
use Rattle.numbers.specs.declared.Refusal.TheVariants as refusal

abbrev here : World → Stage
here w = stage w.receiver w.store

-- what a call does to the stage: it stays sound on its plan, and line i's items after it are those before it and those that it stores, but for
-- as many as it takes
pub record Goes (s t : Stage) (e : Event) : Type 0 where
  pub sound : Sound t
  pub plan : t.receiver.plan ≡ s.receiver.plan
  pub size : t.receiver.rings.size ≡ s.receiver.rings.size
  pub enough : (i : ℕ) → i < s.receiver.plan.lines → (es : List Entry) → HoldsOn i s es → taken_by i e ≤ length (es ++ stored_by i e)
  pub holds : (i : ℕ) → i < s.receiver.plan.lines → (es : List Entry) → HoldsOn i s es → HoldsOn i t (drop (taken_by i e) (es ++ stored_by i e))
  pub good : (i : ℕ) → AllGood s.receiver.plan i (stored_by i e)

-- an event that neither stores nor takes
idle : (s : Stage) → Sound s → (e : Event) → ((i : ℕ) → taken_by i e ≡ 0) → ((i : ℕ) → stored_by i e ≡ []) → Goes s s e
idle s ok e none empty = record {
  sound = ok;
  plan = refl;
  size = refl;
  enough = λ i l es h. omega (arith, none i);
  holds = λ i l es h. rw (none i, empty i, append-nil) h;
  good = λ i. rw (empty i) tt;
}

-- a parcel that is stored may be there
land_good : (r : Receiver) (store : List ℕ) (i : ℕ) (x : Parcel) → number_of (landing r store i x).arrived.answer ≡ 0 → Good r.plan i (as_entry x)
land_good r store i (packet b) e = inl (refl, data_in_range r i b store e)
land_good r store i (marker b) e =
    let w = marker_whole r i b store e in
    let m = w.0 in
    let on = on_line i (quantum r.plan i) b m w.1 in
    inr (refl, (m.round, m.counter, on.0 ∙ ap (λ (line : ℕ). Ok (marker_of line m.round m.counter)) on.3, (on.1, on.2)))

module _ (w : World) (ok : Sound (here w)) where
  -- a parcel that lands
  land_goes : (i : ℕ) (x : Parcel) → let a : Arrival = landing w.receiver w.store i x in Goes (here w) (left a) (land_seen i x (number_of a.arrived.answer))
  land_goes i x = go (eqb (number_of a.arrived.answer) 0) refl
    where
      a : Arrival
      a = landing w.receiver w.store i x

      kind : ℕ
      kind = (as_entry x).kind

      bytes : List ℕ
      bytes = (as_entry x).bytes

      seen_as : Bool → Event
      seen_as t = cond t (event.stored i x) (event.turned_away i x (number_of a.arrived.answer))

      none : (t : Bool) (j : ℕ) → taken_by j (seen_as t) ≡ 0
      none true j = refl
      none false j = refl

      item : (t : Bool) → eqb (number_of a.arrived.answer) 0 ≡ t → (j : ℕ) → Stored-on j i kind bytes a ≡ stored_by j (seen_as t)
      item true q j = rw q (by (eqb i j))
        where
          by : (u : Bool) → cond (u && true) (as_entry x ∷ []) [] ≡ cond u (as_entry x ∷ []) []
          by true = refl
          by false = refl
      item false q j = rw q (by (eqb i j))
        where
          by : (u : Bool) → cond (u && false) (as_entry x ∷ []) [] ≡ []
          by true = refl
          by false = refl

      landed_size : Lands w.receiver i kind bytes w.store a → a.arrived.next.rings.size ≡ w.receiver.rings.size
      landed_size (inl (has, e)) = ap (λ (a : Arrival). a.arrived.next.rings.size) e
      landed_size (inr (some, k, e)) = ap (λ (a : Arrival). a.arrived.next.rings.size) e

      good : (t : Bool) → eqb (number_of a.arrived.answer) 0 ≡ t → (j : ℕ) → AllGood w.receiver.plan j (stored_by j (seen_as t))
      good true q j = by (eqb i j) refl
        where
          by : (u : Bool) → eqb i j ≡ u → AllGood w.receiver.plan j (cond u (as_entry x ∷ []) [])
          by true same = (subst (λ (k : ℕ). Good w.receiver.plan k (as_entry x)) (eqb-true i j same) (land_good w.receiver w.store i x (eqb-true _ 0 q)), tt)
          by false same = tt
      good false q j = tt

      go : (t : Bool) → eqb (number_of a.arrived.answer) 0 ≡ t → Goes (here w) (left a) (seen_as t)
      go t q =
          let lands = land_lands w.receiver w.store i x in
          record {
            sound = landed_sound (here w) ok i kind bytes a lands (land_valid w.receiver w.store i x ok.good);
            plan = landed_plan (here w) ok i kind bytes a lands;
            size = landed_size lands;
            enough = λ j l es h. omega (arith, none t j);
            holds = λ j l es h. rw (none t j, ← item t q j) (landed_holds (here w) ok i kind bytes a lands j l es h);
            good = good t q;
          }

  -- a take, by what it answers
  take_goes : (out : List ℕ) → Goes (here w) (stage_after w (takes out)) (seen w (takes out))
  take_goes out =
      let o = take_of w.receiver w.store out in
      record {
        sound = taken_sound (here w) ok out (take_valid w.receiver w.store out ok.good);
        plan = taken_plan (here w) ok out;
        size = (kept_sizes w.receiver w.store out).1;
        enough = λ i l es h. rw (taken_is o.out o.result.answer i, none_stored o.out o.result.answer i, append-nil) (taken_holds (here w) ok out i es h).enough;
        holds = λ i l es h. rw (taken_is o.out o.result.answer i, none_stored o.out o.result.answer i, append-nil) (taken_holds (here w) ok out i es h).holds;
        good = λ i. rw (none_stored o.out o.result.answer i) tt;
      }
    where
      taken_is : (end : List ℕ) (t : TakeAnswer) (i : ℕ) → taken_by i (take_seen end t) ≡ stage.taken_from i t
      taken_is end (Ok (taken.Waiting j)) i = refl
      taken_is end (Ok (taken.Data j n)) i = refl
      taken_is end (Ok (taken.Missing j m)) i = refl
      taken_is end (Ok (taken.Behind j)) i = refl
      taken_is end (Err k) i = refl

      none_stored : (end : List ℕ) (t : TakeAnswer) (i : ℕ) → stored_by i (take_seen end t) ≡ []
      none_stored end (Ok (taken.Waiting j)) i = refl
      none_stored end (Ok (taken.Data j n)) i = refl
      none_stored end (Ok (taken.Missing j m)) i = refl
      none_stored end (Ok (taken.Behind j)) i = refl
      none_stored end (Err k) i = refl

  goes : (e : Call) → Goes (here w) (stage_after w e) (seen w e)
  goes (sends x) = go (send_of w.sender (length x)).answer
    where
      go : (t : Sent) → Goes (here w) (here w) (send_seen x t)
      go (Ok went) = idle (here w) ok _ (λ j. refl) (λ j. refl)
      go (Err k) = idle (here w) ok _ (λ j. refl) (λ j. refl)
  goes (asks i out) =
      ask_cases (Goes (here w) (here w)) i _ (marker_from w.sender i out).answer
      (λ b. idle (here w) ok (event.marked i b) (λ j. refl) (λ j. refl)) (λ k. idle (here w) ok (event.refused k) (λ j. refl) (λ j. refl))
  goes (arrives i) = go (w.road i)
    where
      go : (road : List Parcel) → Goes (here w) (landed w i road) (arrive_seen w i road)
      go [] = idle (here w) ok event.nothing (λ j. refl) (λ j. refl)
      go (x ∷ rest) = land_goes i x
  goes (loses i) =
      lose_cases (Goes (here w) (here w)) i (w.road i)
      (λ x. idle (here w) ok (event.lost i x) (λ j. refl) (λ j. refl)) (idle (here w) ok event.nothing (λ j. refl) (λ j. refl))
  goes (takes out) = take_goes out

-- ---- any calls

-- taken from a list, and then more with others behind it
module _ {A : Type 0} (n m : ℕ) (xs ys : List A) (enough : n ≤ length xs) where
  drop_again : drop m (drop n xs ++ ys) ≡ drop (n + m) (xs ++ ys)
  drop_again = ap (drop m) (sym (drop-append-le n xs ys enough)) ∙ drop-drop m n (xs ++ ys)

  enough_again : m ≤ length (drop n xs ++ ys) → n + m ≤ length (xs ++ ys)
  enough_again more = simp length-append (omega (arith, enough, simp (length-append, length-drop) at more))

-- items that may be there, and others behind them; and without the first of them
module _ (p : Plan) (i : ℕ) where
  good_append : (xs ys : List Entry) → AllGood p i xs → AllGood p i ys → AllGood p i (xs ++ ys)
  good_append [] ys a b = b
  good_append (x ∷ xs) ys a b = (a.0, good_append xs ys a.1 b)

  good_drop : (n : ℕ) (es : List Entry) → AllGood p i es → AllGood p i (drop n es)
  good_drop zero es a = a
  good_drop (suc n) [] a = tt
  good_drop (suc n) (e ∷ es) a = good_drop n es a.1

-- what is kept from a stage without items to another, by what is seen on the way
pub record Kept (s t : Stage) (es : List Event) : Type 0 where
  pub sound : Sound t
  pub plan : t.receiver.plan ≡ s.receiver.plan
  pub size : t.receiver.rings.size ≡ s.receiver.rings.size
  pub enough : (i : ℕ) → i < s.receiver.plan.lines → sum (taken_by i) es ≤ length (each (stored_by i) es)
  pub holds : (i : ℕ) → i < s.receiver.plan.lines → HoldsOn i t (drop (sum (taken_by i) es) (each (stored_by i) es))
  pub good : (i : ℕ) → AllGood s.receiver.plan i (each (stored_by i) es)

module _ (w : World) where
  abbrev KeptBy : List Call → Type 0
  KeptBy h = Kept (here w) (here (calls w h)) (events w h)

  kept_and : (h : List Call) (e : Call) → KeptBy h → KeptBy (and_then h e)
  kept_and h e k =
      let g : Goes (here (calls w h)) (here (call (calls w h) e)) (seen (calls w h) e) = goes (calls w h) k.sound e in
      record {
        sound = rw (calls_and h e w) g.sound;
        plan = rw (calls_and h e w) (g.plan ∙ k.plan);
        size = rw (calls_and h e w) (g.size ∙ k.size);
        enough = λ i l.
            rw (sum_and (taken_by i) h e w, each_and (stored_by i) h e w)
            (enough_again _ _ _ _ (k.enough i l) (g.enough i (rw k.plan l) _ (k.holds i l)));
        holds = λ i l.
            rw (sum_and (taken_by i) h e w, each_and (stored_by i) h e w, calls_and h e w)
            (subst (HoldsOn i (here (call (calls w h) e))) (drop_again _ _ _ _ (k.enough i l)) (g.holds i (rw k.plan l) _ (k.holds i l)));
        good = λ i.
            rw (each_and (stored_by i) h e w)
            (good_append w.receiver.plan i (each (stored_by i) (events w h)) (stored_by i (seen (calls w h) e)) (k.good i) (subst (λ (p : Plan). AllGood p i (stored_by i (seen (calls w h) e))) k.plan (g.good i)));
      }

  kept : Sound (here w) → ((i : ℕ) → i < w.receiver.plan.lines → HoldsOn i (here w) []) → (h : List Call) → KeptBy h
  kept ok empty = along KeptBy (record { sound = ok; plan = refl; size = refl; enough = λ i l. omega arith; holds = empty; good = λ i. tt }) kept_and

-- ---- a take that finds an item is not refused with 9

not_nine : (p : LinePlan) (size i : ℕ) (l : Line) (out : List ℕ) (h : Head) → (h ≡ no_item → ⊥) → taken_number (step_of p size i l out h).step.answer ≡ 9 → ⊥
not_nine p size i l out nothing item e = omega arith
not_nine p size i l out no_item item e = item refl
not_nine p size i l out (head_packet b) item e = go (leb (length b) (length out)) e
  where
    go : (t : Bool) → taken_number (cond t (record { step = record { answer = Ok (taken.Data i (length b)); line = past size l (length b) (charged_turn p l.turn (length b)) }; out = onto b out }) (stays l (Err refusal.ShortOutput) out)).step.answer ≡ 9 → ⊥
    go true e = omega arith
    go false e = omega arith
not_nine p size i l out (head_marker n m) item e = go (report_of p.quantum l.turn.round l.turn.counter m) e
  where
    go : (t : Report) → taken_number (told_step size i l n m t).answer ≡ 9 → ⊥
    go None e = omega arith
    go (Some x) e = omega arith

-- tells what cannot be an item from the rest
abbrev is_item : Head → ℕ
is_item nothing = 1
is_item no_item = 0
is_item (head_packet b) = 1
is_item (head_marker n m) = 1

good_item : (p : Plan) (i : ℕ) (e : Entry) → Good p i e → item_on (line_plan p i) i e.kind e.bytes ≡ no_item → ⊥
good_item p i e (inl (zero-kind, range)) none =
    let is = is_data (line_plan p i) e.bytes (length e.bytes) refl range.0 range.1 ∙ data_item (line_plan p i) i e.kind e.bytes zero-kind in
    let z : ◌≡◌ {A = ℕ} 1 0 = ap is_item (is ∙ none) in omega arith
good_item p i e (inr (mark, (round, counter, read, range))) none =
    let m = marker_of i round counter in
    let on : marker_on i (quantum p i) e.bytes ≡ Ok m = read_on_line i (quantum p i) e.bytes m read range.0 range.1 refl in
    let is = sym (ap (marker_head (length e.bytes)) on) ∙ marker_item (line_plan p i) i e.kind e.bytes (λ z. omega arith) mark in
    let z : ◌≡◌ {A = ℕ} 1 0 = ap is_item (is ∙ none) in omega arith

module _ (s : Stage) (ok : Sound s) (out : List ℕ) where
  abbrev answer : TakeAnswer
  answer = (take_of s.receiver s.store out).result.answer

  finds_item : (es : List Entry) → HoldsOn (current_line s.receiver) s es → AllGood s.receiver.plan (current_line s.receiver) es → answer ≡ Err refusal.Store → ⊥
  finds_item [] h g e = let z : ◌≡◌ {A = ℕ} 0 9 = ap (λ (t : TakeOutcome). taken_number t.result.answer) (sym (empty_waits s ok out h)) ∙ ap taken_number e in omega arith
  finds_item (x ∷ es) h g e =
      not_nine _ _ _ _ out _ (good_item s.receiver.plan (current_line s.receiver) x g.0)
      (ap (λ (t : TakeOutcome). taken_number t.result.answer) (sym (head_taken s ok out x es h)) ∙ ap taken_number e)

-- ---- from the opening

module _ (p : Plan) (size : ℕ) (sixteen : length p.quanta ≡ most_lines) (opens : (number_of (open_receiver p size)) ≡ 0)
    (w : World) (is_opened : w.receiver ≡ receiver_of (open_receiver p size)) (long : length w.store ≡ p.lines * size) where
  abbrev first : Stage
  first = stage (receiver_of (open_receiver p size)) w.store

  begins : first ≡ here w
  begins = ap (λ (r : Receiver). stage r w.store) (sym is_opened)

  same_lines : p.lines ≡ w.receiver.plan.lines
  same_lines = ap (λ (r : Receiver). r.plan.lines) (sym (is_opened ∙ is_open p size opens))

  is_plan : w.receiver.plan ≡ trimmed p
  is_plan = ap (λ (r : Receiver). r.plan) (is_opened ∙ is_open p size opens)

  -- the quanta of the plan's lines are those of the plan as it is kept
  good_as : (i : ℕ) → i < p.lines → (es : List Entry) → AllGood (trimmed p) i es → AllGood p i es
  good_as i l [] g = tt
  good_as i l (e ∷ es) g = (one g.0, good_as i l es g.1)
    where
      one : Good (trimmed p) i e → Good p i e
      one (inl packet-there) = inl packet-there
      one (inr (mark, (round, counter, read, range))) =
          inr (mark, (round, counter, read, (range.0, rw (← trimmed_quantum p (plan_opened p size opens) sixteen i l) range.1)))

  pub from_opening : (h : List Call) → Kept (here w) (here (calls w h)) (events w h)
  from_opening =
      kept w (subst Sound begins (open_sound p size w.store sixteen opens long))
      (λ i l. subst (λ (s : Stage). HoldsOn i s []) begins (open_empty p size w.store sixteen opens long i (rw same_lines l)))

  pub size_kept : (h : List Call) → (calls w h).receiver.rings.size ≡ size
  size_kept h = (from_opening h).size ∙ ap (λ (r : Receiver). r.rings.size) (is_opened ∙ is_open p size opens)

  pub queues_kept : (h : List Call) → KeepsQueues p w h
  queues_kept h =
      let k = from_opening h in
      let good-here : (i : ℕ) → i < p.lines → AllGood p i (each (stored_by i) (events w h)) = λ i l. good_as i l (each (stored_by i) (events w h)) (subst (λ (q : Plan). AllGood q i (each (stored_by i) (events w h))) is_plan (k.good i)) in
      record {
        valid = k.sound.good;
        queued = λ i l. read_back _ _ _ _ (k.holds i (rw (← same_lines) l));
        good = good-here;
        no_nine = λ out.
            let r = (calls w h).receiver in
            let c = current_line r in
            let line : c < w.receiver.plan.lines = subst (λ (q : Plan). c < q.lines) k.plan (valid r k.sound.good).current in
            finds_item (here (calls w h)) k.sound out _ (k.holds c line)
            (good_drop r.plan c (sum (taken_by c) (events w h)) (each (stored_by c) (events w h)) (subst (λ (q : Plan). AllGood q c (each (stored_by c) (events w h))) (sym k.plan) (k.good c)));
      }

pub every_history : EveryHistory
every_history p size sixteen plan room w is_opened long h = queues_kept p size sixteen (opens_in p size plan room) w is_opened long h
