-- The roads go on showing the system's with every call, whatever the far end does; and the booth's calls and losses leave the far end as it is.
-- Assumes nothing.
use Prim.Native.Nat.{ℕ, ◌≤◌, ◌<◌}
use mathlib.Core.Bool.{Bool}
use mathlib.Core.List.{List, [], ◌∷◌, ◌++◌, map, map-append, cons≢nil}
use mathlib.Core.Path.{◌≡◌, refl, sym, ap, ◌∙◌, subst, fun_ext}
use native.Mathlib.Omega.{arith}
use borrow.Author.Tests.{eq-eqb, ne_eqb}
use lib.ListN.{length, take, drop}
use Rattle.numbers.specs.Writing.{Written}
use Rattle.std.specs.Prelude.{Ok, Err}
use Rattle.plan.specs.declared.Plan.{Plan}
use Rattle.theory.specs.Sending.{choose}
use Rattle.theory.specs.System.{Item, Line, State, put, arrived, arrive_of, dropped, lose_of, fetched, at_line, current, step, run}
use Rattle.theory.specs.System as T
use Rattle.theory.proofs.Lines.{dropped_position, dropped_store, fetched_road}
use Rattle.theory.proofs.Histories.{at_field, at_all}
use Rattle.sending.specs.Sender.{Sent, went_to, send_of, marker_from}
use Rattle.receiving.specs.Stage.{stage}
use Rattle.bundle.specs.Events.{Parcel, Event}
use Rattle.receiving.specs.Taking.{take_of}
use Rattle.bundle.specs.Worlds.{World, Call, sends, asks, arrives, loses, takes, landing, send_seen, ask_seen, arrive_seen, lose_seen, seen, with_road, joins, leaves, roads_after}
use Rattle.bundle.specs.Log.{steps_of, mark_of, parcel_of}
use Rattle.bundle.proofs.Meeting.{theirs, Fits, AllFit, Shows, Far, Roads}
use Rattle.bundle.proofs.Histories.{ask_cases, land_cases, lose_cases, take_cases}
use Rattle.numbers.specs.Refusals.{number_of}

module _ (p : Plan) where
  pub fit_append : (xs ys : List Item) → AllFit p xs → AllFit p ys → AllFit p (xs ++ ys)
  fit_append [] ys a b = b
  fit_append (x ∷ xs) ys a b = (a.0, fit_append xs ys a.1 b)

  -- one line's road changes
  roads_change : (road : ℕ → List Parcel) (lines : ℕ → Line) → Roads p road lines → (i : ℕ) (f : Line → Line) (parcels : List Parcel)
      → parcels ≡ map (parcel_of p i) (f (lines i)).road → AllFit p (f (lines i)).road → (p.lines ≤ i → (f (lines i)).road ≡ [])
      → Roads p (with_road i parcels road) (at_line i f lines)
  roads_change road lines r i f parcels is fits none = record {
    same = at_all (λ j l. with_road i parcels road j ≡ map (parcel_of p j) l.road) i f lines
        (rw (eq-eqb i i refl) is) (λ j apart. rw (ne_eqb i j apart) (r.same j));
    fit = at_all (λ j l. AllFit p l.road) i f lines fits (λ j apart. r.fit j);
    off = at_all (λ j l. p.lines ≤ j → l.road ≡ []) i f lines none (λ j apart. r.off j);
  }

  -- what leaves the roads as they are changes nothing there
  roads_stay : (road : ℕ → List Parcel) (lines : ℕ → Line) → Roads p road lines → (i : ℕ) (f : Line → Line) → ((l : Line) → (f l).road ≡ l.road)
      → Roads p road (at_line i f lines)
  roads_stay road lines r i f stays =
      let same = at_field (λ l. l.road) i f lines stays in
      record {
        same = λ j. r.same j ∙ ap (map (parcel_of p j)) (sym (same j));
        fit = λ j. subst (AllFit p) (sym (same j)) (r.fit j);
        off = λ j h. same j ∙ r.off j h;
      }

-- What the booth's calls must be for the roads to go on showing the system's: a packet that is sent is in range and goes to the choice by what the
-- lines have carried; a marker that is written is on a line, and shows what that line has carried.
abbrev pub Booths : Plan → World → State → Call → Type 0
Booths p w s (sends x) =
    (i : ℕ) (due : Bool) → (send_of w.sender (length x)).answer ≡ went_to i due
    → (i ≡ choose (theirs p) s.carries) × (i < p.lines) × (1 ≤ length x) × (length x ≤ p.max)
Booths p w s (asks i out) =
    (n : ℕ) → (marker_from w.sender i out).answer ≡ Ok n
    → (i < p.lines) × (take n (marker_from w.sender i out).out ≡ mark_of p i (s.carries i))
Booths p w s (arrives i) = Unit {0}
Booths p w s (loses i) = Unit {0}
Booths p w s (takes out) = Unit {0}

module _ (p : Plan) (w : World) (s : State) (r : Roads p w.road s.line) where
  -- the roads once this is seen
  abbrev After : Event → Type 0
  After e = Roads p (roads_after e w.road) (run (theirs p) s (steps_of e)).line

  -- an item joins line i's road
  joined : (i : ℕ) (x : Item) → i < p.lines → Fits p x → Roads p (joins i (parcel_of p i x) w.road) (at_line i (put x) s.line)
  joined i x line fits =
      roads_change p w.road s.line r i (put x) _
      (ap (λ (l : List Parcel). l ++ (parcel_of p i x ∷ [])) (r.same i) ∙ sym (map-append (parcel_of p i) (s.line i).road (x ∷ [])))
      (fit_append p (s.line i).road (x ∷ []) (r.fit i) (fits, tt)) (λ off. absurd (omega arith))

  -- line i's oldest item leaves its road
  left_road : (i : ℕ) (f : Line → Line) (x : Item) (rest : List Item) → (s.line i).road ≡ x ∷ rest → (f (s.line i)).road ≡ rest
      → Roads p (leaves i w.road) (at_line i f s.line)
  left_road i f x rest e is =
      let all : AllFit p (x ∷ rest) = rw e at (r.fit i) in
      let others : drop 1 (w.road i) ≡ map (parcel_of p i) rest = ap (drop 1) (r.same i ∙ ap (map (parcel_of p i)) e) in
      roads_change p w.road s.line r i f _ (others ∙ ap (map (parcel_of p i)) (sym is)) (rw is all.1)
      (λ off. absurd (cons≢nil (sym e ∙ r.off i off)))

  -- a take leaves them
  taken_road : Roads p w.road (step (theirs p) s T.take).line
  taken_road = let c = current (theirs p) s in roads_stay p w.road s.line r c (fetched (theirs p) c) (fetched_road (theirs p) c)

  pub call_roads : (e : Call) → Booths p w s e → After (seen w e)
  call_roads (sends x) goes = go (send_of w.sender (length x)).answer refl
    where
      go : (a : Sent) → (send_of w.sender (length x)).answer ≡ a → After (send_seen x a)
      go (Ok went) e = let g = goes went.line went.due e in rw (← g.0) (joined went.line (T.packet s.sent x) g.1 (g.2, g.3))
      go (Err k) e = r
  call_roads (asks i out) marks = go (marker_from w.sender i out).answer refl
    where
      go : (a : Written) → (marker_from w.sender i out).answer ≡ a → After (ask_seen i (marker_from w.sender i out).out a)
      go (Ok n) e = let g = marks n e in rw g.1 (joined i (T.marker s.sent (s.carries i)) g.0 tt)
      go (Err k) e = r
  call_roads (arrives i) b = subst (λ (road : List Parcel). After (arrive_seen w i road)) (sym (r.same i)) (go (s.line i).road refl)
    where
      go : (road : List Item) → (s.line i).road ≡ road → After (arrive_seen w i (map (parcel_of p i) road))
      go [] e = r
      go (x ∷ rest) e =
          land_cases After i (parcel_of p i x) (number_of (landing w.receiver w.store i (parcel_of p i x)).arrived.answer)
          (left_road i arrived x rest e (ap (λ (road : List Item). (arrive_of road (s.line i)).road) e))
          (λ k. left_road i dropped x rest e (ap (λ (road : List Item). (lose_of road (s.line i)).road) e))
  call_roads (loses i) b = subst (λ (road : List Parcel). After (lose_seen i road)) (sym (r.same i)) (go (s.line i).road refl)
    where
      go : (road : List Item) → (s.line i).road ≡ road → After (lose_seen i (map (parcel_of p i) road))
      go [] e = r
      go (x ∷ rest) e = left_road i dropped x rest e (ap (λ (road : List Item). (lose_of road (s.line i)).road) e)
  call_roads (takes out) b =
      take_cases After _ (take_of w.receiver w.store out).result.answer
      (λ i. taken_road) (λ i b. taken_road) (λ i m. taken_road) (λ i. taken_road) (λ k. r)

-- ---- what leaves positions and queues as they are changes nothing at the far end

module _ (p : Plan) (w : World) (s : State) (far : Far p w.receiver w.store s) where
  still : (i : ℕ) (f : Line → Line) → ((l : Line) → (f l).position ≡ l.position) → ((l : Line) → (f l).store ≡ l.store)
      → Shows p (stage w.receiver w.store) (λ j. (at_line i f s.line j).position) (λ j. (at_line i f s.line j).store)
  still i f place queue =
      let positions = fun_ext (at_field (λ l. l.position) i f s.line place) in
      let stores = fun_ext (at_field (λ l. l.store) i f s.line queue) in
      rw (positions, stores) far

  abbrev Still : Event → Type 0
  Still e = Far p w.receiver w.store (run (theirs p) s (steps_of e))

  pub send_far : (x : List ℕ) → Still (seen w (sends x))
  send_far x = go (send_of w.sender (length x)).answer
    where
      go : (a : Sent) → Still (send_seen x a)
      go (Ok went) = still (choose (theirs p) s.carries) (put (T.packet s.sent x)) (λ l. refl) (λ l. refl)
      go (Err k) = far

  pub ask_far : (i : ℕ) (out : List ℕ) → Still (seen w (asks i out))
  ask_far i out =
      ask_cases Still i _ (marker_from w.sender i out).answer
      (λ b. still i (put (T.marker s.sent (s.carries i))) (λ l. refl) (λ l. refl)) (λ k. far)

  pub lose_far : (i : ℕ) → Still (seen w (loses i))
  lose_far i = lose_cases Still i (w.road i) (λ x. still i dropped dropped_position dropped_store) far
