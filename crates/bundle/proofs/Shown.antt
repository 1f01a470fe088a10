-- What was put on each line has left it or is under way, and what the log has lost, taken and queued is what was lost and stored. Assumes nothing.
use Prim.Native.Nat.{ℕ}
use mathlib.Core.Bool.{Bool, true, false, cond}
use mathlib.Core.List.{List, [], ◌∷◌, ◌++◌, map, map-append, append-nil, append_assoc}
use mathlib.Core.Path.{◌≡◌, refl, sym, ap, ◌∙◌, subst}
use lib.Dec.{eqb}
use lib.ListN.{length, drop}
use borrow.Author.Tests.{eq-eqb, ne_eqb, eqb-true}
use Rattle.plan.specs.declared.Plan.{Plan}
use Rattle.theory.specs.Sending.{choose}
use Rattle.theory.specs.System.{Item, Line, State, put, arrived, arrive_of, dropped, lose_of, line_taken, fetched, at_line, current, step, run}
use Rattle.theory.specs.System as T
use Rattle.theory.proofs.Histories.{at_all}
use Rattle.ring.specs.Queue.{Entry}
use Rattle.sending.specs.Sender.{Sent, send_of, marker_from}
use Rattle.std.specs.Prelude.{Ok, Err}
use Rattle.receiving.specs.Taking.{take_of}
use Rattle.bundle.specs.Events.{Parcel, packet, marker, Event, stored, nothing, put_by, left_by, lost_by, stored_by, each}
use Rattle.bundle.specs.Worlds.{World, Call, sends, asks, arrives, loses, takes, landing, send_seen, arrive_seen, lose_seen, seen, with_road, roads_after, call, calls, events}
use Rattle.bundle.specs.Log.{steps_of, parcel_of, entry_of}
use Rattle.bundle.specs.Words.{back}
use Rattle.bundle.proofs.Meeting.{theirs, Roads}
use Rattle.bundle.proofs.Histories.{along, calls_and, each_and, ask_cases, land_cases, take_cases}
use Rattle.numbers.specs.Refusals.{number_of}

-- ---- what is put on a line, and what leaves it

module _ (road : ℕ → List Parcel) (i : ℕ) where
  -- what is under way on line i, and what is put there, has left it or is under way
  abbrev Moves : Event → Type 0
  Moves e = road i ++ put_by i e ≡ left_by i e ++ roads_after e road i

  joining : (j : ℕ) (x : Parcel) → road i ++ cond (eqb j i) (x ∷ []) [] ≡ with_road j (road j ++ (x ∷ [])) road i
  joining j x = go (eqb j i) refl
    where
      go : (t : Bool) → eqb j i ≡ t → road i ++ cond t (x ∷ []) [] ≡ cond t (road j ++ (x ∷ [])) (road i)
      go true q = ap (λ (k : ℕ). road k ++ (x ∷ [])) (sym (eqb-true j i q))
      go false q = append-nil (road i)

  leaving : (j : ℕ) (x : Parcel) (rest : List Parcel) → road j ≡ x ∷ rest → road i ++ [] ≡ cond (eqb j i) (x ∷ []) [] ++ with_road j (drop 1 (road j)) road i
  leaving j x rest e = append-nil (road i) ∙ go (eqb j i) refl
    where
      go : (t : Bool) → eqb j i ≡ t → road i ≡ cond t (x ∷ []) [] ++ cond t (drop 1 (road j)) (road i)
      go true q = ap road (sym (eqb-true j i q)) ∙ e ∙ ap (λ (l : List Parcel). x ∷ drop 1 l) (sym e)
      go false q = refl

put_call : (w : World) (i : ℕ) (c : Call) → Moves w.road i (seen w c)
put_call w i (sends x) = go (send_of w.sender (length x)).answer
  where
    go : (t : Sent) → Moves w.road i (send_seen x t)
    go (Ok went) = joining w.road i went.line (packet x)
    go (Err k) = append-nil (w.road i)
put_call w i (asks j out) =
    ask_cases (Moves w.road i) j _ (marker_from w.sender j out).answer (λ b. joining w.road i j (marker b)) (λ k. append-nil (w.road i))
put_call w i (arrives j) = go (w.road j) refl
  where
    go : (road : List Parcel) → w.road j ≡ road → Moves w.road i (arrive_seen w j road)
    go [] e = append-nil (w.road i)
    go (x ∷ rest) e =
        land_cases (Moves w.road i) j x (number_of (landing w.receiver w.store j x).arrived.answer)
        (leaving w.road i j x rest e) (λ k. leaving w.road i j x rest e)
put_call w i (loses j) = go (w.road j) refl
  where
    go : (road : List Parcel) → w.road j ≡ road → Moves w.road i (lose_seen j road)
    go [] e = append-nil (w.road i)
    go (x ∷ rest) e = leaving w.road i j x rest e
put_call w i (takes out) =
    let none : w.road i ++ [] ≡ w.road i = append-nil (w.road i) in
    take_cases (Moves w.road i) _ (take_of w.receiver w.store out).result.answer (λ j. none) (λ j b. none) (λ j m. none) (λ j. none) (λ k. none)

-- from roads without parcels
pub put_shown : (w : World) (i : ℕ) → w.road i ≡ [] → (h : List Call)
    → each (put_by i) (events w h) ≡ each (left_by i) (events w h) ++ (calls w h).road i
put_shown w i none =
    along (λ h. each (put_by i) (events w h) ≡ each (left_by i) (events w h) ++ (calls w h).road i) (sym none)
    (λ h e now.
    let put : List Parcel = put_by i (seen (calls w h) e) in
    let left : List Parcel = left_by i (seen (calls w h) e) in
    let gone : List Parcel = each (left_by i) (events w h) in
    rw (each_and (put_by i) h e w, each_and (left_by i) h e w, calls_and h e w)
    (ap (λ (l : List Parcel). l ++ put) now ∙ append_assoc gone ((calls w h).road i) put
    ∙ ap (λ (l : List Parcel). gone ++ l) (put_call (calls w h) i e) ∙ sym (append_assoc gone left ((call (calls w h) e).road i))))

-- ---- what the log has of it

either_none : {A : Type 0} (t : Bool) → cond {A = List A} t [] [] ≡ []
either_none true = refl
either_none false = refl

module _ (p : Plan) where
  -- a line's parcels lost, and its items taken and queued, oldest first
  abbrev lost_of : ℕ → Line → List Parcel
  lost_of i l = map (parcel_of p i) (back l.lost)

  abbrev stored_of : ℕ → Line → List Entry
  stored_of i l = map (entry_of p i) (back l.taken ++ l.store)

  -- from some lines to others by what is seen
  pub record Tells (lines next : ℕ → Line) (e : Event) : Type 0 where
    pub lost_more : (i : ℕ) → lost_of i (next i) ≡ lost_of i (lines i) ++ lost_by i e
    pub stored_more : (i : ℕ) → stored_of i (next i) ≡ stored_of i (lines i) ++ stored_by i e

  module _ (lines : ℕ → Line) where
    -- nothing is lost or stored
    silent : (e : Event) → ((i : ℕ) → lost_by i e ≡ []) → ((i : ℕ) → stored_by i e ≡ []) → Tells lines lines e
    silent e no-loss no_store = record {
      lost_more = λ i. sym (rw (no-loss i) (append-nil (lost_of i (lines i))));
      stored_more = λ i. sym (rw (no_store i) (append-nil (stored_of i (lines i))));
    }

    -- line j changes, by these parcels lost and items stored
    changes : (e : Event) (j : ℕ) (f : Line → Line) (gone : List Parcel) (kept : List Entry)
        → ((i : ℕ) → lost_by i e ≡ cond (eqb j i) gone []) → ((i : ℕ) → stored_by i e ≡ cond (eqb j i) kept [])
        → lost_of j (f (lines j)) ≡ lost_of j (lines j) ++ gone → stored_of j (f (lines j)) ≡ stored_of j (lines j) ++ kept → Tells lines (at_line j f lines) e
    changes e j f gone kept losses stores lost-now stored-now = record {
      lost_more = at_all (λ i l. lost_of i l ≡ lost_of i (lines i) ++ lost_by i e) j f lines
          (rw (losses j, eq-eqb j j refl) lost-now)
          (λ i apart. sym (rw (losses i, ne_eqb j i apart) (append-nil (lost_of i (lines i)))));
      stored_more = at_all (λ i l. stored_of i l ≡ stored_of i (lines i) ++ stored_by i e) j f lines
          (rw (stores j, eq-eqb j j refl) stored-now)
          (λ i apart. sym (rw (stores i, ne_eqb j i apart) (append-nil (stored_of i (lines i)))));
    }

    -- line j changes, and nothing is lost or stored on it
    quiet : (e : Event) (j : ℕ) (f : Line → Line) → ((i : ℕ) → lost_by i e ≡ []) → ((i : ℕ) → stored_by i e ≡ [])
        → lost_of j (f (lines j)) ≡ lost_of j (lines j) → stored_of j (f (lines j)) ≡ stored_of j (lines j) → Tells lines (at_line j f lines) e
    quiet e j f no-loss no_store lost_same stored_same =
        changes e j f [] [] (λ i. no-loss i ∙ sym (either_none (eqb j i))) (λ i. no_store i ∙ sym (either_none (eqb j i)))
        (lost_same ∙ sym (append-nil (lost_of j (lines j)))) (stored_same ∙ sym (append-nil (stored_of j (lines j))))

    -- line j's oldest item is stored, or lost
    module _ (j : ℕ) (y : Item) (rest : List Item) (e : (lines j).road ≡ y ∷ rest) where
      is_stored : Tells lines (at_line j arrived lines) (stored j (parcel_of p j y))
      is_stored =
          changes _ j arrived [] (entry_of p j y ∷ []) (λ i. sym (either_none (eqb j i))) (λ i. refl)
          (ap (λ (road : List Item). lost_of j (arrive_of road (lines j))) e ∙ sym (append-nil (lost_of j (lines j))))
          (ap (λ (road : List Item). stored_of j (arrive_of road (lines j))) e
          ∙ ap (map (entry_of p j)) (sym (append_assoc (back (lines j).taken) (lines j).store (y ∷ [])))
          ∙ map-append (entry_of p j) (back (lines j).taken ++ (lines j).store) (y ∷ []))

      is_lost : (v : Event) → ((i : ℕ) → lost_by i v ≡ cond (eqb j i) (parcel_of p j y ∷ []) []) → ((i : ℕ) → stored_by i v ≡ []) → Tells lines (at_line j dropped lines) v
      is_lost v losses no_store =
          changes v j dropped (parcel_of p j y ∷ []) [] losses (λ i. no_store i ∙ sym (either_none (eqb j i)))
          (ap (λ (road : List Item). lost_of j (lose_of road (lines j))) e ∙ map-append (parcel_of p j) (back (lines j).lost) (y ∷ []))
          (ap (λ (road : List Item). stored_of j (lose_of road (lines j))) e ∙ sym (append-nil (stored_of j (lines j))))

  -- a take moves the head from the queue to what was taken
  module _ (i : ℕ) (l : Line) where
    moved : (y : Item) (rest : List Item) → l.store ≡ y ∷ rest → map (entry_of p i) (back (y ∷ l.taken) ++ rest) ≡ stored_of i l
    moved y rest e = ap (map (entry_of p i)) (append_assoc (back l.taken) (y ∷ []) rest ∙ ap (λ (s : List Item). back l.taken ++ s) (sym e))

    taken_same : (items : List Item) → l.store ≡ items → stored_of i (line_taken (theirs p) i items l) ≡ stored_of i l
    taken_same [] e = refl
    taken_same (T.packet k x ∷ rest) e = moved (T.packet k x) rest e
    taken_same (T.marker k m ∷ rest) e = moved (T.marker k m) rest e

    lost_same : (items : List Item) → lost_of i (line_taken (theirs p) i items l) ≡ lost_of i l
    lost_same [] = refl
    lost_same (T.packet k x ∷ rest) = refl
    lost_same (T.marker k m ∷ rest) = refl

  module _ (w : World) (s : State) (r : Roads p w.road s.line) where
    abbrev After : Event → Type 0
    After e = Tells s.line (run (theirs p) s (steps_of e)).line e

    take_tells : (e : Event) → ((i : ℕ) → lost_by i e ≡ []) → ((i : ℕ) → stored_by i e ≡ []) → Tells s.line (step (theirs p) s T.take).line e
    take_tells e no-loss no_store =
        let c = current (theirs p) s in
        quiet s.line e c (fetched (theirs p) c) no-loss no_store (lost_same c (s.line c) (s.line c).store) (taken_same c (s.line c) (s.line c).store refl)

    pub call_tells : (c : Call) → After (seen w c)
    call_tells (sends x) = go (send_of w.sender (length x)).answer
      where
        go : (t : Sent) → After (send_seen x t)
        go (Ok went) = quiet s.line _ (choose (theirs p) s.carries) (put (T.packet s.sent x)) (λ i. refl) (λ i. refl) refl refl
        go (Err k) = silent s.line _ (λ i. refl) (λ i. refl)
    call_tells (asks i out) =
        ask_cases After i _ (marker_from w.sender i out).answer
        (λ b. quiet s.line _ i (put (T.marker s.sent (s.carries i))) (λ j. refl) (λ j. refl) refl refl) (λ k. silent s.line _ (λ j. refl) (λ j. refl))
    call_tells (arrives j) = subst (λ (road : List Parcel). After (arrive_seen w j road)) (sym (r.same j)) (go (s.line j).road refl)
      where
        go : (road : List Item) → (s.line j).road ≡ road → After (arrive_seen w j (map (parcel_of p j) road))
        go [] e = silent s.line nothing (λ i. refl) (λ i. refl)
        go (y ∷ rest) e =
            land_cases After j (parcel_of p j y) (number_of (landing w.receiver w.store j (parcel_of p j y)).arrived.answer)
            (is_stored s.line j y rest e) (λ k. is_lost s.line j y rest e _ (λ i. refl) (λ i. refl))
    call_tells (loses j) = subst (λ (road : List Parcel). After (lose_seen j road)) (sym (r.same j)) (go (s.line j).road refl)
      where
        go : (road : List Item) → (s.line j).road ≡ road → After (lose_seen j (map (parcel_of p j) road))
        go [] e = silent s.line nothing (λ i. refl) (λ i. refl)
        go (y ∷ rest) e = is_lost s.line j y rest e _ (λ i. refl) (λ i. refl)
    call_tells (takes out) =
        take_cases After _ (take_of w.receiver w.store out).result.answer
        (λ i. take_tells _ (λ j. refl) (λ j. refl)) (λ i b. take_tells _ (λ j. refl) (λ j. refl)) (λ i m. take_tells _ (λ j. refl) (λ j. refl))
        (λ i. take_tells _ (λ j. refl) (λ j. refl)) (λ k. silent s.line _ (λ j. refl) (λ j. refl))
