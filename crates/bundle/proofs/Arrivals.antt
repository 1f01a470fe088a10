-- A parcel arrives: stored, it is the last of its line's queue, refused, it is lost; it is stored where its ring has room. Assumes nothing.
use Prim.Native.Nat.{ℕ, ◌+◌, ◌-◌, ◌≤◌, ◌<◌}
use mathlib.Core.Bool.{Bool, true, false, ◌&&◌, cond}
use mathlib.Core.List.{List, [], ◌∷◌, ◌++◌, map, map-append, append-nil, nil≢cons, cons≢nil, head-eq_of_cons-eq}
use mathlib.Core.Logic.{dite}
use mathlib.Core.Path.{◌≡◌, refl, sym, ap, ◌∙◌, subst, fun_ext}
use native.Mathlib.Omega.{arith}
use native.Mathlib.Decide.{dec_lt}
use borrow.Author.Tests.{eq-eqb, ne_eqb, eqb-true, le-leb}
use lib.Dec.{eqb}
use lib.ListN.{length}
use Rattle.plan.specs.declared.Plan.{Plan}
use Rattle.plan.specs.Limits.{item_head}
use Rattle.plan.specs.Plan.{plan_ok}
use Rattle.theory.specs.System.{Item, State, positions, arrived, arrive_of, dropped, run}
use Rattle.theory.specs.System as T
use Rattle.theory.proofs.Lines.{arrived_position, dropped_position, dropped_store}
use Rattle.theory.proofs.Histories.{at_field, at_all}
use Rattle.receiving.specs.declared.Receiver.{Receiver}
use Rattle.receiving.specs.declared.Turns.{Turns}
use Rattle.receiving.specs.Receiver.{turn_of, receiver_ok, store_fits}
use Rattle.receiving.specs.Arriving.{Arrival, place_of, arrival, room_check}
use Rattle.receiving.specs.Stage.{Stage, stage}
use Rattle.receiving.proofs.Stages.{Sound}
use Rattle.receiving.proofs.Storing.{Lands, left, data_lands, marker_lands, landed_holds, landed_sound, landed_plan, landed_turns}
use Rattle.receiving.proofs.Arrivals.{data_stored, marker_stored}
use Rattle.receiving.proofs.Valid.{data_valid, marker_valid}
use Rattle.bundle.specs.Events.{Parcel, packet, marker, Event, stored, turned_away, as_entry}
use Rattle.bundle.specs.Worlds.{World, arrives, landing, land_seen, arrive_seen, seen, landed, call}
use Rattle.bundle.specs.Log.{steps_of, mark_of, parcel_of, entry_of}
use Rattle.bundle.specs.Words.{bytes_of}
use Rattle.bundle.proofs.Meeting.{theirs, Fits, AllFit, Shows, Far, Roads}
use Rattle.bundle.proofs.Marks.{mark, mark_read}
use Rattle.bundle.proofs.Roads.{fit_append}
use Rattle.numbers.specs.Refusals.{number_of}

-- ---- a parcel, packet or marker

pub land_lands : (r : Receiver) (store : List ℕ) (i : ℕ) (x : Parcel) → Lands r i (as_entry x).kind (as_entry x).bytes store (landing r store i x)
land_lands r store i (packet b) = data_lands r i b store
land_lands r store i (marker b) = marker_lands r i b store

pub land_valid : (r : Receiver) (store : List ℕ) (i : ℕ) (x : Parcel) → receiver_ok r ≡ true → receiver_ok (landing r store i x).arrived.next ≡ true
land_valid r store i (packet b) = data_valid r i b store
land_valid r store i (marker b) = marker_valid r i b store

-- what line j gets of an item that comes on line i: the item, where it is line i's and stored
abbrev got : ℕ → Bool → Item → ℕ → List Item
got i ok x j = cond (eqb i j && ok) (x ∷ []) []

-- an item x, the oldest under way on line i, comes
module _ (p : Plan) (w : World) (s : State) (m : Far p w.receiver w.store s) (i : ℕ) (x : Item) (one : Fits p x) where
  abbrev was : Stage
  was = stage w.receiver w.store

  abbrev parcel : Parcel
  parcel = parcel_of p i x

  abbrev a : Arrival
  a = landing w.receiver w.store i parcel

  abbrev kind : ℕ
  kind = (as_entry parcel).kind

  abbrev bytes : List ℕ
  bytes = (as_entry parcel).bytes

  abbrev ok : Bool
  ok = eqb (number_of a.arrived.answer) 0

  lands : Lands w.receiver i kind bytes w.store a
  lands = land_lands w.receiver w.store i parcel

  got_entries : (j : ℕ) (t : Bool) → eqb i j ≡ t → (u : Bool)
      → cond (t && u) (as_entry parcel ∷ []) [] ≡ map (entry_of p j) (cond (t && u) (x ∷ []) [])
  got_entries j true q true = ap (λ (k : ℕ). entry_of p k x ∷ []) (eqb-true i j q)
  got_entries j true q false = refl
  got_entries j false q u = refl

  got_fit : (t : Bool) → AllFit p (cond t (x ∷ []) [])
  got_fit true = (one, tt)
  got_fit false = tt

  -- the far end, by what its queues hold now
  far : (v : ℕ → ℕ) (items : ℕ → List Item) → v ≡ positions s → ((j : ℕ) → items j ≡ (s.line j).store ++ got i ok x j)
      → Shows p (left a) v items
  far v items place queues =
      let f = m in
      let lines : p.lines ≡ w.receiver.plan.lines = ap (λ (p : Plan). p.lines) (sym f.plan) in
      let turns = landed_turns was f.sound i kind bytes a lands in
      rw place (record {
        plan = landed_plan was f.sound i kind bytes a lands ∙ f.plan;
        sound = landed_sound was f.sound i kind bytes a lands (land_valid w.receiver w.store i parcel f.sound.good);
        round = ap (λ (t : Turns). t.round) turns ∙ f.round;
        turns = λ j l. ap (λ (t : Turns). turn_of t j) turns ∙ f.turns j l;
        holds = λ j l.
            rw (queues j, map-append (entry_of p j) (s.line j).store (got i ok x j), ← got_entries j (eqb i j) refl ok)
            (landed_holds was f.sound i kind bytes a lands j (omega arith) (map (entry_of p j) (s.line j).store) (f.holds j l));
        fit = λ j l. rw (queues j) (fit_append p (s.line j).store (got i ok x j) (f.fit j l) (got_fit (eqb i j && ok)));
      })

  comes : (rest : List Item) → (s.line i).road ≡ x ∷ rest
      → Far p a.arrived.next a.store (run (theirs p) s (steps_of (land_seen i parcel (number_of a.arrived.answer))))
  comes rest e = go ok refl
    where
      seen_as : Bool → Event
      seen_as t = cond t (stored i parcel) (turned_away i parcel (number_of a.arrived.answer))

      none : (t : Bool) → cond (t && false) (x ∷ []) [] ≡ []
      none true = refl
      none false = refl

      go : (t : Bool) → ok ≡ t → Far p a.arrived.next a.store (run (theirs p) s (steps_of (seen_as t)))
      go true q =
          let place = fun_ext (at_field (λ l. l.position) i arrived s.line arrived_position) in
          far _ _ place
          (at_all (λ j l. l.store ≡ (s.line j).store ++ got i ok x j) i arrived s.line
          (rw (eq-eqb i i refl, q) (ap (λ (road : List Item). (arrive_of road (s.line i)).store) e))
          (λ j apart. rw (ne_eqb i j apart, append-nil) refl))
      go false q =
          let place = fun_ext (at_field (λ l. l.position) i dropped s.line dropped_position) in
          let queues = at_field (λ l. l.store) i dropped s.line dropped_store in
          far _ _ place (λ j. rw (q, none (eqb i j), append-nil) (queues j))

-- what passes every check is stored where there is room
room_stored : (r : Receiver) (i kind : ℕ) (b store : List ℕ) → item_head + length b ≤ r.rings.size - (place_of r i).used
    → number_of (arrival (room_check r i b) r i kind b store).arrived.answer ≡ 0
unfolding arrival
room_stored r i kind b store has = simp (le-leb (item_head + length b) (r.rings.size - (place_of r i).used) has)

module _ (p : Plan) (w : World) (s : State) (roads : Roads p w.road s.line) where
  pub arrive_far : Far p w.receiver w.store s → (i : ℕ)
      → Far p (call w (arrives i)).receiver (call w (arrives i)).store (run (theirs p) s (steps_of (seen w (arrives i))))
  arrive_far m i = subst After (sym (roads.same i)) (go (s.line i).road refl)
    where
      After : List Parcel → Type 0
      After road = Far p (landed w i road).receiver (landed w i road).store (run (theirs p) s (steps_of (arrive_seen w i road)))

      go : (road : List Item) → (s.line i).road ≡ road → After (map (parcel_of p i) road)
      go [] e = m
      go (x ∷ rest) e = let all : AllFit p (x ∷ rest) = rw e at (roads.fit i) in comes p w s m i x all.0 rest e

  -- a parcel that is under way is stored where its ring has room
  pub land_stored : plan_ok p ≡ true → Sound (stage w.receiver w.store) → w.receiver.plan ≡ p → (i : ℕ) (x : Parcel) (rest : List Parcel)
      → w.road i ≡ x ∷ rest → item_head + length (bytes_of x) ≤ w.receiver.rings.size - (place_of w.receiver i).used
      → number_of (landing w.receiver w.store i x).arrived.answer ≡ 0
  land_stored good sound plan i x rest e free = go (s.line i).road refl (sym (roads.same i) ∙ e)
    where
      r : Receiver
      r = w.receiver

      whole : store_fits r w.store ≡ true
      whole = eq-eqb _ _ sound.fits

      Stored : Parcel → Type 0
      Stored x = item_head + length (bytes_of x) ≤ r.rings.size - (place_of r i).used → number_of (landing r w.store i x).arrived.answer ≡ 0

      on : (y : Item) → Fits p y → i < p.lines → Stored (parcel_of p i y)
      on (T.packet k b) fits line has =
          let stored = data_stored r i b w.store sound.good whole (rw plan line) fits.0 (rw plan fits.1) in
          ap (λ (a : Arrival). number_of a.arrived.answer) (sym stored) ∙ room_stored r i 0 b w.store has
      on (T.marker k n) fits line has =
          let b = mark_of p i n in
          let stored = marker_stored r i b w.store sound.good whole (rw plan line) (mark p good i line n) (rw plan (mark_read p good i line n)) in
          ap (λ (a : Arrival). number_of a.arrived.answer) (sym stored) ∙ room_stored r i 1 b w.store has

      go : (road : List Item) → (s.line i).road ≡ road → map (parcel_of p i) road ≡ x ∷ rest → number_of (landing r w.store i x).arrived.answer ≡ 0
      go [] q h = absurd (nil≢cons h)
      go (y ∷ more) q h =
          let all : AllFit p (y ∷ more) = rw q at (roads.fit i) in
          dite (dec_lt i p.lines)
          (λ line. subst Stored (head-eq_of_cons-eq h) (on y all.0 line) free)
          (λ off. absurd (cons≢nil (sym q ∙ roads.off i (omega arith))))
