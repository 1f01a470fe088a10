-- What an arrival does to the lines' queues: one that is accepted appends its item to its line's, and all others stay as they were. Assumes nothing.
use mathlib.Core.Path.{◌≡◌, refl, ap, sym, ◌∙◌, subst}
use Prim.Native.Nat.{ℕ, ◌+◌, ◌-◌, ◌≤◌, ◌<◌}
use native.Mathlib.Decide.{ℕ_discrete}
use native.Mathlib.Omega.{arith}
use mathlib.Core.Bool.{true, ◌&&◌, cond, and-false}
use mathlib.Core.List.{List, [], ◌∷◌, ◌++◌, append-nil}
use mathlib.Core.Logic.{◌⊎◌, inl, inr}
use lib.Dec.{ltb, leb, eqb}
use lib.ListN.{length}
use borrow.Author.Tests.{ltb-true, leb-true, eq-eqb, ne_eqb}
use Rattle.numbers.proofs.Checks.{check_passed, own_passed, by_checks, no_zero}
use Rattle.plan.specs.Limits.{item_head}
use Rattle.ring.specs.Ring.{stored}
use Rattle.ring.specs.Queue.{Entry, entry}
use Rattle.ring.proofs.Laws.{stored_length}
use Rattle.ring.proofs.Promises.{storing_appends}
use Rattle.receiving.specs.declared.Receiver.{Receiver}
use Rattle.receiving.specs.declared.Held.{Held}
use Rattle.receiving.specs.Receiver.{receiver_ok, store_fits, ring_of}
use Rattle.receiving.specs.Arriving.{Arrival, place_of, grown, with_item, with_stored, not_stored, arrival, arrival_checks, room_check, arrival_of, data_check, data_arrival, marker_check, marker_arrival}
use Rattle.receiving.specs.Stage.{Stage, stage}
use Rattle.receiving.proofs.Laws.{ring_length}
use Rattle.receiving.proofs.Lines.{held_same, held_other, item_whole}
use Rattle.receiving.proofs.Stages.{Sound, HoldsIn, HoldsOn, Untouched, untouched_holds}
use Rattle.receiving.proofs.Stores.{few_rings, with_length, ring_here, ring_other}
use Rattle.numbers.specs.Refusals.{number_of}
use Rattle.numbers.specs.declared.Refusal.{Refusal}
use Rattle.numbers.specs.Checks.{Checked, passed}

-- an item of these bytes has its place
pub record Room (r : Receiver) (i : ℕ) (b : List ℕ) : Type 0 where
  pub line : i < r.plan.lines
  pub free : item_head + length b ≤ r.rings.size - (place_of r i).used

module _ (r : Receiver) (i kind : ℕ) (b store : List ℕ) where
  abbrev accepted : Arrival
  accepted = record { arrived = record { answer = passed; next = with_item r i (item_head + length b) }; store = with_stored r i kind b store }

  abbrev refused : Refusal → Arrival
  refused refusal = record { arrived = not_stored r refusal; store = store }

  -- an arrival is one of the two
  abbrev pub Lands : Arrival → Type 0
  Lands a = (Room r i b × (a ≡ accepted)) ⊎ ((number_of a.arrived.answer ≡ 0 → ⊥) × (refusal : Refusal) × (a ≡ refused refusal))

  -- what passes every check has its place
  has_room : (own : Checked) → number_of (arrival_checks own r i b store) ≡ 0 → Room r i b
  has_room own e =
      let state = check_passed (receiver_ok r) _ _ e in
      let long = check_passed (store_fits r store) _ _ state.1 in
      let line = check_passed (ltb i r.plan.lines) _ _ long.1 in
      let last = own_passed own (room_check r i b) line.1 in
      let free = check_passed (leb (item_head + length b) (r.rings.size - (place_of r i).used)) _ _ last.1 in
      record { line = ltb-true _ _ line.0; free = leb-true _ _ free.0 }

  pub lands : (own : Checked) → Lands (arrival_of own r i kind b store)
  unfolding arrival_of arrival
  lands own =
      by_checks Lands (arrival_checks own r i b store)
      (λ passes. inl (has_room own (ap number_of passes), refl))
      (λ refusal fails. inr (no_zero refusal, refusal, refl))

  -- one that is refused hands back the state and the store
  pub refused_back : (a : Arrival) → Lands a → (number_of a.arrived.answer ≡ 0 → ⊥) → (a.arrived.next ≡ r) × (a.store ≡ store)
  refused_back a (inl (has, e)) some = absurd (some (ap (λ (a : Arrival). number_of a.arrived.answer) e))
  refused_back a (inr (some, k, e)) _ = (ap (λ (a : Arrival). a.arrived.next) e, ap (λ (a : Arrival). a.store) e)

pub data_lands : (r : Receiver) (i : ℕ) (b store : List ℕ) → Lands r i 0 b store (data_arrival r i b store)
data_lands r i b store = lands r i 0 b store (data_check r b)

pub marker_lands : (r : Receiver) (i : ℕ) (b store : List ℕ) → Lands r i 1 b store (marker_arrival r i b store)
marker_lands r i b store = lands r i 1 b store (marker_check r i b)

-- what an arrival leaves, and the item that it stores on line i: none where it is refused
abbrev pub left : Arrival → Stage
left a = stage a.arrived.next a.store

abbrev pub kept : ℕ → ℕ → ℕ → List ℕ → Arrival → List Entry
kept i line kind b a = cond (eqb line i && eqb (number_of a.arrived.answer) 0) (entry kind b ∷ []) []

module _ (s : Stage) (ok : Sound s) (line kind : ℕ) (b : List ℕ) where
  abbrev r : Receiver
  r = s.receiver

  abbrev size : ℕ
  size = r.rings.size

  abbrev place : Held
  place = place_of r line

  abbrev now : Held
  now = grown place (item_head + length b)

  abbrev ring : List ℕ
  ring = ring_of size s.store line

  abbrev filled : List ℕ
  filled = stored ring place.head place.used kind b

  abbrev full : Stage
  full = left (accepted r line kind b s.store)

  module _ (has : Room r line b) where
    ring_size : length ring ≡ size
    ring_size = ring_length r.plan.lines size s.store line has.line ok.fits

    filled_size : length filled ≡ size
    filled_size = stored_length ring place.head place.used kind b (omega (arith, ring_size, has.free)) ∙ ring_size

    full_here : (es : List Entry) → HoldsOn line s es → HoldsOn line full (es ++ (entry kind b ∷ []))
    full_here es h =
        let few = few_rings r ok.good in
        let free : item_head + length b ≤ length ring - place.used = omega (arith, ring_size, has.free) in
        let more = storing_appends ring place.head place.used kind b es h free (omega arith) in
        rw (ring_here r.plan.lines size s.store ok.fits line has.line filled filled_size)
        (subst (λ (h : Held). HoldsIn filled h (es ++ (entry kind b ∷ [])))
        (sym (held_same r.rings line now ok.whole.rings (omega (arith, has.line)))) more)

    full_other : (i : ℕ) → i < r.plan.lines → (i ≡ line → ⊥) → Untouched i s full
    full_other i h apart = record {
      ring = ring_other r.plan.lines size s.store ok.fits line has.line filled filled_size i h apart;
      held = held_other r.rings line now i apart;
    }

    full_holds : (i : ℕ) → i < r.plan.lines → (es : List Entry) → HoldsOn i s es → HoldsOn i full (es ++ cond (eqb line i && true) (entry kind b ∷ []) [])
    full_holds i h es was = go (ℕ_discrete i line)
      where
        go : Dec (i ≡ line) → HoldsOn i full (es ++ cond (eqb line i && true) (entry kind b ∷ []) [])
        go (yes p) = rw (p, eq-eqb line line refl) (full_here es (rw p at was))
        go (no p) = rw (ne_eqb line i (λ q. p (sym q)), append-nil) (untouched_holds (full_other i h p) was)

  module _ (a : Arrival) where
    -- an arrival appends what it stores
    pub landed_holds : Lands r line kind b s.store a → (i : ℕ) → i < r.plan.lines → (es : List Entry) → HoldsOn i s es
        → HoldsOn i (left a) (es ++ kept i line kind b a)
    landed_holds (inl (has, e)) i h es was =
        subst (λ (a : Arrival). HoldsOn i (left a) (es ++ kept i line kind b a)) (sym e) (full_holds has i h es was)
    landed_holds (inr (some, k, e)) i h es was =
        let same : HoldsOn i (left a) es = subst (λ (a : Arrival). HoldsOn i (left a) es) (sym e) was in
        rw (ne_eqb (number_of a.arrived.answer) 0 some, and-false, append-nil) same

    -- one that is accepted is on a line of the plan, and touches no other
    pub landed_line : Lands r line kind b s.store a → number_of a.arrived.answer ≡ 0 → line < r.plan.lines
    landed_line (inl (has, e)) zero = has.line
    landed_line (inr (some, k, e)) zero = absurd (some zero)

    pub landed_other : Lands r line kind b s.store a → (i : ℕ) → i < r.plan.lines → (i ≡ line → ⊥) → Untouched i s (left a)
    landed_other (inl (has, e)) i h apart = subst (λ (a : Arrival). Untouched i s (left a)) (sym e) (full_other has i h apart)
    landed_other (inr (some, k, e)) i h apart = subst (λ (a : Arrival). Untouched i s (left a)) (sym e) (record { ring = refl; held = refl })

    pub landed_sound : Lands r line kind b s.store a → receiver_ok a.arrived.next ≡ true → Sound (left a)
    landed_sound (inl (has, e)) good =
        let long = with_length r.plan.lines size s.store ok.fits line has.line filled (filled_size has) in
        record { good = good; fits = rw e (long ∙ ok.fits); whole = rw e (item_whole r line (item_head + length b) ok.whole) }
    landed_sound (inr (some, k, e)) good = subst (λ (a : Arrival). Sound (left a)) (sym e) ok

    -- the plan stays, and no line's turn moves
    pub landed_plan : Lands r line kind b s.store a → a.arrived.next.plan ≡ r.plan
    landed_plan (inl (has, e)) = ap (λ (a : Arrival). a.arrived.next.plan) e
    landed_plan (inr (some, k, e)) = ap (λ (a : Arrival). a.arrived.next.plan) e

    pub landed_turns : Lands r line kind b s.store a → a.arrived.next.turns ≡ r.turns
    landed_turns (inl (has, e)) = ap (λ (a : Arrival). a.arrived.next.turns) e
    landed_turns (inr (some, k, e)) = ap (λ (a : Arrival). a.arrived.next.turns) e
