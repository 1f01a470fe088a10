-- Arrivals: the table's rows, the item's bytes at their places, and everything else as it was. Assumes nothing.
use mathlib.Core.Path.{◌≡◌, refl, ap, sym, ◌∙◌}
use Prim.Native.Nat.{ℕ, ◌+◌, ◌-◌, ◌*◌, ◌%◌, ◌≤◌, ◌<◌}
use native.Mathlib.Decide.{dec_lt}
use native.Mathlib.Nat.{mod-lt, mod-eq_of_lt, mod-eq-sub-mod, mod-add-mod}
use native.Mathlib.Omega.{arith}
use mathlib.Core.Bool.{Bool, true, false}
use mathlib.Core.List.{List, ◌++◌}
use mathlib.Core.Logic.{dite, inl}
use lib.Dec.{ltb, leb, eqb}
use lib.ListN.{length, take, drop, get_or, length-append, get_or-append}
use lib.Seq.{length-take-le, get_or-append-add, get_or-take, get_or-drop, get_or-set_same, get_or-set_other, set-get_or}
use borrow.Author.Tests.{ltb-true, leb-true, eqb-true, eq-eqb}
use Rattle.std.specs.Prelude.{Ok, Err}
use Rattle.std.specs.Result.{result_and}
use Rattle.numbers.specs.declared.Refusal.{Refusal}
use Rattle.numbers.specs.declared.Refusal.TheVariants as refusal
use Rattle.numbers.specs.Refusals.{number_of}
use Rattle.numbers.specs.Checks.{Checked, passed, check, checked, in_range}
use Rattle.numbers.specs.Coding.{Bytes}
use Rattle.numbers.proofs.Checks.{check_passed, own_passed, in_range_lem, from_range, no_zero, by_checks}
use Rattle.plan.specs.Limits.{item_head}
use Rattle.plan.specs.Plan.{at, quantum}
use Rattle.plan.specs.Ranges.{From}
use Rattle.marker.specs.declared.Marker.{Marker}
use Rattle.marker.specs.Marker.{MarkerRead, record_read, judge, judged}
use Rattle.marker.proofs.Laws.{whole_not_refused}
use Rattle.report.specs.Report.{on_checks, marker_on}
use Rattle.ring.specs.Ring.{turned, onto, into_ring, item_bytes, stored}
use Rattle.ring.proofs.Laws.{turned_get, into_length, into_turned, stored_length}
use Rattle.receiving.specs.declared.Receiver.{Receiver}
use Rattle.receiving.specs.Receiver.{receiver_ok, store_fits, ring_of, with_ring}
use Rattle.receiving.specs.Arriving.{Arrival, place_of, with_item, with_stored, not_stored, arrival, arrival_checks, room_check, arrival_of}
use Rattle.receiving.specs.Arriving.{data_check, data_arrival, marker_check, marker_arrival}
use Rattle.receiving.proofs.Laws.{ring_inside, ring_length}
use Rattle.receiving.proofs.Stores.{few_rings, with_length, ring_here}
use Rattle.calls.specs.Plain.{Not, ReceiverArrays, MarkerSpelled, MarkerTo, MarkerOf, place_in}
use Rattle.calls.specs.Table.{given, lent_to, room_on}
use Rattle.calls.specs.Outcomes.{laid_out, Stores}
use Rattle.calls.specs.Frame.{Arrives}
use Rattle.calls.proofs.States.{receiver_in, receiver_good}
use Rattle.calls.proofs.Markers.{spelled_reads, marker_spelled, only_five, read_counter, read_line}
use Rattle.calls.proofs.Rows.{Gives, ends, unless, range_row, equal_row, below_row, at_most_row}

-- ---- a byte of a ring that bytes are laid in

module _ (ring : List ℕ) (from : ℕ) (s : List ℕ) (inside : from < length ring) (fits : length s ≤ length ring) (k : ℕ) (below : k < length ring) where
  -- byte k from the place on is byte k of what was laid over the front
  into_get : get_or (into_ring ring from s) ((from + k) % length ring) 0 ≡ get_or (onto s (turned from ring)) k 0
  into_get =
      let new = into_ring ring from s in
      let n : length new ≡ length ring = into_length ring from s (omega arith) fits in
      ap (λ (m : ℕ). get_or new ((from + k) % m) 0) (sym n) ∙ sym (turned_get from k new (omega arith) (omega arith))
      ∙ ap (λ (l : List ℕ). get_or l k 0) (into_turned ring from s (omega arith) fits)

  laid_byte : k < length s → get_or (into_ring ring from s) ((from + k) % length ring) 0 ≡ get_or s k 0
  laid_byte h = into_get ∙ get_or-append s (drop (length s) (turned from ring)) 0 k h

  kept_byte : length s ≤ k → get_or (into_ring ring from s) ((from + k) % length ring) 0 ≡ get_or ring ((from + k) % length ring) 0
  kept_byte h =
      let was = turned from ring in
      let sum : length s + (k - length s) ≡ k = omega arith in
      into_get ∙ ap (λ (j : ℕ). get_or (onto s was) j 0) (sym sum) ∙ get_or-append-add s (drop (length s) was) (k - length s) 0
      ∙ get_or-drop (length s) was (k - length s) 0 ∙ ap (λ (j : ℕ). get_or was j 0) sum ∙ turned_get from k ring inside below

-- every place of a ring is so far behind another
behind : (size from p : ℕ) → from < size → p < size → (k : ℕ) × (k < size) × ((from + k) % size ≡ p)
behind size from p f h =
    dite (dec_lt p from)
    (λ before.
    let sum : from + (p + size - from) ≡ p + size = omega arith in
    let past : size ≤ from + (p + size - from) = omega arith in
    (p + size - from, omega arith, mod-eq-sub-mod past ∙ mod-eq_of_lt (omega arith) ∙ omega arith))
    (λ after. (p - from, omega arith, mod-eq_of_lt (omega arith) ∙ omega arith))

module _ (ring : List ℕ) (head used kind : ℕ) (b : List ℕ) (free : item_head + length b ≤ length ring - used) where
  abbrev start : ℕ
  start = (head + used) % length ring

  start_inside : start < length ring
  start_inside = mod-lt (head + used) (omega arith)

  -- an item's byte k stands k behind what is held, and no other byte is changed
  stored_byte : (k : ℕ) → k < item_head + length b → get_or (stored ring head used kind b) ((head + used + k) % length ring) 0 ≡ get_or (item_bytes kind b) k 0
  unfolding stored
  stored_byte k h =
      ap (λ (p : ℕ). get_or (into_ring ring start (item_bytes kind b)) p 0) (sym (mod-add-mod (head + used) (length ring) k))
      ∙ laid_byte ring start (item_bytes kind b) start_inside (omega arith) k (omega arith) (omega arith)

  stored_other : (p : ℕ) → p < length ring → ((k : ℕ) → k < item_head + length b → Not (p ≡ (head + used + k) % length ring))
      → get_or (stored ring head used kind b) p 0 ≡ get_or ring p 0
  unfolding stored
  stored_other p inside apart =
      let k = behind (length ring) start p start_inside inside in
      let here : (head + used + k.0) % length ring ≡ p = sym (mod-add-mod (head + used) (length ring) k.0) ∙ k.2 in
      dite (dec_lt k.0 (item_head + length b))
      (λ h. absurd (apart k.0 h (sym here)))
      (λ h. rw k.2 at (kept_byte ring start (item_bytes kind b) start_inside (omega arith) k.0 k.1 (omega arith)))

-- ---- a byte of the store, where line i's ring is replaced

-- a ring's byte is the store's, so far from its start
ring_byte : (size : ℕ) (store : List ℕ) (i p : ℕ) → p < size → get_or (ring_of size store i) p 0 ≡ get_or store (i * size + p) 0
unfolding ring_of
ring_byte size store i p h = get_or-take size (drop (i * size) store) p 0 h ∙ get_or-drop (i * size) store p 0

module _ (lines size : ℕ) (store : List ℕ) (fits : length store ≡ lines * size) (i : ℕ) (line : i < lines) (ring : List ℕ) (long : length ring ≡ size) where
  abbrev new : List ℕ
  new = with_ring size store i ring

  byte_inside : (p : ℕ) → p < size → get_or new (i * size + p) 0 ≡ get_or ring p 0
  byte_inside p h = sym (ring_byte size new i p h) ∙ ap (λ (l : List ℕ). get_or l p 0) (ring_here lines size store fits i line ring long)

  front_length : length (take (i * size) store) ≡ i * size
  front_length = length-take-le (i * size) store (omega (arith, ring_inside lines size i line))

  byte_before : (place : ℕ) → place < i * size → get_or new place 0 ≡ get_or store place 0
  unfolding with_ring
  byte_before place h =
      let front = take (i * size) store in
      get_or-append (front ++ ring) (drop (i * size + size) store) 0 place (simp length-append (omega (arith, front_length)))
      ∙ get_or-append front ring 0 place (omega (arith, front_length)) ∙ get_or-take (i * size) store place 0 h

  byte_behind : (place : ℕ) → i * size + size ≤ place → get_or new place 0 ≡ get_or store place 0
  unfolding with_ring
  byte_behind place h =
      let front = take (i * size) store ++ ring in
      let rest = drop (i * size + size) store in
      let n : length front ≡ i * size + size = length-append (take (i * size) store) ring ∙ omega (arith, front_length) in
      let sum : length front + (place - (i * size + size)) ≡ place = omega arith in
      let back : i * size + size + (place - (i * size + size)) ≡ place = omega arith in
      ap (λ (p : ℕ). get_or (front ++ rest) p 0) (sym sum) ∙ get_or-append-add front rest (place - (i * size + size)) 0
      ∙ get_or-drop (i * size + size) store (place - (i * size + size)) 0 ∙ ap (λ (p : ℕ). get_or store p 0) back

-- ---- an arrival that passes every check, and one that does not

-- what the checks found
record Passed (r : Receiver) (i : ℕ) (b store : List ℕ) : Type 0 where
  good : receiver_ok r ≡ true
  fits : length store ≡ r.plan.lines * r.rings.size
  line : i < r.plan.lines
  free : item_head + length b ≤ r.rings.size - (place_of r i).used

module _ (own : Checked) (r : Receiver) (i kind : ℕ) (b store : List ℕ) where
  all_passed : arrival_checks own r i b store ≡ passed → Passed r i b store
  all_passed e =
      let state = check_passed (receiver_ok r) _ _ (ap number_of e) in
      let long = check_passed (store_fits r store) _ _ state.1 in
      let line = check_passed (ltb i r.plan.lines) _ _ long.1 in
      let last = own_passed own (room_check r i b) line.1 in
      let free = check_passed (leb (item_head + length b) (r.rings.size - (place_of r i).used)) _ _ last.1 in
      record { good = state.0; fits = eqb-true _ _ long.0; line = ltb-true _ _ line.0; free = leb-true _ _ free.0 }

  abbrev landed : Arrival
  landed = record { arrived = record { answer = passed; next = with_item r i (item_head + length b) }; store = with_stored r i kind b store }

  abbrev refused : Refusal → Arrival
  refused k = record { arrived = not_stored r k; store = store }

  arrival_cases : (P : Arrival → Type 0) → (Passed r i b store → P landed) → ((k : Refusal) → P (refused k)) → P (arrival_of own r i kind b store)
  unfolding arrival_of arrival
  arrival_cases P stores refuses = by_checks P (arrival_checks own r i b store) (λ e. stores (all_passed e)) (λ k _. refuses k)

-- ---- the store, and the lines' figures, of one that passes

module _ (r : Receiver) (i kind : ℕ) (b store : List ℕ) (p : Passed r i b store) where
  abbrev lines : ℕ
  lines = r.plan.lines

  abbrev size : ℕ
  size = r.rings.size

  abbrev head : ℕ
  head = at r.rings.heads i

  abbrev used : ℕ
  used = at r.rings.used i

  abbrev ring : List ℕ
  ring = ring_of size store i

  abbrev filled : List ℕ
  filled = stored ring head used kind b

  ring_size : length ring ≡ size
  ring_size = ring_length lines size store i p.line p.fits

  free : item_head + length b ≤ length ring - used
  free = omega (arith, ring_size, p.free)

  filled_size : length filled ≡ size
  filled_size = stored_length ring head used kind b free ∙ ring_size

  -- the item's bytes, at their places
  laid : (k : ℕ) → k < 3 + length b → at (with_stored r i kind b store) (place_in size i (head + used) k) ≡ at (laid_out kind b) k
  laid k h =
      let inside : (head + used + k) % size < size = mod-lt (head + used + k) (omega (arith, p.free)) in
      byte_inside lines size store p.fits i p.line filled filled_size ((head + used + k) % size) inside
      ∙ rw ring_size at (stored_byte ring head used kind b free k h)

  -- and every other byte as it was
  other_bytes : (place : ℕ) → ((k : ℕ) → k < 3 + length b → Not (place ≡ place_in size i (head + used) k))
      → at (with_stored r i kind b store) place ≡ at store place
  other_bytes place apart =
      dite (dec_lt place (i * size))
      (λ h. byte_before lines size store p.fits i p.line filled filled_size place h)
      (λ h.
      dite (dec_lt place (i * size + size))
      (λ l. in_ring (place - i * size) (omega arith) (omega arith))
      (λ l. byte_behind lines size store p.fits i p.line filled filled_size place (omega arith)))
    where
      in_ring : (j : ℕ) → i * size + j ≡ place → j < size → at (with_stored r i kind b store) place ≡ at store place
      in_ring j here inside =
          let clear : (k : ℕ) → k < 3 + length b → Not (j ≡ (head + used + k) % length ring) =
          λ k h e. apart k h (sym here ∙ ap (λ (x : ℕ). i * size + x) (e ∙ ap (λ (n : ℕ). (head + used + k) % n) ring_size)) in
          ap (λ (x : ℕ). at (with_stored r i kind b store) x) (sym here)
          ∙ byte_inside lines size store p.fits i p.line filled filled_size j inside
          ∙ stored_other ring head used kind b free j (omega (arith, ring_size)) clear ∙ ring_byte size store i j inside ∙ ap (at store) here

module _ (own : Checked) (r : Receiver) (i kind : ℕ) (b store : List ℕ) where
  abbrev answer : Arrival
  answer = arrival_of own r i kind b store

  -- what it leaves as it was
  arrives : Arrives r i b store answer
  arrives =
      arrival_cases own r i kind b store (Arrives r i b store)
      (λ p. record {
        refused = λ some. absurd (some refl);
        plan = refl;
        size = refl;
        heads = λ j. ap (λ (l : List ℕ). at l j) (set-get_or r.rings.heads i 0);
        turns = refl;
        others = λ j apart. get_or-set_other r.rings.used i j _ 0 apart;
        same_length = with_length r.plan.lines r.rings.size store p.fits i p.line _ (filled_size r i kind b store p);
        elsewhere = other_bytes r i kind b store p;
      })
      (λ k. record {
        refused = λ _. (refl, refl);
        plan = refl;
        size = refl;
        heads = λ j. refl;
        turns = refl;
        others = λ j apart. refl;
        same_length = refl;
        elsewhere = λ place apart. refl;
      })

  -- and what it stores
  stores : ReceiverArrays r → number_of answer.arrived.answer ≡ 0 → Stores r i kind b store answer
  stores whole =
      arrival_cases own r i kind b store (λ a. number_of a.arrived.answer ≡ 0 → Stores r i kind b store a)
      (λ p _. record {
        used = get_or-set_same r.rings.used i _ 0 (omega (arith, whole.used, p.line, (few_rings r p.good).0));
        bytes = laid r i kind b store p;
      })
      (λ k zero. absurd (no_zero k zero))

-- ---- data and markers

pub frame_data_arrives : (r : Receiver) (i : ℕ) (b store : List ℕ) → Arrives r i b store (data_arrival r i b store)
frame_data_arrives r i b store = arrives (data_check r b) r i 0 b store

pub frame_marker_arrives : (r : Receiver) (i : ℕ) (b store : List ℕ) → Arrives r i b store (marker_arrival r i b store)
frame_marker_arrives r i b store = arrives (marker_check r i b) r i 1 b store

pub outcome_data_stored : (r : Receiver) (i : ℕ) (b store : List ℕ) → ReceiverArrays r → number_of (data_arrival r i b store).arrived.answer ≡ 0
    → Stores r i 0 b store (data_arrival r i b store)
outcome_data_stored r i b store = stores (data_check r b) r i 0 b store

pub outcome_marker_stored : (r : Receiver) (i : ℕ) (b store : List ℕ) → ReceiverArrays r → number_of (marker_arrival r i b store).arrived.answer ≡ 0
    → Stores r i 1 b store (marker_arrival r i b store)
outcome_marker_stored r i b store = stores (marker_check r i b) r i 1 b store

-- ---- the rows of the table

-- an arrival answers the number that its checks give
arrived_number : (own : Checked) (r : Receiver) (i kind : ℕ) (b store : List ℕ)
    → number_of (arrival_of own r i kind b store).arrived.answer ≡ number_of (arrival_checks own r i b store)
unfolding arrival_of arrival
arrived_number own r i kind b store =
    let checks = arrival_checks own r i b store in
    by_checks (λ (a : Arrival). number_of a.arrived.answer ≡ number_of checks) checks (λ e. sym (ap number_of e)) (λ k e. sym (ap number_of e))

-- a state and its store: 2, 9
pub lent_rows : {next : ℕ → Type 0} {rest : Checked} (r : Receiver) (store : List ℕ) → (receiver_ok r ≡ true → store_fits r store ≡ true → Gives next rest)
    → Gives (lent_to r store next) (check (receiver_ok r) refusal.State (check (store_fits r store) refusal.Store rest))
lent_rows r store more =
    unless refusal.State (receiver_ok r) (receiver_in r) (receiver_good r)
    (λ v. equal_row refusal.Store (length store) (r.plan.lines * r.rings.size) (λ e. more (receiver_good r v) (eq-eqb _ _ e)))

-- 2, 9 and 3, then the rows of its own kind of item and 7
arrival_rows : {rows : ℕ → Type 0} (own : Checked) (r : Receiver) (i kind : ℕ) (b store : List ℕ) → Gives rows (result_and own (room_check r i b))
    → lent_to r store (given 3 (r.plan.lines ≤ i) rows) (number_of (arrival_of own r i kind b store).arrived.answer)
arrival_rows own r i kind b store more =
    rw (arrived_number own r i kind b store) (lent_rows r store (λ _ _. below_row refusal.Line i r.plan.lines (λ _. more))).proof

-- 7
room_rows : (r : Receiver) (i : ℕ) (b : List ℕ) → Gives (room_on r i (length b)) (room_check r i b)
room_rows r i b = at_most_row refusal.NoRoom (item_head + length b) (r.rings.size - (place_of r i).used) (λ _. ends)

-- ---- data: 4

-- a check and what is behind it
own_check : (ok : Bool) (k : Refusal) (rest : Checked) → result_and (check ok k passed) rest ≡ check ok k rest
own_check true k rest = refl
own_check false k rest = refl

data_rows : (r : Receiver) (i : ℕ) (b : List ℕ)
    → Gives (given 4 (Not (From 1 r.plan.max (length b))) (room_on r i (length b))) (result_and (data_check r b) (room_check r i b))
data_rows r i b =
    rw (own_check (in_range 1 (length b) r.plan.max) refusal.Length (room_check r i b))
    (range_row refusal.Length 1 (length b) r.plan.max (λ _. room_rows r i b))

pub table_data_arrives : (r : Receiver) (i : ℕ) (b store : List ℕ)
    → lent_to r store (given 3 (r.plan.lines ≤ i) (given 4 (Not (From 1 r.plan.max (length b))) (room_on r i (length b))))
    (number_of (data_arrival r i b store).arrived.answer)
table_data_arrives r i b store = arrival_rows (data_check r b) r i 0 b store (data_rows r i b)

-- ---- a marker: 5, 6

-- two checks likewise, of a marker that they judge
own_checks : (first second : Bool) (m : Marker) (rest : Checked)
    → result_and (checked (judge (check first refusal.NoMarker (check second refusal.OtherLine passed)) m)) rest
    ≡ check first refusal.NoMarker (check second refusal.OtherLine rest)
unfolding judge
own_checks true true m rest = refl
own_checks true false m rest = refl
own_checks false second m rest = refl

module _ (i q : ℕ) (b : List ℕ) {rows : ℕ → Type 0} {rest : Checked} (more : Gives rows rest) where
  abbrev Rows : Checked → Type 0
  Rows checks = Gives (given 5 (Not (MarkerTo q b)) (given 6 (Not (MarkerOf (λ line. line ≡ i) b)) rows)) checks

  -- bytes that are no record spell no marker
  none_rows : (k : Refusal) → record_read b ≡ Err k → Rows (Err k)
  none_rows k e =
      let five : k ≡ refusal.NoMarker = only_five b k e in
      rw five (record { proof = inl (λ to. whole_not_refused (sym e ∙ spelled_reads b to.0 to.1 to.2 to.3), refl) })

  -- a record spells the marker that is read, and no other
  whole_rows : Bytes b → (m : Marker) → record_read b ≡ Ok m → Rows (check (in_range 1 m.counter q) refusal.NoMarker (check (eqb m.line i) refusal.OtherLine rest))
  whole_rows bytes m e =
      unless refusal.NoMarker (in_range 1 m.counter q) (λ t. (m.line, m.round, m.counter, own, from_range 1 m.counter q t))
      (λ to. let h = read_counter b m e q to in in_range_lem 1 m.counter q h.0 h.1)
      (λ _.
      unless refusal.OtherLine (eqb m.line i) (λ t. (m.line, m.round, m.counter, own, eqb-true m.line i t))
      (λ on. eq-eqb m.line i (read_line b m e (λ line. line ≡ i) on)) (λ _. more))
    where
      own : MarkerSpelled b m.line m.round m.counter
      own = marker_spelled b m bytes e

  marker_rows : Bytes b → Rows (result_and (checked (marker_on i q b)) rest)
  unfolding marker_on
  marker_rows bytes = go (record_read b) refl
    where
      go : (t : MarkerRead) → record_read b ≡ t → Rows (result_and (checked (judged (on_checks i q) t)) rest)
      go (Err k) e = none_rows k e
      go (Ok m) e = rw (own_checks (in_range 1 m.counter q) (eqb m.line i) m rest) (whole_rows bytes m e)

pub table_marker_arrives : (r : Receiver) (i : ℕ) (b store : List ℕ) → Bytes b
    → lent_to r store
    (given 3 (r.plan.lines ≤ i) (given 5 (Not (MarkerTo (quantum r.plan i) b)) (given 6 (Not (MarkerOf (λ line. line ≡ i) b)) (room_on r i (length b)))))
    (number_of (marker_arrival r i b store).arrived.answer)
table_marker_arrives r i b store bytes =
    arrival_rows (marker_check r i b) r i 1 b store (marker_rows i (quantum r.plan i) b (room_rows r i b) bytes)
