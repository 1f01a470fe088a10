-- What stands at the head of a line's queue, byte by byte of the store, is what the definition of a take finds there. Assumes nothing.
use Prim.Native.Nat.{ℕ, zero, suc, ◌+◌, ◌-◌, ◌*◌, ◌%◌, ◌<◌}
use native.Mathlib.Decide.{dec_lt}
use native.Mathlib.Nat.{mod-lt, mod-add-mod}
use native.Mathlib.Omega.{arith}
use mathlib.Core.Bool.{Bool, true, false, cond}
use mathlib.Core.List.{List, [], ◌∷◌}
use mathlib.Core.Logic.{dite, inl, inr, ⊎_elim}
use mathlib.Core.Path.{◌≡◌, refl, ap, sym, ◌∙◌, subst}
use lib.Dec.{eqb}
use lib.ListN.{length, take, drop, get_or, length-drop}
use lib.Seq.{length-take-le, get_or-take, get_or-drop}
use borrow.Author.Tests.{eqb-true, ne_eqb}
use Rattle.std.specs.Prelude.{Ok, Err, Some, None}
use Rattle.numbers.specs.Checks.{in_range}
use Rattle.numbers.specs.Coding.{Bytes}
use Rattle.numbers.proofs.Checks.{from_range, in_range_lem as is_in_range}
use Rattle.numbers.proofs.Laws.{never, same_number}
use Rattle.plan.specs.declared.LinePlan.{LinePlan}
use Rattle.plan.specs.Limits.{item_head}
use Rattle.plan.specs.Plan.{at, line_plan}
use Rattle.marker.specs.declared.Marker.{Marker}
use Rattle.marker.specs.Marker.{MarkerRead, marker_of, judge, judged}
use Rattle.report.specs.Report.{on_checks, marker_on}
use Rattle.report.proofs.Laws.{both_good, on_line}
use Rattle.ring.specs.Ring.{Front, held, front_of}
use Rattle.ring.proofs.Laws.{held_length, held_byte_lem, told, cut_short, all_there, front_fits}
use Rattle.receiving.specs.declared.Receiver.{Receiver}
use Rattle.receiving.specs.declared.Held.{Held}
use Rattle.receiving.specs.Receiver.{held_of, receiver_ok, store_fits, ring_of}
use Rattle.receiving.specs.Taking.{Head, nothing, packet, marker, no_item, data_head, marker_head, item_on, front_on, head_on}
use Rattle.receiving.proofs.Laws.{valid}
use Rattle.receiving.proofs.Stores.{place}
use Rattle.receiving.proofs.Taking.{is_data, data_item, marker_item, empty_queue}
use Rattle.calls.proofs.Markers.{spelled_reads, marker_spelled}
use Rattle.calls.specs.Plain.{Not, MarkerSpelled, held_byte, first_of, HeadIs, DataHead, MarkerHead, ItemHead}

-- a list is the first of some numbers, where each of its entries is one
firsts : (f : ℕ → ℕ) (b : List ℕ) → ((k : ℕ) → k < length b → get_or b k 0 ≡ f k) → b ≡ first_of f (length b)
firsts f [] each = refl
firsts f (x ∷ b) each = λ t. each 0 (omega arith) t ∷ firsts (λ k. f (suc k)) b (λ k h. each (suc k) (omega arith)) t

-- an item in front is of the kind that the first byte tells, and as long as the next two tell
front_tells : (s : List ℕ) {kind n : ℕ} → front_of s ≡ Some (kind, n) → (kind ≡ get_or s 0 0) × (n ≡ told s)
front_tells s {kind} {n} e =
    let long = front_fits s e in
    dite (dec_lt (length s - item_head) (told s))
    (λ over. absurd (never (sym (cut_short s (omega arith) over)) e))
    (λ there. let same = same_number (all_there s (omega arith) (omega arith) ∙ e) in (sym same.0, sym same.1))

-- two items at one head are of one kind and have the same bytes
pub same_head : (r : Receiver) (store : List ℕ) (i : ℕ) {k l : ℕ} {a b : List ℕ} → HeadIs r store i k a → HeadIs r store i l b → (k ≡ l) × (a ≡ b)
same_head r store i x y =
    let long = sym x.length_bytes ∙ y.length_bytes in
    (sym x.kind_byte ∙ y.kind_byte, x.bytes ∙ ap (first_of (λ k. held_byte r store i (3 + k))) long ∙ sym y.bytes)

-- the bytes of an item are bytes, where the store's are
firsts_bytes : (f : ℕ → ℕ) → ((k : ℕ) → f k < 256) → (n : ℕ) → Bytes (first_of f n)
firsts_bytes f each zero k = omega arith
firsts_bytes f each (suc n) zero = each 0
firsts_bytes f each (suc n) (suc k) = firsts_bytes (λ j. f (suc j)) (λ j. each (suc j)) n k

head_is_bytes : (r : Receiver) (store : List ℕ) (i : ℕ) {kind : ℕ} {b : List ℕ} → HeadIs r store i kind b → Bytes store → Bytes b
head_is_bytes r store i {b = b} is bytes = subst Bytes (sym is.bytes) (firsts_bytes (λ k. held_byte r store i (3 + k)) (λ k. bytes _) (length b))

-- ---- one line

-- tells what cannot be an item from the rest
abbrev other : Head → ℕ
other no_item = 0
other nothing = 1
other (packet b) = 2
other (marker n m) = 3

-- nothing; a packet; a marker, in so many bytes; or what cannot be an item
pub data Stands (r : Receiver) (store : List ℕ) (i : ℕ) : Head → Type 0 where
  no_bytes : at r.rings.used i ≡ 0 → Stands r store i nothing
  is_packet_lem : {b : List ℕ} → DataHead r store i b → Stands r store i (packet b)
  is_marker : {round counter : ℕ} (m : MarkerHead r store i round counter) → Stands r store i (marker (length m.bytes) (marker_of i round counter))
  no_head : Stands r store i no_item

-- line i of a valid receiver, over a store that fits
module _ (r : Receiver) (store : List ℕ) (i : ℕ) (good : receiver_ok r ≡ true) (fits : store_fits r store ≡ true) (line : i < r.plan.lines) where
  abbrev size : ℕ
  size = r.rings.size

  abbrev h : Held
  h = held_of r.rings i

  abbrev ring : List ℕ
  ring = ring_of size store i

  abbrev queue : List ℕ
  queue = held ring h.head h.used

  -- byte k of the ring is byte i × S + k of the store
  ring_byte : (k : ℕ) → k < size → get_or ring k 0 ≡ get_or store (i * size + k) 0
  unfolding ring_of
  ring_byte k below = get_or-take size (drop (i * size) store) k 0 below ∙ get_or-drop (i * size) store k 0

  long : length queue ≡ h.used
  long = held_length ring h.head h.used (omega (arith, ((valid r good).held i line).used_most, (place r store i good fits line).ring_size))

  -- and byte k of the queue is the one that the plain words name
  queue_byte : (k : ℕ) → k < h.used → get_or queue k 0 ≡ held_byte r store i k
  queue_byte k below =
      let all = (place r store i good fits line).ring_size in
      let v = (valid r good).held i line in
      let at_place : get_or queue k 0 ≡ get_or ring ((h.head % size + k) % size) 0 =
      rw all at (held_byte_lem ring h.head h.used k (omega (arith, v.used_most, all))) in
      at_place ∙ ap (λ (n : ℕ). get_or ring n 0) (mod-add-mod h.head size k) ∙ ring_byte _ (mod-lt (h.head + k) (omega (arith, v.head_below)))

  -- ---- the item in front

  -- the bytes behind the first three
  abbrev behind : ℕ → List ℕ
  behind n = take n (drop item_head queue)

  front_head : {kind n : ℕ} → front_of queue ≡ Some (kind, n) → HeadIs r store i kind (behind n)
  front_head {kind} {n} e =
      let all = long in
      let tells = front_tells queue e in
      let inside = front_fits queue e in
      let one = queue_byte 1 (omega arith) in
      let two = queue_byte 2 (omega arith) in
      let n-long : length (behind n) ≡ n = length-take-le n (drop item_head queue) (simp length-drop (omega arith)) in
      record {
        fits = omega arith;
        kind_byte = sym (tells.0 ∙ queue_byte 0 (omega arith));
        length_bytes = omega (arith, tells.1);
        bytes = firsts _ (behind n)
            (λ k below. get_or-take n (drop item_head queue) k 0 (omega arith) ∙ get_or-drop item_head queue k 0 ∙ queue_byte (3 + k) (omega arith));
      }

  head_front : {kind : ℕ} {b : List ℕ} → HeadIs r store i kind b → front_of queue ≡ Some (kind, (length b))
  head_front {kind} {b} is =
      let all = long in
      let inside = is.fits in
      let one = queue_byte 1 (omega arith) in
      let two = queue_byte 2 (omega arith) in
      let n-long : told queue ≡ length b = omega (arith, is.length_bytes) in
      sym (all_there queue (omega arith) (omega arith))
      ∙ (λ k. Some ((queue_byte 0 (omega arith) ∙ is.kind_byte) k, n-long k))

  head_bytes : {kind : ℕ} {b : List ℕ} → HeadIs r store i kind b → behind (length b) ≡ b
  head_bytes is = (same_head r store i (front_head (head_front is)) is).1

  -- ---- what a take finds there, from the plain words

  abbrev p : LinePlan
  p = line_plan r.plan i

  abbrev head : Head
  head = head_on p i h ring

  pub empty_head : at r.rings.used i ≡ 0 → head ≡ nothing
  empty_head e = sym (empty_queue p i h ring e)

  item_head_lem : {kind : ℕ} {b : List ℕ} → HeadIs r store i kind b → head ≡ item_on p i kind b
  unfolding head_on
  item_head_lem {kind} is = simp (ne_eqb h.used 0 (λ z. absurd (omega (arith, is.fits))), head_front is) (ap (item_on p i kind) (head_bytes is))

  pub data_head_lem : {b : List ℕ} → DataHead r store i b → head ≡ packet b
  data_head_lem {b} (is, fits) = item_head_lem is ∙ sym (is_data p b (length b) refl fits.0 fits.1 ∙ data_item p i 0 b refl)

  pub marker_head_lem : {round counter : ℕ} (m : MarkerHead r store i round counter) → head ≡ marker (length m.bytes) (marker_of i round counter)
  unfolding marker_on
  marker_head_lem {round} {counter} m =
      let n = marker_of i round counter in
      let b = m.bytes in
      let holds : judge (on_checks i p.quantum n) n ≡ Ok n =
      sym (both_good i p.quantum n (is_in_range 1 counter p.quantum m.in_range.0 m.in_range.1) refl) in
      let is : marker_on i p.quantum b ≡ Ok n = ap (judged (on_checks i p.quantum)) (spelled_reads b i round counter m.spelled) ∙ holds in
      item_head_lem m.head ∙ sym (marker_item p i 1 b (λ z. omega arith) refl) ∙ ap (marker_head (length b)) is

  -- two markers at one head are one
  pub same_marker : {a b c d : ℕ} → MarkerHead r store i a b → MarkerHead r store i c d → (a ≡ c) × (b ≡ d)
  same_marker {a} {b} {c} {d} x y =
      let is : marker (length x.bytes) (marker_of i a b) ≡ marker (length y.bytes) (marker_of i c d) = sym (marker_head_lem x) ∙ marker_head_lem y in
      let one : marker_of i a b ≡ marker_of i c d = cc in
      (ap (λ (m : Marker). m.round) one, ap (λ (m : Marker). m.counter) one)

  -- ---- and back

  item_stands : Bytes store → (kind : ℕ) (b : List ℕ) → HeadIs r store i kind b → Stands r store i (item_on p i kind b)
  unfolding item_on
  item_stands bytes kind b is = go (eqb kind 0) refl (eqb kind 1) refl
    where
      as_data : kind ≡ 0 → (t : Bool) → in_range 1 (length b) p.largest ≡ t → Stands r store i (cond t (packet b) no_item)
      as_data z true e = is_packet_lem (subst (λ (k : ℕ). HeadIs r store i k b) z is, from_range 1 (length b) p.largest e)
      as_data z false e = no_head

      as_marker : kind ≡ 1 → (m : MarkerRead) → marker_on i p.quantum b ≡ m → Stands r store i (marker_head (length b) m)
      as_marker z (Err k) e = no_head
      as_marker z (Ok m) e =
          let on = on_line i p.quantum b m e in
          let own : marker_of i m.round m.counter ≡ m = ap (λ (l : ℕ). marker_of l m.round m.counter) (sym on.3) in
          let spelled = marker_spelled b m (head_is_bytes r store i is bytes) on.0 in
          subst (λ (n : Marker). Stands r store i (marker (length b) n)) own
          (is_marker (record {
            bytes = b;
            head = subst (λ (k : ℕ). HeadIs r store i k b) z is;
            spelled = subst (λ (l : ℕ). MarkerSpelled b l m.round m.counter) on.3 spelled;
            in_range = (on.1, on.2);
          }))

      go : (t : Bool) → eqb kind 0 ≡ t → (u : Bool) → eqb kind 1 ≡ u
          → Stands r store i (cond t (data_head p b) (cond u (marker_head (length b) (marker_on i p.quantum b)) no_item))
      go true e u f = as_data (eqb-true kind 0 e) (in_range 1 (length b) p.largest) refl
      go false e true f = as_marker (eqb-true kind 1 f) (marker_on i p.quantum b) refl
      go false e false f = no_head

  pub stands : Bytes store → Stands r store i head
  unfolding head_on
  stands bytes = go (eqb h.used 0) refl (front_of queue) refl
    where
      go : (t : Bool) → eqb h.used 0 ≡ t → (f : Front) → front_of queue ≡ f → Stands r store i (cond t nothing (front_on p i queue f))
      go true e f q = no_bytes (eqb-true h.used 0 e)
      go false e None q = no_head
      go false e (Some (kind, n)) q = item_stands bytes kind (behind n) (front_head q)

  -- so each of the four is found exactly where it stands
  pub head_nothing : Bytes store → head ≡ nothing → at r.rings.used i ≡ 0
  head_nothing bytes e = go (subst (Stands r store i) e (stands bytes))
    where
      go : Stands r store i nothing → at r.rings.used i ≡ 0
      go (no_bytes z) = z

  pub head_packet : Bytes store → {b : List ℕ} → head ≡ packet b → DataHead r store i b
  head_packet bytes e = go (subst (Stands r store i) e (stands bytes))
    where
      go : {b : List ℕ} → Stands r store i (packet b) → DataHead r store i b
      go (is_packet_lem d) = d

  pub head_marker : Bytes store → {n : ℕ} {m : Marker} → head ≡ marker n m
      → (h : MarkerHead r store i m.round m.counter) × (length h.bytes ≡ n) × (m.line ≡ i)
  head_marker bytes e = go (subst (Stands r store i) e (stands bytes))
    where
      go : {n : ℕ} {m : Marker} → Stands r store i (marker n m)
          → (h : MarkerHead r store i m.round m.counter) × (length h.bytes ≡ n) × (m.line ≡ i)
      go (is_marker h) = (h, refl, refl)

  pub no_item_head : head ≡ no_item → Not (at r.rings.used i ≡ 0) × Not (ItemHead r store i)
  no_item_head e = (
    λ z. omega (arith, ap other (sym (empty_head z) ∙ e)),
    ⊎_elim (λ d. omega (arith, ap other (sym (data_head_lem d.1) ∙ e))) (λ m. omega (arith, ap other (sym (marker_head_lem m.2) ∙ e))),
  )

  pub head_no_item : Bytes store → Not (at r.rings.used i ≡ 0) → Not (ItemHead r store i) → head ≡ no_item
  head_no_item bytes some not_one = go (stands bytes)
    where
      go : {x : Head} → Stands r store i x → x ≡ no_item
      go (no_bytes z) = absurd (some z)
      go (is_packet_lem d) = absurd (not_one (inl (_, d)))
      go (is_marker m) = absurd (not_one (inr (_, _, m)))
      go no_head = refl
