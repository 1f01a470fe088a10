-- What a ring promises: it is a queue of items, first in, first out, and reads back as exactly what was stored. Assumes nothing.
use mathlib.Core.Path.{◌≡◌, refl, ap, sym, ◌∙◌}
use mathlib.Core.List.{List, [], ◌∷◌, ◌++◌, append_assoc, append-nil}
use Prim.Native.Nat.{ℕ, zero, suc, ◌+◌, ◌-◌, ◌%◌, ◌≤◌, ◌<◌}
use native.Mathlib.Omega.{arith}
use lib.ListN.{length, take, drop, length-append}
use Rattle.plan.specs.Limits.{item_head}
use Rattle.std.specs.Prelude.{Some}
use Rattle.ring.specs.Ring.{from_ring, into_ring, item_bytes, held, stored, front_of, in_front}
use Rattle.ring.specs.Queue.{Entry, entry, and_more, items_in, queue, row_of, Short, Holds}
use Rattle.ring.proofs.Laws.{held_length, held_drop, stored_length, push, in_front_lem, front_item, front_bytes, front_rest}

row_append : (es fs : List Entry) → row_of (es ++ fs) ≡ row_of es ++ row_of fs
unfolding row_of
row_append [] fs = refl
row_append (e ∷ es) fs =
    ap (λ (l : List ℕ). item_bytes e.kind e.bytes ++ l) (row_append es fs) ∙ sym (append_assoc (item_bytes e.kind e.bytes) (row_of es) (row_of fs))

short_append : (es fs : List Entry) → Short es → Short fs → Short (es ++ fs)
short_append [] fs h k = k
short_append (e ∷ es) fs h k = (h.0, short_append es fs h.1 k)

-- an item stored where there is room comes last
pub storing_appends : (ring : List ℕ) (head used kind : ℕ) (b : List ℕ) (es : List Entry) → Holds ring head used es
    → item_head + length b ≤ length ring - used → length b < 65536
    → Holds (stored ring head used kind b) head (used + (item_head + length b)) (es ++ (entry kind b ∷ []))
unfolding row_of
storing_appends ring head used kind b es h room short = record {
  fits = omega (arith, stored_length ring head used kind b room);
  row = push ring head used kind b (omega arith) ∙ ap (λ (l : List ℕ). l ++ item_bytes kind b) h.row
      ∙ sym (row_append es (entry kind b ∷ []) ∙ simp append-nil);
  short = short_append es (entry kind b ∷ []) h.short (short, tt);
}

-- the item in front is the oldest, and without it the ring holds the others
pub taking_drops : (ring : List ℕ) (head used : ℕ) (e : Entry) (es : List Entry) → Holds ring head used (e ∷ es)
    → (front_of (held ring head used) ≡ Some (e.kind, (length e.bytes)))
    × (in_front ring head (length e.bytes) ≡ e.bytes)
    × (item_head + length e.bytes ≤ used)
    × Holds ring ((head + (item_head + length e.bytes)) % length ring) (used - (item_head + length e.bytes)) es
unfolding row_of
taking_drops ring head used e es h =
    let n = length e.bytes in
    let row : held ring head used ≡ item_bytes e.kind e.bytes ++ row_of es = h.row in
    let whole : used ≡ item_head + n + length (row_of es) =
    sym (held_length ring head used h.fits) ∙ ap length row ∙ length-append (item_bytes e.kind e.bytes) (row_of es) ∙ omega arith in
    let within : item_head + n ≤ used = omega arith in (
      ap front_of row ∙ front_item e.kind e.bytes (row_of es) h.short.0,
      in_front_lem ring head used n within h.fits ∙ ap (λ (s : List ℕ). take n (drop item_head s)) row ∙ front_bytes e.kind e.bytes (row_of es),
      within,
      record {
        fits = omega (arith, h.fits);
        row = sym (held_drop ring head used (item_head + n) within h.fits) ∙ ap (drop (item_head + n)) row ∙ front_rest e.kind e.bytes (row_of es);
        short = h.short.1;
      },
    )

items_back : (most : ℕ) (es : List Entry) → Short es → length (row_of es) ≤ most → items_in most (row_of es) ≡ es
unfolding items_in row_of front_of
items_back zero [] h n = refl
items_back (suc most) [] h n = refl
items_back zero (e ∷ es) h n = absurd (omega arith)
items_back (suc most) (e ∷ es) h n =
    let s = item_bytes e.kind e.bytes ++ row_of es in
    let long : length s ≡ item_head + length e.bytes + length (row_of es) = length-append (item_bytes e.kind e.bytes) (row_of es) ∙ omega arith in
    ap (and_more s (items_in most)) (front_item e.kind e.bytes (row_of es) h.0)
    ∙ ap (λ (b : List ℕ). entry e.kind b ∷ items_in most (drop (item_head + length e.bytes) s)) (front_bytes e.kind e.bytes (row_of es))
    ∙ ap (λ (r : List ℕ). e ∷ items_in most r) (front_rest e.kind e.bytes (row_of es))
    ∙ ap (λ (fs : List Entry). e ∷ fs) (items_back most es h.1 (omega arith))

-- the queue, read as items, is what was stored, in order
pub read_back : (ring : List ℕ) (head used : ℕ) (es : List Entry) → Holds ring head used es → queue ring head used ≡ es
unfolding queue
read_back ring head used es h =
    ap (items_in used) h.row ∙ items_back used es h.short (omega (arith, held_length ring head used h.fits, ap length h.row))

-- ---- across the end, computed

-- twelve bytes, three in use from place 6: an item of kind 1 with no bytes
abbrev before : List ℕ
before = 90 ∷ 91 ∷ 92 ∷ 93 ∷ 94 ∷ 95 ∷ 1 ∷ 0 ∷ 0 ∷ 99 ∷ 80 ∷ 81 ∷ []

-- a data item of four bytes goes to places 9 to 11 and 0 to 3
abbrev after : List ℕ
after = 11 ∷ 12 ∷ 13 ∷ 14 ∷ 94 ∷ 95 ∷ 1 ∷ 0 ∷ 0 ∷ 0 ∷ 4 ∷ 0 ∷ []

pub across_the_end :
    (stored before 6 3 0 (11 ∷ 12 ∷ 13 ∷ 14 ∷ []) ≡ after)
    × (queue after 6 10 ≡ entry 1 [] ∷ entry 0 (11 ∷ 12 ∷ 13 ∷ 14 ∷ []) ∷ [])
    × (in_front after 9 4 ≡ 11 ∷ 12 ∷ 13 ∷ 14 ∷ [])
unfolding stored into_ring queue items_in front_of held from_ring
across_the_end = (refl, refl, refl)
