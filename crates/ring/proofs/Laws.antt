-- Laws of a ring. Read from any place on it is a list, `turned` to that place; turns add up modulo the length; and what is laid in at a place
-- is what is read there. Callers cite these and not the definitions' text. Assumes nothing.
use mathlib.Core.Path.{◌≡◌, refl, ap, sym, ◌∙◌}
use mathlib.Core.Bool.{Bool, true, false, cond}
use mathlib.Core.List.{List, [], ◌∷◌, ◌++◌, append_assoc, append-nil}
use mathlib.Core.Logic.{dite}
use Prim.Native.Nat.{ℕ, min, suc, ◌+◌, ◌-◌, ◌*◌, ◌/◌, ◌%◌, ◌≤◌, ◌<◌}
use native.Mathlib.Nat.{zero-add, suc-add, mod-lt, mod_self, mod-mod, mod-eq_of_lt, mod-eq-sub-mod, mod-add-mod}
use native.Mathlib.Decide.{dec_lt}
use native.Mathlib.Omega.{arith}
use lib.Dec.{leb}
use lib.ListN.{length, get_or, take, drop, set, length-append, length-take, length-drop, length-set, take-append-drop, get_or-append}
use lib.Seq.{take_all, take-nil, take_at, take-length, length-take-le, take-take, take-add, take-append-le, take-append-add, take-append_seam, take-suc, take-set-le, take-set-lt, drop-nil, drop-length, drop-drop, drop-append-le, drop-append-add, drop-append_seam, drop_at, drop-cons, drop-set-lt, drop-set-add, sets-eq, set_at, append_snoc, set-append_left, get_or-take, get_or-drop, get_or-append-add}
use borrow.Author.Tests.{leb-true, le-leb, lt-leb}
use Rattle.std.specs.Prelude.{Ok, Some, None}
use Rattle.numbers.specs.Writing.{written}
use Rattle.numbers.proofs.Laws.{written_fits}
use Rattle.plan.specs.Limits.{item_head}
use Rattle.ring.specs.Ring.{turned, from_ring, onto, into_ring, item_bytes, held, room_for, stored, front_of, in_front, Front}

-- ---- turns

pub turned_length : (at : ℕ) (l : List ℕ) → length (turned at l) ≡ length l
turned_length at l = simp (length-append, length-drop, length-take) (omega arith)

-- what a turned list has in front, and behind that
turned_front : (a b : ℕ) (l : List ℕ) → a + b ≤ length l → take b (turned a l) ≡ take b (drop a l)
turned_front a b l h = take-append-le b (drop a l) (take a l) (simp length-drop (omega arith))

turned_behind : (a : ℕ) (l : List ℕ) → drop (length l - a) (turned a l) ≡ take a l
turned_behind a l = drop_at (drop a l) (take a l) (length l - a) (length-drop a l)

-- a turn from a place that does not come to the end, and one that does
turned_on : (a b : ℕ) (l : List ℕ) → a + b ≤ length l → turned b (turned a l) ≡ turned (a + b) l
turned_on a b l h =
    let room : b ≤ length (drop a l) = simp length-drop (omega arith) in
    rw (drop-append-le b (drop a l) (take a l) room, turned_front a b l h, drop-drop, append_assoc, take-add)

turned_round : (a c : ℕ) (l : List ℕ) → a ≤ length l → c ≤ a → turned (length (drop a l) + c) (turned a l) ≡ turned c l
turned_round a c l ha hc =
    let room : c ≤ length (take a l) = simp length-take (omega arith) in
    let joined : drop c (take a l) ++ drop a l ≡ drop c l = sym (drop-append-le c (take a l) (drop a l) room) ∙ ap (drop c) (take-append-drop a l) in
    rw (drop-append-add, take-append-add, take-take c a l hc, ← append_assoc, joined)

-- turns add up modulo the length
pub further : (ring : List ℕ) (head a : ℕ) → a ≤ length ring → turned a (turned (head % length ring) ring) ≡ turned ((head + a) % length ring) ring
further [] head a h = simp (drop-nil, take-nil)
further (x ∷ l) head a h =
    let ring = x ∷ l in
    let at = head % length ring in
    let inside : at < length ring = mod-lt head (omega arith) in
    let same : (at + a) % length ring ≡ (head + a) % length ring = mod-add-mod head (length ring) a in
    dite (dec_lt (at + a) (length ring))
    (λ on. turned_on at a ring (omega arith) ∙ ap (λ (n : ℕ). turned n ring) (sym (mod-eq_of_lt on) ∙ same))
    (λ round.
    let past : length ring ≤ at + a = omega arith in
    let left : a ≡ length (drop at ring) + (at + a - length ring) = omega (arith, length-drop at ring) in
    ap (λ (n : ℕ). turned n (turned at ring)) left ∙ turned_round at (at + a - length ring) ring (omega arith) (omega arith)
    ∙ ap (λ (n : ℕ). turned n ring) (sym (mod-eq-sub-mod past ∙ mod-eq_of_lt (omega arith)) ∙ same))

pub turned_next : (l : List ℕ) (at a : ℕ) → at < length l → a ≤ length l → turned a (turned at l) ≡ turned ((at + a) % length l) l
turned_next l at a inside h = let here : at % length l ≡ at = mod-eq_of_lt inside in rw here at (further l at a h)

-- the rest of a full turn brings all back
pub turned_back : (a : ℕ) (l : List ℕ) → a ≤ length l → turned (length l - a) (turned a l) ≡ l
turned_back a l h =
    let full : a + (length l - a) ≡ length l = omega arith in
    turned_on a (length l - a) l (omega arith) ∙ rw (full, drop-length, take-length)

turned_same : (a : ℕ) (x y : List ℕ) → a ≤ length x → length x ≡ length y → turned a x ≡ turned a y → x ≡ y
turned_same a x y h n e = sym (turned_back a x h) ∙ rw (e, n) (turned_back a y (omega arith))

-- ---- a byte of a turned list

set-append_add : (x y : List ℕ) (i v : ℕ) → set (x ++ y) (length x + i) v ≡ x ++ set y i v
set-append_add [] y i v = rw zero-add
set-append_add (a ∷ x) y i v = rw suc-add (ap (λ (l : List ℕ). a ∷ l) (set-append_add x y i v))

module _ (at i : ℕ) (l : List ℕ) (inside : at < length l) (below : i < length l) where
  -- the place of byte i past the end
  past_end : length l ≤ at + i → (at + i) % length l ≡ at + i - length l
  past_end h = mod-eq-sub-mod h ∙ mod-eq_of_lt (omega arith)

  past_front : length l ≤ at + i → i ≡ length (drop at l) + (at + i - length l)
  past_front h = omega (arith, length-drop at l)

  pub turned_get : get_or (turned at l) i 0 ≡ get_or l ((at + i) % length l) 0
  turned_get =
      dite (dec_lt (at + i) (length l))
      (λ on. get_or-append (drop at l) (take at l) 0 i (simp length-drop (omega arith)) ∙ get_or-drop at l i 0 ∙ rw (mod-eq_of_lt on))
      (λ over.
      let h : length l ≤ at + i = omega arith in
      ap (λ (k : ℕ). get_or (turned at l) k 0) (past_front h) ∙ get_or-append-add (drop at l) (take at l) (at + i - length l) 0
      ∙ get_or-take at l (at + i - length l) 0 (omega arith) ∙ rw (past_end h))

  -- and one that is set
  pub turned_set : (v : ℕ) → turned at (set l ((at + i) % length l) v) ≡ set (turned at l) i v
  turned_set v =
      dite (dec_lt (at + i) (length l))
      (λ on.
      rw (mod-eq_of_lt on, drop-set-add, take-set-le at l (at + i) v (omega arith))
      (sym (set-append_left (drop at l) (take at l) i v (simp length-drop (omega arith)))))
      (λ over.
      let h : length l ≤ at + i = omega arith in
      let j : at + i - length l < at = omega arith in
      rw (past_end h, drop-set-lt at l (at + i - length l) v j, take-set-lt at l (at + i - length l) v j)
      (sym (set-append_add (drop at l) (take at l) (at + i - length l) v) ∙ ap (λ (k : ℕ). set (turned at l) k v) (sym (past_front h))))

-- ---- bytes over the front of others

onto_length : (s d : List ℕ) → length s ≤ length d → length (onto s d) ≡ length d
onto_length s d h = simp (length-append, length-drop) (omega arith)

-- past them all is as it was
onto_past : (s d : List ℕ) (k : ℕ) → length s ≤ k → drop k (onto s d) ≡ drop k d
onto_past s d k h =
    let rest : length s + (k - length s) ≡ k = omega arith in
    rw (← rest, drop-append-add, drop-drop)

pub onto_none : (s d : List ℕ) → length s ≡ 0 → d ≡ onto s d
onto_none [] d h = refl
onto_none (a ∷ s) d h = absurd (omega arith)

-- one byte more
pub onto_next : (s d : List ℕ) (i : ℕ) → i < length s → i < length d → set (onto (take i s) d) i (get_or s i 0) ≡ onto (take (suc i) s) d
onto_next s d i hs hd =
    let n : length (take i s) ≡ i = length-take-le i s (omega arith) in
    let m : length (take (suc i) s) ≡ suc i = length-take-le (suc i) s (omega arith) in
    rw (n, m, drop-cons d i 0 hd, set_at (take i s) (get_or d i 0) (drop (suc i) d) (get_or s i 0) i n, take-suc s i 0 hs, append_snoc)

-- two runs, the second read from where the first ends
onto_both : (a b d : List ℕ) → length a + length b ≤ length d → turned (length a) (onto (a ++ b) d) ≡ onto b (turned (length a) (onto a d))
onto_both a b d h =
    let room : length b ≤ length (drop (length a) d) = simp length-drop (omega arith) in
    simp (append_assoc, length-append, drop-append_seam, take-append_seam, drop-append-le (length b) (drop (length a) d) a room, drop-drop)

-- what a writer leaves that has laid its bytes over the front of the output
pub onto_written : (s out : List ℕ) (n : ℕ) → n ≡ length s → n ≤ length out → (end : List ℕ) → end ≡ onto s out
    → (Ok n ≡ (written s out).answer) × (end ≡ (written s out).out)
onto_written s out n counted fits end e =
    written_fits s out n counted fits end (e ∙ sym (sets-eq s out 0 (omega arith) ∙ simp zero-add))

-- ---- bytes read from a place on

-- of no bytes
pub from_none : (ring : List ℕ) (at : ℕ) (out : List ℕ) → out ≡ onto (from_ring ring at 0) out
unfolding from_ring
from_none ring at out = refl

-- one byte more
pub from_next : (ring out : List ℕ) (at i : ℕ) → at < length ring → i < length ring → i < length out
    → set (onto (from_ring ring at i) out) i (get_or ring ((at + i) % length ring) 0) ≡ onto (from_ring ring at (suc i)) out
unfolding from_ring
from_next ring out at i inside below room =
    rw (← turned_get at i ring inside below) (onto_next (turned at ring) out i (omega (arith, turned_length at ring)) room)

-- a run up to the ring's end, and what is left from its start
pub from_runs : (ring : List ℕ) (at n : ℕ) → at ≤ length ring → n ≤ length ring
    → from_ring ring at n ≡ take (min n (length ring - at)) (drop at ring) ++ take (n - min n (length ring - at)) ring
unfolding from_ring
from_runs ring at n inside most =
    let d : length (drop at ring) ≡ length ring - at = length-drop at ring in
    dite (dec_lt (length ring - at) n)
    (λ over.
    let first : min n (length ring - at) ≡ length (drop at ring) = omega arith in
    let left : n ≡ length (drop at ring) + (n - length (drop at ring)) = omega arith in
    rw (first, take-length)
    (ap (λ (k : ℕ). take k (turned at ring)) left ∙ take-append-add (drop at ring) (take at ring) (n - length (drop at ring))
    ∙ ap (λ (l : List ℕ). drop at ring ++ l) (take-take (n - length (drop at ring)) at ring (omega arith))))
    (λ straight.
    let all : min n (length ring - at) ≡ n = omega arith in
    let none : n - n ≡ 0 = omega arith in
    rw (all, none) (turned_front at n ring (omega arith) ∙ sym (append-nil (take n (drop at ring)))))

-- there are no more than all of them
pub from_most : (ring : List ℕ) (at n : ℕ) → from_ring ring at (min n (length ring)) ≡ from_ring ring at n
unfolding from_ring
from_most ring at n =
    let all = turned_length at ring in
    dite (dec_lt n (length ring))
    (λ h. let e : min n (length ring) ≡ n = omega arith in rw e)
    (λ h. take_all (min n (length ring)) (turned at ring) (omega arith) ∙ sym (take_all n (turned at ring) (omega arith)))

-- ---- what is laid in

module _ (ring : List ℕ) (at : ℕ) (s : List ℕ) (inside : at ≤ length ring) (fits : length s ≤ length ring) where
  whole : length (onto s (turned at ring)) ≡ length ring
  whole = onto_length s (turned at ring) (omega (arith, turned_length at ring)) ∙ turned_length at ring

  pub into_length : length (into_ring ring at s) ≡ length ring
  unfolding into_ring
  into_length = turned_length (length ring - at) (onto s (turned at ring)) ∙ whole

  -- it is read where it was laid
  pub into_turned : turned at (into_ring ring at s) ≡ onto s (turned at ring)
  unfolding into_ring
  into_turned =
      let w = whole in
      let back : length (onto s (turned at ring)) - (length ring - at) ≡ at = omega arith in
      rw back at (turned_back (length ring - at) (onto s (turned at ring)) (omega arith))

  -- and only so
  pub into_only : (new : List ℕ) → length new ≡ length ring → turned at new ≡ onto s (turned at ring) → new ≡ into_ring ring at s
  unfolding into_ring
  into_only new n e = sym (turned_back at new (omega arith)) ∙ rw (n, e)

-- no bytes
pub into_none : (ring : List ℕ) (at : ℕ) → at ≤ length ring → ring ≡ into_ring ring at []
into_none ring at inside = into_only ring at [] inside (omega arith) ring refl refl

-- one byte more
pub into_next : (ring : List ℕ) (at : ℕ) (s : List ℕ) (i : ℕ) → at < length ring → length s ≤ length ring → i < length s
    → set (into_ring ring at (take i s)) ((at + i) % length ring) (get_or s i 0) ≡ into_ring ring at (take (suc i) s)
into_next ring at s i inside fits h =
    let now = into_ring ring at (take i s) in
    let part : length (take i s) ≤ length ring = simp length-take (omega arith) in
    let more : length (take (suc i) s) ≤ length ring = simp length-take (omega arith) in
    let n : length now ≡ length ring = into_length ring at (take i s) (omega arith) part in
    into_only ring at (take (suc i) s) (omega arith) more (set now ((at + i) % length ring) (get_or s i 0)) (simp length-set n)
    (ap (λ (k : ℕ). turned at (set now ((at + i) % k) (get_or s i 0))) (sym n) ∙ turned_set at i now (omega arith) (omega arith) (get_or s i 0)
    ∙ ap (λ (l : List ℕ). set l i (get_or s i 0)) (into_turned ring at (take i s) (omega arith) part)
    ∙ onto_next s (turned at ring) i h (omega (arith, turned_length at ring)))

-- a run that does not come to the ring's end
into_straight : (ring : List ℕ) (at : ℕ) (s : List ℕ) → at + length s ≤ length ring → take at ring ++ onto s (drop at ring) ≡ into_ring ring at s
into_straight ring at s fits =
    let front : length (take at ring) ≡ at = length-take-le at ring (omega arith) in
    let room : length s ≤ length (drop at ring) = simp length-drop (omega arith) in
    let new = take at ring ++ onto s (drop at ring) in
    let n : length new ≡ length ring =
    length-append (take at ring) (onto s (drop at ring)) ∙ omega (arith, onto_length s (drop at ring) room, length-drop at ring) in
    into_only ring at s (omega arith) (omega arith) new n
    (rw (drop_at (take at ring) (onto s (drop at ring)) at front, take_at (take at ring) (onto s (drop at ring)) at front, append_assoc)
    (ap (λ (l : List ℕ). s ++ l) (sym (drop-append-le (length s) (drop at ring) (take at ring) room))))

-- what is laid in behind what was laid in
pub into_both : (ring : List ℕ) (at : ℕ) (a b : List ℕ) → at < length ring → length a + length b ≤ length ring
    → into_ring (into_ring ring at a) ((at + length a) % length ring) b ≡ into_ring ring at (a ++ b)
into_both ring at a b inside fits =
    let size = length ring in
    let was = turned at ring in
    let half = into_ring ring at a in
    let next = (at + length a) % size in
    let full = into_ring half next b in
    let r : length was ≡ size = turned_length at ring in
    let n : length half ≡ size = into_length ring at a (omega arith) (omega arith) in
    let m : next < size = mod-lt (at + length a) (omega arith) in
    let k : length full ≡ size = into_length half next b (omega arith) (omega arith) ∙ n in
    let o : length (onto (a ++ b) was) ≡ size = onto_length (a ++ b) was (omega (arith, length-append a b)) ∙ r in
    let first : turned (length a) (turned at half) ≡ turned next half = rw n at (turned_next half at (length a) (omega arith) (omega arith)) in
    let second : turned (length a) (turned at full) ≡ turned next full = rw k at (turned_next full at (length a) (omega arith) (omega arith)) in
    let there : turned next half ≡ turned (length a) (onto a was) = sym first ∙ ap (turned (length a)) (into_turned ring at a (omega arith) (omega arith)) in
    let laid : turned next full ≡ onto b (turned (length a) (onto a was)) = into_turned half next b (omega arith) (omega arith) ∙ ap (onto b) there in
    into_only ring at (a ++ b) (omega arith) (simp length-append (omega arith)) full k
    (turned_same (length a) (turned at full) (onto (a ++ b) was) (omega (arith, turned_length at full)) (turned_length at full ∙ k ∙ sym o)
    (second ∙ laid ∙ sym (onto_both a b was (omega arith))))

-- a run up to the ring's end, and what is left from its start
pub into_runs : (ring : List ℕ) (at first : ℕ) (s : List ℕ) → at < length ring → length s ≤ length ring → first ≡ min (length s) (length ring - at)
    → onto (drop first s) (take at ring ++ onto (take first s) (drop at ring)) ≡ into_ring ring at s
into_runs ring at first s inside most e =
    let size = length ring in
    let n : length (take first s) ≡ first = length-take-le first s (omega arith) in
    let m : length (drop first s) ≡ length s - first = length-drop first s in
    let half = into_ring ring at (take first s) in
    let straight : take at ring ++ onto (take first s) (drop at ring) ≡ half = into_straight ring at (take first s) (omega arith) in
    dite (dec_lt first (length s))
    (λ over.
    let full : at + length (take first s) ≡ size = omega arith in
    let start : (at + length (take first s)) % size ≡ 0 = rw full (mod_self size) in
    let k : length half ≡ size = into_length ring at (take first s) (omega arith) (omega arith) in
    ap (onto (drop first s)) straight ∙ into_straight half 0 (drop first s) (omega arith)
    ∙ ap (λ (p : ℕ). into_ring half p (drop first s)) (sym start)
    ∙ into_both ring at (take first s) (drop first s) inside (omega arith) ∙ ap (into_ring ring at) (take-append-drop first s))
    (λ all.
    sym (onto_none (drop first s) (take at ring ++ onto (take first s) (drop at ring)) (omega arith)) ∙ straight
    ∙ ap (into_ring ring at) (take_all first s (omega arith)))

-- ---- what a ring holds

pub held_most : (ring : List ℕ) (head used : ℕ) → length (held ring head used) ≡ min used (length ring)
unfolding held from_ring
held_most ring head used = length-take used (turned (head % length ring) ring) ∙ ap (min used) (turned_length (head % length ring) ring)

pub held_length : (ring : List ℕ) (head used : ℕ) → used ≤ length ring → length (held ring head used) ≡ used
held_length ring head used h = held_most ring head used ∙ omega arith

pub held_byte_lem : (ring : List ℕ) (head used k : ℕ) → k < min used (length ring)
    → get_or (held ring head used) k 0 ≡ get_or ring ((head % length ring + k) % length ring) 0
unfolding held from_ring
held_byte_lem ring head used k h =
    get_or-take used (turned (head % length ring) ring) k 0 (omega arith) ∙ turned_get (head % length ring) k ring (mod-lt head (omega arith)) (omega arith)

-- a byte of an item's head, as it is copied to the front of others
pub held_front : (ring : List ℕ) (head used k : ℕ) (over : List ℕ) → k < item_head → item_head ≤ min used (length ring)
    → get_or (onto (from_ring ring (head % length ring) item_head) over) k 0 ≡ get_or (held ring head used) k 0
unfolding held from_ring
held_front ring head used k over h most =
    let l = turned (head % length ring) ring in
    let long : k < length (take item_head l) = omega (arith, length-take item_head l, turned_length (head % length ring) ring) in
    get_or-append (take item_head l) (drop (length (take item_head l)) over) 0 k long ∙ get_or-take item_head l k 0 h
    ∙ sym (get_or-take used l k 0 (omega arith))

-- a place is the same a full turn on
pub held_mod : (ring : List ℕ) (head used : ℕ) → held ring (head % length ring) used ≡ held ring head used
unfolding held
held_mod ring head used = rw mod-mod

pub held_take : (ring : List ℕ) (head n used : ℕ) → n ≤ used → take n (held ring head used) ≡ held ring head n
unfolding held from_ring
held_take ring head n used h = take-take n used (turned (head % length ring) ring) h

-- the oldest bytes, and those behind them
pub pop : (ring : List ℕ) (head a b : ℕ) → a + b ≤ length ring → held ring head (a + b) ≡ held ring head a ++ held ring ((head + a) % length ring) b
unfolding held from_ring
pop ring head a b h =
    let now = turned (head % length ring) ring in
    let n : length now ≡ length ring = turned_length (head % length ring) ring in
    let front : take b (turned a now) ≡ take b (drop a now) = turned_front a b now (omega arith) in
    take-add a b now ∙ ap (λ (l : List ℕ). take a now ++ l) (sym front ∙ ap (take b) (further ring head a (omega arith)) ∙ rw mod-mod)

pub held_drop : (ring : List ℕ) (head used a : ℕ) → a ≤ used → used ≤ length ring
    → drop a (held ring head used) ≡ held ring ((head + a) % length ring) (used - a)
held_drop ring head used a h fits =
    let parts : a + (used - a) ≡ used = omega arith in
    let two = rw parts at (pop ring head a (used - a) (omega arith)) in
    ap (drop a) two ∙ drop_at (held ring head a) (held ring ((head + a) % length ring) (used - a)) a (held_length ring head a (omega arith))

-- ---- an item

pub item_length : (kind : ℕ) (b : List ℕ) → length (item_bytes kind b) ≡ item_head + length b
item_length kind b = omega arith

-- behind the first bytes of a list that is turned to the place behind them
laid_behind : (used : ℕ) (s x y : List ℕ) → length y ≡ length x → used + length s ≤ length x → turned used y ≡ onto s (turned used x)
    → take (used + length s) y ≡ take used x ++ s
laid_behind used s x y n h e =
    let past : drop (length x - used) (turned used y) ≡ take used x = rw e (onto_past s (turned used x) (length x - used) (omega arith) ∙ turned_behind used x) in
    let old : take used y ≡ take used x = sym (rw n at (turned_behind used y)) ∙ past in
    let new : take (length s) (drop used y) ≡ s = sym (turned_front used (length s) y (omega arith)) ∙ rw (e, take-append_seam) in
    rw (take-add, old, new)

pub has_room : (size used n : ℕ) → item_head + n ≤ size - used → true ≡ room_for size used n
has_room size used n h = sym (le-leb (item_head + n) (size - used) h)

pub no_room : (size used n : ℕ) → size - used < item_head + n → false ≡ room_for size used n
no_room size used n h = sym (lt-leb (item_head + n) (size - used) h)

module _ (ring : List ℕ) (head used kind : ℕ) (b : List ℕ) where
  pub stored_length : item_head + length b ≤ length ring - used → length (stored ring head used kind b) ≡ length ring
  unfolding stored
  stored_length h =
      let place : (head + used) % length ring < length ring = mod-lt (head + used) (omega arith) in
      into_length ring ((head + used) % length ring) (item_bytes kind b) (omega arith) (omega arith)

  -- an item goes in behind what the ring holds
  pub push : used + (item_head + length b) ≤ length ring
      → held (stored ring head used kind b) head (used + (item_head + length b)) ≡ held ring head used ++ item_bytes kind b
  unfolding held from_ring stored
  push h =
      let size = length ring in
      let item = item_bytes kind b in
      let at = (head + used) % size in
      let new = into_ring ring at item in
      let x = turned (head % size) ring in
      let y = turned (head % size) new in
      let place : at < size = mod-lt (head + used) (omega arith) in
      let n : length new ≡ size = into_length ring at item (omega arith) (omega arith) in
      let m : length x ≡ size = turned_length (head % size) ring in
      let now : turned used y ≡ turned at new = rw n at (further new head used (omega arith)) in
      let was : turned used x ≡ turned at ring = further ring head used (omega arith) in
      let laid : turned used y ≡ onto item (turned used x) = now ∙ into_turned ring at item (omega arith) (omega arith) ∙ ap (onto item) (sym was) in
      rw (n, ← item_length kind b) (laid_behind used item x y (turned_length (head % size) new ∙ n ∙ sym m) (omega arith) laid)

-- the bytes of the item in front
pub in_front_lem : (ring : List ℕ) (head used n : ℕ) → item_head + n ≤ used → used ≤ length ring
    → in_front ring head n ≡ take n (drop item_head (held ring head used))
unfolding held
in_front_lem ring head used n h fits =
    let next = (head + item_head) % length ring in
    let behind : drop item_head (held ring head used) ≡ held ring next (used - item_head) = held_drop ring head used item_head (omega arith) fits in
    sym (ap (take n) behind ∙ held_take ring next n (used - item_head) (omega arith) ∙ held_mod ring (head + item_head) n)

pub in_front_most : (ring : List ℕ) (head n : ℕ) → length (in_front ring head n) ≡ min n (length ring)
unfolding held
in_front_most ring head n = held_most ring (head + item_head) n

pub in_front_length : (ring : List ℕ) (head n : ℕ) → n ≤ length ring → length (in_front ring head n) ≡ n
in_front_length ring head n h = in_front_most ring head n ∙ omega arith

-- ---- the item in front

-- the length that the second and the third byte tell
abbrev pub told : List ℕ → ℕ
told s = get_or s 1 0 + get_or s 2 0 * 256

pub too_few : (s : List ℕ) → length s < item_head → None ≡ front_of s
unfolding front_of
too_few [] h = refl
too_few (kind ∷ []) h = refl
too_few (kind ∷ low ∷ []) h = refl
too_few (kind ∷ low ∷ high ∷ rest) h = absurd (omega arith)

pub cut_short : (s : List ℕ) → item_head ≤ length s → length s - item_head < told s → None ≡ front_of s
unfolding front_of
cut_short [] h k = absurd (omega arith)
cut_short (kind ∷ []) h k = absurd (omega arith)
cut_short (kind ∷ low ∷ []) h k = absurd (omega arith)
cut_short (kind ∷ low ∷ high ∷ rest) h k = simp (lt-leb (low + high * 256) (length rest) (omega arith))

pub all_there : (s : List ℕ) → item_head ≤ length s → told s ≤ length s - item_head → Some ((get_or s 0 0), (told s)) ≡ front_of s
unfolding front_of
all_there [] h k = absurd (omega arith)
all_there (kind ∷ []) h k = absurd (omega arith)
all_there (kind ∷ low ∷ []) h k = absurd (omega arith)
all_there (kind ∷ low ∷ high ∷ rest) h k = simp (le-leb (low + high * 256) (length rest) (omega arith))

-- and as the code has its kind and length
pub there : (s : List ℕ) (kind n : ℕ) → kind ≡ get_or s 0 0 → n ≡ told s → item_head ≤ length s → n ≤ length s - item_head → Some (kind, n) ≡ front_of s
there s kind n e f h k = rw (e, f) (all_there s h (omega arith))

-- an item in front, of that kind and length
abbrev item_front : ℕ → ℕ → Front
item_front kind n = Some (kind, n)

-- it is there as a whole
pub front_fits : (s : List ℕ) {kind n : ℕ} → front_of s ≡ Some (kind, n) → item_head + n ≤ length s
unfolding front_of
front_fits [] e = absurd (let z : ◌≡◌ {A = ℕ} 0 1 = cc in omega arith)
front_fits (kind ∷ []) e = absurd (let z : ◌≡◌ {A = ℕ} 0 1 = cc in omega arith)
front_fits (kind ∷ low ∷ []) e = absurd (let z : ◌≡◌ {A = ℕ} 0 1 = cc in omega arith)
front_fits (first ∷ low ∷ high ∷ rest) {kind} {n} e = go (leb (low + high * 256) (length rest)) refl e
  where
    go : (t : Bool) → leb (low + high * 256) (length rest) ≡ t → cond {A = Front} t (Some (first, low + high * 256)) None ≡ Some (kind, n)
        → item_head + n ≤ length (first ∷ low ∷ high ∷ rest)
    go true h e = let pair : ◌≡◌ {A = ℕ × ℕ} (first, low + high * 256) (kind, n) = cc in omega (arith, ap (λ (x : ℕ × ℕ). x.1) pair, leb-true (low + high * 256) (length rest) h)
    go false h e = absurd (let z : ◌≡◌ {A = ℕ} 0 1 = cc in omega arith)

-- an item is read as it was laid, whatever follows
module _ (kind : ℕ) (b rest : List ℕ) where
  pub front_item : length b < 65536 → front_of (item_bytes kind b ++ rest) ≡ Some (kind, length b)
  front_item short =
      let both : length b % 256 + length b / 256 % 256 * 256 ≡ length b = omega arith in
      let n : length (b ++ rest) ≡ length b + length rest = length-append b rest in
      sym (all_there (item_bytes kind b ++ rest) (omega arith) (omega arith)) ∙ ap (λ (n : ℕ). item_front kind n) both

  pub front_bytes : take (length b) (drop item_head (item_bytes kind b ++ rest)) ≡ b
  front_bytes = take-append_seam b rest

  pub front_rest : drop (item_head + length b) (item_bytes kind b ++ rest) ≡ rest
  front_rest = drop_at (item_bytes kind b) rest (item_head + length b) (item_length kind b)
