-- The laws of the store's parts: where a line's ring lies, how it is lent and comes back, and that a ring which is replaced is there and the
-- other lines' rings are as they were. Assumes nothing.
use mathlib.Core.Path.{◌≡◌, ap, sym, ◌∙◌}
use Prim.Native.Nat.{ℕ, ◌+◌, ◌-◌, ◌*◌, ◌≤◌, ◌<◌}
use native.Mathlib.Decide.{dec_lt}
use native.Mathlib.Nat.{mul-le-mul}
use native.Mathlib.Omega.{arith}
use mathlib.Core.Bool.{true}
use mathlib.Core.List.{List, ◌++◌, append_assoc}
use mathlib.Core.Logic.{dite}
use lib.ListN.{length, take, drop, length-append, length-drop, take-append-drop}
use lib.Seq.{length-take-le, take-append-le, take_at, drop_at, drop-append-le, drop-append-add, drop-drop}
use borrow.Author.Tests.{eqb-true}
use Rattle.plan.specs.Limits.{most_lines, most_store}
use Rattle.plan.proofs.Laws.{in_range_lem}
use Rattle.receiving.specs.declared.Receiver.{Receiver}
use Rattle.receiving.specs.Receiver.{receiver_ok, store_fits, ring_of, with_ring}
use Rattle.receiving.proofs.Laws.{valid, sized, ring_inside, ring_length}

-- ---- the place of a ring

-- a valid state has few rings, and small ones
pub few_rings : (r : Receiver) → receiver_ok r ≡ true → (r.plan.lines ≤ most_lines) × (r.rings.size ≤ most_store)
few_rings r good = let v = valid r good in ((in_range_lem r.plan v.plan).few_lines, (sized r.plan r.rings.size v.store).most)

-- line i of a valid state over a store of the right length
pub record Place (r : Receiver) (store : List ℕ) (i : ℕ) : Type 0 where
  pub is_line : i < most_lines
  pub size_most : r.rings.size ≤ most_store
  pub ring_ends : i * r.rings.size + r.rings.size ≤ length store
  pub store_most : length store ≤ most_lines * most_store
  pub ring_size : length (ring_of r.rings.size store i) ≡ r.rings.size

pub place : (r : Receiver) (store : List ℕ) (i : ℕ) → receiver_ok r ≡ true → store_fits r store ≡ true → i < r.plan.lines → Place r store i
place r store i good fits line =
    let few = few_rings r good in
    let bytes : length store ≡ r.plan.lines * r.rings.size = eqb-true _ _ fits in
    let all : r.plan.lines * r.rings.size ≤ most_lines * most_store = mul-le-mul few.0 few.1 in
    record {
      is_line = omega (arith, few.0);
      size_most = few.1;
      ring_ends = omega (arith, ring_inside r.plan.lines r.rings.size i line);
      store_most = omega arith;
      ring_size = ring_length r.plan.lines r.rings.size store i line bytes;
    }

-- ---- a ring, lent from its start to its end

module _ (size : ℕ) (store : List ℕ) (start : ℕ) where
  abbrev pub lent : List ℕ
  lent = take (start + size - start) (drop start store)

  -- the store, once the lent bytes have come back as these
  abbrev pub back : List ℕ → List ℕ
  back ring = take start store ++ (ring ++ drop (start + size - start) (drop start store))

  module _ (i : ℕ) (starts : start ≡ i * size) where
    pub lent_is : lent ≡ ring_of size store i
    unfolding ring_of
    lent_is =
        let n : start + size - start ≡ size = omega arith in
        ap (λ (k : ℕ). take k (drop start store)) n ∙ ap (λ (k : ℕ). take size (drop k store)) starts

    pub back_is : (ring : List ℕ) → back ring ≡ with_ring size store i ring
    unfolding with_ring
    back_is ring =
        let n : start + (start + size - start) ≡ i * size + size = omega arith in
        ap (λ (s : List ℕ). take start store ++ (ring ++ s)) (drop-drop (start + size - start) start store ∙ ap (λ (k : ℕ). drop k store) n)
        ∙ ap (λ (k : ℕ). take k store ++ (ring ++ drop (i * size + size) store)) starts
        ∙ sym (append_assoc (take (i * size) store) ring (drop (i * size + size) store))

    pub back_same : back lent ≡ store
    back_same =
        ap (λ (s : List ℕ). take start store ++ s) (take-append-drop (start + size - start) (drop start store)) ∙ take-append-drop start store

-- ---- a ring that is replaced

-- a ring that ends within the front of a store, and one that begins behind it
ring_in_front : (size j : ℕ) (front rest : List ℕ) → j * size + size ≤ length front → ring_of size (front ++ rest) j ≡ ring_of size front j
unfolding ring_of
ring_in_front size j front rest h =
    ap (take size) (drop-append-le (j * size) front rest (omega arith))
    ∙ take-append-le size (drop (j * size) front) rest (simp length-drop (omega arith))

ring_behind : (size j n : ℕ) (front store : List ℕ) → length front ≡ n → n ≤ j * size → ring_of size (front ++ drop n store) j ≡ ring_of size store j
unfolding ring_of
ring_behind size j n front store long h =
    let past : length front + (j * size - n) ≡ j * size = omega arith in
    let sum : n + (j * size - n) ≡ j * size = omega arith in
    ap (take size)
    (ap (λ (k : ℕ). drop k (front ++ drop n store)) (sym past) ∙ drop-append-add front (drop n store) (j * size - n) ∙ drop-drop (j * size - n) n store
    ∙ ap (λ (k : ℕ). drop k store) sum)

module _ (lines size : ℕ) (store : List ℕ) (fits : length store ≡ lines * size) (i : ℕ) (line : i < lines) (ring : List ℕ) (long : length ring ≡ size) where
  front_length : length (take (i * size) store) ≡ i * size
  front_length = length-take-le (i * size) store (omega (arith, ring_inside lines size i line))

  both_length : length (take (i * size) store ++ ring) ≡ i * size + size
  both_length = length-append (take (i * size) store) ring ∙ omega (arith, front_length)

  pub with_length : length (with_ring size store i ring) ≡ length store
  unfolding with_ring
  with_length =
      length-append (take (i * size) store ++ ring) (drop (i * size + size) store)
      ∙ omega (arith, both_length, length-drop (i * size + size) store, ring_inside lines size i line)

  pub ring_here : ring_of size (with_ring size store i ring) i ≡ ring
  unfolding ring_of with_ring
  ring_here =
      let rest = drop (i * size + size) store in
      ap (λ (s : List ℕ). take size (drop (i * size) s)) (append_assoc (take (i * size) store) ring rest)
      ∙ ap (take size) (drop_at (take (i * size) store) (ring ++ rest) (i * size) front_length)
      ∙ take_at ring rest size long

  pub ring_other : (j : ℕ) → j < lines → (j ≡ i → ⊥) → ring_of size (with_ring size store i ring) j ≡ ring_of size store j
  unfolding with_ring
  ring_other j other apart =
      let front = take (i * size) store in
      dite (dec_lt j i)
      (λ before.
      let ends : j * size + size ≤ length front = omega (arith, front_length, ring_inside i size j before) in
      ap (λ (s : List ℕ). ring_of size s j) (append_assoc front ring (drop (i * size + size) store))
      ∙ ring_in_front size j front (ring ++ drop (i * size + size) store) ends
      ∙ sym (ring_in_front size j front (drop (i * size) store) ends)
      ∙ ap (λ (s : List ℕ). ring_of size s j) (take-append-drop (i * size) store))
      (λ behind.
      let past : i < j = omega arith in
      ring_behind size j (i * size + size) (front ++ ring) store both_length (ring_inside j size i past))
