-- The laws of reading a line's numbers, byte by byte. Assumes nothing.
use borrow.Author.Tests.{eqb-false, le-leb, lt-leb, le-ltb, lt-ltb, eq-eqb, ne_eqb}
use native.Mathlib.Numerals.{add-one}
use native.Mathlib.Nat.{pow-suc, pow-le-pow_right}
use native.Mathlib.Omega.{arith}
use mathlib.Core.Path.{◌≡◌, refl, ap, sym, ◌∙◌}
use mathlib.Core.Bool.{Bool, true, false, ◌&&◌, ◌||◌, cond}
use mathlib.Core.List.{List, [], ◌∷◌, ◌++◌}
use Rattle.std.specs.Prelude.{Some, None}
use Prim.Native.Nat.{ℕ, suc, ◌+◌, ◌-◌, ◌*◌, ◌^◌, ◌≤◌, ◌<◌}
use lib.Dec.{ltb, leb, eqb}
use lib.ListN.{length, get_or, take, drop, set, replicate, length-append, length-set, length-take, drop_of_length-le, take-append-drop}
use lib.Seq.{drop-cons, drop-drop, drop-set-lt, take-suc-set, length-take-le}
use Rattle.numbers.proofs.Checks.{never, from_range}
use Rattle.text.specs.Text.{space, is_digit, most_digits, numbers, bad_text, said_from}
use Rattle.text.specs.Rows.{most_numbers, row_of}

-- a full row and one more number are too many
row_over : (rest before : List ℕ) (k v : ℕ) → most_numbers ≤ length before → None ≡ row_of (said_from before k v rest)
unfolding row_of said_from
row_over [] before k v h = go (leb 1 k)
  where
    go : (t : Bool) → None ≡ row_of (cond t (numbers (before ++ (v ∷ []))) bad_text)
    go true = let over : most_numbers < length (before ++ (v ∷ [])) = simp length-append (omega arith) in simp (lt-leb (length (before ++ (v ∷ []))) most_numbers over)
    go false = refl
row_over (b ∷ rest) before k v h =
    go (eqb b space) (leb 1 k) (is_digit b && ltb k most_digits) (row_over rest (before ++ (v ∷ [])) 0 0 (simp length-append (omega arith))) (row_over rest before (suc k) (v * 10 + (b - 48)) h)
  where
    go : (s t u : Bool) → None ≡ row_of (said_from (before ++ (v ∷ [])) 0 0 rest) → None ≡ row_of (said_from before (suc k) (v * 10 + (b - 48)) rest)
        → None ≡ row_of (cond s (cond t (said_from (before ++ (v ∷ [])) 0 0 rest) bad_text) (cond u (said_from before (suc k) (v * 10 + (b - 48)) rest) bad_text))
    go true true u p q = p
    go true false u p q = refl
    go false t true p q = q
    go false t false p q = refl

-- a space ends a number, and there is room for one more
pub neither : (k count : ℕ) → (eqb k 0 || eqb (count + 1) most_numbers) ≡ false → (1 ≤ k) × (count + 1 ≡ most_numbers → ⊥)
neither k count h = go (eqb k 0) refl h
  where
    go : (t : Bool) → eqb k 0 ≡ t → (t || eqb (count + 1) most_numbers) ≡ false → (1 ≤ k) × (count + 1 ≡ most_numbers → ⊥)
    go true q h = absurd (never h)
    go false q h = (omega (arith, eqb-false k 0 q), eqb-false (count + 1) most_numbers h)

-- what a byte does to the numbers so far, and what the end of the line does
module _ (line before : List ℕ) (i k v : ℕ) where
  module _ (more : i < length line) where
    module _ (is_space : get_or line i 0 ≡ space) where
      pub at_space : 1 ≤ k → said_from before k v (drop i line) ≡ said_from (before ++ (v ∷ [])) 0 0 (drop (i + 1) line)
      unfolding said_from
      at_space h = rw (drop-cons line i 0 more, add-one i) (simp (eq-eqb (get_or line i 0) space is_space, le-leb 1 k h))

      -- a space that ends no number
      pub at_second_space : k ≡ 0 → None ≡ row_of (said_from before k v (drop i line))
      unfolding row_of said_from
      at_second_space h = rw (drop-cons line i 0 more) (simp (eq-eqb (get_or line i 0) space is_space, h))

      -- and one behind the last number that a row holds
      pub at_space_full : 1 ≤ k → length before + 1 ≡ most_numbers → None ≡ row_of (said_from before k v (drop i line))
      at_space_full h full = rw (at_space h) (row_over (drop (i + 1) line) (before ++ (v ∷ [])) 0 0 (simp length-append (omega arith)))

    module _ (other : get_or line i 0 ≡ space → ⊥) where
      pub at_digit : is_digit (get_or line i 0) ≡ true → k < most_digits
          → said_from before k v (drop i line) ≡ said_from before (k + 1) (v * 10 + (get_or line i 0 - 48)) (drop (i + 1) line)
      unfolding said_from
      at_digit e h = rw (drop-cons line i 0 more, add-one i, add-one k) (simp (ne_eqb (get_or line i 0) space other, e, lt-ltb k most_digits h))

      pub at_no_digit : is_digit (get_or line i 0) ≡ false → None ≡ row_of (said_from before k v (drop i line))
      unfolding row_of said_from
      at_no_digit e = rw (drop-cons line i 0 more) (simp (ne_eqb (get_or line i 0) space other, e))

      pub at_digit_over : is_digit (get_or line i 0) ≡ true → most_digits ≤ k → None ≡ row_of (said_from before k v (drop i line))
      unfolding row_of said_from
      at_digit_over e h = rw (drop-cons line i 0 more) (simp (ne_eqb (get_or line i 0) space other, e, le-ltb k most_digits h))

      -- neither a space nor a digit of the number
      pub at_other : is_digit (get_or line i 0) && ltb k most_digits ≡ false → said_from before k v (drop i line) ≡ bad_text
      unfolding said_from
      at_other h = rw (drop-cons line i 0 more) (simp (ne_eqb (get_or line i 0) space other, h))

  module _ (end : length line ≤ i) where
    pub at_end : 1 ≤ k → said_from before k v (drop i line) ≡ numbers (before ++ (v ∷ []))
    unfolding said_from
    at_end h = rw (drop_of_length-le line end) (simp (le-leb 1 k h))

    pub at_bad_end : k ≡ 0 → None ≡ row_of (said_from before k v (drop i line))
    unfolding row_of said_from
    at_bad_end h = rw (drop_of_length-le line end) (simp h)

    -- where no number ends, the line is bad text
    pub at_no_end : k ≡ 0 → said_from before k v (drop i line) ≡ bad_text
    unfolding said_from
    at_no_end h = rw (drop_of_length-le line end) (simp h)

-- ---- the row: the numbers so far, and zeros behind them

module _ (values : List ℕ) (count v : ℕ) (all : length values ≡ most_numbers) (room : count < most_numbers) where
  pub stored_front : take (count + 1) (set values count v) ≡ take count values ++ (v ∷ [])
  stored_front = rw add-one (take-suc-set values count v (omega arith))

  pub stored_back : drop count values ≡ replicate (most_numbers - count) 0 → drop (count + 1) (set values count v) ≡ replicate (most_numbers - (count + 1)) 0
  stored_back e =
      let parts : most_numbers - count ≡ suc (most_numbers - (count + 1)) = omega arith in
      drop-set-lt (count + 1) values count v (omega arith) ∙ sym (drop-drop 1 count values) ∙ ap (drop 1) (e ∙ ap (λ (n : ℕ). replicate n 0) parts)

  -- the last number makes the row
  pub last_stored : drop count values ≡ replicate (most_numbers - count) 0
      → Some (record { count = count + 1; values = set values count v }) ≡ row_of (numbers (take count values ++ (v ∷ [])))
  unfolding row_of
  last_stored e =
      let ns = take count values ++ (v ∷ []) in
      let counted : count + 1 ≡ length ns = sym (length-append (take count values) (v ∷ []) ∙ ap (λ (n : ℕ). n + 1) (length-take-le count values (omega arith))) in
      let few : length ns ≤ most_numbers = omega arith in
      let whole : set values count v ≡ ns ++ replicate (most_numbers - length ns) 0 =
      sym (take-append-drop (count + 1) (set values count v)) ∙ rw (stored_front, stored_back e, counted) in
      rw (le-leb (length ns) most_numbers few) (λ k. Some (record { count = counted k; values = whole k }))

-- one more digit
pub digit_fits : (k v b : ℕ) → is_digit b ≡ true → v < 10 ^ k → v * 10 + (b - 48) < 10 ^ (k + 1)
digit_fits k v b e h = rw (add-one k) (omega (arith, pow-suc 10 k, from_range 48 b 57 e))

-- a number that has room for one more digit is below 10^9
pub number_fits : (k v : ℕ) → v < 10 ^ k → k < most_digits → v < 1000000000
number_fits k v h f = omega (arith, pow-le-pow_right {n = 10} (omega arith) {i = k} {j = 9} (omega arith))

-- what a reader of a line goes by
pub ruleset byte_by_byte = (at_space, at_second_space, at_space_full, at_digit, at_no_digit, at_digit_over, at_end, at_bad_end, stored_front, stored_back, last_stored, digit_fits, length-set, length-take)
