-- The laws of a number's decimal digits, and of texts put one after another. Assumes nothing.
use borrow.Author.Tests.{lt-ltb, le-ltb, ltb-false, le-leb, lt-leb}
use native.Mathlib.Nat.{pow-suc}
use native.Mathlib.Omega.{arith}
use mathlib.Core.Path.{◌≡◌, refl, ap, sym, ◌∙◌}
use mathlib.Core.Bool.{Bool, true, false, cond}
use mathlib.Core.List.{List, [], ◌∷◌, ◌++◌, append_assoc, flatten}
use Prim.Native.Nat.{ℕ, zero, suc, ◌+◌, ◌-◌, ◌/◌, ◌%◌, ◌^◌, ◌≤◌, ◌<◌}
use borrow.Rule.Slice.PartMut.{put_mid}
use lib.Dec.{ltb}
use lib.ListN.{length, take, drop, set, length-append, length-drop, length-set}
use lib.Seq.{sets, sets-eq, length-sets, drop-drop, drop-cons, get_or-set_same, drop-set-lt, append_snoc, take_all, take_at}
use Rattle.numbers.proofs.Laws.{sets-append}
use Rattle.text.specs.Text.{space, digits_of, all_digits, decimal}
use Rattle.text.specs.Printing.{spaced, EndsSpaced, placed, PutWhereFits, Put}

-- ---- decimal digits

-- one step of recursion more changes nothing once there is enough
digits_room : (k n : ℕ) → n < 10 ^ suc k → digits_of (suc k) n ≡ digits_of k n
unfolding digits_of
digits_room zero n h =
    let small : n < 10 = omega arith in
    let whole : n % 10 ≡ n = omega arith in
    simp (lt-ltb n 10 small, whole)
digits_room (suc k) n h = go (ltb n 10) refl (digits_room k (n / 10))
  where
    go : (t : Bool) → ltb n 10 ≡ t → (n / 10 < 10 ^ suc k → digits_of (suc k) (n / 10) ≡ digits_of k (n / 10))
        → cond t ((48 + n) ∷ []) (digits_of (suc k) (n / 10) ++ ((48 + n % 10) ∷ [])) ≡ cond t ((48 + n) ∷ []) (digits_of k (n / 10) ++ ((48 + n % 10) ∷ []))
    go true q ih = refl
    go false q ih = ap (λ (l : List ℕ). l ++ ((48 + n % 10) ∷ [])) (ih (omega (arith, pow-suc 10 (suc k))))

pub decimal_small : (n : ℕ) → n < 10 → decimal n ≡ (48 + n) ∷ []
unfolding digits_of
decimal_small n h = simp (lt-ltb n 10 h)

pub decimal_big : (n : ℕ) → 10 ≤ n → n < 2 ^ 64 → decimal n ≡ decimal (n / 10) ++ ((48 + n % 10) ∷ [])
unfolding digits_of
decimal_big n h f =
    let enough : digits_of 20 (n / 10) ≡ digits_of 19 (n / 10) = digits_room 19 (n / 10) (omega arith) in
    rw enough (simp (le-ltb n 10 h))

-- more digits than one are of more than one power of ten
pub one_less : (n d : ℕ) → 10 ≤ n → n < 10 ^ d → (1 < d) × (n / 10 < 10 ^ (d - 1))
one_less n zero h f = absurd (omega arith)
one_less n (suc zero) h f = absurd (omega arith)
one_less n (suc (suc d)) h f =
    let one : suc (suc d) - 1 ≡ suc d = omega arith in
    (omega arith, rw one (omega (arith, pow-suc 10 (suc d))))

-- a digit for each power of ten begun
digits_size : (k n d : ℕ) → 0 < d → n < 10 ^ d → length (digits_of k n) ≤ d
unfolding digits_of
digits_size zero n d pos h = omega arith
digits_size (suc k) n zero pos h = absurd (omega arith)
digits_size (suc k) n (suc d) pos h = go (ltb n 10) refl (digits_size k (n / 10) d)
  where
    go : (t : Bool) → ltb n 10 ≡ t → (0 < d → n / 10 < 10 ^ d → length (digits_of k (n / 10)) ≤ d)
        → length (cond t ((48 + n) ∷ []) (digits_of k (n / 10) ++ ((48 + n % 10) ∷ []))) ≤ suc d
    go true q ih = omega arith
    go false q ih =
        let less = one_less n (suc d) (ltb-false n 10 q) h in
        let one : suc d - 1 ≡ d = omega arith in
        simp length-append (omega (arith, ih (omega (arith, less.0)) (rw one at less.1)))

pub decimal_size : (n d : ℕ) → 0 < d → n < 10 ^ d → length (decimal n) ≤ d
decimal_size n d pos h = digits_size 20 n d pos h

-- a digit in front of what stands behind it
front : (bytes : List ℕ) (j d : ℕ) → j < length bytes → drop j (set bytes j d) ≡ d ∷ drop (suc j) bytes
front bytes j d h =
    drop-cons (set bytes j d) j 0 (simp length-set h) ∙ rw (get_or-set_same bytes j d 0 h, drop-set-lt (suc j) bytes j d (omega arith))

-- the digits of what is left of a number, in front of those that stand from a place on
module _ (bytes : List ℕ) (from left : ℕ) (inside : from ≤ length bytes) (some : 0 < from) where
  pub digit_stored : 10 ≤ left → left < 2 ^ 64
      → decimal (left / 10) ++ drop (from - 1) (set bytes (from - 1) (48 + left % 10)) ≡ decimal left ++ drop from bytes
  digit_stored h f =
      let here : suc (from - 1) ≡ from = omega arith in
      rw (front bytes (from - 1) (48 + left % 10) (omega arith), here, decimal_big left h f) (sym (append_snoc (decimal (left / 10)) (48 + left % 10) (drop from bytes)))

  pub last_digit : left < 10 → drop (from - 1) (set bytes (from - 1) (48 + left % 10)) ≡ decimal left ++ drop from bytes
  last_digit h =
      let here : suc (from - 1) ≡ from = omega arith in
      let whole : left % 10 ≡ left = omega arith in
      rw (whole, front bytes (from - 1) (48 + left) (omega arith), here, decimal_small left h) refl

-- what a writer of digits goes by
pub ruleset digit_by_digit = (digit_stored, last_digit, one_less, length-set)

-- what stands from a place on, with the space behind it and without
module _ (bytes : List ℕ) (from n : ℕ) (d : EndsSpaced bytes from n) where
  pub with_space : take (all_digits + 1 - from) (drop from bytes) ≡ spaced n
  with_space = take_all (all_digits + 1 - from) (drop from bytes) (omega (arith, length-drop from bytes)) ∙ d.2

  pub without_space : take (all_digits - from) (drop from bytes) ≡ decimal n
  without_space =
      let size : length (decimal n) ≡ all_digits - from = omega (arith, sym (ap length d.2) ∙ length-drop from bytes, length-append (decimal n) (space ∷ [])) in
      ap (take (all_digits - from)) d.2 ∙ take_at (decimal n) (space ∷ []) (all_digits - from) size

-- ---- a text in an output

-- a copy to the place where it fits
pub copied : (text out : List ℕ) (at : ℕ) → at + length text ≤ length out → put_mid at (at + length text - at) out text ≡ sets out at text
copied text out at h =
    let size : at + length text - at ≡ length text = omega arith in
    rw (size, sets-eq text out at h, append_assoc, drop-drop)

module _ (text out : List ℕ) (at : ℕ) {r : ℕ} {after : List ℕ} where
  -- one that does not fit leaves all as it was,
  pub put_over : length out < at + length text → r ≡ at → after ≡ out → PutWhereFits text at out r after
  unfolding placed
  put_over h e f = simp (lt-leb (at + length text) (length out) h) (e, f)

  -- and one that fits is put
  pub put_fits : at + length text ≤ length out → Put text at out r after → PutWhereFits text at out r after
  unfolding placed
  put_fits h p = simp (le-leb (at + length text) (length out) h) p

  pub fits_put : at + length text ≤ length out → PutWhereFits text at out r after → Put text at out r after
  unfolding placed
  fits_put h p = simp (le-leb (at + length text) (length out) h) at p

-- ---- texts one after another

-- `all` is being put from a place on: what is left of it, put from here, makes the output what it is to be, and has room
pub record Midway (all : List ℕ) (left : List (List ℕ)) (at : ℕ) (out : List ℕ) (to : ℕ) (now : List ℕ) : Type 0 where
  pub place : to + length (flatten left) ≡ at + length all
  pub stored : sets now to (flatten left) ≡ sets out at all
  pub room : to + length (flatten left) ≤ length now

pub put_first : (all : List ℕ) (parts : List (List ℕ)) (at : ℕ) (out : List ℕ) → all ≡ flatten parts → at + length all ≤ length out → Midway all parts at out at out
put_first all parts at out e h = rw e (record { place = refl; stored = refl; room = rw e at h })

module _ {all out : List ℕ} {at : ℕ} where
  pub put_next : {part : List ℕ} {left : List (List ℕ)} {to end : ℕ} {now after : List ℕ} → Midway all (part ∷ left) at out to now → PutWhereFits part to now end after
      → Midway all left at out end after
  unfolding flatten
  put_next {part} {left} {to} {end} {now} {after} m told =
      let both = length-append part (flatten left) in
      let p = fits_put part now to (omega (arith, m.room)) told in record {
        place = omega (arith, p.0, m.place);
        stored = rw (p.0, p.1) (sym (sets-append now to part (flatten left)) ∙ m.stored);
        room = omega (arith, p.0, ap length p.1 ∙ length-sets now to part, m.room);
      }

  pub put_last : {to : ℕ} {now : List ℕ} → Midway all [] at out to now → Put all at out to now
  unfolding flatten
  put_last m = (omega (arith, m.place), m.stored)
