-- The laws of the number coding, over its width, and of writing to the front of an output. Callers cite these and not the
-- definitions' text. Assumes nothing.
use mathlib.Core.Path.{◌≡◌, refl, ap, sym, ◌∙◌}
use Prim.Native.Nat.{ℕ, zero, suc, ◌+◌, ◌-◌, ◌*◌, ◌/◌, ◌%◌, ◌^◌, ◌≤◌, ◌<◌}
use native.Mathlib.Numerals.{add-one}
use native.Mathlib.Nat.{two-pow-succ, zero-add, add-zero}
use lib.Pow.{pow-add, pow_mono}
use native.Mathlib.Decide.{dec_lt}
use native.Mathlib.Omega.{arith}
use mathlib.Core.List.{List, [], ◌∷◌, ◌++◌}
use mathlib.Core.Bool.{Bool, true, false, cond}
use lib.ListN.{length, get_or, take, drop, set, length-drop, length-take, length-append, length-set, take-append-drop, drop_of_length-le}
use lib.Seq.{take_all, drop-cons, take-append_seam, drop-append_seam, get_or-drop, sets, sets-eq, length-sets}
use Rattle.std.specs.List.{sum_by}
use Rattle.std.proofs.lemmas.List.Sums.{sum_by-cons}
use lib.Dec.{ltb, leb, eqb}
use borrow.Author.Tests.{leb-false, ltb-true, ltb-false, eqb-false, lt-ltb, le-ltb, le-leb, lt-leb, ne_eqb}
use Rattle.std.specs.Prelude.{Some, None, Ok, Err}
use Rattle.numbers.specs.declared.Refusal.{Refusal}
use Rattle.numbers.specs.declared.Refusal.TheVariants.{ShortOutput}
use Rattle.numbers.specs.Refusals.{number_of}
use Rattle.numbers.specs.Checks.{Checked}
use Rattle.numbers.specs.Coding.{Bytes, Reading, joined, reading_of, onward, coded, row_bytes}
use Rattle.numbers.specs.Writing.{length_of, written, outcome}
use Rattle.numbers.proofs.Checks.{no_zero}

-- a reading is not both a number and nothing
pub never : {r : Reading} {v at : ℕ} → r ≡ None → r ≡ Some (v, at) → ⊥
never e f = let z : ◌≡◌ {A = ℕ} 0 1 = cc in omega arith

-- two readings that are one have one number and one place
pub same_number : {v at u k : ℕ} → ◌≡◌ {A = Reading} (Some (v, at)) (Some (u, k)) → (v ≡ u) × (at ≡ k)
same_number {v} {at} {u} {k} e =
    let pair : ◌≡◌ {A = ℕ × ℕ} (v, at) (u, k) = cc in
    (ap (λ (x : ℕ × ℕ). x.0) pair, ap (λ (x : ℕ × ℕ). x.1) pair)

-- the part of a slice from n on, as the code has it
pub rest : (n : ℕ) (s : List ℕ) → take (length s - n) (drop n s) ≡ drop n s
rest n s = take_all (length s - n) (drop n s) (omega (arith, length-drop n s))

-- ---- the reading, case by case

module _ (w : ℕ) where
  pub no_byte : (s : List ℕ) → length s ≡ 0 → reading_of w s ≡ None
  unfolding reading_of
  no_byte [] h = refl
  no_byte (b ∷ s) h = absurd (omega arith)

  pub last_byte : (s : List ℕ) → 0 < length s → let b = get_or s 0 0 in b < 128 → reading_of w s ≡ cond {A = Reading} (ltb b (2 ^ w)) (Some (b, 1)) None
  unfolding reading_of
  last_byte [] some h = absurd (omega arith)
  last_byte (b ∷ s) some h = simp (lt-ltb b 128 h)

  pub no_room : (s : List ℕ) → 0 < length s → 128 ≤ get_or s 0 0 → w ≤ 7 → reading_of w s ≡ None
  unfolding reading_of
  no_room [] some h l = absurd (omega arith)
  no_room (b ∷ s) some h l = simp (le-ltb b 128 h, le-leb w 7 l)

  pub more_bytes : (s : List ℕ) → 0 < length s → let b = get_or s 0 0 in 128 ≤ b → 7 < w
      → reading_of w s ≡ joined (b % 128) (reading_of (w - 7) (drop 1 s))
  unfolding reading_of
  more_bytes [] some h l = absurd (omega arith)
  more_bytes (b ∷ s) some h l = simp (le-ltb b 128 h, lt-leb w 7 l)

  -- the bytes after the first, as the code has them
  pub after_first : (s : List ℕ) → 0 < length s → let b = get_or s 0 0 in 128 ≤ b → 7 < w
      → reading_of w s ≡ joined (b % 128) (reading_of (w - 7) (take (length s - 1) (drop 1 s)))
  after_first s some h l = rw (rest 1 s) (more_bytes s some h l)

pub joined_number : (low high at : ℕ) → (high ≡ 0 → ⊥) → joined low (Some (high, at)) ≡ Some (low + high * 128, at + 1)
joined_number low high at h = simp (ne_eqb high 0 h)

-- seven bits less are one number in 128
seven_less : (w : ℕ) → 7 < w → 2 ^ w ≡ 2 ^ (w - 7) * 128
seven_less w h = let parts : w - 7 + 7 ≡ w = omega arith in rw parts at (pow-add 2 (w - 7) 7)

-- a number of 128 or more is of more than seven bits
past_seven : (w v : ℕ) → v < 2 ^ w → 128 ≤ v → 7 < w
past_seven w v f h = go (dec_lt 7 w)
  where
    go : Dec (7 < w) → 7 < w
    go (yes p) = p
    go (no p) = let small : w ≤ 7 = omega arith in absurd (omega (arith, pow_mono small))

-- ---- a reading as a relation, for inductions

data Read : ℕ → List ℕ → ℕ → ℕ → Type 0 where
  single : {w b : ℕ} {s : List ℕ} → b < 128 → b < 2 ^ w → Read w (b ∷ s) b 1
  longer : {w b : ℕ} {s : List ℕ} {v at : ℕ} → 128 ≤ b → 7 < w → 0 < v → Read (w - 7) s v at → Read w (b ∷ s) (b % 128 + v * 128) (suc at)

reads : {w : ℕ} {s : List ℕ} {v at : ℕ} → Read w s v at → reading_of w s ≡ Some (v, at)
unfolding reading_of
reads (single h f) = simp (lt-ltb _ _ h, lt-ltb _ _ f)
reads (longer {w} {b} {s} {v} {at} h l p r) = simp (le-ltb _ _ h, lt-leb _ _ l, reads r, ne_eqb v 0 (omega arith), add-one at)

read : (w : ℕ) (s : List ℕ) {v at : ℕ} → reading_of w s ≡ Some (v, at) → Read w s v at
unfolding reading_of
read w [] e = absurd (never refl e)
read w (b ∷ s) {v} {at} e = go (ltb b 128) refl (ltb b (2 ^ w)) refl (leb w 7) refl (reading_of (w - 7) s) refl (λ v at e. read (w - 7) s e) e
  where
    done : (t : Bool) (high k : ℕ) → eqb high 0 ≡ t → 128 ≤ b → 7 < w → Read (w - 7) s high k → cond {A = Reading} t None (Some (b % 128 + high * 128, k + 1)) ≡ Some (v, at) → Read w (b ∷ s) v at
    done true high k q h l r e = absurd (never refl e)
    done false high k q h l r e =
        let same = same_number e in
        let a : suc k ≡ at = sym (add-one k) ∙ same.1 in
        let pos : 0 < high = omega (arith, eqb-false high 0 q) in
        rw (← same.0, ← a) (longer h l pos r)

    go : (t : Bool) → ltb b 128 ≡ t → (u : Bool) → ltb b (2 ^ w) ≡ u → (n : Bool) → leb w 7 ≡ n → (r : Reading) → reading_of (w - 7) s ≡ r
        → ((v at : ℕ) → reading_of (w - 7) s ≡ Some (v, at) → Read (w - 7) s v at)
        → cond {A = Reading} t (cond {A = Reading} u (Some (b, 1)) None) (cond {A = Reading} n None (joined (b % 128) r)) ≡ Some (v, at) → Read w (b ∷ s) v at
    go true q true f n l r g ih e =
        let same = same_number e in
        rw (← same.0, ← same.1) (single (ltb-true b 128 q) (ltb-true b (2 ^ w) f))
    go true q false f n l r g ih e = absurd (never refl e)
    go false q u f true l r g ih e = absurd (never refl e)
    go false q u f false l None g ih e = absurd (never refl e)
    go false q u f false l (Some (high, k)) g ih e = done (eqb high 0) high k refl (ltb-false b 128 q) (leb-false w 7 l) (ih high k g) e

read_fits : {w : ℕ} {s : List ℕ} {v at : ℕ} → Read w s v at → v < 2 ^ w
read_fits (single h f) = f
read_fits (longer {w} {b} h l p r) = let ih = read_fits r in omega (arith, seven_less w l)

read_place : {w : ℕ} {s : List ℕ} {v at : ℕ} → Read w s v at → (0 < at) × (at ≤ length s)
read_place (single h f) = (omega arith, omega arith)
read_place (longer h l p r) = let ih = read_place r in (omega arith, omega arith)

read_alone : {w : ℕ} {s : List ℕ} {v at : ℕ} → Read w s v at → (t : List ℕ) → Read w (take at s ++ t) v at
read_alone (single h f) t = single h f
read_alone (longer h l p r) t = longer h l p (read_alone r t)

read_size : {w : ℕ} {s : List ℕ} {v at : ℕ} → Read w s v at → 0 < w → 7 * at < w + 7
read_size (single h f) pos = omega arith
read_size (longer h l p r) pos = let ih = read_size r (omega arith) in omega arith

-- what is written at one width reads at every width that the number is below
read_coded : (k w v : ℕ) → v < 2 ^ k → v < 2 ^ w → (t : List ℕ) → Read w (coded k v ++ t) v (length (coded k v))
unfolding coded
read_coded zero w v h f t = let small : v < 128 = omega arith in single small f
read_coded (suc k) w v h f t = go (ltb v 128) refl (read_coded k (w - 7) (v / 128))
  where
    go : (b : Bool) → ltb v 128 ≡ b → (v / 128 < 2 ^ k → v / 128 < 2 ^ (w - 7) → (t : List ℕ) → Read (w - 7) (coded k (v / 128) ++ t) (v / 128) (length (coded k (v / 128))))
        → Read w (cond b (v ∷ []) ((v % 128 + 128) ∷ coded k (v / 128)) ++ t) v (length (cond b (v ∷ []) ((v % 128 + 128) ∷ coded k (v / 128))))
    go true q ih = single (ltb-true v 128 q) f
    go false q ih =
        let big : 128 ≤ v = ltb-false v 128 q in
        let wide = past_seven w v f big in
        let more : 128 ≤ v % 128 + 128 = omega arith in
        let whole : (v % 128 + 128) % 128 + v / 128 * 128 ≡ v = omega arith in
        let pos : 0 < v / 128 = omega arith in
        rw whole at (longer more wide pos (ih (omega (arith, two-pow-succ k)) (omega (arith, seven_less w wide)) t))

read_shortest : {w : ℕ} {s : List ℕ} {v at : ℕ} → Read w s v at → (k : ℕ) → v < 2 ^ k → Bytes s → take at s ≡ coded k v
unfolding coded
read_shortest (single h f) zero g bytes = refl
read_shortest (single {w} {b} h f) (suc k) g bytes = simp (lt-ltb b 128 h)
read_shortest (longer {w} {b} {s} {v} {at} h l p r) zero g bytes = absurd (omega arith)
read_shortest (longer {w} {b} {s} {v} {at} h l p r) (suc k) g bytes =
    let byte : b < 256 = bytes 0 in
    let big : 128 ≤ b % 128 + v * 128 = omega arith in
    let rest-fits : v < 2 ^ k = omega (arith, two-pow-succ k) in
    let high : (b % 128 + v * 128) / 128 ≡ v = omega arith in
    let low : (b % 128 + v * 128) % 128 + 128 ≡ b = omega arith in
    simp (le-ltb (b % 128 + v * 128) 128 big, high, low) (ap (λ (l : List ℕ). b ∷ l) (read_shortest r k rest-fits (λ i. bytes (suc i))))

-- ---- a number of width w

-- what is written reads as the number, with the place after it, whatever follows
pub round_trip : (w v : ℕ) (t : List ℕ) → v < 2 ^ w → reading_of w (coded w v ++ t) ≡ Some (v, (length (coded w v)))
round_trip w v t f = reads (read_coded w w v f f t)

module _ (w : ℕ) (s : List ℕ) {v at : ℕ} (e : reading_of w s ≡ Some (v, at)) where
  pub fits : v < 2 ^ w
  fits = read_fits (read w s e)

  -- a number ends within the bytes, past the first
  pub place : (0 < at) × (at ≤ length s)
  place = read_place (read w s e)

  -- the bytes from the place on do not matter
  pub after : (t : List ℕ) → reading_of w (take at s ++ t) ≡ Some (v, at)
  after t = reads (read_alone (read w s e) t)

  -- only what is written is read
  pub shortest : Bytes s → take at s ≡ coded w v
  shortest bytes = read_shortest (read w s e) w fits bytes

  -- seven bits a byte
  pub size : 0 < w → 7 * at < w + 7
  size pos = read_size (read w s e) pos

  -- the number's bytes, and those from its place on
  pub split : Bytes s → s ≡ coded w v ++ drop at s
  split bytes = sym (take-append-drop at s) ∙ ap (λ (l : List ℕ). l ++ drop at s) (shortest bytes)

-- what a reading goes by
pub ruleset by_width = (no_byte, last_byte, no_room, after_first, joined_number, fits, place, length-drop, length-take, pow_mono)

-- a reading of the first k bytes, at seven bits a byte or more, is the reading of them all
pub enough : (w k : ℕ) (s : List ℕ) → 0 < w → w ≤ 7 * k → reading_of w (take k s) ≡ reading_of w s
unfolding reading_of
enough w zero s pos h = absurd (omega arith)
enough w (suc k) [] pos h = refl
enough w (suc k) (b ∷ s) pos h = go (leb w 7) refl (enough (w - 7) k s)
  where
    go : (t : Bool) → leb w 7 ≡ t → (0 < w - 7 → w - 7 ≤ 7 * k → reading_of (w - 7) (take k s) ≡ reading_of (w - 7) s)
        → cond {A = Reading} (ltb b 128) (cond {A = Reading} (ltb b (2 ^ w)) (Some (b, 1)) None) (cond t None (joined (b % 128) (reading_of (w - 7) (take k s))))
        ≡ cond {A = Reading} (ltb b 128) (cond {A = Reading} (ltb b (2 ^ w)) (Some (b, 1)) None) (cond t None (joined (b % 128) (reading_of (w - 7) s)))
    go true q ih = refl
    go false q ih = let wide : 7 < w = leb-false w 7 q in rw (ih (omega arith) (omega arith))

-- ---- a record: numbers one after another

-- a number that is written is read, and what follows it goes on
pub onward_written : {A : Type 0} (v : ℕ) (t : List ℕ) (refused : A) (next : ℕ → List ℕ → A) → v < 2 ^ 32
    → onward (reading_of 32 (coded 32 v ++ t)) (coded 32 v ++ t) refused next ≡ next v t
onward_written v t refused next f = rw (round_trip 32 v t f, drop-append_seam (coded 32 v) t)

-- what is not refused was a number, and its rest was not refused
pub onward_number : {A : Type 0} (Good : A → Type 0) (r : Reading) (s : List ℕ) (refused : A) (next : ℕ → List ℕ → A) → (Good refused → ⊥)
    → Good (onward r s refused next) → (v : ℕ) × (at : ℕ) × (r ≡ Some (v, at)) × Good (next v (drop at s))
onward_number Good None s refused next bad g = absurd (bad g)
onward_number Good (Some (v, at)) s refused next bad g = (v, at, refl, g)

-- bytes from a place on are bytes
pub bytes_drop : (n : ℕ) (s : List ℕ) → Bytes s → Bytes (drop n s)
bytes_drop n s b i = rw get_or-drop (b (n + i))

-- what a reader of a row of numbers goes by
pub ruleset number_by_number = (rest, place, length-drop)

-- ---- the bytes of a number

pub coded_small : (w v : ℕ) → v < 128 → coded w v ≡ v ∷ []
unfolding coded
coded_small zero v h = refl
coded_small (suc k) v h = simp (lt-ltb v 128 h)

coded_room : (k v : ℕ) → v < 2 ^ k → coded (suc k) v ≡ coded k v
unfolding coded
coded_room zero v h = let small : v < 128 = omega arith in simp (lt-ltb v 128 small)
coded_room (suc k) v h = go (ltb v 128) refl (coded_room k (v / 128))
  where
    go : (t : Bool) → ltb v 128 ≡ t → (v / 128 < 2 ^ k → coded (suc k) (v / 128) ≡ coded k (v / 128)) → cond t (v ∷ []) ((v % 128 + 128) ∷ coded (suc k) (v / 128)) ≡ cond t (v ∷ []) ((v % 128 + 128) ∷ coded k (v / 128))
    go true q ih = refl
    go false q ih =
        let big : 128 ≤ v = ltb-false v 128 q in
        ap (λ (l : List ℕ). (v % 128 + 128) ∷ l) (ih (omega (arith, two-pow-succ k)))

pub coded_big : (w v : ℕ) → v < 2 ^ w → 128 ≤ v → coded w v ≡ (v % 128 + 128) ∷ coded w (v / 128)
unfolding coded
coded_big zero v f h = absurd (omega arith)
coded_big (suc k) v f h =
    let e : coded (suc k) (v / 128) ≡ coded k (v / 128) = coded_room k (v / 128) (omega (arith, two-pow-succ k)) in
    rw e (simp (le-ltb v 128 h))

-- a byte for each seven bits begun of the number itself, whatever the width that it is written at
pub coded_size_of : (w bits v : ℕ) → 0 < bits → v < 2 ^ w → v < 2 ^ bits → 7 * length (coded w v) < bits + 7
coded_size_of w bits v pos f g = read_size (read_coded w bits v f g []) pos

pub coded_size : (w v : ℕ) → 0 < w → v < 2 ^ w → 7 * length (coded w v) < w + 7
coded_size w v pos f = coded_size_of w w v pos f f

-- what each turn of a loop over a number's bytes goes by
pub ruleset byte_by_byte = (coded_small, coded_big, coded_size, length-set)

-- and whatever the number, no more than the width and one
pub coded_short : (w v : ℕ) → length (coded w v) ≤ suc w
unfolding coded
coded_short zero v = omega arith
coded_short (suc k) v = go (ltb v 128) (coded_short k (v / 128))
  where
    go : (t : Bool) → length (coded k (v / 128)) ≤ suc k → length (cond t (v ∷ []) ((v % 128 + 128) ∷ coded k (v / 128))) ≤ suc (suc k)
    go true ih = omega arith
    go false ih = omega arith

-- ---- the bytes of a row

pub row_next : (row : List ℕ) (i : ℕ) → i < length row → row_bytes (drop i row) ≡ coded 32 (get_or row i 0) ++ row_bytes (drop (i + 1) row)
unfolding row_bytes
row_next row i h = rw (drop-cons row i 0 h, add-one)

pub row_done : (row : List ℕ) (i : ℕ) → length row ≤ i → row_bytes (drop i row) ≡ []
unfolding row_bytes
row_done row i h = rw (drop_of_length-le row h)

-- number by number
pub row_sum : (row : List ℕ) → length (row_bytes row) ≡ sum_by (λ v. length (coded 32 v)) row
unfolding row_bytes
row_sum [] = refl
row_sum (v ∷ row) = rw (length-append, row_sum row) (sym (sum_by-cons (λ (x : ℕ). length (coded 32 x)) v row))

pub row_short : (row : List ℕ) → length (row_bytes row) ≤ 33 * length row
unfolding row_bytes
row_short [] = omega arith
row_short (v ∷ row) = let ih = row_short row in simp length-append (omega (arith, coded_short 32 v))

pub row_size : (row : List ℕ) → ((i : ℕ) → get_or row i 0 < 2 ^ 32) → length (row_bytes row) ≤ 5 * length row
unfolding row_bytes
row_size [] f = omega arith
row_size (v ∷ row) f =
    let ih = row_size row (λ i. f (suc i)) in
    let v-fits : v < 2 ^ 32 = f 0 in
    simp length-append (omega (arith, coded_size 32 v (omega arith) v-fits))

-- ---- writing

pub sets-append : (l : List ℕ) (i : ℕ) (x y : List ℕ) → sets l i (x ++ y) ≡ sets (sets l i x) (i + length x) y
sets-append l i [] y = rw add-zero
sets-append l i (a ∷ x) y = sets-append (set l i a) (suc i) x y ∙ ap (λ (k : ℕ). sets (sets (set l i a) (suc i) x) k y) (omega arith)

-- what a writer that has room for the bytes leaves, once it has stored them; and what one that has not
module _ (bytes out : List ℕ) (n : ℕ) (counted : n ≡ length bytes) where
  pub written_fits : n ≤ length out → (end : List ℕ) → end ≡ sets out 0 bytes
      → (Ok n ≡ (written bytes out).answer) × (end ≡ (written bytes out).out)
  unfolding outcome
  written_fits h end e =
      let fits_in : length bytes ≤ length out = omega arith in
      let stored : end ≡ bytes ++ drop (length bytes) out = e ∙ sets-eq bytes out 0 (omega arith) ∙ simp zero-add in
      (simp (le-leb (length bytes) (length out) fits_in, counted), simp (le-leb (length bytes) (length out) fits_in) stored)

  pub written_over : length out < n → (Err ShortOutput ≡ (written bytes out).answer) × (out ≡ (written bytes out).out)
  unfolding outcome
  written_over h =
      let over : length out < length bytes = omega arith in
      (simp (lt-leb (length bytes) (length out) over), simp (lt-leb (length bytes) (length out) over))

-- what an answer says of the outcome's checks and bytes
module _ (row : Checked) (bytes out : List ℕ) where
  pub answered_length : (n : ℕ) → (outcome row bytes out).answer ≡ Ok n → n ≡ length bytes
  unfolding outcome
  answered_length n e = go row e
    where
      go : (r : Checked) → (outcome r bytes out).answer ≡ Ok n → n ≡ length bytes
      go (Ok u) e = cc
      go (Err refusal) e = absurd (let z : ◌≡◌ {A = ℕ} 0 1 = cc in omega arith)

  pub refused_out : (refusal : Refusal) → (outcome row bytes out).answer ≡ Err refusal → (outcome row bytes out).out ≡ out
  unfolding outcome
  refused_out refusal e = go row e
    where
      go : (r : Checked) → (outcome r bytes out).answer ≡ Err refusal → (outcome r bytes out).out ≡ out
      go (Ok u) e = absurd (let z : ◌≡◌ {A = ℕ} 0 1 = cc in omega arith)
      go (Err refusal) e = refl

  -- the number that is answered is the checks' own
  pub answered_number : number_of (outcome row bytes out).answer ≡ number_of row
  unfolding outcome
  answered_number = go row
    where
      go : (r : Checked) → number_of (outcome r bytes out).answer ≡ number_of r
      go (Ok u) = refl
      go (Err refusal) = refl

  -- the front of the output, as long as was answered, is what was to be written
  pub accepted : number_of (outcome row bytes out).answer ≡ 0
      → (number_of row ≡ 0) × (take (length_of (outcome row bytes out).answer) (outcome row bytes out).out ≡ bytes)
  unfolding outcome
  accepted e = go row e
    where
      go : (r : Checked) → number_of (outcome r bytes out).answer ≡ 0
          → (number_of r ≡ 0) × (take (length_of (outcome r bytes out).answer) (outcome r bytes out).out ≡ bytes)
      go (Ok u) e = (refl, take-append_seam bytes (drop (length bytes) out))
      go (Err refusal) e = absurd (no_zero refusal e)

-- what a writer of a row goes by
pub ruleset row_by_row = (row_next, row_done, length-append, length-sets, sets-append, written_fits, written_over)
