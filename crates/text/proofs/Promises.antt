-- What text promises: numbers that are printed are read back. Assumes nothing.
use borrow.Author.Tests.{ltb-true, lt-ltb, le-leb, ne_eqb}
use native.Mathlib.Nat.{pow-suc, zero-add}
use native.Mathlib.Omega.{arith}
use mathlib.Core.Path.{◌≡◌, refl, ap, sym, ◌∙◌}
use mathlib.Core.Bool.{Bool, true, false, cond}
use mathlib.Core.List.{List, [], ◌∷◌, ◌++◌, append-nil}
use Prim.Native.Nat.{ℕ, zero, suc, ◌+◌, ◌-◌, ◌*◌, ◌/◌, ◌%◌, ◌^◌, ◌≤◌, ◌<◌}
use lib.Dec.{ltb, eqb}
use lib.ListN.{length, length-append}
use lib.Seq.{append_snoc}
use Rattle.numbers.proofs.Checks.{in_range_lem}
use Rattle.text.specs.Text.{space, is_digit, most_digits, numbers, said_from, said, digits_of, all_digits, decimal}
use Rattle.text.specs.Printing.{spaced}
use Rattle.text.proofs.Printing.{decimal_size}

-- one more digit
digit_read : (before rest : List ℕ) (k v d : ℕ) → d < 10 → k < most_digits → said_from before k v ((48 + d) ∷ rest) ≡ said_from before (suc k) (v * 10 + d) rest
unfolding said_from
digit_read before rest k v d h f =
    let other : eqb (48 + d) space ≡ false = ne_eqb (48 + d) space (λ e. omega arith) in
    let digit : is_digit (48 + d) ≡ true = in_range_lem 48 (48 + d) 57 (omega arith) (omega arith) in
    let value : 48 + d - 48 ≡ d = omega arith in
    rw (other, digit, lt-ltb k most_digits f, value)

-- a number's digits, behind none of it
digits_read : (f n : ℕ) (before rest : List ℕ) → n < 10 ^ suc f → length (digits_of f n) ≤ most_digits
    → said_from before 0 0 (digits_of f n ++ rest) ≡ said_from before (length (digits_of f n)) n rest
unfolding digits_of
digits_read zero n before rest h few =
    let value : 0 * 10 + n % 10 ≡ n = omega arith in
    digit_read before rest 0 0 (n % 10) (omega arith) (omega arith) ∙ ap (λ (v : ℕ). said_from before 1 v rest) value
digits_read (suc f) n before rest h few = go (ltb n 10) refl few (digits_read f (n / 10) before ((48 + n % 10) ∷ rest) (omega (arith, pow-suc 10 (suc f))))
  where
    high : List ℕ
    high = digits_of f (n / 10)

    digits : Bool → List ℕ
    digits t = cond t ((48 + n) ∷ []) (high ++ ((48 + n % 10) ∷ []))

    go : (t : Bool) → ltb n 10 ≡ t → length (digits t) ≤ most_digits
        → (length high ≤ most_digits → said_from before 0 0 (high ++ (48 + n % 10) ∷ rest) ≡ said_from before (length high) (n / 10) ((48 + n % 10) ∷ rest))
        → said_from before 0 0 (digits t ++ rest) ≡ said_from before (length (digits t)) n rest
    go true q few ih = simp zero-add at (digit_read before rest 0 0 n (ltb-true n 10 q) (omega arith))
    go false q few ih =
        let size : length (high ++ ((48 + n % 10) ∷ [])) ≡ suc (length high) = length-append high ((48 + n % 10) ∷ []) ∙ omega arith in
        let value : n / 10 * 10 + n % 10 ≡ n = omega arith in
        rw (append_snoc high (48 + n % 10) rest, size)
        (ih (omega arith) ∙ digit_read before rest (length high) (n / 10) (n % 10) (omega arith) (omega arith)
        ∙ ap (λ (v : ℕ). said_from before (suc (length high)) v rest) value)

some_digit : (f n : ℕ) → 1 ≤ length (digits_of f n)
unfolding digits_of
some_digit zero n = omega arith
some_digit (suc f) n = go (ltb n 10)
  where
    go : (t : Bool) → 1 ≤ length (cond t ((48 + n) ∷ []) (digits_of f (n / 10) ++ ((48 + n % 10) ∷ [])))
    go true = omega arith
    go false = simp length-append (omega arith)

-- a number of as many digits as a line of text may have
abbrev pub Short : ℕ → Type 0
Short n = n < 10 ^ most_digits

decimal_read : (n : ℕ) (before rest : List ℕ) → Short n → said_from before 0 0 (decimal n ++ rest) ≡ said_from before (length (decimal n)) n rest
decimal_read n before rest h = digits_read all_digits n before rest (omega arith) (decimal_size n most_digits (omega arith) h)

-- the numbers of a line, one space apart
abbrev pub line_with : List ℕ → ℕ → List ℕ
line_with [] last = decimal last
line_with (n ∷ ns) last = spaced n ++ line_with ns last

abbrev pub AllShort : List ℕ → Type 0
AllShort [] = Unit {0}
AllShort (n ∷ ns) = Short n × AllShort ns

read_behind : (before ns : List ℕ) (last : ℕ) → AllShort ns → Short last → said_from before 0 0 (line_with ns last) ≡ numbers (before ++ ns ++ (last ∷ []))
unfolding said_from
read_behind before [] last all h =
    ap (said_from before 0 0) (sym (append-nil (decimal last))) ∙ decimal_read last before [] h
    ∙ rw (le-leb 1 (length (decimal last)) (some_digit all_digits last), append-nil)
read_behind before (n ∷ ns) last all h =
    ap (said_from before 0 0) (append_snoc (decimal n) space (line_with ns last)) ∙ decimal_read n before (space ∷ line_with ns last) all.0
    ∙ rw (le-leb 1 (length (decimal n)) (some_digit all_digits n))
    (read_behind (before ++ (n ∷ [])) ns last all.1 h ∙ ap (λ (l : List ℕ). numbers (l ++ (last ∷ []))) (append_snoc before n ns))

-- Numbers that are printed one space apart are what their line says.
pub read_back : (ns : List ℕ) (last : ℕ) → AllShort ns → Short last → said (line_with ns last) ≡ numbers (ns ++ (last ∷ []))
read_back ns last all h = read_behind [] ns last all h
