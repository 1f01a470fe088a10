-- Numbers as text: what a line of text says, and how a number is printed.
use Rattle.std.specs.Prelude.{Bool, ◌&&◌, cond, List, [], ◌∷◌, ◌++◌, ℕ, zero, suc, ◌+◌, ◌-◌, ◌*◌, ◌/◌, ◌%◌, ltb, leb, eqb}
use Rattle.numbers.specs.Checks.{in_range}

abbrev pub space : ℕ
space = 32

abbrev pub line_feed : ℕ
line_feed = 10

abbrev pub is_digit : ℕ → Bool
is_digit b = in_range 48 b 57

-- of a number in a line of text; `limits` of src/lib.rt ties it to the constant of `Row`
abbrev pub most_digits : ℕ
most_digits = 10

-- what a line says: numbers, or nothing that can be read
pub data Said : Type 0 where
  numbers : List ℕ → Said
  bad_text : Said

-- Numbers of 1 to `most_digits` digits, one space apart: those before, then one of k digits so far, which are v, then what is left of the line.
unfoldable pub said_from : List ℕ → ℕ → ℕ → List ℕ → Said
said_from before k v [] = cond (leb 1 k) (numbers (before ++ (v ∷ []))) bad_text
said_from before k v (b ∷ rest) =
    cond (eqb b space)
    (cond (leb 1 k) (said_from (before ++ (v ∷ [])) 0 0 rest) bad_text)
    (cond (is_digit b && ltb k most_digits) (said_from before (suc k) (v * 10 + (b - 48)) rest) bad_text)

abbrev pub said : List ℕ → Said
said line = said_from [] 0 0 line

-- a number of 64 bits has no more digits
abbrev pub all_digits : ℕ
all_digits = 20

-- a number's decimal digits; the first argument bounds the recursion
unfoldable pub digits_of : ℕ → ℕ → List ℕ
digits_of zero n = (48 + n % 10) ∷ []
digits_of (suc k) n = cond (ltb n 10) ((48 + n) ∷ []) (digits_of k (n / 10) ++ ((48 + n % 10) ∷ []))

abbrev pub decimal : ℕ → List ℕ
decimal n = digits_of all_digits n
