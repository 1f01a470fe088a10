-- Numbers on the wire: unsigned, low seven bits first, the top bit of a byte set when another follows, shortest form only.
-- A width w stands for "below 2 ^ w"; the wire's is 32.
use Rattle.std.specs.Prelude.{ℕ, zero, suc, ◌+◌, ◌-◌, ◌*◌, ◌/◌, ◌%◌, ◌^◌, ◌<◌, List, [], ◌∷◌, ◌++◌, cond, drop, get_or, ltb, leb, eqb, Option, Some, None}

-- a string of bytes
abbrev pub Bytes : List ℕ → Type 0
Bytes s = (i : ℕ) → get_or s i 0 < 256

-- what a reading answers: a number and the place after it, or nothing
abbrev pub Reading : Type 0
Reading = Option (ℕ × ℕ)

abbrev pub yields : Reading → List ℕ
yields (Some (v, at)) = v ∷ at ∷ []
yields None = []

-- the low seven bits, and what the bytes after them read as; where that is 0, the form is not the shortest
abbrev pub joined : ℕ → Reading → Reading
joined low None = None
joined low (Some (high, at)) = cond (eqb high 0) None (Some (low + high * 128, at + 1))

-- a number of width w at the front of the bytes: each byte has seven bits of it, so the bytes after it read as a number of
-- seven bits less
unfoldable pub reading_of : ℕ → List ℕ → Reading
reading_of w [] = None
reading_of w (b ∷ s) =
    cond (ltb b 128)
    (cond (ltb b (2 ^ w)) (Some (b, 1)) None)
    (cond (leb w 7) None (joined (b % 128) (reading_of (w - 7) s)))

-- None ends the record's reading at once. After a number, the bytes from its place on are handed to the next reading.
abbrev pub onward : {A : Type 0} → Reading → List ℕ → A → (ℕ → List ℕ → A) → A
onward None s refused next = refused
onward (Some (v, at)) s refused next = next v (drop at s)

-- the bytes of a number of width w (which bounds the recursion: a number below 2 ^ w ends before it)
unfoldable pub coded : ℕ → ℕ → List ℕ
coded zero v = v ∷ []
coded (suc k) v = cond (ltb v 128) (v ∷ []) ((v % 128 + 128) ∷ coded k (v / 128))

-- the numbers of a record, one after another
unfoldable pub row_bytes : List ℕ → List ℕ
row_bytes [] = []
row_bytes (v ∷ row) = coded 32 v ++ row_bytes row
