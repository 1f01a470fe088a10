-- How every call answers C, in 32 bits or in 64: bit 8 set is a refusal, whose number stands in the eight bits below; with bit 8 clear the answer is
-- what the call's own words say.
use Rattle.std.specs.Prelude.{ℕ, ◌+◌, ◌*◌, ◌/◌, ◌%◌, Bool, cond, ◌==◌}

abbrev pub refusal : ℕ → ℕ
refusal k = 256 + k

-- where a call has nothing else to say: 0, or the refusal
abbrev pub told : ℕ → ℕ
told number = cond (number == 0) 0 (refusal number)

-- ---- as C reads it

-- bit 8, and the eight bits below
unfoldable pub refused_in : ℕ → Bool
refused_in w = w / 256 % 2 == 1

abbrev pub number_in : ℕ → ℕ
number_in w = w % 256

unfoldable pub told_in : ℕ → ℕ
told_in w = cond (refused_in w) (number_in w) 0

-- the low four bits, and bit 8: a line below 16, or, of a refusal, none
abbrev pub line_in : ℕ → ℕ
line_in w = w % 16 + 256 * (w / 256 % 2)
