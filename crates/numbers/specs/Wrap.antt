-- Rounds are kept modulo 2^32. One that is less than 2^31 ahead of another, by subtraction that wraps, counts as later than it.
use Rattle.std.specs.Prelude.{ℕ}

abbrev pub wrap : ℕ
wrap = 4294967296

abbrev pub half : ℕ
half = 2147483648
