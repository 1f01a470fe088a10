-- What stands at a place of a recording: a number, or a row of bytes behind its length. Assumes nothing.
use Rattle.std.specs.Prelude.{ℕ, ◌+◌, List, drop, length, Option, Some, None, if◌then◌else◌, nat_le}
use Rattle.std.specs.declared.ops.Range.{Range}
use Rattle.numbers.specs.Coding.{Reading, reading_of}

-- a reading of what stands from a place on, its place counted from the front
abbrev pub from : ℕ → Reading → Reading
from at None = None
from at (Some (v, n)) = Some (v, at + n)

-- past the end there is nothing
unfoldable pub number_at : List ℕ → ℕ → Reading
number_at s at = from at (reading_of 32 (drop at s))

-- so many bytes from the place after their length, where the recording has them
abbrev pub part_of : List ℕ → Reading → Option (Range ℕ)
part_of s None = None
part_of s (Some (n, at)) = if nat_le (at + n) (length s) then Some (record { start = at; end = at + n }) else None

unfoldable pub part_at : List ℕ → ℕ → Option (Range ℕ)
part_at s at = part_of s (number_at s at)
