-- The table of ranges in numbers. `limits` of src/lib.rt ties each to the constant of `Plan` of the same name.
use Rattle.std.specs.Prelude.{ℕ}

-- lines N
abbrev pub least_lines : ℕ
least_lines = 1

abbrev pub most_lines : ℕ
most_lines = 16

-- largest packet Max
abbrev pub least_max : ℕ
least_max = 64

abbrev pub most_max : ℕ
most_max = 9000

-- quantum q of a line: Max to this
abbrev pub most_quantum : ℕ
most_quantum = 1048576

-- marker interval K
abbrev pub least_interval : ℕ
least_interval = 1

abbrev pub most_interval : ℕ
most_interval = 65535

-- store per line S: Max and this much to
abbrev pub item_head : ℕ
item_head = 3

abbrev pub most_store : ℕ
most_store = 65536
