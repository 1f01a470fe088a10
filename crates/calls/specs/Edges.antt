-- The edges of the ranges, and numbers of one to five bytes, as literals.
use Rattle.std.specs.Prelude.{ℕ, ◌+◌, ◌%◌, [], ◌∷◌, ◌≡◌, replicate}
use Rattle.numbers.specs.Refusals.{number_of}
use Rattle.numbers.specs.Coding.{yields, reading_of, coded}
use Rattle.plan.specs.declared.Plan.{Plan}
use Rattle.sending.specs.Sender.{open_sender, send_of}
use Rattle.receiving.specs.Receiver.{open_receiver}
use Rattle.receiving.specs.Arriving.{data_arrival}
use Rattle.marker.specs.Marker.{marker_of, marker_written, marker_bytes, marker_read}

-- one line, or so many, of one quantum
abbrev pub alike : ℕ → ℕ → ℕ → ℕ → Plan
alike lines max interval quantum = record { lines = lines; max = max; interval = interval; quanta = replicate 16 quantum }

-- what opening a sender on such a plan answers
abbrev pub opening : ℕ → ℕ → ℕ → ℕ → ℕ
opening lines max interval quantum = number_of (open_sender (alike lines max interval quantum))

-- and a receiver with S bytes a line, Max 64
abbrev pub storing : ℕ → ℕ
storing size = number_of (open_receiver (alike 1 64 1 64) size)

-- the standalone marker calls, of line, round 1 and counter
abbrev pub writing : ℕ → ℕ → ℕ
writing line counter = number_of (marker_written (marker_of line 1 counter) (replicate 9 0)).answer

abbrev pub reading : ℕ → ℕ → ℕ
reading line counter = number_of (marker_read (marker_bytes (marker_of line 1 counter)))

-- a send of so many bytes, Max 64, from a state with that counter, its quantum 100
abbrev pub sending : ℕ → ℕ → ℕ
sending counter size =
    number_of (send_of (record { plan = alike 1 64 1 100; line = 0; countdown = 1; rounds = replicate 16 1; counters = replicate 16 counter }) size).answer

-- data that comes on line 0 while line 1 is so many rounds ahead
abbrev pub arriving : ℕ → ℕ
arriving ahead =
    number_of (data_arrival
    (record {
      plan = alike 2 64 1 64;
      rings = record { size = 67; heads = replicate 16 0; used = replicate 16 0 };
      turns = record { round = 4294967295; rounds = 4294967295 ∷ (4294967295 + ahead) % 4294967296 ∷ replicate 14 0; counters = replicate 16 64 };
    })
    0 (7 ∷ []) (replicate 134 0)).arrived.answer

-- each range at its two edges, and one beyond
pub record Edges : Type 0 where
  pub lines : (opening 0 64 1 64 ≡ 1) × (opening 1 64 1 64 ≡ 0) × (opening 16 64 1 64 ≡ 0) × (opening 17 64 1 64 ≡ 1)
  pub max : (opening 1 63 1 64 ≡ 1) × (opening 1 64 1 64 ≡ 0) × (opening 1 9000 1 9000 ≡ 0) × (opening 1 9001 1 9001 ≡ 1)
  pub interval : (opening 1 64 0 64 ≡ 1) × (opening 1 64 1 64 ≡ 0) × (opening 1 64 65535 64 ≡ 0) × (opening 1 64 65536 64 ≡ 1)
  pub quantum : (opening 1 500 1 499 ≡ 1) × (opening 1 500 1 500 ≡ 0) × (opening 1 500 1 1048576 ≡ 0) × (opening 1 500 1 1048577 ≡ 1)
  pub store : (storing 66 ≡ 1) × (storing 67 ≡ 0) × (storing 65536 ≡ 0) × (storing 65537 ≡ 1)
  pub marker_line : (writing 15 1 ≡ 0) × (writing 16 1 ≡ 3) × (reading 15 1 ≡ 0) × (reading 16 1 ≡ 3)
  pub marker_counter : (writing 0 0 ≡ 5) × (writing 0 1 ≡ 0) × (writing 0 1048576 ≡ 0) × (writing 0 1048577 ≡ 5)
      × (reading 0 0 ≡ 5) × (reading 0 1 ≡ 0) × (reading 0 1048576 ≡ 0) × (reading 0 1048577 ≡ 5)
  pub counter : (sending 0 64 ≡ 2) × (sending 1 64 ≡ 0) × (sending 100 64 ≡ 0) × (sending 101 64 ≡ 2)
  pub length : (sending 100 0 ≡ 4) × (sending 100 1 ≡ 0) × (sending 100 64 ≡ 0) × (sending 100 65 ≡ 4)
  pub round : (arriving 0 ≡ 0) × (arriving 2147483647 ≡ 0) × (arriving 2147483648 ≡ 2) × (arriving 4294967295 ≡ 2)
  -- numbers of one to five bytes, the least and the greatest of each
  pub written_as : (coded 32 0 ≡ 0x00 ∷ []) × (coded 32 127 ≡ 0x7F ∷ []) × (coded 32 128 ≡ 0x80 ∷ 0x01 ∷ []) × (coded 32 16383 ≡ 0xFF ∷ 0x7F ∷ [])
      × (coded 32 16384 ≡ 0x80 ∷ 0x80 ∷ 0x01 ∷ []) × (coded 32 2097151 ≡ 0xFF ∷ 0xFF ∷ 0x7F ∷ [])
      × (coded 32 2097152 ≡ 0x80 ∷ 0x80 ∷ 0x80 ∷ 0x01 ∷ []) × (coded 32 268435455 ≡ 0xFF ∷ 0xFF ∷ 0xFF ∷ 0x7F ∷ [])
      × (coded 32 268435456 ≡ 0x80 ∷ 0x80 ∷ 0x80 ∷ 0x80 ∷ 0x01 ∷ []) × (coded 32 4294967295 ≡ 0xFF ∷ 0xFF ∷ 0xFF ∷ 0xFF ∷ 0x0F ∷ [])
  pub read_as : (yields (reading_of 32 (0x00 ∷ [])) ≡ 0 ∷ 1 ∷ []) × (yields (reading_of 32 (0x7F ∷ [])) ≡ 127 ∷ 1 ∷ [])
      × (yields (reading_of 32 (0x80 ∷ 0x01 ∷ [])) ≡ 128 ∷ 2 ∷ []) × (yields (reading_of 32 (0xFF ∷ 0x7F ∷ [])) ≡ 16383 ∷ 2 ∷ [])
      × (yields (reading_of 32 (0x80 ∷ 0x80 ∷ 0x01 ∷ [])) ≡ 16384 ∷ 3 ∷ []) × (yields (reading_of 32 (0xFF ∷ 0xFF ∷ 0x7F ∷ [])) ≡ 2097151 ∷ 3 ∷ [])
      × (yields (reading_of 32 (0x80 ∷ 0x80 ∷ 0x80 ∷ 0x01 ∷ [])) ≡ 2097152 ∷ 4 ∷ [])
      × (yields (reading_of 32 (0xFF ∷ 0xFF ∷ 0xFF ∷ 0x7F ∷ [])) ≡ 268435455 ∷ 4 ∷ [])
      × (yields (reading_of 32 (0x80 ∷ 0x80 ∷ 0x80 ∷ 0x80 ∷ 0x01 ∷ [])) ≡ 268435456 ∷ 5 ∷ [])
      × (yields (reading_of 32 (0xFF ∷ 0xFF ∷ 0xFF ∷ 0xFF ∷ 0x0F ∷ [])) ≡ 4294967295 ∷ 5 ∷ [])
  -- one beyond, a longer form, and bytes that end within a number
  pub not_read : (yields (reading_of 32 (0xFF ∷ 0xFF ∷ 0xFF ∷ 0xFF ∷ 0x10 ∷ [])) ≡ []) × (yields (reading_of 32 (0x80 ∷ 0x00 ∷ [])) ≡ [])
      × (yields (reading_of 32 (0x80 ∷ [])) ≡ []) × (yields (reading_of 32 []) ≡ [])
