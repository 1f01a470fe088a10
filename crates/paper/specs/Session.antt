-- The session on paper, as calls of both ends: two lines, Max 500, markers after every round, quanta 1000 and 500, eight packets.
use Rattle.std.specs.Prelude.{ℕ, List, [], ◌∷◌, ◌++◌, map, replicate}
use Rattle.plan.specs.declared.Plan.{Plan}
use Rattle.bundle.specs.Worlds.{World, Call, sends, asks, arrives, loses, takes, start}

abbrev pub session : Plan
session = record { lines = 2; max = 500; interval = 1; quanta = 1000 ∷ 500 ∷ replicate 14 0 }

-- packet n of so many bytes, each of them n
abbrev pub numbered : ℕ → ℕ → List ℕ
numbered n size = replicate size n

-- an output with room for the largest packet
abbrev pub room : List ℕ
room = replicate 500 0

abbrev pub some_takes : ℕ → List Call
some_takes n = map takes (replicate n room)

-- 1,216 bytes a line, in each of which stands a 9
abbrev pub size : ℕ
size = 1216

abbrev pub bytes : List ℕ
bytes = replicate 2432 9

abbrev pub opened : World
opened = start session size bytes

-- up to the markers after packet 5; `second` is what becomes of packet 2, `mark` of line 1's marker
abbrev pub first_five : Call → Call → List Call
first_five second mark =
    sends (numbered 1 400) ∷ arrives 0 ∷ sends (numbered 2 500) ∷ second ∷ sends (numbered 3 300) ∷ arrives 0
    ∷ sends (numbered 4 450) ∷ arrives 1 ∷ sends (numbered 5 200) ∷ arrives 1
    ∷ asks 0 room ∷ arrives 0 ∷ asks 1 room ∷ mark ∷ []

-- two packets are taken, and the last three are sent and arrive
abbrev pub last_three : List Call
last_three =
    takes room ∷ takes room ∷ sends (numbered 6 500) ∷ arrives 0 ∷ takes room ∷ takes room
    ∷ sends (numbered 7 500) ∷ arrives 0 ∷ sends (numbered 8 100) ∷ arrives 1 ∷ []

abbrev pub played : Call → Call → List Call
played second mark = first_five second mark ++ last_three

-- nothing is lost; packet 2 is; line 1's marker too
abbrev pub calm : List Call
calm = played (arrives 0) (arrives 1)

abbrev pub lossy : List Call
lossy = played (loses 0) (arrives 1)

abbrev pub lossier : List Call
lossier = played (loses 0) (loses 1)

-- markers after the last packet, stored on both lines
abbrev pub closing : List Call
closing = asks 0 room ∷ arrives 0 ∷ asks 1 room ∷ arrives 1 ∷ []
