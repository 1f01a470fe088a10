-- A small run of the system, which computes: two lines of quanta 2 and 1, packets of one byte, the second lost. Assumes nothing.
use mathlib.Core.Path.{◌≡◌, refl}
use mathlib.Core.Bool.{cond}
use mathlib.Core.List.{List, [], ◌∷◌, ◌++◌}
use Prim.Native.Nat.{ℕ}
use lib.Dec.{eqb}
use Rattle.theory.specs.Sending.{Plan, better, best, choose, charged, carried}
use Rattle.theory.specs.System.{Step, send, ask, arrive, lose, at_line, packets, nth, at_opening, outs}
use Rattle.theory.specs.Words.{total, before, to_come, stored_below, takes}
use Rattle.theory.specs.FarEnd.{after, handed_bytes}

abbrev small : Plan
small = record { lines = 2; quantum = λ i. cond (eqb i 0) 2 1; charge = λ i n. n; largest = 1; interval = 1 }

abbrev byte : ℕ → List ℕ
byte n = n ∷ []

-- packets 1 and 2 go on line 0, 3 on line 1; a marker follows on line 0, and packet 4 behind it
abbrev sent_all : Step → List Step
sent_all second =
    send (byte 1) ∷ arrive 0 ∷ send (byte 2) ∷ second ∷ send (byte 3) ∷ arrive 1 ∷ ask 0 ∷ arrive 0 ∷ send (byte 4) ∷ arrive 0 ∷ []

abbrev handed_out : List Step → List (List ℕ)
handed_out h = handed_bytes (outs small at_opening (h ++ takes (stored_below (after small h).line 2)))

-- nothing lost: all are handed out
pub calm : handed_out (sent_all (arrive 0)) ≡ byte 1 ∷ byte 2 ∷ byte 3 ∷ byte 4 ∷ []
unfolding choose best better charged at_line
calm = refl

-- packet 2 lost: the others in order, and the marker reports its byte
pub lossy :
    (handed_out (sent_all (lose 0)) ≡ byte 1 ∷ byte 3 ∷ byte 4 ∷ [])
    × (((after small (sent_all (lose 0) ++ takes 2)).line 0).reported ≡ 1)
    × (total (before small 0 3) ((after small (sent_all (lose 0))).line 0).lost ≡ 1)
unfolding choose best better charged at_line
lossy = (refl, refl, refl)

-- once line 0 has yielded its marker, labelled 3, packets 3 and 4 are to come: line 1 stands from the opening
pub to_come_lem :
    handed_bytes (to_come small (nth (packets (sent_all (lose 0)))) (λ i. cond (eqb i 0) 3 0) (after small (sent_all (lose 0) ++ takes 2)) 4) ≡ byte 3 ∷ byte 4 ∷ []
unfolding carried choose best better charged at_line
to_come_lem = refl
