-- A history as steps of the system, by its events alone. No call reads it. Labels and positions, what is lost and what is taken, are those of the
-- system's state after the steps.
use Rattle.std.specs.Prelude.{ℕ, List, [], ◌∷◌}
use Rattle.plan.specs.declared.Plan.{Plan}
use Rattle.plan.specs.Plan.{quantum}
use Rattle.marker.specs.Marker.{marker_of, marker_bytes}
use Rattle.theory.specs.Sending.{round_at, counter_at}
use Rattle.theory.specs.System as T
use Rattle.ring.specs.Queue.{Entry}
use Rattle.bundle.specs.Events.{Parcel, packet, marker, Event, sent, marked, stored, turned_away, lost, nothing, handed, missing, behind, waiting, refused, as_entry, each}
use Rattle.bundle.specs.Worlds.{World, Call, events}

-- a parcel that is refused where it arrives is lost; a take that waits is one too; any other refusal is no step
abbrev pub steps_of : Event → List T.Step
steps_of (sent i x due) = T.send x ∷ []
steps_of (marked i b) = T.ask i ∷ []
steps_of (stored i x) = T.arrive i ∷ []
steps_of (turned_away i x k) = T.lose i ∷ []
steps_of (lost i x) = T.lose i ∷ []
steps_of nothing = []
steps_of (handed i b) = T.take ∷ []
steps_of (missing i m) = T.take ∷ []
steps_of (behind i) = T.take ∷ []
steps_of (waiting i) = T.take ∷ []
steps_of (refused k) = []

abbrev pub log : World → List Call → List T.Step
log w h = each steps_of (events w h)

-- ---- an item of the system, as it is under way on line i and as it is queued there: a marker's round and counter are those of its position

abbrev pub mark_of : Plan → ℕ → ℕ → List ℕ
mark_of p i m = marker_bytes (marker_of i (round_at (quantum p i) m) (counter_at (quantum p i) m))

abbrev pub parcel_of : Plan → ℕ → T.Item → Parcel
parcel_of p i (T.packet k x) = packet x
parcel_of p i (T.marker k m) = marker (mark_of p i m)

abbrev pub entry_of : Plan → ℕ → T.Item → Entry
entry_of p i x = as_entry (parcel_of p i x)
