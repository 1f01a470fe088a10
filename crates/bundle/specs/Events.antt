-- What those who make the calls see, one event a call. All that the demands say of a history is read off its events.
use Rattle.std.specs.Prelude.{ℕ, ◌+◌, Bool, cond, List, [], ◌∷◌, ◌++◌, map, eqb}
use Rattle.ring.specs.Queue.{Entry, entry}

-- what is under way on a line; the link says which of the two it is
pub data Parcel : Type 0 where
  packet : List ℕ → Parcel
  marker : List ℕ → Parcel

pub data Event : Type 0 where
  -- the booth: a packet goes on a line, and markers are due or not; a marker of these bytes is written for a line
  sent : ℕ → List ℕ → Bool → Event
  marked : ℕ → List ℕ → Event
  -- a line: its oldest parcel is stored; is refused by a number; is lost on its way; or there is none
  stored : ℕ → Parcel → Event
  turned_away : ℕ → Parcel → ℕ → Event
  lost : ℕ → Parcel → Event
  nothing : Event
  -- the stage, with the line: a packet's bytes; a marker, and what is missing before it; a marker that is behind; an empty queue
  handed : ℕ → List ℕ → Event
  missing : ℕ → ℕ → Event
  behind : ℕ → Event
  waiting : ℕ → Event
  -- a call at either end that is refused, by its number
  refused : ℕ → Event

-- ---- what one event tells

-- the packets sent
abbrev pub sent_by : Event → List (List ℕ)
sent_by (sent i x due) = x ∷ []
sent_by (marked i b) = []
sent_by (stored i x) = []
sent_by (turned_away i x k) = []
sent_by (lost i x) = []
sent_by nothing = []
sent_by (handed i b) = []
sent_by (missing i m) = []
sent_by (behind i) = []
sent_by (waiting i) = []
sent_by (refused k) = []

-- the packets handed out, each with its line
pub record Handed : Type 0 where
  pub line : ℕ
  pub bytes : List ℕ

abbrev pub handed_by : Event → List Handed
handed_by (sent i x due) = []
handed_by (marked i b) = []
handed_by (stored i x) = []
handed_by (turned_away i x k) = []
handed_by (lost i x) = []
handed_by nothing = []
handed_by (handed i b) = record { line = i; bytes = b } ∷ []
handed_by (missing i m) = []
handed_by (behind i) = []
handed_by (waiting i) = []
handed_by (refused k) = []

-- what is reported missing on a line
abbrev pub reported_by : ℕ → Event → ℕ
reported_by line (sent i x due) = 0
reported_by line (marked i b) = 0
reported_by line (stored i x) = 0
reported_by line (turned_away i x k) = 0
reported_by line (lost i x) = 0
reported_by line nothing = 0
reported_by line (handed i b) = 0
reported_by line (missing i m) = cond (eqb i line) m 0
reported_by line (behind i) = 0
reported_by line (waiting i) = 0
reported_by line (refused k) = 0

-- the parcels put on a line
abbrev pub put_by : ℕ → Event → List Parcel
put_by line (sent i x due) = cond (eqb i line) (packet x ∷ []) []
put_by line (marked i b) = cond (eqb i line) (marker b ∷ []) []
put_by line (stored i x) = []
put_by line (turned_away i x k) = []
put_by line (lost i x) = []
put_by line nothing = []
put_by line (handed i b) = []
put_by line (missing i m) = []
put_by line (behind i) = []
put_by line (waiting i) = []
put_by line (refused k) = []

-- those that have left it: stored, refused where they arrived, or lost on their way; the latter two are lost
abbrev pub left_by : ℕ → Event → List Parcel
left_by line (sent i x due) = []
left_by line (marked i b) = []
left_by line (stored i x) = cond (eqb i line) (x ∷ []) []
left_by line (turned_away i x k) = cond (eqb i line) (x ∷ []) []
left_by line (lost i x) = cond (eqb i line) (x ∷ []) []
left_by line nothing = []
left_by line (handed i b) = []
left_by line (missing i m) = []
left_by line (behind i) = []
left_by line (waiting i) = []
left_by line (refused k) = []

abbrev pub lost_by : ℕ → Event → List Parcel
lost_by line (sent i x due) = []
lost_by line (marked i b) = []
lost_by line (stored i x) = []
lost_by line (turned_away i x k) = cond (eqb i line) (x ∷ []) []
lost_by line (lost i x) = cond (eqb i line) (x ∷ []) []
lost_by line nothing = []
lost_by line (handed i b) = []
lost_by line (missing i m) = []
lost_by line (behind i) = []
lost_by line (waiting i) = []
lost_by line (refused k) = []

-- the items stored on a line, and how many are taken from it
abbrev pub as_entry : Parcel → Entry
as_entry (packet b) = entry 0 b
as_entry (marker b) = entry 1 b

abbrev pub stored_by : ℕ → Event → List Entry
stored_by line (sent i x due) = []
stored_by line (marked i b) = []
stored_by line (stored i x) = cond (eqb i line) (as_entry x ∷ []) []
stored_by line (turned_away i x k) = []
stored_by line (lost i x) = []
stored_by line nothing = []
stored_by line (handed i b) = []
stored_by line (missing i m) = []
stored_by line (behind i) = []
stored_by line (waiting i) = []
stored_by line (refused k) = []

abbrev pub taken_by : ℕ → Event → ℕ
taken_by line (sent i x due) = 0
taken_by line (marked i b) = 0
taken_by line (stored i x) = 0
taken_by line (turned_away i x k) = 0
taken_by line (lost i x) = 0
taken_by line nothing = 0
taken_by line (handed i b) = cond (eqb i line) 1 0
taken_by line (missing i m) = cond (eqb i line) 1 0
taken_by line (behind i) = cond (eqb i line) 1 0
taken_by line (waiting i) = 0
taken_by line (refused k) = 0

-- ---- and a list of them

abbrev pub each : {A : Type 0} → (Event → List A) → List Event → List A
each f [] = []
each f (e ∷ es) = f e ++ each f es

abbrev pub sum : (Event → ℕ) → List Event → ℕ
sum f [] = 0
sum f (e ∷ es) = f e + sum f es

abbrev pub bytes_out : List Handed → List (List ℕ)
bytes_out outs = map (λ (o : Handed). o.bytes) outs
