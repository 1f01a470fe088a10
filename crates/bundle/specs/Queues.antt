-- The stage's end by itself, whatever the booth does and the lines carry.
use Rattle.std.specs.Prelude.{ℕ, ◌*◌, ◌<◌, ◌≡◌, true, List, [], ◌∷◌, ◌⊎◌, length, drop, Ok, Err}
use Rattle.plan.specs.declared.Plan.{Plan}
use Rattle.plan.specs.Plan.{quantum}
use Rattle.plan.specs.Ranges.{From, PlanIn, StoreIn}
use Rattle.marker.specs.Marker.{marker_of, record_read}
use Rattle.ring.specs.Queue.{Entry}
use Rattle.receiving.specs.Receiver.{receiver_ok, open_receiver, receiver_of}
use Rattle.receiving.specs.Taking.{take_of}
use Rattle.bundle.specs.Events.{stored_by, taken_by, each, sum}
use Rattle.bundle.specs.Worlds.{World, Call, calls, events}
use Rattle.bundle.specs.Words.{queue_at}
use Rattle.numbers.specs.declared.Refusal.TheVariants as refusal

-- what may be stored on line i: data of a length in 1 to Max, or a marker that names the line, with a counter in 1 to its quantum
abbrev pub Good : Plan → ℕ → Entry → Type 0
Good p i e =
    ((e.kind ≡ 0) × From 1 p.max (length e.bytes))
    ⊎ ((e.kind ≡ 1) × ((round counter : ℕ) × (record_read e.bytes ≡ Ok (marker_of i round counter)) × From 1 (quantum p i) counter))

abbrev pub AllGood : Plan → ℕ → List Entry → Type 0
AllGood p i [] = Unit {0}
AllGood p i (e ∷ es) = Good p i e × AllGood p i es

-- its state is valid, and a line's queue is what was stored on it, in order, but for as many items as were taken
pub record KeepsQueues (p : Plan) (w : World) (h : List Call) : Type 0 where
  pub valid : receiver_ok (calls w h).receiver ≡ true
  pub queued : (i : ℕ) → i < p.lines → queue_at (calls w h) i ≡ drop (sum (taken_by i) (events w h)) (each (stored_by i) (events w h))
  -- what was stored may be there, so that no take finds what cannot be an item
  pub good : (i : ℕ) → i < p.lines → AllGood p i (each (stored_by i) (events w h))
  pub no_nine : (out : List ℕ) → (take_of (calls w h).receiver (calls w h).store out).result.answer ≡ Err refusal.Store → ⊥

-- From any world whose receiver is opened on a plan with S bytes a line, over a store of N × S bytes, and any parcels at all under way.
abbrev pub EveryHistory : Type 0
EveryHistory =
    (p : Plan) (size : ℕ) → length p.quanta ≡ 16 → PlanIn p → StoreIn p size
    → (w : World) → w.receiver ≡ receiver_of (open_receiver p size) → length w.store ≡ p.lines * size
    → (h : List Call) → KeepsQueues p w h
