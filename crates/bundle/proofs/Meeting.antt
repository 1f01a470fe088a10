-- What a world shows of the system's state: the far end its positions and queues, the roads what is under way, each by itself. (The sender's part is
-- the sender's own promise.) Assumes nothing.
use Prim.Native.Nat.{ℕ, ◌≤◌, ◌<◌}
use mathlib.Core.List.{List, [], ◌∷◌, map}
use mathlib.Core.Path.{◌≡◌}
use lib.ListN.{length}
use Rattle.plan.specs.declared.Plan.{Plan}
use Rattle.plan.specs.Plan.{quantum}
use Rattle.theory.specs.Sending.{choose, round_at, counter_at}
use Rattle.theory.specs.Sending as S
use Rattle.theory.specs.System.{Item, packet, marker, Line, State, positions}
use Rattle.sending.specs.InTheory.{in_theory}
use Rattle.receiving.specs.declared.Turn.{Turn}
use Rattle.receiving.specs.Receiver.{turn_of}
use Rattle.receiving.specs.Stage.{Stage, stage}
use Rattle.receiving.proofs.Stages.{Sound, HoldsOn}
use Rattle.receiving.specs.declared.Receiver.{Receiver}
use Rattle.bundle.specs.Events.{Parcel}
use Rattle.bundle.specs.Log.{parcel_of, entry_of}

-- a line's turn at a position
abbrev pub turn_at : ℕ → ℕ → Turn
turn_at q x = record { round = round_at q x; counter = counter_at q x }

module _ (p : Plan) where
  abbrev pub theirs : S.Plan
  theirs = in_theory p

  -- packets of a length in range
  abbrev pub Fits : Item → Type 0
  Fits (packet k x) = (1 ≤ length x) × (length x ≤ p.max)
  Fits (marker k m) = Unit {0}

  abbrev pub AllFit : List Item → Type 0
  AllFit [] = Unit {0}
  AllFit (x ∷ rest) = Fits x × AllFit rest

  -- a stage at positions v, that holds these items
  pub record Shows (s : Stage) (v : ℕ → ℕ) (items : ℕ → List Item) : Type 0 where
    pub plan : s.receiver.plan ≡ p
    pub sound : Sound s
    pub round : s.receiver.turns.round ≡ round_at (quantum p (choose theirs v)) (v (choose theirs v))
    pub turns : (i : ℕ) → i < p.lines → turn_of s.receiver.turns i ≡ turn_at (quantum p i) (v i)
    pub holds : (i : ℕ) → i < p.lines → HoldsOn i s (map (entry_of p i) (items i))
    pub fit : (i : ℕ) → i < p.lines → AllFit (items i)

  -- the far end's part of what a world shows
  abbrev pub Far : Receiver → List ℕ → State → Type 0
  Far r store s = Shows (stage r store) (positions s) (λ i. (s.line i).store)

  -- and the roads': only lines of the plan have parcels under way, packets in range
  pub record Roads (road : ℕ → List Parcel) (lines : ℕ → Line) : Type 0 where
    pub same : (i : ℕ) → road i ≡ map (parcel_of p i) (lines i).road
    pub fit : (i : ℕ) → AllFit (lines i).road
    pub off : (i : ℕ) → p.lines ≤ i → (lines i).road ≡ []
