-- Demands 2 and 3 of the far end, as statements over every list of steps from the opening.
use Rattle.std.specs.Prelude.{ℕ, ◌+◌, ◌-◌, ◌/◌, ◌≤◌, ◌<◌, List, [], ◌∷◌, ◌++◌, map, ◌≡◌, length}
use Rattle.numbers.specs.Wrap.{half}
use Rattle.theory.specs.Sending.{Plan, rounds}
use Rattle.theory.specs.Demands.{Fit}
use Rattle.theory.specs.System.{Item, packet, marker, Line, State, at_opening, Step, send, ask, arrive, lose, take, positions, current, step}
use Rattle.theory.specs.System.{run, packets, nth, sizes, Out, outs}
use Rattle.theory.specs.Words.{Beginning, total, before, Yielded, NoneBehind, HasMarker, NoPacketIn, to_come, stored_below, takes}

-- the state after some steps from the opening, and the line that a take looks at
abbrev pub after : Plan → List Step → State
after p steps = run p at_opening steps

abbrev pub front : Plan → State → Line
front p s = s.line (current p s)

abbrev pub handed_bytes : List Out → List (List ℕ)
handed_bytes outs = map (λ (o : Out). o.bytes) outs

-- on every line nothing is lost; on every line no packet is under way
abbrev pub NothingLost : Plan → State → Type 0
NothingLost p s = (i : ℕ) → i < p.lines → (s.line i).lost ≡ []

abbrev pub NoPacketUnderWay : Plan → State → Type 0
NoPacketUnderWay p s = (i : ℕ) → i < p.lines → NoPacketIn (s.line i).road

-- ---- demand 2

-- Nothing lost: what is handed out is a beginning of the packets sent,
abbrev pub InOrder : Plan → Type 0
InOrder p = (h : List Step) → NothingLost p (after p h) → Beginning (handed_bytes (outs p at_opening h)) (packets h)

-- and once no packet is under way, as many takes as items held hand out the rest.
abbrev pub AllOut : Plan → Type 0
AllOut p =
    (h : List Step) → NothingLost p (after p h) → NoPacketUnderWay p (after p h)
    → handed_bytes (outs p at_opening (h ++ takes (stored_below (after p h).line p.lines))) ≡ packets h

-- ---- demand 3

-- A marker that the next take finds, labelled k: what it reports, and what was reported before on its line, are the charges of the packets lost
-- on the line before it.
abbrev pub Missing : Plan → Type 0
Missing p =
    (h : List Step) (k m : ℕ) (rest : List Item) → (front p (after p h)).store ≡ marker k m ∷ rest
    → ((front p (after p h)).position ≤ m)
    × ((m - (front p (after p h)).position) + (front p (after p h)).reported ≡ total (before p (current p (after p h)) k) (front p (after p h)).lost)

-- Steps h₁ up to some moment, h₂ from there on. In h₁ each line i has yielded a marker, labelled c i, behind which no packet is lost, in h₁ or h₂:
-- what is handed out in h₂ is, in sent order without gaps, a beginning of the packets sent behind those markers and still to come.
abbrev pub Order : Plan → Type 0
Order p =
    (h₁ h₂ : List Step) (c : ℕ → ℕ)
    → ((i : ℕ) → i < p.lines → Yielded (c i) ((after p h₁).line i).taken)
    → ((i : ℕ) → i < p.lines → NoneBehind (c i) ((after p (h₁ ++ h₂)).line i).lost)
    → Beginning (outs p (after p h₁) h₂) (to_come p (nth (packets (h₁ ++ h₂))) c (after p h₁) (length (packets (h₁ ++ h₂))))

-- With a marker sent after the last packet stored on every line, as many takes as items held leave no packet queued.
abbrev pub Cleared : Plan → Type 0
Cleared p =
    (h : List Step) → ((i : ℕ) → i < p.lines → HasMarker (after p h).sent ((after p h).line i).store)
    → (i : ℕ) → i < p.lines → NoPacketIn ((after p (h ++ takes (stored_below (after p h).line p.lines))).line i).store

-- ---- demand 3's premise

-- the marker in front of line i is fewer than 2^31 rounds ahead of the line
abbrev pub near_head : Plan → ℕ → Line → List Item → Type 0
near_head p i l [] = Unit {0}
near_head p i l (packet k x ∷ rest) = Unit {0}
near_head p i l (marker k m ∷ rest) = m / p.quantum i < l.position / p.quantum i + half

abbrev pub near_step : Plan → State → Step → Type 0
near_step p s (send x) = Unit {0}
near_step p s (ask i) = Unit {0}
near_step p s (arrive i) = Unit {0}
near_step p s (lose i) = Unit {0}
near_step p s take = near_head p (current p s) (front p s) (front p s).store

-- each marker is so when it is taken
abbrev pub Near : Plan → State → List Step → Type 0
Near p s [] = Unit {0}
Near p s (e ∷ steps) = near_step p s e × Near p (step p s e) steps

-- It keeps the far end's rounds within 2^31 of the current one, so that rounds kept modulo 2^32 decide.
abbrev pub Window : Plan → Type 0
Window p =
    (h : List Step) → Fit p (sizes (packets h)) (length (packets h)) → Near p at_opening h → (i : ℕ) → i < p.lines
    → (rounds p (positions (after p h)) (current p (after p h)) ≤ rounds p (positions (after p h)) i)
    × (rounds p (positions (after p h)) i < rounds p (positions (after p h)) (current p (after p h)) + half)

-- what is promised of a plan's far end
pub record FarEnd (p : Plan) : Type 0 where
  pub in_order : InOrder p
  pub all_out : AllOut p
  pub missing : Missing p
  pub order : Order p
  pub cleared : Cleared p
  pub window : Window p
