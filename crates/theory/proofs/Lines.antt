-- What each step leaves of a line: its position, its queue, what was taken, lost and reported. Assumes nothing.
use Prim.Native.Nat.{ℕ}
use mathlib.Core.List.{List, [], ◌∷◌}
use mathlib.Core.Path.{◌≡◌, refl}
use Rattle.theory.specs.Sending.{Plan}
use Rattle.theory.specs.System.{Item, packet, marker, Line, arrive_of, lose_of, line_taken, arrived, dropped, fetched}

-- an arrival moves the oldest item on the road to the end of the queue, and nothing else
module _ {A : Type 0} (g : Line → A) where
  arrive_keeps : (road : List Item) (l : Line)
      → ((rest store : List Item) → g (record { road = rest; store = store; taken = l.taken; lost = l.lost; position = l.position; reported = l.reported }) ≡ g l)
      → g (arrive_of road l) ≡ g l
  arrive_keeps [] l same = refl
  arrive_keeps (x ∷ rest) l same = same rest _

  -- a loss moves it to what is lost, and nothing else
  lose_keeps : (road : List Item) (l : Line)
      → ((rest lost : List Item) → g (record { road = rest; store = l.store; taken = l.taken; lost = lost; position = l.position; reported = l.reported }) ≡ g l)
      → g (lose_of road l) ≡ g l
  lose_keeps [] l same = refl
  lose_keeps (x ∷ rest) l same = same rest _

pub arrived_position : (l : Line) → (arrived l).position ≡ l.position
arrived_position l = arrive_keeps (λ l. l.position) l.road l (λ _ _. refl)

pub arrived_taken : (l : Line) → (arrived l).taken ≡ l.taken
arrived_taken l = arrive_keeps (λ l. l.taken) l.road l (λ _ _. refl)

pub arrived_lost : (l : Line) → (arrived l).lost ≡ l.lost
arrived_lost l = arrive_keeps (λ l. l.lost) l.road l (λ _ _. refl)

pub arrived_reported : (l : Line) → (arrived l).reported ≡ l.reported
arrived_reported l = arrive_keeps (λ l. l.reported) l.road l (λ _ _. refl)

pub dropped_position : (l : Line) → (dropped l).position ≡ l.position
dropped_position l = lose_keeps (λ l. l.position) l.road l (λ _ _. refl)

pub dropped_store : (l : Line) → (dropped l).store ≡ l.store
dropped_store l = lose_keeps (λ l. l.store) l.road l (λ _ _. refl)

pub dropped_taken : (l : Line) → (dropped l).taken ≡ l.taken
dropped_taken l = lose_keeps (λ l. l.taken) l.road l (λ _ _. refl)

pub dropped_reported : (l : Line) → (dropped l).reported ≡ l.reported
dropped_reported l = lose_keeps (λ l. l.reported) l.road l (λ _ _. refl)

-- a take loses nothing, and leaves what is under way
pub fetched_lost : (p : Plan) (i : ℕ) (l : Line) → (fetched p i l).lost ≡ l.lost
fetched_lost p i l = go l.store
  where
    go : (store : List Item) → (line_taken p i store l).lost ≡ l.lost
    go [] = refl
    go (packet k x ∷ rest) = refl
    go (marker k m ∷ rest) = refl

pub fetched_road : (p : Plan) (i : ℕ) (l : Line) → (fetched p i l).road ≡ l.road
fetched_road p i l = go l.store
  where
    go : (store : List Item) → (line_taken p i store l).road ≡ l.road
    go [] = refl
    go (packet k x ∷ rest) = refl
    go (marker k m ∷ rest) = refl
