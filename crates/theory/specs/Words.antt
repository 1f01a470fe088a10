-- The words in which the far end's demands are said.
use Rattle.std.specs.Prelude.{ℕ, zero, suc, ◌+◌, ◌<◌, Bool, true, false, not, ◌&&◌, cond, List, [], ◌∷◌, ◌++◌, map, ◌⊎◌, ◌≡◌, ltb, leb, eqb, length}
use Rattle.theory.specs.Sending.{Plan, line_of}
use Rattle.theory.specs.System.{Item, packet, marker, Line, State, Step, take, Out}

-- the first list is a beginning of the second
abbrev pub Beginning : {A : Type 0} → List A → List A → Type 0
Beginning {A} xs ys = (rest : List A) × (xs ++ rest ≡ ys)

-- ---- bytes lost

-- a sum over the packets among some items
abbrev pub total : (ℕ → List ℕ → ℕ) → List Item → ℕ
total f [] = 0
total f (packet k x ∷ rest) = f k x + total f rest
total f (marker k m ∷ rest) = total f rest

-- what a packet counts on line i before a marker labelled k: its charge where its label is below k
abbrev pub before : Plan → ℕ → ℕ → ℕ → List ℕ → ℕ
before p i k label x = cond (ltb label k) (p.charge i (length x)) 0

-- ---- markers

-- among the items taken from a line is a marker labelled c. The opening counts as a marker labelled 0.
abbrev pub Yielded : ℕ → List Item → Type 0
Yielded c [] = c ≡ 0
Yielded c (packet k x ∷ rest) = Yielded c rest
Yielded c (marker k m ∷ rest) = (c ≡ k) ⊎ Yielded c rest

-- among the items lost on a line is no packet sent behind the marker labelled c
abbrev pub NoneBehind : ℕ → List Item → Type 0
NoneBehind c [] = Unit {0}
NoneBehind c (packet k x ∷ rest) = (k < c) × NoneBehind c rest
NoneBehind c (marker k m ∷ rest) = NoneBehind c rest

-- a queue holds a marker labelled c
abbrev pub HasMarker : ℕ → List Item → Type 0
HasMarker c [] = ⊥
HasMarker c (packet k x ∷ rest) = HasMarker c rest
HasMarker c (marker k m ∷ rest) = (k ≡ c) ⊎ HasMarker c rest

-- a queue holds no packet
abbrev pub NoPacketIn : List Item → Type 0
NoPacketIn [] = Unit {0}
NoPacketIn (packet k x ∷ rest) = ⊥
NoPacketIn (marker k m ∷ rest) = NoPacketIn rest

-- ---- packets still to come

-- packet k is among the items
abbrev pub has : ℕ → List Item → Bool
has k [] = false
has k (packet j x ∷ rest) = cond (eqb j k) true (has k rest)
has k (marker j m ∷ rest) = has k rest

-- the numbers below n that pass a test, in order
abbrev pub sieve : (ℕ → Bool) → ℕ → List ℕ
sieve f zero = []
sieve f (suc n) = sieve f n ++ cond (f n) (n ∷ []) []

-- Packet k, of bytes k, was sent behind its line's marker, labelled c i on line i, and a state has not yet handed it out.
abbrev pub awaited : Plan → (ℕ → List ℕ) → (ℕ → ℕ) → State → ℕ → Bool
awaited p bytes c s k =
    let i = line_of p (λ n. length (bytes n)) k in
    leb (c i) k && not (has k (s.line i).taken)

-- of the first n packets those sent behind their lines' markers and still to come, in sent order
abbrev pub to_come : Plan → (ℕ → List ℕ) → (ℕ → ℕ) → State → ℕ → List Out
to_come p bytes c s n = map (λ (k : ℕ). record { number = k; bytes = bytes k }) (sieve (awaited p bytes c s) n)

-- ---- as many takes as items held

abbrev pub stored_below : (ℕ → Line) → ℕ → ℕ
stored_below lines zero = 0
stored_below lines (suc n) = stored_below lines n + length (lines n).store

abbrev pub takes : ℕ → List Step
takes zero = []
takes (suc n) = take ∷ takes n
