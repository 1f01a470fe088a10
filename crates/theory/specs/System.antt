-- The system: the lines between the two ends, and what may happen on them. It counts in unbounded numbers, as sending does.
use Rattle.std.specs.Prelude.{ℕ, suc, ◌+◌, ◌-◌, cond, List, [], ◌∷◌, ◌++◌, eqb, length, get_or}
use Rattle.theory.specs.Sending.{Plan, choose, charged}

-- ---- what there is

-- What goes over a line: a packet's bytes, or a marker with the position that its line had at the sender. The first number is a label, which
-- neither end reads: how many packets had been sent before, on all lines.
pub data Item : Type 0 where
  packet : ℕ → List ℕ → Item
  marker : ℕ → ℕ → Item

-- One line: what is under way and what is stored, oldest first; what was taken and what was lost, latest first; the far end's position on it,
-- and what the far end has reported missing.
pub record Line : Type 0 where
  pub road : List Item
  pub store : List Item
  pub taken : List Item
  pub lost : List Item
  pub position : ℕ
  pub reported : ℕ

-- how many packets were sent, what each line has carried, and the lines
pub record State : Type 0 where
  pub sent : ℕ
  pub carries : ℕ → ℕ
  pub line : ℕ → Line

abbrev pub at_opening : State
at_opening = record {
  sent = 0;
  carries = λ i. 0;
  line = λ i. record { road = []; store = []; taken = []; lost = []; position = 0; reported = 0 };
}

-- ---- what may happen

-- a packet is sent; a marker is sent on a line; a line's oldest item under way arrives, or is lost; the far end takes
pub data Step : Type 0 where
  send : List ℕ → Step
  ask : ℕ → Step
  arrive : ℕ → Step
  lose : ℕ → Step
  take : Step

abbrev pub put : Item → Line → Line
put x l = record {
  road = l.road ++ (x ∷ []);
  store = l.store;
  taken = l.taken;
  lost = l.lost;
  position = l.position;
  reported = l.reported;
}

abbrev pub arrive_of : List Item → Line → Line
arrive_of [] l = l
arrive_of (x ∷ rest) l = record {
  road = rest;
  store = l.store ++ (x ∷ []);
  taken = l.taken;
  lost = l.lost;
  position = l.position;
  reported = l.reported;
}

abbrev pub lose_of : List Item → Line → Line
lose_of [] l = l
lose_of (x ∷ rest) l = record {
  road = rest;
  store = l.store;
  taken = l.taken;
  lost = x ∷ l.lost;
  position = l.position;
  reported = l.reported;
}

-- A take of line i: nothing where its queue is empty. A packet moves the position by its charge. A marker sets it, and what it jumps over is
-- reported missing.
abbrev pub line_taken : Plan → ℕ → List Item → Line → Line
line_taken p i [] l = l
line_taken p i (packet k x ∷ rest) l = record {
  road = l.road;
  store = rest;
  taken = packet k x ∷ l.taken;
  lost = l.lost;
  position = l.position + p.charge i (length x);
  reported = l.reported;
}
line_taken p i (marker k m ∷ rest) l = record {
  road = l.road;
  store = rest;
  taken = marker k m ∷ l.taken;
  lost = l.lost;
  position = m;
  reported = l.reported + (m - l.position);
}

abbrev pub arrived : Line → Line
arrived l = arrive_of l.road l

abbrev pub dropped : Line → Line
dropped l = lose_of l.road l

abbrev pub fetched : Plan → ℕ → Line → Line
fetched p i l = line_taken p i l.store l

-- the lines, with line i changed
unfoldable pub at_line : ℕ → (Line → Line) → (ℕ → Line) → ℕ → Line
at_line i f lines j = cond (eqb i j) (f (lines j)) (lines j)

-- the far end takes lines by the rule of sending, on its own positions
abbrev pub positions : State → ℕ → ℕ
positions s i = (s.line i).position

abbrev pub current : Plan → State → ℕ
current p s = choose p (positions s)

abbrev pub step : Plan → State → Step → State
step p s (send x) = record {
  sent = suc s.sent;
  carries = charged p s.carries (length x);
  line = at_line (choose p s.carries) (put (packet s.sent x)) s.line;
}
step p s (ask i) = record { sent = s.sent; carries = s.carries; line = at_line i (put (marker s.sent (s.carries i))) s.line }
step p s (arrive i) = record { sent = s.sent; carries = s.carries; line = at_line i arrived s.line }
step p s (lose i) = record { sent = s.sent; carries = s.carries; line = at_line i dropped s.line }
step p s take = record { sent = s.sent; carries = s.carries; line = at_line (current p s) (fetched p (current p s)) s.line }

abbrev pub run : Plan → State → List Step → State
run p s [] = s
run p s (e ∷ steps) = run p (step p s e) steps

-- ---- what is sent and what is handed out

abbrev pub sent_by : Step → List (List ℕ)
sent_by (send x) = x ∷ []
sent_by (ask i) = []
sent_by (arrive i) = []
sent_by (lose i) = []
sent_by take = []

-- the packets of some steps, in sent order
abbrev pub packets : List Step → List (List ℕ)
packets [] = []
packets (e ∷ steps) = sent_by e ++ packets steps

-- packet n of a list, and its length
abbrev pub nth : List (List ℕ) → ℕ → List ℕ
nth packets n = get_or packets n []

abbrev pub sizes : List (List ℕ) → ℕ → ℕ
sizes packets n = length (nth packets n)

-- a packet handed out, with its label
pub record Out : Type 0 where
  pub number : ℕ
  pub bytes : List ℕ

abbrev pub out_of : List Item → List Out
out_of [] = []
out_of (packet k x ∷ rest) = record { number = k; bytes = x } ∷ []
out_of (marker k m ∷ rest) = []

abbrev pub handed : Plan → State → Step → List Out
handed p s (send x) = []
handed p s (ask i) = []
handed p s (arrive i) = []
handed p s (lose i) = []
handed p s take = out_of (s.line (current p s)).store

abbrev pub outs : Plan → State → List Step → List Out
outs p s [] = []
outs p s (e ∷ steps) = handed p s e ++ outs p (step p s e) steps
