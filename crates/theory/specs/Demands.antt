-- Demand 2's rule and share, and that the two forms of sending agree, as statements over every history.
use Rattle.std.specs.Prelude.{ℕ, suc, ◌+◌, ◌*◌, ◌≤◌, ◌<◌, true, ◌≡◌}
use Rattle.theory.specs.Sending.{Plan, rounds, choose, carried, line_of, ends, ended, due_after, round_at, counter_at, countdown_at}
use Rattle.theory.specs.FirstForm.{Figures, first_open, first_due, first_after}

-- A plan that both ends can agree on: there is a line and an interval, and no quantum is below its line's charge for the largest packet.
pub record Sound (p : Plan) : Type 0 where
  pub some_line : 1 ≤ p.lines
  pub some_round : 1 ≤ p.interval
  pub some_charge : (i : ℕ) → i < p.lines → 1 ≤ p.charge i p.largest
  pub enough : (i : ℕ) → i < p.lines → p.charge i p.largest ≤ p.quantum i

-- The first n packets: none is charged more than the largest.
abbrev pub Fit : Plan → (ℕ → ℕ) → ℕ → Type 0
Fit p lengths n = (m : ℕ) → m < n → (i : ℕ) → i < p.lines → p.charge i (lengths m) ≤ p.charge i p.largest

-- The rule: a packet goes to the line of lowest round, lower number on a tie.
pub record Lowest (p : Plan) (v : ℕ → ℕ) (a : ℕ) : Type 0 where
  pub is_line : a < p.lines
  pub lowest : (j : ℕ) → j < p.lines → rounds p v a ≤ rounds p v j
  pub on_tie : (j : ℕ) → j < p.lines → rounds p v j ≡ rounds p v a → a ≤ j

abbrev pub Rule : Plan → Type 0
Rule p = (lengths : ℕ → ℕ) (n : ℕ) → Lowest p (carried p lengths n) (line_of p lengths n)

-- The share: at the end of k full rounds a line has carried at least k quanta, and less than k quanta plus one largest packet.
abbrev pub Share : Plan → Type 0
Share p =
    (lengths : ℕ → ℕ) (n : ℕ) → Fit p lengths (suc n) → ends p (carried p lengths n) (lengths n) ≡ true
    → (i : ℕ) → i < p.lines
    → (ended p lengths (suc n) * p.quantum i ≤ carried p lengths (suc n) i)
    × (carried p lengths (suc n) i < ended p lengths (suc n) * p.quantum i + p.charge i p.largest)

-- The first form's figures are those of positions v, once k full rounds have ended. Entries from the last line on do not matter.
pub record Shows (p : Plan) (s : Figures) (v : ℕ → ℕ) (k : ℕ) : Type 0 where
  pub line : s.line ≡ choose p v
  pub countdown : s.countdown ≡ countdown_at p.interval k
  pub round : (i : ℕ) → i < p.lines → s.round i ≡ round_at (p.quantum i) (v i)
  pub counter : (i : ℕ) → i < p.lines → s.counter i ≡ counter_at (p.quantum i) (v i)

-- The first form's opening shows that nothing is carried.
abbrev pub Opens : Plan → Type 0
Opens p = Shows p (first_open p) (λ i. 0) 0

-- The forms agree: from a state that shows nothing carried, after any packets, the first form shows what the lines have carried,
-- and says that markers are due exactly when they are.
abbrev pub FormsAgree : Plan → Type 0
FormsAgree p =
    (s : Figures) → Shows p s (λ i. 0) 0 → (lengths : ℕ → ℕ) (n : ℕ) → Fit p lengths n
    → Shows p (first_after p s lengths n) (carried p lengths n) (ended p lengths n)

abbrev pub DuesAgree : Plan → Type 0
DuesAgree p =
    (s : Figures) → Shows p s (λ i. 0) 0 → (lengths : ℕ → ℕ) (n : ℕ) → Fit p lengths (suc n)
    → first_due p (first_after p s lengths n) (lengths n) ≡ due_after p lengths n

-- what is promised of a plan
pub record Promises (p : Plan) : Type 0 where
  pub rule : Rule p
  pub share : Share p
  pub opens : Opens p
  pub forms_agree : FormsAgree p
  pub dues_agree : DuesAgree p
