-- One line's figures, set and read back. The other proofs cite these laws, and name an array only where they say the range of its entries: a figure
-- that is added to a line is added here, and in the definitions. Assumes nothing.
use mathlib.Core.Path.{◌≡◌}
use Prim.Native.Nat.{ℕ, ◌≤◌, ◌<◌}
use native.Mathlib.Decide.{dec_lt, ℕ_discrete}
use native.Mathlib.Omega.{arith}
use mathlib.Core.List.{List}
use lib.ListN.{length, set, length-set, length-replicate, get_or-replicate}
use lib.Seq.{get_or-set_same, get_or-set_other, set-get_or, set_out}
use Rattle.plan.specs.declared.Plan.{Plan}
use Rattle.plan.specs.Limits.{most_lines}
use Rattle.plan.specs.Plan.{at, quantum, trimmed}
use Rattle.plan.proofs.Laws.{first_ones, ones_length, entries_length}
use Rattle.receiving.specs.declared.Rings.{Rings}
use Rattle.receiving.specs.declared.Turns.{Turns}
use Rattle.receiving.specs.declared.Receiver.{Receiver}
use Rattle.receiving.specs.declared.Held.{Held}
use Rattle.receiving.specs.declared.Turn.{Turn}
use Rattle.receiving.specs.declared.Line.{Line}
use Rattle.receiving.specs.Receiver.{held_of, turn_of, with_held, with_turn, empty_rings, opened_receiver}
use Rattle.receiving.specs.Arriving.{with_item}
use Rattle.receiving.specs.Taking.{with_line}

-- ---- an array

-- What holds of a new entry i, and of entry j as it was, holds of entry j with the new one in its place. The array may be too short to have that
-- place: that a state is valid says nothing of its arrays' lengths.
pub with_entry : (Q : ℕ → ℕ → Type 0) (l : List ℕ) (i x j : ℕ) → Q i x → Q j (at l j) → Q j (at (set l i x) j)
with_entry Q l i x j new old = go (dec_lt i (length l)) (ℕ_discrete j i)
  where
    go : Dec (i < length l) → Dec (j ≡ i) → Q j (at (set l i x) j)
    go (yes h) (yes e) = rw (e, get_or-set_same l i x 0 h) new
    go (yes h) (no e) = rw (get_or-set_other l i j x 0 e) old
    go (no h) e = rw (set_out l i x (omega arith)) old

-- ---- what is stored

-- every array has an entry for each line that there can be
pub record RingsWhole (g : Rings) : Type 0 where
  pub heads : length g.heads ≡ most_lines
  pub used : length g.used ≡ most_lines

module _ (g : Rings) (i : ℕ) where
  -- a line's own figures change nothing
  pub held_own : with_held g i (held_of g i) ≡ g
  held_own = λ k. record { size = g.size; heads = set-get_or g.heads i 0 k; used = set-get_or g.used i 0 k }

  module _ (h : Held) where
    pub held_other : (j : ℕ) → (j ≡ i → ⊥) → held_of (with_held g i h) j ≡ held_of g j
    held_other j apart = λ k. record {
      head = get_or-set_other g.heads i j h.head 0 apart k;
      used = get_or-set_other g.used i j h.used 0 apart k;
    }

    pub held_same : RingsWhole g → i < most_lines → held_of (with_held g i h) i ≡ h
    held_same w line = λ k. record {
      head = get_or-set_same g.heads i h.head 0 (omega arith) k;
      used = get_or-set_same g.used i h.used 0 (omega arith) k;
    }

    pub rings_kept : RingsWhole g → RingsWhole (with_held g i h)
    rings_kept w = record { heads = simp length-set w.heads; used = simp length-set w.used }

-- ---- whose turn it is

pub record TurnsWhole (t : Turns) : Type 0 where
  pub rounds : length t.rounds ≡ most_lines
  pub counters : length t.counters ≡ most_lines

module _ (t : Turns) (i : ℕ) where
  pub turn_own : with_turn t i (turn_of t i) ≡ t
  turn_own = λ k. record { round = t.round; rounds = set-get_or t.rounds i 0 k; counters = set-get_or t.counters i 0 k }

  module _ (x : Turn) where
    pub turn_other : (j : ℕ) → (j ≡ i → ⊥) → turn_of (with_turn t i x) j ≡ turn_of t j
    turn_other j apart = λ k. record {
      round = get_or-set_other t.rounds i j x.round 0 apart k;
      counter = get_or-set_other t.counters i j x.counter 0 apart k;
    }

    pub turn_same : TurnsWhole t → i < most_lines → turn_of (with_turn t i x) i ≡ x
    turn_same w line = λ k. record {
      round = get_or-set_same t.rounds i x.round 0 (omega arith) k;
      counter = get_or-set_same t.counters i x.counter 0 (omega arith) k;
    }

    pub turns_kept : TurnsWhole t → TurnsWhole (with_turn t i x)
    turns_kept w = record { rounds = simp length-set w.rounds; counters = simp length-set w.counters }

-- ---- both

pub record Whole (r : Receiver) : Type 0 where
  pub rings : RingsWhole r.rings
  pub turns : TurnsWhole r.turns

pub item_whole : (r : Receiver) (i n : ℕ) → Whole r → Whole (with_item r i n)
item_whole r i n w = record { rings = rings_kept r.rings i _ w.rings; turns = w.turns }

pub line_whole : (r : Receiver) (i : ℕ) (l : Line) → Whole r → Whole (with_line r i l)
line_whole r i l w =
    let t = turns_kept r.turns i l.turn w.turns in
    record { rings = rings_kept r.rings i l.held w.rings; turns = record { rounds = t.rounds; counters = t.counters } }

-- ---- opening

pub empty_held : (size i : ℕ) → i < most_lines → held_of (empty_rings size) i ≡ record { head = 0; used = 0 }
empty_held size i line = λ k. record { head = get_or-replicate most_lines i 0 0 line k; used = get_or-replicate most_lines i 0 0 line k }

module _ (p : Plan) (size : ℕ) (few : p.lines ≤ most_lines) where
  pub opened_turn : (i : ℕ) → i < p.lines → turn_of (opened_receiver p size).turns i ≡ record { round = 1; counter = quantum (trimmed p) i }
  opened_turn i line = λ k. record { round = first_ones p.lines few i line k; counter = quantum (trimmed p) i }

  pub opened_whole : length p.quanta ≡ most_lines → Whole (opened_receiver p size)
  opened_whole sixteen = record {
    rings = record { heads = length-replicate {A = ℕ} most_lines 0; used = length-replicate {A = ℕ} most_lines 0 };
    turns = record { rounds = ones_length p.lines few; counters = entries_length p.lines p.quanta few sixteen };
  }
