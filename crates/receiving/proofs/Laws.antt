-- The laws of a receiver's state: its current line, when it is valid, its opening, and the parts of its store. Assumes nothing.
use mathlib.Core.Path.{◌≡◌, refl, ap, ◌∙◌}
use Prim.Native.Nat.{ℕ, zero, suc, ◌+◌, ◌*◌, ◌≤◌, ◌<◌}
use native.Mathlib.Decide.{ℕ_discrete}
use native.Mathlib.Nat.{mul-le-mul_right, suc-mul}
use native.Mathlib.Omega.{arith}
use mathlib.Core.Bool.{Bool, true, false, ◌&&◌, cond}
use mathlib.Core.List.{List}
use lib.Dec.{ltb, leb, eqb}
use lib.ListN.{length, drop, length-drop}
use lib.Seq.{length-take-le}
use borrow.Author.Tests.{ltb-true, lt-ltb, leb-true, le-leb, eqb-true}
use Rattle.numbers.specs.Checks.{all_below}
use Rattle.numbers.specs.Wrap.{half}
use Rattle.numbers.proofs.Checks.{both, from_range, all_at, all}
use Rattle.plan.specs.declared.Plan.{Plan}
use Rattle.plan.specs.Limits.{most_lines, item_head, most_store}
use Rattle.plan.specs.Plan.{quantum, plan_ok, store_ok, counters_ok, zeros, no_plan}
use Rattle.plan.proofs.Laws.{counters_in, are_counters, are_zeros}
use Rattle.report.specs.Report.{ahead}
use Rattle.receiving.specs.declared.Rings.{Rings}
use Rattle.receiving.specs.declared.Turns.{Turns}
use Rattle.receiving.specs.declared.Receiver.{Receiver}
use Rattle.receiving.specs.declared.Held.{Held}
use Rattle.receiving.specs.declared.Turn.{Turn}
use Rattle.receiving.specs.Receiver.{held_of, turn_of, with_held, with_turn, first_from, line_at, round_of, current_line, held_ok, rings_ok, near_ok, turns_ok, receiver_ok, closed_receiver, opened_receiver, open_receiver, ring_of}
use Rattle.receiving.proofs.Lines.{with_entry}
use Rattle.numbers.specs.declared.Refusal.TheVariants as refusal
use Rattle.std.specs.Array.{AllOfLen}
use Rattle.std.specs.Prelude.{Ok, Err}

-- ---- the first number of which a test holds

module _ (f : ℕ → Bool) where
  -- where it is one of them, the test holds of it and of none before
  pub record First (n i k : ℕ) : Type 0 where
    pub most : k ≤ i + n
    pub holds : k < i + n → f k ≡ true
    pub none : (j : ℕ) → i ≤ j → j < k → f j ≡ false

  pub first_is : (n i : ℕ) → First n i (first_from f n i)
  unfolding first_from
  first_is zero i = record { most = omega arith; holds = λ h. absurd (omega arith); none = λ j a b. absurd (omega arith) }
  first_is (suc n) i = go (f i) refl (first_is n (suc i))
    where
      go : (t : Bool) → f i ≡ t → First n (suc i) (first_from f n (suc i)) → First (suc n) i (cond t i (first_from f n (suc i)))
      go true e r = record { most = omega arith; holds = λ h. e; none = λ j a b. absurd (omega arith) }
      go false e r = record { most = omega (arith, r.most); holds = λ h. r.holds (omega arith); none = λ j a b. before j a b (ℕ_discrete j i) }
        where
          before : (j : ℕ) → i ≤ j → j < first_from f n (suc i) → Dec (j ≡ i) → f j ≡ false
          before j a b (yes p) = ap f p ∙ e
          before j a b (no p) = r.none j (omega arith) b

-- a line that is found at a round is at it
pub at_round : (lines : ℕ) (rounds : ℕ → ℕ) (round : ℕ) → line_at lines rounds round < lines → rounds (line_at lines rounds round) ≡ round
unfolding line_at
at_round lines rounds round h = eqb-true _ _ ((first_is (λ i. eqb (rounds i) round) lines 0).holds (omega arith))

-- ---- one line's figures in range

-- for a ring of S
pub record HeldIn (size : ℕ) (h : Held) : Type 0 where
  pub head_below : h.head < size
  pub used_most : h.used ≤ size

-- for a quantum, with its round less than 2^31 ahead of another
pub record TurnIn (q from : ℕ) (t : Turn) : Type 0 where
  pub counter_least : 1 ≤ t.counter
  pub counter_most : t.counter ≤ q
  pub near : ahead t.round from < half

-- they stay so beside new ones that are
pub held_in : (size : ℕ) (g : Rings) (i : ℕ) (h : Held) (j : ℕ) → HeldIn size h → HeldIn size (held_of g j) → HeldIn size (held_of (with_held g i h) j)
held_in size g i h j new old = record {
  head_below = with_entry (λ _ x. x < size) g.heads i h.head j new.head_below old.head_below;
  used_most = with_entry (λ _ x. x ≤ size) g.used i h.used j new.used_most old.used_most;
}

pub turn_in : (q : ℕ → ℕ) (from : ℕ) (t : Turns) (i : ℕ) (x : Turn) (j : ℕ) → TurnIn (q i) from x → TurnIn (q j) from (turn_of t j)
    → TurnIn (q j) from (turn_of (with_turn t i x) j)
turn_in q from t i x j new old = record {
  counter_least = with_entry (λ _ c. 1 ≤ c) t.counters i x.counter j new.counter_least old.counter_least;
  counter_most = with_entry (λ k c. c ≤ q k) t.counters i x.counter j new.counter_most old.counter_most;
  near = with_entry (λ _ round. ahead round from < half) t.rounds i x.round j new.near old.near;
}

-- ---- a valid state

pub record Valid (r : Receiver) : Type 0 where
  pub plan : plan_ok r.plan ≡ true
  pub store : store_ok r.plan r.rings.size ≡ true
  pub held : (i : ℕ) → i < r.plan.lines → HeldIn r.rings.size (held_of r.rings i)
  pub turn : (i : ℕ) → i < r.plan.lines → TurnIn (quantum r.plan i) r.turns.round (turn_of r.turns i)
  pub current : current_line r < r.plan.lines

pub valid : (r : Receiver) → receiver_ok r ≡ true → Valid r
unfolding receiver_ok rings_ok turns_ok
valid r e =
    let p = r.plan in
    let g = r.rings in
    let t = r.turns in
    let a = both _ (ltb (current_line r) p.lines) e in
    let b = both _ (turns_ok p t) a.0 in
    let c = both (plan_ok p) (rings_ok p g) b.0 in
    let rings = both (store_ok p g.size) (all_below (held_ok g) p.lines) c.1 in
    let turns = both (counters_ok p t.counters) (all_below (near_ok t) p.lines) b.1 in
    record {
      plan = c.0;
      store = rings.0;
      held = λ i h.
          let each = both (ltb (held_of g i).head g.size) (leb (held_of g i).used g.size) (all_at (held_ok g) p.lines rings.1 i h) in
          record { head_below = ltb-true _ _ each.0; used_most = leb-true _ _ each.1 };
      turn = λ i h.
          let counter = counters_in p t.counters turns.0 i h in
          record { counter_least = counter.0; counter_most = counter.1; near = ltb-true _ _ (all_at (near_ok t) p.lines turns.1 i h) };
      current = ltb-true _ _ a.1;
    }

pub is_valid : (r : Receiver) → Valid r → receiver_ok r ≡ true
unfolding receiver_ok rings_ok turns_ok
is_valid r v =
    let g = r.rings in
    let t = r.turns in
    simp (
      v.plan,
      v.store,
      all (held_ok g) r.plan.lines
          (λ i h. simp (
            lt-ltb (held_of g i).head g.size (v.held i h).head_below,
            le-leb (held_of g i).used g.size (v.held i h).used_most,
          )),
      are_counters r.plan t.counters (λ i h. ((v.turn i h).counter_least, (v.turn i h).counter_most)),
      all (near_ok t) r.plan.lines (λ i h. lt-ltb (ahead (round_of t i) t.round) half (v.turn i h).near),
      lt-ltb (current_line r) r.plan.lines v.current,
    )

-- the store of a plan in range
pub record Sized (p : Plan) (size : ℕ) : Type 0 where
  pub least : p.max + item_head ≤ size
  pub most : size ≤ most_store

pub sized : (p : Plan) (size : ℕ) → store_ok p size ≡ true → Sized p size
unfolding store_ok
sized p size e = let s = from_range (p.max + item_head) size most_store e in record { least = s.0; most = s.1 }

-- ---- opening

pub not_opened : (p : Plan) (size : ℕ) → plan_ok p && store_ok p size ≡ false → Err refusal.Plan ≡ open_receiver p size
unfolding open_receiver
not_opened p size e = simp e

pub is_opened : (p : Plan) (size : ℕ) → plan_ok p && store_ok p size ≡ true
    → Ok (opened_receiver p size) ≡ open_receiver p size
unfolding open_receiver
is_opened p size e = simp e

-- a state from its parts
made : Plan → ℕ → List ℕ → List ℕ → ℕ → List ℕ → List ℕ → Receiver
made plan size heads used round rounds counters = record {
  plan = plan;
  rings = record { size = size; heads = heads; used = used };
  turns = record { round = round; rounds = rounds; counters = counters };
}

-- one that has zeros alone is closed
pub all_zeros : (r : Receiver) → r.plan ≡ no_plan → (r.rings.size ≡ 0) × (r.turns.round ≡ 0)
    → AllOfLen (λ x. x ≡ 0) r.rings.heads most_lines → AllOfLen (λ x. x ≡ 0) r.rings.used most_lines
    → AllOfLen (λ x. x ≡ 0) r.turns.rounds most_lines → AllOfLen (λ x. x ≡ 0) r.turns.counters most_lines → r ≡ closed_receiver
unfolding made
all_zeros r plan none heads used rounds counters =
    let g = r.rings in
    let t = r.turns in
    let made_of : made r.plan g.size g.heads g.used t.round t.rounds t.counters ≡ made no_plan 0 zeros zeros 0 zeros zeros =
    rw (plan, none.0, none.1, are_zeros g.heads heads, are_zeros g.used used, are_zeros t.rounds rounds, are_zeros t.counters counters) in
    made_of

-- ---- the store

-- line i's ring ends within the store
pub ring_inside : (lines size i : ℕ) → i < lines → i * size + size ≤ lines * size
ring_inside lines size i h =
    let m : suc i * size ≤ lines * size = mul-le-mul_right size h in
    omega (arith, m, suc-mul i size)

pub ring_length : (lines size : ℕ) (store : List ℕ) (i : ℕ) → i < lines → length store ≡ lines * size → length (ring_of size store i) ≡ size
unfolding ring_of
ring_length lines size store i h fits =
    length-take-le size (drop (i * size) store) (simp length-drop (omega (arith, ring_inside lines size i h)))
