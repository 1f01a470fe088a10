-- A receiver that opens: its state is valid and its queues are empty. Assumes nothing.
use mathlib.Core.Path.{◌≡◌, refl, ap, sym, subst}
use Prim.Native.Nat.{ℕ, ◌*◌, ◌≤◌, ◌<◌}
use native.Mathlib.Omega.{arith}
use mathlib.Core.Bool.{Bool, true, false, ◌&&◌}
use mathlib.Core.List.{List, []}
use lib.ListN.{length}
use Rattle.numbers.proofs.Checks.{both}
use Rattle.plan.specs.declared.Plan.{Plan}
use Rattle.plan.specs.Limits.{most_lines}
use Rattle.plan.specs.Ranges.{PlanIn, StoreIn}
use Rattle.plan.proofs.Ranges.{plan_good_lem, store_good}
use Rattle.plan.specs.Plan.{quantum, plan_ok, store_ok, trimmed}
use Rattle.plan.proofs.Laws.{in_range_lem, trimmed_ok}
use Rattle.ring.specs.Ring.{from_ring, held}
use Rattle.ring.specs.Queue.{row_of}
use Rattle.receiving.specs.declared.Held.{Held}
use Rattle.receiving.specs.declared.Turn.{Turn}
use Rattle.receiving.specs.Receiver.{receiver_ok, opened_receiver, open_receiver, ring_of, receiver_of}
use Rattle.receiving.specs.Stage.{Stage, stage}
use Rattle.receiving.proofs.Laws.{HeldIn, TurnIn, Valid, is_valid, sized, not_opened, is_opened}
use Rattle.receiving.proofs.Lines.{empty_held, opened_turn, opened_whole}
use Rattle.receiving.proofs.Steps.{not_ahead}
use Rattle.receiving.proofs.Valid.{found}
use Rattle.receiving.proofs.Stages.{Sound, HoldsIn, HoldsOn}
use Rattle.numbers.specs.Refusals.{number_of}

opened_valid : (p : Plan) (size : ℕ) → length p.quanta ≡ most_lines → plan_ok p ≡ true → store_ok p size ≡ true → Valid (opened_receiver p size)
unfolding store_ok
opened_valid p size sixteen good fits =
    let trim = trimmed_ok p good sixteen in
    let range = in_range_lem (trimmed p) trim in
    let first = opened_turn p size range.few_lines in
    record {
      plan = trim;
      store = fits;
      held = λ i h.
          subst (HeldIn size) (sym (empty_held size i (omega (arith, range.few_lines))))
          (record { head_below = omega (arith, (sized p size fits).least); used_most = omega arith });
      turn = λ i h.
          subst (TurnIn (quantum (trimmed p) i) 1) (sym (first i h))
          (record { counter_least = omega (arith, range.quantum_least i h, range.max_least); counter_most = omega arith; near = not_ahead 1 });
      current = found p.lines _ 1 0 range.some_lines (ap (λ (t : Turn). t.round) (first 0 range.some_lines));
    }

-- it opens where the plan and S are in range
pub opens_in : (p : Plan) (size : ℕ) → PlanIn p → StoreIn p size → number_of (open_receiver p size) ≡ 0
unfolding open_receiver
opens_in p size plan room = simp (plan_good_lem p plan, store_good p size room)

module _ (p : Plan) (size : ℕ) (opens : (number_of (open_receiver p size)) ≡ 0) where
  -- the plan and the size were in range
  checked : plan_ok p && store_ok p size ≡ true
  checked = go (plan_ok p && store_ok p size) refl
    where
      go : (t : Bool) → plan_ok p && store_ok p size ≡ t → t ≡ true
      go true q = refl
      go false q = absurd (omega (arith, opens, ap number_of (not_opened p size q)))

  pub plan_opened : plan_ok p ≡ true
  plan_opened = (both (plan_ok p) (store_ok p size) checked).0

  pub is_open : (receiver_of (open_receiver p size)) ≡ opened_receiver p size
  is_open = sym (ap receiver_of (is_opened p size checked))

-- a ring of which nothing is used is empty
holds_none : (ring : List ℕ) → HoldsIn ring (record { head = 0; used = 0 }) []
unfolding held from_ring row_of
holds_none ring = record { fits = omega arith; row = refl; short = tt }

module _ (p : Plan) (size : ℕ) (store : List ℕ) (sixteen : length p.quanta ≡ most_lines) (opens : (number_of (open_receiver p size)) ≡ 0)
    (fits : length store ≡ p.lines * size)
  where
    abbrev first : Stage
    first = stage (receiver_of (open_receiver p size)) store

    in_ranges : (plan_ok p ≡ true) × (store_ok p size ≡ true)
    in_ranges = both (plan_ok p) (store_ok p size) (checked p size opens)

    few : p.lines ≤ most_lines
    few = (in_range_lem p in_ranges.0).few_lines

    pub open_valid : receiver_ok (receiver_of (open_receiver p size)) ≡ true
    open_valid = rw (is_open p size opens) (is_valid _ (opened_valid p size sixteen in_ranges.0 in_ranges.1))

    pub open_sound : Sound first
    open_sound = record { good = open_valid; fits = rw (is_open p size opens) fits; whole = rw (is_open p size opens) (opened_whole p size few sixteen) }

    -- every queue is empty
    pub open_empty : (i : ℕ) → i < p.lines → HoldsOn i first []
    open_empty i line =
        let ring = ring_of size store i in
        rw (is_open p size opens) (subst (λ (h : Held). HoldsIn ring h []) (sym (empty_held size i (omega (arith, few)))) (holds_none ring))
