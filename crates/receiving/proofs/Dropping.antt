-- What a take does to the lines' queues: one that takes an item drops the head of its line's, and all others stay as they were. Assumes nothing.
use mathlib.Core.Path.{◌≡◌, refl, ap, sym, ◌∙◌, subst}
use Prim.Native.Nat.{ℕ, ◌+◌, ◌-◌, ◌%◌, ◌≤◌}
use native.Mathlib.Decide.{ℕ_discrete}
use native.Mathlib.Omega.{arith}
use mathlib.Core.Bool.{Bool, true, false, and-false}
use mathlib.Core.List.{List, [], ◌∷◌}
use lib.ListN.{length, drop}
use borrow.Author.Tests.{eq-eqb, ne_eqb}
use Rattle.numbers.proofs.Checks.{never}
use Rattle.plan.specs.Limits.{item_head}
use Rattle.ring.specs.Queue.{Entry}
use Rattle.ring.proofs.Promises.{taking_drops}
use Rattle.receiving.specs.declared.Receiver.{Receiver}
use Rattle.receiving.specs.declared.Held.{Held}
use Rattle.receiving.specs.Receiver.{held_of, current_line, receiver_ok, ring_of}
use Rattle.receiving.specs.Taking.{TakeOutcome, take_of}
use Rattle.receiving.specs.Takes.{goes_on}
use Rattle.receiving.specs.Stage.{Stage, stage, taken_from}
use Rattle.receiving.proofs.Laws.{valid, ring_length}
use Rattle.receiving.proofs.Lines.{held_same, held_other, line_whole}
use Rattle.receiving.proofs.Stages.{Sound, HoldsIn, HoldsOn, Untouched, untouched_holds}
use Rattle.receiving.proofs.Stores.{few_rings}
use Rattle.receiving.proofs.Valid.{taken_by_lem, refused_stays, kept_sizes}
use Rattle.receiving.proofs.Heads.{line_taken, empty_waits, head_taken, head_goes}

module _ (s : Stage) (ok : Sound s) (out : List ℕ) where
  abbrev r : Receiver
  r = s.receiver

  abbrev line : ℕ
  line = current_line r

  abbrev took : TakeOutcome
  took = take_of r s.store out

  abbrev left : Stage
  left = stage took.result.next s.store

  pub taken_plan : took.result.next.plan ≡ r.plan
  taken_plan = (kept_sizes r s.store out).0

  pub taken_sound : receiver_ok took.result.next ≡ true → Sound left
  taken_sound good = record {
    good = good;
    fits = rw (line_taken s ok out) ok.fits;
    whole = rw (line_taken s ok out) (line_whole r line _ ok.whole);
  }

  -- an item is taken only from the current line, and no other is touched
  pub taken_other : (i : ℕ) → (i ≡ line → ⊥) → Untouched i s left
  taken_other i apart = rw (line_taken s ok out) (record { ring = refl; held = held_other r.rings line _ i apart })

  none_taken : (i : ℕ) → (i ≡ line → ⊥) → taken_from i took.result.answer ≡ 0
  none_taken i apart = taken_by_lem r s.store out i ∙ simp (ne_eqb line i (λ q. apart (sym q)), and-false)

  pub taken_from_lem : (i : ℕ) → taken_from i took.result.answer ≡ 1 → i ≡ line
  taken_from_lem i e = go (ℕ_discrete i line)
    where
      go : Dec (i ≡ line) → i ≡ line
      go (yes p) = p
      go (no p) = absurd (omega (arith, none_taken i p))

  -- the items of line i that are left, where the answer says how many were taken
  pub record Leaves (i : ℕ) (es : List Entry) : Type 0 where
    pub enough : taken_from i took.result.answer ≤ length es
    pub holds : HoldsOn i left (drop (taken_from i took.result.answer) es)

  left_here : (es : List Entry) → HoldsOn line s es → (t : Bool) → goes_on took.result.answer ≡ t → Leaves line es
  left_here es h false on =
      let none : taken_from line took.result.answer ≡ 0 = taken_by_lem r s.store out line ∙ simp on in
      record {
        enough = omega arith;
        holds = rw none (subst (λ (next : Receiver). HoldsOn line (stage next s.store) es) (sym (refused_stays r s.store out on).0) h);
      }
  left_here [] h true on = absurd (never (sym on ∙ ap (λ (t : TakeOutcome). goes_on t.result.answer) (empty_waits s ok out h)))
  left_here (e ∷ es) h true on =
      let one : taken_from line took.result.answer ≡ 1 = taken_by_lem r s.store out line ∙ simp (on, eq-eqb line line refl) in
      let v = valid r ok.good in
      let n = item_head + length e.bytes in
      let was = held_of r.rings line in
      let ring = ring_of r.rings.size s.store line in
      let long = ring_length r.plan.lines r.rings.size s.store line v.current ok.fits in
      let is = head_taken s ok out e es h in
      let now : held_of took.result.next.rings line ≡ record { head = (was.head + n) % r.rings.size; used = was.used - n } =
      ap (λ (t : TakeOutcome). held_of t.result.next.rings line) is
      ∙ held_same r.rings line _ ok.whole.rings (omega (arith, v.current, (few_rings r ok.good).0))
      ∙ (head_goes s ok out e es h).gone (subst (λ (t : TakeOutcome). goes_on t.result.answer ≡ true) is on) in
      let rest = subst (λ (size : ℕ). HoldsIn ring (record { head = (was.head + n) % size; used = was.used - n }) es) long (taking_drops ring was.head was.used e es h).3 in
      record {
        enough = omega arith;
        holds = rw (one, (kept_sizes r s.store out).1) (subst (λ (h : Held). HoldsIn ring h es) (sym now) rest);
      }

  pub taken_holds : (i : ℕ) (es : List Entry) → HoldsOn i s es → Leaves i es
  taken_holds i es h = go (ℕ_discrete i line)
    where
      go : Dec (i ≡ line) → Leaves i es
      go (yes p) =
          subst (λ (i : ℕ). HoldsOn i s es → Leaves i es) (sym p) (λ h. left_here es h (goes_on took.result.answer) refl) h
      go (no p) =
          let none = none_taken i p in
          record { enough = omega arith; holds = rw none (untouched_holds (taken_other i p) h) }
