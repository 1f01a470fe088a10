-- What a take does, by what its line's queue holds: it waits where that is empty, and else takes the head. Assumes nothing.
use mathlib.Core.Path.{◌≡◌, ap, sym, ◌∙◌, subst}
use Prim.Native.Nat.{ℕ}
use mathlib.Core.Bool.{true}
use native.Mathlib.Omega.{arith}
use mathlib.Core.List.{List, [], ◌∷◌}
use lib.ListN.{length, take}
use borrow.Author.Tests.{eq-eqb}
use Rattle.plan.specs.declared.LinePlan.{LinePlan}
use Rattle.plan.specs.Plan.{line_plan}
use Rattle.ring.specs.Queue.{Entry, row_of}
use Rattle.ring.proofs.Laws.{held_length}
use Rattle.ring.proofs.Promises.{taking_drops}
use Rattle.receiving.specs.declared.Receiver.{Receiver}
use Rattle.receiving.specs.declared.Held.{Held}
use Rattle.receiving.specs.declared.Taken.TheVariants.{Waiting, Data}
use Rattle.std.specs.Prelude.{Ok}
use Rattle.receiving.specs.Receiver.{held_of, line_of, current_line, store_fits, ring_of}
use Rattle.receiving.specs.Taking.{Head, nothing, item_on, head_on, Stepped, step_of, TakeOutcome, taken, take_of}
use Rattle.receiving.specs.Stage.{Stage}
use Rattle.receiving.proofs.Laws.{valid}
use Rattle.receiving.proofs.Stores.{place}
use Rattle.receiving.proofs.Taking.{empty_queue, item_front, line_takes, step_at, step_taken}
use Rattle.receiving.proofs.Steps.{item_shows, Goes}
use Rattle.receiving.proofs.Valid.{stays_put, current_goes}
use Rattle.receiving.proofs.Stages.{Sound, HoldsIn, HoldsOn}

-- ---- one line

module _ (p : LinePlan) (i : ℕ) (h : Held) (ring : List ℕ) where
  empty_head : HoldsIn ring h [] → head_on p i h ring ≡ nothing
  unfolding row_of
  empty_head has = sym (empty_queue p i h ring (sym (held_length ring h.head h.used has.fits) ∙ ap length has.row))

  oldest_head : (e : Entry) (es : List Entry) → HoldsIn ring h (e ∷ es) → head_on p i h ring ≡ item_on p i e.kind e.bytes
  oldest_head e es has =
      let old = taking_drops ring h.head h.used e es has in
      let some : h.used ≡ 0 → ⊥ = λ z. absurd (omega (arith, old.2)) in
      sym (item_front p i h ring some e.kind (length e.bytes) old.0 has.fits) ∙ ap (item_on p i e.kind) old.1

-- ---- the current line of a stage

module _ (s : Stage) (ok : Sound s) (out : List ℕ) where
  abbrev r : Receiver
  r = s.receiver

  abbrev line : ℕ
  line = current_line r

  abbrev p : LinePlan
  p = line_plan r.plan line

  abbrev stepped : Head → Stepped
  stepped h = step_of p r.rings.size line (line_of r line) out h

  fits : store_fits r s.store ≡ true
  fits = eq-eqb _ _ ok.fits

  pub line_taken : take_of r s.store out ≡ taken r line (step_at r line s.store out)
  line_taken =
      let here = place r s.store line ok.good fits (valid r ok.good).current in
      sym (line_takes r s.store out ok.good fits) ∙ step_taken r line s.store out here.ring_size

  -- the take, where it is known what stands at the head
  head_known : (h : Head) → head_on p line (held_of r.rings line) (ring_of r.rings.size s.store line) ≡ h
      → take_of r s.store out ≡ taken r line (stepped h)
  head_known h is = line_taken ∙ ap (λ (h : Head). taken r line (stepped h)) is

  pub empty_waits : HoldsOn line s [] → take_of r s.store out ≡ record { result = record { answer = Ok (Waiting line); next = r }; out = out }
  empty_waits h =
      head_known nothing (empty_head p line _ _ h)
      ∙ ap (λ (x : Receiver). record { result = record { answer = Ok (Waiting line); next = x }; out = out }) (stays_put r ok.good)

  module _ (e : Entry) (es : List Entry) (h : HoldsOn line s (e ∷ es)) where
    pub head_taken : take_of r s.store out ≡ taken r line (stepped (item_on p line e.kind e.bytes))
    head_taken = head_known _ (oldest_head p line _ _ e es h)

    pub head_goes : Goes p r.rings.size line (line_of r line) e.kind e.bytes out (stepped (item_on p line e.kind e.bytes))
    head_goes = current_goes r s.store out ok.good (item_shows p line e.kind e.bytes)

    -- the bytes handed out are the head's
    pub hands_out : (i n : ℕ) → (take_of r s.store out).result.answer ≡ Ok (Data i n)
        → (e.kind ≡ 0) × (n ≡ length e.bytes) × (take n (take_of r s.store out).out ≡ e.bytes)
    hands_out i n =
        subst
        (λ (t : TakeOutcome). t.result.answer ≡ Ok (Data i n) → (e.kind ≡ 0) × (n ≡ length e.bytes) × (take n t.out ≡ e.bytes))
        (sym head_taken) (head_goes.hands i n)
