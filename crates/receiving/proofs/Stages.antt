-- A stage, and the items that its lines hold. Assumes nothing.
use mathlib.Core.Path.{◌≡◌, ap}
use Prim.Native.Nat.{ℕ, ◌*◌}
use mathlib.Core.Bool.{true}
use mathlib.Core.List.{List}
use lib.ListN.{length}
use Rattle.ring.specs.Queue.{Entry, Holds}
use Rattle.receiving.specs.declared.Held.{Held}
use Rattle.receiving.specs.Receiver.{held_of, receiver_ok, ring_of}
use Rattle.receiving.specs.Stage.{Stage, queue_on}
use Rattle.receiving.proofs.Lines.{Whole}

-- a valid receiver with sixteen entries a list, over a store of N × S bytes
pub record Sound (s : Stage) : Type 0 where
  pub good : receiver_ok s.receiver ≡ true
  pub fits : length s.store ≡ s.receiver.plan.lines * s.receiver.rings.size
  pub whole : Whole s.receiver

-- a ring with these figures holds these items and nothing else, and so does line i's
abbrev pub HoldsIn : List ℕ → Held → List Entry → Type 0
HoldsIn ring h es = Holds ring h.head h.used es

abbrev pub HoldsOn : ℕ → Stage → List Entry → Type 0
HoldsOn i s es = HoldsIn (ring_of s.receiver.rings.size s.store i) (held_of s.receiver.rings i) es

-- line i's queue, byte for byte, is as it was
pub record Untouched (i : ℕ) (s t : Stage) : Type 0 where
  pub ring : ring_of t.receiver.rings.size t.store i ≡ ring_of s.receiver.rings.size s.store i
  pub held : held_of t.receiver.rings i ≡ held_of s.receiver.rings i

pub untouched_holds : {i : ℕ} {s t : Stage} → Untouched i s t → {es : List Entry} → HoldsOn i s es → HoldsOn i t es
untouched_holds u h = rw (u.ring, ap (λ (h : Held). h.head) u.held, ap (λ (h : Held). h.used) u.held) h

pub untouched_queue : {i : ℕ} {s t : Stage} → Untouched i s t → queue_on i t ≡ queue_on i s
untouched_queue u = rw (u.ring, ap (λ (h : Held). h.head) u.held, ap (λ (h : Held). h.used) u.held)
