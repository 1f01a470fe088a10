-- Takes with room, of a world that shows the system's state: each is a step, and as many as items held are the system's own. Assumes nothing.
use Prim.Native.Nat.{ℕ, zero, suc, ◌≤◌, ◌<◌}
use native.Mathlib.Nat.{le_refl}
use native.Mathlib.Omega.{arith}
use mathlib.Core.Bool.{Bool, cond}
use mathlib.Core.List.{List, [], ◌∷◌, ◌++◌, map, append_assoc}
use mathlib.Core.Path.{◌≡◌, refl, ap, sym, ◌∙◌, subst}
use borrow.Author.Tests.{le-leb}
use lib.ListN.{length, length-append, length-map}
use Rattle.plan.specs.declared.Plan.{Plan}
use Rattle.plan.specs.Plan.{trimmed}
use Rattle.theory.specs.Sending as S
use Rattle.theory.specs.System.{Item, packet, marker, State, Step, take, current}
use Rattle.theory.specs.System as T
use Rattle.theory.specs.Words as W
use Rattle.theory.specs.FarEnd.{front}
use Rattle.theory.specs.FarEnd as F
use Rattle.theory.proofs.Histories.{near_split}
use Rattle.ring.specs.Ring.{item_bytes}
use Rattle.ring.specs.Queue.{Entry, row_of}
use Rattle.ring.proofs.Laws.{held_length}
use Rattle.ring.proofs.Promises.{read_back}
use Rattle.receiving.specs.Taking.{TakeAnswer, take_of}
use Rattle.receiving.specs.declared.Taken.TheVariants.{Data}
use Rattle.std.specs.Prelude.{Ok, Err}
use Rattle.receiving.specs.Receiver.{held_of}
use Rattle.bundle.specs.Worlds.{World, Call, takes, take_seen, seen, call, calls}
use Rattle.bundle.specs.Log.{steps_of, log, entry_of}
use Rattle.bundle.specs.Words.{and_then, Opens, RoomFor, queue_at, queue_bytes, held_below, NoPacket}
use Rattle.bundle.specs.Demands.{theirs, opened, after, log_of, system, Near, Roomy}
use Rattle.bundle.proofs.Histories.{log_append}
use Rattle.bundle.proofs.Senders.{kept_good}
use Rattle.bundle.proofs.Takes.{says, writes, take_says, take_leaves}
use Rattle.bundle.proofs.Runs.{after_and, near_and, some, within, not_behind, reaches}
use Rattle.numbers.specs.declared.Refusal.TheVariants as refusal

-- a take that has room is a step
step_says : (end out : List ℕ) (i : ℕ) (items : List Item) (x : ℕ) → RoomFor items out → steps_of (take_seen end (says out i items x)) ≡ take ∷ []
step_says end out i [] x room = refl
step_says end out i (packet k b ∷ rest) x room =
    ap (λ (t : Bool). steps_of (take_seen end (cond t (Ok (Data i (length b))) (Err refusal.ShortOutput)))) (le-leb (length b) (length out) room)
step_says end out i (marker k m ∷ rest) x room = refl

-- a queue without packets, as the ring holds it
pub none_queued : (p : Plan) (i : ℕ) (items : List Item) → W.NoPacketIn items → NoPacket (map (entry_of p i) items)
none_queued p i [] none = tt
none_queued p i (packet k x ∷ rest) none = absurd none
none_queued p i (marker k m ∷ rest) none = (λ e. omega arith, none_queued p i rest none)

-- as storing lays it
row_bytes_lem : (es : List Entry) → length (row_of es) ≡ queue_bytes es
unfolding row_of
row_bytes_lem [] = refl
row_bytes_lem (e ∷ es) = length-append (item_bytes e.kind e.bytes) (row_of es) ∙ omega (arith, row_bytes_lem es)

module _ (p : Plan) (size : ℕ) (store : List ℕ) (o : Opens p size store) where
  abbrev plan : S.Plan
  plan = theirs p size store

  abbrev world : List Call → World
  world h = after p size store h

  abbrev state : List Call → State
  state h = system p size store h

  -- what the next take answers
  pub answers : (h : List Call) (out : List ℕ) → Near p size store (and_then h (takes out))
      → (take_of (world h).receiver (world h).store out).result.answer
      ≡ says out (current plan (state h)) (front plan (state h)).store (front plan (state h)).position
  answers h out near =
      let n = near_and p size store o h (takes out) near in
      take_says (trimmed p) (kept_good p size store o) (some p size store o) (world h) (state h) (reaches p size store o h n.0).far_end
      (within p size store o h n.0) (not_behind p size store o h) out n.1

  pub leaves : (h : List Call) (out : List ℕ) → Near p size store (and_then h (takes out))
      → (take_of (world h).receiver (world h).store out).out ≡ writes out (front plan (state h)).store
  leaves h out near =
      let n = near_and p size store o h (takes out) near in
      take_leaves (trimmed p) (kept_good p size store o) (some p size store o) (world h) (state h) (reaches p size store o h n.0).far_end
      (within p size store o h n.0) (not_behind p size store o h) out n.1

  -- the first call of some that are near
  near_first : (h : List Call) (e : Call) (g : List Call) → Near p size store (h ++ (e ∷ g)) → Near p size store (and_then h e)
  near_first h e g near =
      let same : and_then h e ++ g ≡ h ++ (e ∷ g) = append_assoc h (e ∷ []) g in
      (near_split plan (log_of p size store (and_then h e)) (log (world (and_then h e)) g) T.at_opening
      (subst (F.Near plan T.at_opening) (log_append (and_then h e) g (opened p size store)) (rw same near))).0

  takes_log : (outs : List (List ℕ)) (h : List Call) → Near p size store (h ++ map takes outs) → Roomy p size store h outs
      → log (world h) (map takes outs) ≡ W.takes (length outs)
  takes_log [] h near room = refl
  takes_log (out ∷ outs) h near room =
      let e = answers h out (near_first h (takes out) (map takes outs) near) in
      let end : List ℕ = (take_of (world h).receiver (world h).store out).out in
      let first : steps_of (seen (world h) (takes out)) ≡ take ∷ [] =
      ap (λ (t : TakeAnswer). steps_of (take_seen end t)) e ∙ step_says end out (current plan (state h)) (front plan (state h)).store (front plan (state h)).position room.0 in
      let on : calls (opened p size store) (and_then h (takes out)) ≡ call (world h) (takes out) = after_and p size store o h (takes out) in
      let near' : Near p size store (and_then h (takes out) ++ map takes outs) = rw (append_assoc h (takes out ∷ []) (map takes outs)) near in
      let rest = takes_log outs (and_then h (takes out)) near' room.1 in
      ap (λ (l : List Step). l ++ log (call (world h) (takes out)) (map takes outs)) first
      ∙ ap (λ (l : List Step). take ∷ l) (subst (λ (w : World). log w (map takes outs) ≡ W.takes (length outs)) on rest)

  -- the queues, and the items held
  pub queued : (h : List Call) → Near p size store h → (i : ℕ) → i < p.lines → queue_at (world h) i ≡ map (entry_of (trimmed p) i) ((state h).line i).store
  queued h near i line = read_back _ _ _ _ ((reaches p size store o h near).far_end.holds i line)

  -- and the bytes that a queue uses of its ring
  pub used_is : (h : List Call) → Near p size store h → (i : ℕ) → i < p.lines → (held_of (world h).receiver.rings i).used ≡ queue_bytes (queue_at (world h) i)
  used_is h near i line =
      let holds = (reaches p size store o h near).far_end.holds i line in
      sym (held_length _ _ _ holds.fits) ∙ ap length holds.row ∙ row_bytes_lem _ ∙ ap queue_bytes (sym (queued h near i line))

  held_below_lem : (h : List Call) → Near p size store h → (n : ℕ) → n ≤ p.lines → held_below (world h) n ≡ W.stored_below (state h).line n
  held_below_lem h near zero few = refl
  held_below_lem h near (suc n) few =
      let one : length (queue_at (world h) n) ≡ length ((state h).line n).store = ap length (queued h near n few) ∙ length-map ((state h).line n).store (entry_of (trimmed p) n) in
      omega (arith, held_below_lem h near n (omega arith), one)

  -- as many takes with room as items held
  pub drained : (h : List Call) (outs : List (List ℕ)) → length outs ≡ held_below (world h) p.lines → Roomy p size store h outs → Near p size store (h ++ map takes outs)
      → log_of p size store (h ++ map takes outs) ≡ log_of p size store h ++ W.takes (W.stored_below (state h).line p.lines)
  drained h outs many room near =
      let before = (near_split plan (log_of p size store h) (log (world h) (map takes outs)) T.at_opening
      (subst (F.Near plan T.at_opening) (log_append h (map takes outs) (opened p size store)) near)).0 in
      log_append h (map takes outs) (opened p size store)
      ∙ ap (λ (l : List Step). log_of p size store h ++ l) (takes_log outs h near room)
      ∙ ap (λ (n : ℕ). log_of p size store h ++ W.takes n) (many ∙ held_below_lem h before p.lines (le_refl p.lines))
