-- What the receiver promises: of refusals and of valid states, whatever a call is handed, and of its queues. Assumes nothing.
use mathlib.Core.Path.{◌≡◌, refl, ap, sym, ◌∙◌}
use Prim.Native.Nat.{ℕ, ◌*◌, ◌≤◌, ◌<◌}
use native.Mathlib.Omega.{arith}
use mathlib.Core.Bool.{true, false}
use mathlib.Core.List.{List, [], ◌∷◌, ◌++◌}
use lib.ListN.{length, drop, replicate}
use borrow.Author.Tests.{eq-eqb}
use Rattle.numbers.specs.Checks.{all_below}
use Rattle.numbers.specs.Coding.{reading_of}
use Rattle.plan.specs.declared.Plan.{Plan}
use Rattle.plan.specs.Plan.{plan_ok, store_ok, counters_ok, charge_of}
use Rattle.marker.specs.Marker.{record_read, judge}
use Rattle.theory.specs.Sending.{best, better}
use Rattle.report.specs.Report.{marker_on, ahead, report_of}
use Rattle.ring.specs.Ring.{from_ring, into_ring, held, stored, front_of}
use Rattle.ring.specs.Queue.{Entry, entry}
use Rattle.ring.proofs.Promises.{read_back}
use Rattle.receiving.specs.declared.Receiver.{Receiver}
use Rattle.receiving.specs.Receiver.{first_from, line_at, rings_ok, turns_ok, receiver_ok, open_receiver, ring_of, with_ring, receiver_of}
use Rattle.receiving.specs.Arriving.{Arrival, arrival, arrival_of, data_arrival, marker_arrival}
use Rattle.receiving.specs.Taking.{item_on, head_on, round_now, take_of}
use Rattle.receiving.specs.declared.Ended.TheVariants.{Waiting}
use Rattle.std.specs.Prelude.{Ok}
use Rattle.receiving.specs.Takes.{goes_on, takes_from, takes_of}
use Rattle.receiving.specs.Stage.{Stage, stage, taken_from, queue_on}
use Rattle.receiving.proofs.Valid.{data_valid, marker_valid, take_valid, refused_stays}
use Rattle.receiving.proofs.Stages.{Sound, HoldsOn, untouched_queue}
use Rattle.receiving.proofs.Storing.{Lands, left, kept, refused_back, data_lands, marker_lands, landed_line, landed_holds, landed_other}
use Rattle.receiving.proofs.Dropping.{taken_holds, taken_from_lem, taken_other}
use Rattle.numbers.specs.Refusals.{number_of}

-- ---- demand 1: of any state, valid or not

-- A refused arrival hands back the state and the store; a take that is refused, or waits, hands back the state and leaves the output.
abbrev pub HandsBack : Receiver → List ℕ → Arrival → Type 0
HandsBack r store a = (number_of a.arrived.answer ≡ 0 → ⊥) → (a.arrived.next ≡ r) × (a.store ≡ store)

pub record Demand1 : Type 0 where
  pub data_refused : (r : Receiver) (i : ℕ) (b store : List ℕ) → HandsBack r store (data_arrival r i b store)
  pub marker_refused : (r : Receiver) (i : ℕ) (b store : List ℕ) → HandsBack r store (marker_arrival r i b store)
  pub take_refused : (r : Receiver) (store out : List ℕ) → goes_on (take_of r store out).result.answer ≡ false
      → ((take_of r store out).result.next ≡ r) × ((take_of r store out).out ≡ out)
  pub data_valid : (r : Receiver) (i : ℕ) (b store : List ℕ) → receiver_ok r ≡ true → receiver_ok (data_arrival r i b store).arrived.next ≡ true
  pub marker_valid : (r : Receiver) (i : ℕ) (b store : List ℕ) → receiver_ok r ≡ true → receiver_ok (marker_arrival r i b store).arrived.next ≡ true
  pub take_valid : (r : Receiver) (store out : List ℕ) → receiver_ok r ≡ true → receiver_ok (take_of r store out).result.next ≡ true

pub demand_1 : Demand1
demand_1 = record {
  data_refused = λ r i b store. refused_back r i 0 b store _ (data_lands r i b store);
  marker_refused = λ r i b store. refused_back r i 1 b store _ (marker_lands r i b store);
  take_refused = refused_stays;
  data_valid = data_valid;
  marker_valid = marker_valid;
  take_valid = take_valid;
}

-- ---- one call, from any sound stage s, on a line that holds items

-- every line's queue but line i's stays as it was
abbrev pub OthersStay : ℕ → Stage → Stage → Type 0
OthersStay i s t = (j : ℕ) → j < s.receiver.plan.lines → (j ≡ i → ⊥) → queue_on j t ≡ queue_on j s

abbrev pub Appends : ℕ → Entry → Stage → Stage → Type 0
Appends i e s t = (queue_on i t ≡ queue_on i s ++ (e ∷ [])) × OthersStay i s t

abbrev pub DropsHead : ℕ → Stage → Stage → Type 0
DropsHead i s t = ((e : Entry) × (queue_on i s ≡ e ∷ queue_on i t)) × OthersStay i s t

-- what one is dropped from has a head
head_of : (es left : List Entry) (n : ℕ) → n ≡ 1 → n ≤ length es → left ≡ drop n es → (e : Entry) × (es ≡ e ∷ left)
head_of [] left n one enough is = absurd (omega arith)
head_of (e ∷ es) left n one enough is = (e, ap (λ (l : List Entry). e ∷ l) (sym (is ∙ ap (λ (k : ℕ). drop k (e ∷ es)) one)))

module _ (s : Stage) (ok : Sound s) (i : ℕ) (es : List Entry) (h : HoldsOn i s es) where
  appended : (kind : ℕ) (b : List ℕ) (a : Arrival) → Lands s.receiver i kind b s.store a → number_of a.arrived.answer ≡ 0
      → Appends i (entry kind b) s (left a)
  appended kind b a lands e =
      let line = landed_line s ok i kind b a lands e in
      let here : kept i i kind b a ≡ entry kind b ∷ [] = simp (eq-eqb i i refl, eq-eqb (number_of a.arrived.answer) 0 e) in (
        read_back _ _ _ _ (landed_holds s ok i kind b a lands i line es h) ∙ ap (λ (new : List Entry). es ++ new) here
            ∙ ap (λ (old : List Entry). old ++ (entry kind b ∷ [])) (sym (read_back _ _ _ es h)),
        λ j other apart. untouched_queue (landed_other s ok i kind b a lands j other apart),
      )

  -- A packet or a marker that is accepted on line i is appended to line i's queue, and the other queues stay as they were.
  pub arrival_appends : (b : List ℕ)
      → (number_of (data_arrival s.receiver i b s.store).arrived.answer ≡ 0 → Appends i (entry 0 b) s (left (data_arrival s.receiver i b s.store)))
      × (number_of (marker_arrival s.receiver i b s.store).arrived.answer ≡ 0 → Appends i (entry 1 b) s (left (marker_arrival s.receiver i b s.store)))
  arrival_appends b = (appended 0 b _ (data_lands s.receiver i b s.store), appended 1 b _ (marker_lands s.receiver i b s.store))

  -- A take that takes an item from line i drops the head of line i's queue, and the other queues stay as they were.
  pub take_drops : (out : List ℕ) → taken_from i (take_of s.receiver s.store out).result.answer ≡ 1
      → DropsHead i s (stage (take_of s.receiver s.store out).result.next s.store)
  take_drops out one =
      let t = taken_holds s ok out i es h in
      let front = head_of es _ _ one t.enough (read_back _ _ _ _ t.holds) in (
        (front.0, read_back _ _ _ es h ∙ front.1),
        λ j other apart. untouched_queue (taken_other s ok out j (λ e. apart (e ∙ sym (taken_from_lem s ok out i one)))),
      )

-- ---- the premises are met, and the calls compute

abbrev small_plan : Plan
small_plan = record { lines = 2; max = 64; interval = 1; quanta = 64 ∷ 70 ∷ replicate 14 0 }

abbrev started : Stage
started = stage (receiver_of (open_receiver small_plan 67)) (replicate 134 0)

-- a packet and a marker on line 0
abbrev one_in : Stage
one_in = left (data_arrival started.receiver 0 (7 ∷ 8 ∷ 9 ∷ []) started.store)

abbrev fed : Stage
fed = left (marker_arrival one_in.receiver 0 (0 ∷ 2 ∷ 64 ∷ []) one_in.store)

pub premises : (number_of (open_receiver small_plan 67) ≡ 0) × (length {A = ℕ} (replicate 134 0) ≡ small_plan.lines * 67)
    × (number_of (data_arrival started.receiver 0 (7 ∷ 8 ∷ 9 ∷ []) started.store).arrived.answer ≡ 0)
    × (taken_from 0 (take_of fed.receiver fed.store (replicate 4 0)).result.answer ≡ 1)
unfolding open_receiver plan_ok store_ok counters_ok all_below arrival_of arrival receiver_ok rings_ok turns_ok line_at first_from ahead ring_of with_ring stored into_ring held from_ring front_of marker_on judge record_read reading_of report_of charge_of take_of head_on item_on round_now best better
premises = (refl, refl, refl, refl)

-- the packet is handed out, then the marker reports the 61 bytes between it and the next round, and line 1 is waited for
pub example : takes_of fed.receiver fed.store (replicate 4 0) (replicate 3 0)
    ≡ record {
      result = record { ended = Ok (Waiting 1); taken = 2; bytes = 3; next = (takes_of fed.receiver fed.store (replicate 4 0) (replicate 3 0)).result.next };
      out = 7 ∷ 8 ∷ 9 ∷ 0 ∷ [];
      log = 1536 ∷ 31248 ∷ 0 ∷ [];
    }
unfolding open_receiver plan_ok store_ok counters_ok all_below arrival_of arrival receiver_ok rings_ok turns_ok line_at first_from ahead ring_of with_ring stored into_ring held from_ring front_of marker_on judge record_read reading_of report_of charge_of take_of head_on item_on round_now best better takes_of takes_from
example = refl
