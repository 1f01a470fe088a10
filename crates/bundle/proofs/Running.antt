-- A run of takes is takes, one behind another. Assumes nothing.
use Prim.Native.Nat.{ℕ, zero, suc, ◌+◌, ◌≤◌, ◌<◌}
use native.Mathlib.Nat.{add-zero}
use native.Mathlib.Omega.{arith}
use mathlib.Core.Bool.{Bool, true, false, cond}
use mathlib.Core.List.{List, [], ◌∷◌, ◌++◌, map, append-nil, append_assoc}
use mathlib.Core.Logic.{◌⊎◌, inl, inr}
use mathlib.Core.Path.{◌≡◌, refl, ap, sym, ◌∙◌}
use lib.ListN.{length, take, drop, set, length-append, length-set}
use lib.Seq.{length-take-le, take-append-add, take-suc-set}
use Rattle.numbers.proofs.Checks.{never}
use Rattle.receiving.specs.Takes.{RunEnd, ended_number, word_of, bytes_of, end_of, goes_on, Run, stopped, takes_from, takes_of}
use Rattle.receiving.specs.declared.Ended.TheVariants as ended
use Rattle.receiving.specs.Taking.{TakeAnswer, take_of}
use Rattle.receiving.specs.declared.Taken.TheVariants.{Waiting, Data, Missing, Behind}
use Rattle.std.specs.Prelude.{Ok, Err}
use Rattle.receiving.specs.Receiver.{receiver_ok, store_fits}
use Rattle.receiving.proofs.Valid.{out_length, bytes_fit}
use Rattle.bundle.specs.Events.{Handed, handed_by, bytes_out}
use Rattle.bundle.specs.Worlds.{World, takes, take_seen, call, calls, handed_out, handed_in}
use Rattle.bundle.specs.Running.{joined, answers_in, StopsAt, Runs, RunIsTakes}
use Rattle.numbers.specs.declared.Refusal.{Refusal}
use Rattle.numbers.specs.declared.Refusal.TheVariants as refusal
use Rattle.numbers.specs.Refusals.{number}

-- the packet of a take, if there is one, is the bytes that it has written
joined_by : (t : TakeAnswer) (out : List ℕ) (rest : List Handed) → joined (bytes_out (handed_by (take_seen out t) ++ rest)) ≡ take (bytes_of t) out ++ joined (bytes_out rest)
joined_by (Ok (Waiting i)) out rest = refl
joined_by (Ok (Data i n)) out rest = refl
joined_by (Ok (Missing i m)) out rest = refl
joined_by (Ok (Behind i)) out rest = refl
joined_by (Err k) out rest = refl

-- a take that another does not follow ends a run with its own number and line
stops_at : (t : TakeAnswer) → goes_on t ≡ false → StopsAt (end_of t) t
stops_at (Ok (Waiting i)) e = inl (i, refl, refl)
stops_at (Ok (Data i n)) e = absurd (never e)
stops_at (Ok (Missing i m)) e = absurd (never e)
stops_at (Ok (Behind i)) e = absurd (never e)
stops_at (Err k) e = inr (k, refl, refl)

-- how a run may end: at a full log, or at such a take, before it is full or before it is looked at
abbrev Stops : RunEnd → ℕ → List ℕ → TakeAnswer → Type 0
Stops end taken log next =
    ((taken ≡ length log) × (end ≡ (Ok ended.Full)))
    ⊎ (StopsAt end next × ((taken < length log) ⊎ (ended_number end ≡ 2) ⊎ (ended_number end ≡ 9)))

-- takes that lead to the end of a run, behind k that have written the first `at` bytes of the output: what those have left stays in front
record Ends (w : World) (k at : ℕ) (out log : List ℕ) (run : Run) : Type 0 where
  outs : List (List ℕ)
  count : k + length outs ≡ run.result.taken
  world : (calls w (map takes outs)).receiver ≡ run.result.next
  bytes : take at out ++ joined (handed_in w (map takes outs)) ≡ take run.result.bytes run.out
  told : at + length (joined (handed_in w (map takes outs))) ≡ run.result.bytes
  words : take k log ++ map word_of (answers_in w outs) ≡ take run.result.taken run.log
  stops : Stops run.result.ended run.result.taken log (take_of run.result.next w.store (drop run.result.bytes run.out)).result.answer

module _ (w : World) (k at : ℕ) (out log : List ℕ) where
  -- the next take, into what is left of the output
  abbrev left : List ℕ
  left = drop at out

  abbrev next : World
  next = call w (takes left)

  abbrev answer : TakeAnswer
  answer = (take_of w.receiver w.store left).result.answer

  abbrev part : List ℕ
  part = (take_of w.receiver w.store left).out

  -- a run ends where the log is full, or that take would wait or be refused
  ends : (end : RunEnd) → Stops end k log answer → Ends w k at out log (stopped end w.receiver k at out log)
  ends end why = record {
    outs = [];
    count = add-zero k;
    world = refl;
    bytes = append-nil (take at out);
    told = add-zero at;
    words = append-nil (take k log);
    stops = why;
  }

  module _ (inside : at ≤ length out) where
    front : length (take at out) ≡ at
    front = length-take-le at out inside

    bytes_inside : at + bytes_of answer ≤ length (take at out ++ part)
    bytes_inside =
        omega (arith, length-append (take at out) part, front, out_length w.receiver w.store left, bytes_fit w.receiver w.store left)

    bytes_front : take (at + bytes_of answer) (take at out ++ part) ≡ take at out ++ take (bytes_of answer) part
    bytes_front = ap (λ (n : ℕ). take (n + bytes_of answer) (take at out ++ part)) (sym front) ∙ take-append-add (take at out) part (bytes_of answer)

    -- it, and those behind it
    goes : k < length log → (run : Run) → Ends next (suc k) (at + bytes_of answer) (take at out ++ part) (set log k (word_of answer)) run
        → Ends w k at out log run
    goes room run rest =
        let handed = joined (handed_in next (map takes rest.outs)) in
        let told = map word_of (answers_in next rest.outs) in
        record {
          outs = left ∷ rest.outs;
          count = omega (arith, rest.count);
          world = rest.world;
          bytes =
              ap (λ (l : List ℕ). take at out ++ l) (joined_by answer part (handed_out next (map takes rest.outs)))
              ∙ sym (append_assoc (take at out) (take (bytes_of answer) part) handed)
              ∙ ap (λ (l : List ℕ). l ++ handed) (sym bytes_front)
              ∙ rest.bytes;
          told =
              omega (
                arith,
                rest.told,
                ap length (joined_by answer part (handed_out next (map takes rest.outs))),
                length-append (take (bytes_of answer) part) handed,
                length-take-le (bytes_of answer) part (omega (arith, out_length w.receiver w.store left, bytes_fit w.receiver w.store left)),
              );
          words =
              sym (append_assoc (take k log) (word_of answer ∷ []) told)
              ∙ ap (λ (l : List ℕ). l ++ told) (sym (take-suc-set log k (word_of answer) room))
              ∙ rest.words;
          stops = rw (← length-set log k (word_of answer)) rest.stops;
        }

from : (n : ℕ) (w : World) (k at : ℕ) (out log : List ℕ) → at ≤ length out → k + n ≡ length log
    → Ends w k at out log (takes_from n w.store w.receiver k at out log)
unfolding takes_from
from zero w k at out log inside full = ends w k at out log (Ok ended.Full) (inl (omega arith, refl))
from (suc n) w k at out log inside full =
    let word = word_of (answer w k at out log) in
    let rest = from n (next w k at out log) (suc k) _ _ (set log k word) (bytes_inside w k at out log inside) (omega (arith, length-set log k word)) in
    go (goes_on (answer w k at out log)) refl (goes w k at out log inside (omega arith) _ rest)
  where
    go : (t : Bool) → goes_on (answer w k at out log) ≡ t → {on : Run} → Ends w k at out log on
        → Ends w k at out log (cond t on (stopped (end_of (answer w k at out log)) w.receiver k at out log))
    go true e on = on
    go false e on = ends w k at out log _ (inr (stops_at (answer w k at out log) e, inl (omega arith)))

pub run_is_takes : RunIsTakes
unfolding takes_of take_of
run_is_takes w out log = go (receiver_ok w.receiver) refl (store_fits w.receiver w.store) refl
  where
    run : Bool → Bool → Run
    run good fits =
        cond good
        (cond fits (takes_from (length log) w.store w.receiver 0 0 out log) (stopped (Err refusal.Store) w.receiver 0 0 out log))
        (stopped (Err refusal.State) w.receiver 0 0 out log)

    -- from the start
    all : {r : Run} → Ends w 0 0 out log r → Runs w log r
    all e = record { outs = e.outs; count = omega (arith, e.count); world = e.world; bytes = e.bytes; told = omega (arith, e.told); words = e.words; stops = e.stops }

    refused : (k : Refusal) → (number k ≡ 2) ⊎ (number k ≡ 9) → (take_of w.receiver w.store out).result.answer ≡ Err k
        → Runs w log (stopped (Err k) w.receiver 0 0 out log)
    refused k which e = all (ends w 0 0 out log (Err k) (inr (inr (k, e, refl), inr which)))

    go : (t : Bool) → receiver_ok w.receiver ≡ t → (u : Bool) → store_fits w.receiver w.store ≡ u → Runs w log (run t u)
    go true g true f = all (from (length log) w 0 0 out log (omega arith) (omega arith))
    go true g false f = refused refusal.Store (inr refl) (simp (g, f))
    go false g u f = refused refusal.State (inl refl) (simp g)
