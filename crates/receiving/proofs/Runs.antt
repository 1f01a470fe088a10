-- The laws of a run of takes, take by take. Assumes nothing.
use mathlib.Core.Path.{◌≡◌, refl, ap, ◌∙◌}
use Prim.Native.Nat.{ℕ, suc, ◌+◌, ◌-◌, ◌*◌, ◌^◌, ◌≤◌, ◌<◌}
use native.Mathlib.Numerals.{add-one}
use native.Mathlib.Omega.{arith}
use mathlib.Core.Bool.{true, false}
use mathlib.Core.List.{List, [], ◌++◌, append-nil}
use lib.ListN.{length, take, drop, set, length-append, length-drop, take-append-drop, drop_of_length-le}
use lib.Seq.{length-take-le}
use borrow.Author.Tests.{ne_eqb}
use Rattle.numbers.proofs.Laws.{rest}
use Rattle.receiving.specs.declared.Receiver.{Receiver}
use Rattle.receiving.specs.declared.TakeResult.{TakeResult}
use Rattle.receiving.specs.declared.Ended.TheVariants as ended
use Rattle.std.specs.Prelude.{Ok, Err}
use Rattle.receiving.specs.Receiver.{receiver_ok, store_fits}
use Rattle.receiving.specs.Taking.{take_of}
use Rattle.receiving.specs.Takes.{word_of, bytes_of, end_of, goes_on, stopped, takes_from, takes_of}
use Rattle.receiving.proofs.Valid.{take_valid, refused_stays, still_fits, out_length, bytes_fit, small}
use Rattle.numbers.specs.declared.Refusal.TheVariants as refusal

module _ (store : List ℕ) (r : Receiver) (k at : ℕ) (out log : List ℕ) where
  -- the log is full
  pub run_full : (n : ℕ) → n ≡ 0 → stopped (Ok ended.Full) r k at out log ≡ takes_from n store r k at out log
  unfolding takes_from
  run_full n e = rw e refl

  module _ (n : ℕ) where
    pub run_ends : goes_on (take_of r store (drop at out)).result.answer ≡ false
        → stopped (end_of (take_of r store (drop at out)).result.answer) r k at out log ≡ takes_from (suc n) store r k at out log
    unfolding takes_from
    run_ends e = simp e

    pub run_on : goes_on (take_of r store (drop at out)).result.answer ≡ true
        → let t = take_of r store (drop at out) in
        takes_from n store t.result.next (k + 1) (at + bytes_of t.result.answer) (take at out ++ t.out) (set log k (word_of t.result.answer))
        ≡ takes_from (suc n) store r k at out log
    unfolding takes_from
    run_on e = rw add-one (simp e)

-- A take into the part of the output that is left: t is what it answered, and the part came back with these bytes.
module _ (store : List ℕ) (r : Receiver) (k at : ℕ) (out log : List ℕ) (inside : at ≤ length out) (t : TakeResult) (part : List ℕ)
    (answered : t ≡ (take_of r store (take (length out - at) (drop at out))).result) (left : part ≡ (take_of r store (take (length out - at) (drop at out))).out) where
  abbrev pub back : List ℕ
  back = take at out ++ (part ++ drop (length out - at) (drop at out))

  is_answer : t ≡ (take_of r store (drop at out)).result
  is_answer = answered ∙ ap (λ (s : List ℕ). (take_of r store s).result) (rest at out)

  is_part : part ≡ (take_of r store (drop at out)).out
  is_part = left ∙ ap (λ (s : List ℕ). (take_of r store s).out) (rest at out)

  is_back : back ≡ take at out ++ (take_of r store (drop at out)).out
  is_back =
      let none : drop (length out - at) (drop at out) ≡ [] = drop_of_length-le (drop at out) {i = length out - at} (simp length-drop (omega arith)) in
      ap (λ (s : List ℕ). take at out ++ (part ++ s)) none ∙ ap (λ (s : List ℕ). take at out ++ s) (append-nil part ∙ is_part)

  pub back_length : length back ≡ length out
  back_length =
      let new = out_length r store (drop at out) in
      let rest-length : length (drop at out) ≡ length out - at = length-drop at out in
      let front : length (take at out) ≡ at = length-take-le at out inside in
      ap length is_back ∙ length-append (take at out) (take_of r store (drop at out)).out ∙ omega arith

  pub word_small : word_of t.answer < 2 ^ 64
  word_small = rw is_answer (small r store (drop at out))

  pub bytes_inside : at + bytes_of t.answer ≤ length out
  bytes_inside =
      let b : bytes_of t.answer ≤ length (drop at out) = rw is_answer (bytes_fit r store (drop at out)) in
      omega (arith, b, length-drop at out)

  pub next_valid : receiver_ok r ≡ true → receiver_ok t.next ≡ true
  next_valid good = rw is_answer (take_valid r store (drop at out) good)

  pub next_fits : store_fits r store ≡ true → store_fits t.next store ≡ true
  next_fits fits = rw is_answer (still_fits r store (drop at out) store ∙ fits)

  module _ (n : ℕ) where
    pub stops : goes_on t.answer ≡ false → (stopped (end_of t.answer) r k at out log ≡ takes_from (suc n) store r k at out log) × (back ≡ out)
    stops e =
        let no : goes_on (take_of r store (drop at out)).result.answer ≡ false = rw (← is_answer) e in (
          rw is_answer (run_ends store r k at out log n no),
          is_back ∙ ap (λ (s : List ℕ). take at out ++ s) (refused_stays r store (drop at out) no).1 ∙ take-append-drop at out,
        )

    pub goes : goes_on t.answer ≡ true → (bytes : ℕ) → bytes ≡ bytes_of t.answer → (word : ℕ) → word ≡ word_of t.answer
        → takes_from n store t.next (k + 1) (at + bytes) back (set log k word) ≡ takes_from (suc n) store r k at out log
    goes e bytes counted word coded =
        let on : goes_on (take_of r store (drop at out)).result.answer ≡ true = rw (← is_answer) e in
        ap (λ (b : ℕ). takes_from n store t.next (k + 1) (at + b) back (set log k word)) counted
        ∙ ap (λ (w : ℕ). takes_from n store t.next (k + 1) (at + bytes_of t.answer) back (set log k w)) coded
        ∙ ap (λ (o : List ℕ). takes_from n store t.next (k + 1) (at + bytes_of t.answer) o (set log k (word_of t.answer))) is_back
        ∙ ap
        (λ (x : TakeResult).
        takes_from n store x.next (k + 1) (at + bytes_of x.answer) (take at out ++ (take_of r store (drop at out)).out) (set log k (word_of x.answer)))
        is_answer
        ∙ run_on store r k at out log n on

-- ---- the checks before a run

module _ (r : Receiver) (store out log : List ℕ) where
  pub bad_state : receiver_ok r ≡ false → stopped (Err refusal.State) r 0 0 out log ≡ takes_of r store out log
  unfolding takes_of
  bad_state e = simp e

  module _ (good : receiver_ok r ≡ true) where
    pub bad_store : (length store ≡ r.plan.lines * r.rings.size → ⊥) → stopped (Err refusal.Store) r 0 0 out log ≡ takes_of r store out log
    unfolding takes_of
    bad_store h = simp (good, ne_eqb (length store) (r.plan.lines * r.rings.size) h)

    pub run_of : store_fits r store ≡ true → takes_from (length log) store r 0 0 out log ≡ takes_of r store out log
    unfolding takes_of
    run_of fits = simp (good, fits)
