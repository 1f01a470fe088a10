-- What a take and a run of takes leave as it was, and the number that a run ends with. Assumes nothing.
use mathlib.Core.Path.{◌≡◌, refl, ap, sym, ◌∙◌, subst}
use Prim.Native.Nat.{ℕ, zero, suc, ◌+◌, ◌-◌, ◌≤◌, ◌<◌}
use native.Mathlib.Omega.{arith}
use mathlib.Core.Bool.{Bool, true, false, cond}
use mathlib.Core.List.{List, ◌++◌}
use mathlib.Core.Logic.{◌⊎◌, inl, inr}
use lib.Dec.{leb}
use lib.ListN.{length, take, drop, set, length-append, length-drop, length-set}
use lib.Seq.{length-take-le, drop-drop, drop-append-add, drop-append_seam, drop-set-lt, get_or-set_other}
use Rattle.std.specs.Prelude.{Some, None, Ok, Err}
use Rattle.numbers.specs.declared.Refusal.{Refusal}
use Rattle.numbers.specs.declared.Refusal.TheVariants as refusal
use Rattle.numbers.specs.Refusals.{number_of}
use Rattle.numbers.specs.Checks.{check, checked}
use Rattle.numbers.proofs.Checks.{never}
use Rattle.plan.specs.declared.LinePlan.{LinePlan}
use Rattle.plan.specs.Plan.{line_plan}
use Rattle.report.specs.Report.{Report, report_of}
use Rattle.ring.specs.Ring.{onto}
use Rattle.receiving.specs.declared.Receiver.{Receiver}
use Rattle.receiving.specs.declared.Line.{Line}
use Rattle.receiving.specs.declared.Taken.TheVariants.{Waiting, Data, Missing, Behind}
use Rattle.receiving.specs.declared.TakeResult.{TakeResult}
use Rattle.receiving.specs.declared.Ended.TheVariants as ended
use Rattle.receiving.specs.Receiver.{line_of, current_line, receiver_ok, store_fits, ring_of}
use Rattle.receiving.specs.Taking.{Head, nothing, packet, marker, no_item, head_on, Stepped, stays, past, charged_turn, step_of, told_step}
use Rattle.receiving.specs.Taking.{TakeAnswer, taken_number, TakeOutcome, refused_take, taken, take_at, take_of}
use Rattle.receiving.specs.Takes.{RunEnd, ended_number, word_of, bytes_of, end_of, goes_on, Run, stopped, takes_from, takes_of}
use Rattle.receiving.proofs.Taking.{state_refused}
use Rattle.receiving.proofs.Valid.{refused_stays, kept_sizes, out_length, bytes_fit}
use Rattle.receiving.proofs.Runs.{run_of}
use Rattle.calls.specs.Plain.{Not, Current}
use Rattle.calls.specs.Table.{lent_to}
use Rattle.calls.specs.Frame.{ReceiverEntry, TakesFrame, RunsFrame}
use Rattle.calls.proofs.States.{current_is, current_only}
use Rattle.calls.proofs.Rows.{Gives}
use Rattle.calls.proofs.Arrivals.{lent_rows}

-- ---- one take

-- a take is refused with everything as it was, or the current line steps by some head
take_cases : (P : TakeOutcome → Type 0) (r : Receiver) (store out : List ℕ) → ((k : Refusal) → P (refused_take r k out))
    → (let i = current_line r in (size : ℕ) (h : Head) → P (taken r i (step_of (line_plan r.plan i) size i (line_of r i) out h))) → P (take_of r store out)
unfolding take_of
take_cases P r store out refuses steps = go (receiver_ok r) (store_fits r store)
  where
    i : ℕ
    i = current_line r

    go : (t u : Bool) → P (cond t (cond u (take_at r i store out) (refused_take r refusal.Store out)) (refused_take r refusal.State out))
    go true true = let ring = ring_of r.rings.size store i in steps (length ring) (head_on (line_plan r.plan i) i (line_of r i).held ring)
    go true false = refuses refusal.Store
    go false u = refuses refusal.State

-- what a step leaves of the output is all that is behind its bytes
abbrev Leaves : List ℕ → TakeAnswer → List ℕ → Type 0
Leaves out answer new = drop (bytes_of answer) new ≡ drop (bytes_of answer) out

step_leaves : (p : LinePlan) (size i : ℕ) (l : Line) (out : List ℕ) (h : Head) → let s = step_of p size i l out h in Leaves out s.step.answer s.out
step_leaves p size i l out nothing = refl
step_leaves p size i l out no_item = refl
step_leaves p size i l out (packet b) = go (leb (length b) (length out))
  where
    went : Stepped
    went = record { step = record { answer = Ok (Data i (length b)); line = past size l (length b) (charged_turn p l.turn (length b)) }; out = onto b out }

    go : (t : Bool) → let s = cond t went (stays l (Err refusal.ShortOutput) out) in Leaves out s.step.answer s.out
    go true = drop-append_seam b (drop (length b) out)
    go false = refl
step_leaves p size i l out (marker n m) = go (report_of p.quantum l.turn.round l.turn.counter m)
  where
    go : (t : Report) → Leaves out (told_step size i l n m t).answer out
    go None = refl
    go (Some x) = refl

module _ (r : Receiver) (store out : List ℕ) where
  abbrev take_of_lem : TakeOutcome
  take_of_lem = take_of r store out

  take_leaves : Leaves out take_of_lem.result.answer take_of_lem.out
  take_leaves = take_cases (λ t. Leaves out t.result.answer t.out) r store out (λ k. refl) (λ size h. step_leaves _ size _ _ out h)

  others_kept : (i j : ℕ) → Current r i → Not (j ≡ i) → ReceiverEntry r take_of_lem.result.next j
  others_kept i j current apart =
      let other : Not (j ≡ current_line r) = λ e. apart (e ∙ sym (current_only r i current)) in
      take_cases (λ t. ReceiverEntry r t.result.next j) r store out
      (λ k. record { head = refl; used = refl; round = refl; counter = refl })
      (λ size h. record {
        head = get_or-set_other r.rings.heads _ j _ 0 other;
        used = get_or-set_other r.rings.used _ j _ 0 other;
        round = get_or-set_other r.turns.rounds _ j _ 0 other;
        counter = get_or-set_other r.turns.counters _ j _ 0 other;
      })

-- only data writes bytes
no_bytes : (answer : TakeAnswer) → ((i n : ℕ) → Not (answer ≡ Ok (Data i n))) → bytes_of answer ≡ 0
no_bytes (Ok (Waiting line)) none = refl
no_bytes (Ok (Data line n)) none = absurd (none line n refl)
no_bytes (Ok (Missing line missing)) none = refl
no_bytes (Ok (Behind line)) none = refl
no_bytes (Err k) none = refl

pub frame_takes : (r : Receiver) (store out : List ℕ) → TakesFrame r out (take_of r store out)
frame_takes r store out =
    let t = take_of r store out in
    let leaves = take_leaves r store out in
    record {
      plan = (kept_sizes r store out).0;
      size = (kept_sizes r store out).1;
      others = others_kept r store out;
      same_length = out_length r store out;
      data_only = λ none. rw (no_bytes t.result.answer none) at leaves;
      behind_data = λ i n e. rw e at leaves;
      waits = λ i e. (refused_stays r store out (ap goes_on e)).0;
      refused = λ k e. (refused_stays r store out (ap goes_on e)).0;
    }

-- ---- a run, from any take on

-- it goes on behind a take, or stops before one that does not
run_step : (P : Run → Type 0) (n : ℕ) (store : List ℕ) (r : Receiver) (k from : ℕ) (out log : List ℕ)
    → let x = take_of r store (drop from out) in
    P (takes_from n store x.result.next (suc k) (from + bytes_of x.result.answer) (take from out ++ x.out) (set log k (word_of x.result.answer)))
    → (goes_on x.result.answer ≡ false → P (stopped (end_of x.result.answer) r k from out log)) → P (takes_from (suc n) store r k from out log)
unfolding takes_from
run_step P n store r k from out log more ends = go (goes_on x.result.answer) refl
  where
    x : TakeOutcome
    x = take_of r store (drop from out)

    go : (t : Bool) → goes_on x.result.answer ≡ t
        → P (cond t
        (takes_from n store x.result.next (suc k) (from + bytes_of x.result.answer) (take from out ++ x.out) (set log k (word_of x.result.answer)))
        (stopped (end_of x.result.answer) r k from out log))
    go true e = more
    go false e = ends e

-- what is the same behind one place is so behind every later one
behind_later : (m n : ℕ) (x y : List ℕ) → m ≤ n → drop m x ≡ drop m y → drop n x ≡ drop n y
behind_later m n x y h e =
    let sum : m + (n - m) ≡ n = omega arith in
    let later : (l : List ℕ) → drop n l ≡ drop (n - m) (drop m l) = λ l. ap (λ (k : ℕ). drop k l) (sym sum) ∙ sym (drop-drop (n - m) m l) in
    later x ∙ ap (drop (n - m)) e ∙ sym (later y)

-- a run that has gone on from k takes and the first `from` bytes
record Left (r : Receiver) (k from : ℕ) (out log : List ℕ) (run : Run) : Type 0 where
  takes : k ≤ run.result.taken
  bytes : from ≤ run.result.bytes
  out_length : length run.out ≡ length out
  log_length : length run.log ≡ length log
  out_behind : drop run.result.bytes run.out ≡ drop run.result.bytes out
  log_behind : drop run.result.taken run.log ≡ drop run.result.taken log
  plan : run.result.next.plan ≡ r.plan
  size : run.result.next.rings.size ≡ r.rings.size
  entries : (j : ℕ) → r.plan.lines ≤ j → ReceiverEntry r run.result.next j

-- the entries from line N on: no take touches them
same_entry : (r : Receiver) (j : ℕ) → ReceiverEntry r r j
same_entry r j = record { head = refl; used = refl; round = refl; counter = refl }

entry_on : (r s t : Receiver) (j : ℕ) → ReceiverEntry r s j → ReceiverEntry s t j → ReceiverEntry r t j
entry_on r s t j a b = record { head = b.head ∙ a.head; used = b.used ∙ a.used; round = b.round ∙ a.round; counter = b.counter ∙ a.counter }

take_entries : (r : Receiver) (store out : List ℕ) (j : ℕ) → r.plan.lines ≤ j → ReceiverEntry r (take_of r store out).result.next j
take_entries r store out j off = go (receiver_ok r) refl
  where
    go : (t : Bool) → receiver_ok r ≡ t → ReceiverEntry r (take_of r store out).result.next j
    go true good =
        let here = current_is r good in
        (frame_takes r store out).others (current_line r) j here (λ e. omega (arith, here.0))
    go false bad = subst (λ (t : TakeResult). ReceiverEntry r t.next j) (state_refused r store out bad).0 (same_entry r j)

-- it stops there
left_here : (end : RunEnd) (r : Receiver) (k from : ℕ) (out log : List ℕ) → Left r k from out log (stopped end r k from out log)
left_here end r k from out log = record {
  takes = omega arith;
  bytes = omega arith;
  out_length = refl;
  log_length = refl;
  out_behind = refl;
  log_behind = refl;
  plan = refl;
  size = refl;
  entries = λ j off. same_entry r j;
}

-- or takes once more
module _ (store : List ℕ) (r : Receiver) (k from : ℕ) (out log : List ℕ) (inside : from ≤ length out) where
  abbrev t : TakeOutcome
  t = take_of r store (drop from out)

  abbrev wrote : ℕ
  wrote = bytes_of t.result.answer

  abbrev joined : List ℕ
  joined = take from out ++ t.out

  joined_length : length joined ≡ length out
  joined_length =
      length-append (take from out) t.out ∙ omega (arith, length-take-le from out inside, out_length r store (drop from out), length-drop from out)

  joined_behind : drop (from + wrote) joined ≡ drop (from + wrote) out
  joined_behind =
      let front : length (take from out) ≡ from = length-take-le from out inside in
      ap (λ (n : ℕ). drop (n + wrote) joined) (sym front) ∙ drop-append-add (take from out) t.out wrote
      ∙ take_leaves r store (drop from out) ∙ drop-drop wrote from out

  next_inside : from + wrote ≤ length joined
  next_inside = omega (arith, joined_length, bytes_fit r store (drop from out), length-drop from out)

  left_on : (run : Run) → Left t.result.next (suc k) (from + wrote) joined (set log k (word_of t.result.answer)) run → Left r k from out log run
  left_on run h = record {
    takes = omega (arith, h.takes);
    bytes = omega (arith, h.bytes);
    out_length = h.out_length ∙ joined_length;
    log_length = h.log_length ∙ length-set log k _;
    out_behind = h.out_behind ∙ behind_later (from + wrote) run.result.bytes joined out h.bytes joined_behind;
    log_behind = h.log_behind ∙ drop-set-lt run.result.taken log k _ h.takes;
    plan = h.plan ∙ (kept_sizes r store (drop from out)).0;
    size = h.size ∙ (kept_sizes r store (drop from out)).1;
    entries = λ j off.
        let few : t.result.next.plan.lines ≤ j = rw (kept_sizes r store (drop from out)).0 off in
        entry_on r t.result.next run.result.next j (take_entries r store (drop from out) j off) (h.entries j few);
  }

-- so every run leaves what it should
run_left : (n : ℕ) (store : List ℕ) (r : Receiver) (k from : ℕ) (out log : List ℕ) → from ≤ length out
    → Left r k from out log (takes_from n store r k from out log)
unfolding takes_from
run_left zero store r k from out log inside = left_here (Ok ended.Full) r k from out log
run_left (suc n) store r k from out log inside =
    run_step (Left r k from out log) n store r k from out log
    (left_on store r k from out log inside _ (run_left n store _ (suc k) _ _ _ (next_inside store r k from out log inside)))
    (λ _. left_here _ r k from out log)

pub frame_runs : (r : Receiver) (store out log : List ℕ) → RunsFrame r out log (takes_of r store out log)
unfolding takes_of
frame_runs r store out log =
    let h = go (receiver_ok r) (store_fits r store) in
    record {
      output_length = h.out_length;
      log_length = h.log_length;
      behind_bytes = h.out_behind;
      behind_words = h.log_behind;
      plan = h.plan;
      size = h.size;
      entries = h.entries;
    }
  where
    go : (t u : Bool)
        → Left r 0 0 out log
        (cond t (cond u (takes_from (length log) store r 0 0 out log) (stopped (Err refusal.Store) r 0 0 out log)) (stopped (Err refusal.State) r 0 0 out log))
    go true true = run_left (length log) store r 0 0 out log (omega arith)
    go true false = left_here (Err refusal.Store) r 0 0 out log
    go false u = left_here (Err refusal.State) r 0 0 out log

-- ---- the number that it ends with

-- the log is full, or it is that of the take behind the last
abbrev EndsRight : List ℕ → ℕ → Run → ℕ → Type 0
EndsRight store most run n =
    ((run.result.taken ≡ most) × (n ≡ 0))
    ⊎ ((run.result.taken < most) × (n ≡ taken_number (take_of run.result.next store (drop run.result.bytes run.out)).result.answer))

-- a take that a run stops before has that run's number
end_number : (answer : TakeAnswer) → goes_on answer ≡ false → ended_number (end_of answer) ≡ taken_number answer
end_number (Ok (Waiting line)) e = refl
end_number (Ok (Data line n)) e = absurd (never e)
end_number (Ok (Missing line missing)) e = absurd (never e)
end_number (Ok (Behind line)) e = absurd (never e)
end_number (Err k) e = refl

run_ends : (most n : ℕ) (store : List ℕ) (r : Receiver) (k from : ℕ) (out log : List ℕ) → k + n ≡ most
    → let run = takes_from n store r k from out log in
    EndsRight store most run (ended_number run.result.ended)
unfolding takes_from
run_ends most zero store r k from out log sum = inl (omega arith, refl)
run_ends most (suc n) store r k from out log sum =
    run_step (λ run. EndsRight store most run (ended_number run.result.ended)) n store r k from out log
    (run_ends most n store _ (suc k) _ _ _ (omega arith)) (λ e. inr (omega arith, end_number (take_of r store (drop from out)).result.answer e))

-- and an end seen as checks does
checked_end : (end : RunEnd) → number_of (checked end) ≡ ended_number end
checked_end (Ok ended.Full) = refl
checked_end (Ok (ended.Waiting line)) = refl
checked_end (Err k) = refl

-- a run answers the number that its checks give, or its takes
run_number : (r : Receiver) (store out log : List ℕ)
    → ended_number (takes_of r store out log).result.ended
    ≡ number_of (check (receiver_ok r) refusal.State (check (store_fits r store) refusal.Store (checked (takes_from (length log) store r 0 0 out log).result.ended)))
unfolding takes_of
run_number r store out log = go (receiver_ok r) (store_fits r store)
  where
    run : Run
    run = takes_from (length log) store r 0 0 out log

    go : (t u : Bool)
        → ended_number (cond t (cond u run (stopped (Err refusal.Store) r 0 0 out log)) (stopped (Err refusal.State) r 0 0 out log)).result.ended
        ≡ number_of (check t refusal.State (check u refusal.Store (checked run.result.ended)))
    go true true = sym (checked_end run.result.ended)
    go true false = refl
    go false u = refl

-- past the checks, from the first take on
full_run : (r : Receiver) (store out log : List ℕ) → receiver_ok r ≡ true → store_fits r store ≡ true
    → Gives (EndsRight store (length log) (takes_of r store out log)) (checked (takes_from (length log) store r 0 0 out log).result.ended)
full_run r store out log good fits = record {
  proof = rw (← run_of r store out log good fits, checked_end (takes_from (length log) store r 0 0 out log).result.ended)
      (run_ends (length log) (length log) store r 0 0 out log (omega arith));
}

pub table_runs : (r : Receiver) (store out log : List ℕ)
    → let run = takes_of r store out log in
    lent_to r store
    (λ n. ((run.result.taken ≡ length log) × (n ≡ 0))
    ⊎ ((run.result.taken < length log) × (n ≡ taken_number (take_of run.result.next store (drop run.result.bytes run.out)).result.answer)))
    (ended_number run.result.ended)
table_runs r store out log = rw (run_number r store out log) (lent_rows r store (full_run r store out log)).proof
