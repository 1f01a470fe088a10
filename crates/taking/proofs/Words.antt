-- The words of a take's own answers: they fit, and where a run goes on they are those that it logs; where a take stops a run, its word is the
-- run's. Assumes nothing.
use Rattle.std.proofs.Common.{◌≡◌, ℕ, zero, suc, ◌%◌, ◌^◌, ◌<◌, Bool, true, false, cond, leb, ◌⊎◌, List, length, drop, sym, refl, inl, inr, arith}
use Rattle.numbers.specs.declared.Refusal.TheVariants as refusal
use Rattle.numbers.proofs.Checks.{never, small as small_refusal}
use Rattle.plan.specs.declared.LinePlan.{LinePlan}
use Rattle.plan.specs.Limits.{most_lines}
use Rattle.plan.specs.Plan.{line_plan}
use Rattle.report.specs.Report.{Report}
use Rattle.std.specs.Prelude.{Some, None, Ok, Err}
use Rattle.report.specs.Report.{report_of}
use Rattle.ring.specs.Ring.{onto}
use Rattle.receiving.specs.declared.Line.{Line}
use Rattle.receiving.specs.declared.Receiver.{Receiver}
use Rattle.receiving.specs.Taking.{TakeAnswer}
use Rattle.receiving.specs.declared.Taken.TheVariants.{Waiting, Data, Missing, Behind}
use Rattle.receiving.specs.Takes.{RunEnd}
use Rattle.receiving.specs.declared.Ended.TheVariants as ended
use Rattle.receiving.specs.Receiver.{held_of, line_of, current_line, receiver_ok, store_fits, ring_of}
use Rattle.receiving.specs.Taking.{Head, nothing, packet, marker, no_item, head_on, Stepped, stays, past, charged_turn, told_step, step_of, refused_take, take_at, take_of}
use Rattle.receiving.specs.Takes.{word_of, end_of, goes_on, Run, stopped, takes_from, takes_of}
use Rattle.receiving.proofs.Laws.{valid}
use Rattle.receiving.proofs.Stores.{few_rings}
use Rattle.receiving.proofs.Valid.{small}
use Rattle.taking.specs.Words.{taken_word, ended_word}

-- one of sixteen lines, or a refusal
abbrev pub Told : TakeAnswer → Type 0
Told (Ok (Waiting line)) = line < most_lines
Told (Ok (Data line n)) = line < most_lines
Told (Ok (Missing line missing)) = line < most_lines
Told (Ok (Behind line)) = line < most_lines
Told (Err refusal) = Unit {0}

step_told : (p : LinePlan) (size i : ℕ) (l : Line) (out : List ℕ) → i < most_lines → (h : Head) → Told (step_of p size i l out h).step.answer
step_told p size i l out line nothing = line
step_told p size i l out line no_item = tt
step_told p size i l out line (packet b) = go (leb (length b) (length out))
  where
    went : Stepped
    went = record { step = record { answer = Ok (Data i (length b)); line = past size l (length b) (charged_turn p l.turn (length b)) }; out = onto b out }

    go : (t : Bool) → Told (cond t went (stays l (Err refusal.ShortOutput) out)).step.answer
    go true = line
    go false = tt
step_told p size i l out line (marker n m) = go (report_of p.quantum l.turn.round l.turn.counter m)
  where
    go : (t : Report) → Told (told_step size i l n m t).answer
    go None = line
    go (Some x) = line

module _ (r : Receiver) (store out : List ℕ) where
  pub take_told : Told (take_of r store out).result.answer
  unfolding take_of
  take_told = go (receiver_ok r) refl (store_fits r store)
    where
      go : (t : Bool) → receiver_ok r ≡ t → (u : Bool)
          → Told (cond t (cond u (take_at r (current_line r) store out) (refused_take r refusal.Store out)) (refused_take r refusal.State out)).result.answer
      go true good true =
          let i = current_line r in
          let p = line_plan r.plan i in
          let ring = ring_of r.rings.size store i in
          step_told p (length ring) i (line_of r i) out (omega (arith, (valid r good).current, (few_rings r good).0)) (head_on p i (held_of r.rings i) ring)
      go true good false = tt
      go false good u = tt

  -- the word of a take has room
  pub take_fits : taken_word (take_of r store out).result.answer < 2 ^ 64
  take_fits = go (take_of r store out).result.answer take_told (small r store out)
    where
      go : (t : TakeAnswer) → Told t → word_of t < 2 ^ 64 → taken_word t < 2 ^ 64
      go (Ok (Waiting line)) h fits = omega arith
      go (Ok (Data line n)) h fits = fits
      go (Ok (Missing line missing)) h fits = fits
      go (Ok (Behind line)) h fits = fits
      go (Err k) h fits = omega (arith, small_refusal k)

-- the word of a take that another follows is the one to be logged
pub logged : (t : TakeAnswer) → goes_on t ≡ true → word_of t < 2 ^ 64 → taken_word t % 2 ^ 64 ≡ word_of t
logged (Ok (Waiting line)) on fits = absurd (never (sym on))
logged (Ok (Data line n)) on fits = omega arith
logged (Ok (Missing line missing)) on fits = omega arith
logged (Ok (Behind line)) on fits = omega arith
logged (Err k) on fits = absurd (never (sym on))

-- ---- how a run ended

-- the log is full, or one of sixteen lines, or a refusal
abbrev pub EndTold : RunEnd → Type 0
EndTold (Ok ended.Full) = Unit {0}
EndTold (Ok (ended.Waiting line)) = line < most_lines
EndTold (Err refusal) = Unit {0}

end_told : (t : TakeAnswer) → Told t → EndTold (end_of t)
end_told (Ok (Waiting line)) h = h
end_told (Ok (Data line n)) h = tt
end_told (Ok (Missing line missing)) h = tt
end_told (Ok (Behind line)) h = tt
end_told (Err k) h = h

-- a take that stops a run
stops_with : (t : TakeAnswer) → goes_on t ≡ false → ended_word (end_of t) ≡ taken_word t
stops_with (Ok (Waiting line)) off = refl
stops_with (Ok (Data line n)) off = absurd (never off)
stops_with (Ok (Missing line missing)) off = absurd (never off)
stops_with (Ok (Behind line)) off = absurd (never off)
stops_with (Err k) off = refl

-- the log is full, or the run's word is that of the take behind its last, into what is left of the output
abbrev pub EndsWith : List ℕ → Run → Type 0
EndsWith store run =
    (run.result.ended ≡ Ok ended.Full)
    ⊎ (ended_word run.result.ended ≡ taken_word (take_of run.result.next store (drop run.result.bytes run.out)).result.answer)

pub record Stop (store : List ℕ) (run : Run) : Type 0 where
  pub told : EndTold run.result.ended
  pub word : EndsWith store run

stop_from : (n : ℕ) (store : List ℕ) (r : Receiver) (k at : ℕ) (out log : List ℕ) → Stop store (takes_from n store r k at out log)
unfolding takes_from
stop_from zero store r k at out log = record { told = tt; word = inl refl }
stop_from (suc n) store r k at out log =
    let answer = (take_of r store (drop at out)).result.answer in
    go answer (take_told r store (drop at out)) refl (goes_on answer) refl (stop_from n store _ (suc k) _ _ _)
  where
    go : (answer : TakeAnswer) → Told answer → (take_of r store (drop at out)).result.answer ≡ answer → (t : Bool) → goes_on answer ≡ t → {on : Run} → Stop store on
        → Stop store (cond t on (stopped (end_of answer) r k at out log))
    go answer h e true on rest = rest
    go answer h e false off rest = record { told = end_told answer h; word = inr (rw e (stops_with answer off)) }

-- so it is of every run
pub run_stops : (r : Receiver) (store out log : List ℕ) → Stop store (takes_of r store out log)
unfolding takes_of take_of
run_stops r store out log = go (receiver_ok r) refl (store_fits r store) refl
  where
    go : (t : Bool) → receiver_ok r ≡ t → (u : Bool) → store_fits r store ≡ u
        → Stop store
        (cond t (cond u (takes_from (length log) store r 0 0 out log) (stopped (Err refusal.Store) r 0 0 out log)) (stopped (Err refusal.State) r 0 0 out log))
    go true good true fits = stop_from (length log) store r 0 0 out log
    go true good false fits = record { told = tt; word = inr (rw (good, fits) refl) }
    go false bad u fits = record { told = tt; word = inr (rw bad refl) }
