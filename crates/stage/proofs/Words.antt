-- A take's word tells its answer: what C reads from it is what the take answered; and so does a run's, of how it ended, and an opening's or an
-- arrival's, of its number. Assumes nothing.
use mathlib.Core.Path.{◌≡◌, refl, ap, ap₂}
use mathlib.Core.Logic.{◌⊎◌}
use Prim.Native.Nat.{ℕ, ◌+◌, ◌*◌, ◌≤◌, ◌<◌}
use native.Mathlib.Omega.{arith}
use mathlib.Core.List.{List}
use lib.ListN.{drop}
use borrow.Author.Tests.{eq-eqb, ne_eqb}
use Rattle.answers.specs.Answers.{refusal, told, told_in, line_in}
use Rattle.answers.proofs.Laws.{refusal_back, bit_8_clear, below_256, answer_back}
use Rattle.plan.specs.declared.Plan.{Plan}
use Rattle.receiving.specs.declared.Receiver.{Receiver}
use Rattle.receiving.specs.Taking.{TakeAnswer, take_of}
use Rattle.receiving.specs.declared.Taken.TheVariants.{Waiting, Data, Missing, Behind}
use Rattle.std.specs.Prelude.{Ok, Err}
use Rattle.receiving.specs.Takes.{RunEnd, takes_of}
use Rattle.receiving.specs.declared.Ended.TheVariants as ended
use Rattle.receiving.specs.Receiver.{open_receiver}
use Rattle.receiving.specs.Arriving.{data_arrival, marker_arrival}
use Rattle.taking.specs.Words.{word_by, ended_by, taken_word, ended_word}
use Rattle.taking.proofs.Words.{Told, EndTold, take_told, run_stops}
use Rattle.stage.specs.Exports.{stage_run, kind_in, value_in, read_taken, read_ended}
use Rattle.numbers.specs.Refusals.{number, number_of}
use Rattle.numbers.specs.declared.Refusal.{Refusal}

-- ---- in figures, as include/stage.h has them

pub take_figures : (line n : ℕ) (k : Refusal)
    → (taken_word (Ok (Data line n)) ≡ line + 512 * n) × (taken_word (Ok (Missing line n)) ≡ 16 + line + 512 * n) × (taken_word (Ok (Behind line)) ≡ 32 + line)
    × (taken_word (Ok (Waiting line)) ≡ 48 + line) × (taken_word (Err k) ≡ 256 + number k)
take_figures line n k = (refl, refl, refl, refl, refl)

pub end_figures : (line : ℕ) (k : Refusal) → (ended_word (Ok ended.Full) ≡ 64) × (ended_word (Ok (ended.Waiting line)) ≡ 48 + line) × (ended_word (Err k) ≡ 256 + number k)
end_figures line k = (refl, refl, refl)

-- and of a refusal that is told by any number
pub number_figures : (k : ℕ) → (word_by {R = ℕ} (λ k. k) (Err k) ≡ 256 + k) × (ended_by {R = ℕ} (λ k. k) (Err k) ≡ 256 + k)
number_figures k = (refl, refl)

-- ---- openings and arrivals

pub open_number_reads_back : (p : Plan) (size : ℕ) → told_in (told (number_of (open_receiver p size))) ≡ number_of (open_receiver p size)
open_number_reads_back p size = answer_back (open_receiver p size)

module _ (r : Receiver) (i : ℕ) (b store : List ℕ) where
  pub data_number_reads_back : told_in (told (number_of (data_arrival r i b store).arrived.answer)) ≡ number_of (data_arrival r i b store).arrived.answer
  data_number_reads_back = answer_back (data_arrival r i b store).arrived.answer

  pub marker_number_reads_back : told_in (told (number_of (marker_arrival r i b store).arrived.answer)) ≡ number_of (marker_arrival r i b store).arrived.answer
  marker_number_reads_back = answer_back (marker_arrival r i b store).arrived.answer

-- ---- takes

abbrev waiting : ℕ → TakeAnswer
waiting line = Ok (Waiting line)

abbrev packet : ℕ → ℕ → TakeAnswer
packet line n = Ok (Data line n)

abbrev marked : ℕ → ℕ → TakeAnswer
marked line n = Ok (Missing line n)

abbrev behind : ℕ → TakeAnswer
behind line = Ok (Behind line)

told_back_taken : (t : TakeAnswer) → Told t → read_taken (taken_word t) ≡ t
unfolding read_taken
told_back_taken (Ok (Waiting line)) h =
    let w = taken_word (Ok (Waiting line)) in
    rw (below_256 w (omega arith), ne_eqb (kind_in w) 0 (omega arith), ne_eqb (kind_in w) 1 (omega arith), ne_eqb (kind_in w) 2 (omega arith))
    (ap waiting (omega arith))
told_back_taken (Ok (Data line n)) h =
    let w = taken_word (Ok (Data line n)) in
    rw (bit_8_clear w line n (omega arith) (omega arith), eq-eqb (kind_in w) 0 (omega arith)) (ap₂ packet (omega arith) (omega arith))
told_back_taken (Ok (Missing line missing)) h =
    let w = taken_word (Ok (Missing line missing)) in
    rw (bit_8_clear w (16 + line) missing (omega arith) (omega arith), ne_eqb (kind_in w) 0 (omega arith), eq-eqb (kind_in w) 1 (omega arith))
    (ap₂ marked (omega arith) (omega arith))
told_back_taken (Ok (Behind line)) h =
    let w = taken_word (Ok (Behind line)) in
    rw (below_256 w (omega arith), ne_eqb (kind_in w) 0 (omega arith), ne_eqb (kind_in w) 1 (omega arith), eq-eqb (kind_in w) 2 (omega arith))
    (ap behind (omega arith))
told_back_taken (Err k) h = rw (refusal_back k).0 (ap Err (refusal_back k).1)

-- what C reads from a take's word is the take's answer
pub reads_back : (r : Receiver) (store out : List ℕ) → read_taken (taken_word (take_of r store out).result.answer) ≡ (take_of r store out).result.answer
reads_back r store out = told_back_taken (take_of r store out).result.answer (take_told r store out)

abbrev waited : ℕ → RunEnd
waited line = Ok (ended.Waiting line)

end_back : (t : RunEnd) → EndTold t → read_ended (ended_word t) ≡ t
unfolding read_ended
end_back (Ok ended.Full) h = rw (below_256 (ended_word (Ok ended.Full)) (omega arith)) refl
end_back (Ok (ended.Waiting line)) h =
    let w = ended_word (Ok (ended.Waiting line)) in
    rw (below_256 w (omega arith), ne_eqb (kind_in w) 4 (omega arith)) (ap waited (omega arith))
end_back (Err k) h = rw (refusal_back k).0 (ap Err (refusal_back k).1)

module _ (r : Receiver) (store out log : List ℕ) where
  -- what C reads from `why` is how the run ended; and the takes and their bytes are the run's
  pub run_reads_back :
      let run = (takes_of r store out log).result in
      let said = stage_run run in
      (read_ended said.why ≡ run.ended) × (said.taken ≡ run.taken) × (said.bytes ≡ run.bytes)
  run_reads_back = (end_back (takes_of r store out log).result.ended (run_stops r store out log).told, refl, refl)

  -- unless the log is full, `why` is the word that a take of the receiver that is left, into the output behind the bytes written, would answer
  pub why_is_next :
      let run = takes_of r store out log in
      (run.result.ended ≡ Ok ended.Full)
      ⊎ ((stage_run run.result).why ≡ taken_word (take_of run.result.next store (drop run.result.bytes run.out)).result.answer)
  why_is_next = (run_stops r store out log).word

-- of a refusal C's macros give nothing that there is: a line, a kind, or a value
pub refusal_says_nothing : (k : ℕ) → k < 256 → let w = refusal k in (256 ≤ line_in w) × (16 ≤ kind_in w) × (value_in w ≡ 0)
refusal_says_nothing k h = (omega arith, omega arith, omega arith)
