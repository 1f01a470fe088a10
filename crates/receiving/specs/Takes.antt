-- A run of takes: takes, one after another, until one waits or is refused, or the log is full. The packets lie one behind another at the
-- front of the output. The log has a word for each take.
use Rattle.std.specs.Prelude.{ℕ, zero, suc, ◌+◌, ◌*◌, Bool, true, false, cond, List, [], ◌∷◌, ◌++◌, length, take, drop, set, Result, Ok, Err}
use Rattle.numbers.specs.declared.Refusal.{Refusal}
use Rattle.numbers.specs.declared.Refusal.TheVariants as refusal
use Rattle.numbers.specs.Refusals.{number}
use Rattle.receiving.specs.declared.Receiver.{Receiver}
use Rattle.receiving.specs.declared.Taken.TheVariants.{Waiting, Data, Missing, Behind}
use Rattle.receiving.specs.declared.Ended.{Ended}
use Rattle.receiving.specs.declared.Ended.TheVariants as ended
use Rattle.receiving.specs.declared.TakesResult.{TakesResult}
use Rattle.receiving.specs.Receiver.{receiver_ok, store_fits}
use Rattle.receiving.specs.Taking.{TakeAnswer, take_of}

-- how a run ends, or the refusal that ends it
abbrev pub RunEnd : Type 0
RunEnd = Result Ended Refusal

-- the table's number that a run ends with, 0 for none; and the line that it waits for
abbrev pub ended_number : RunEnd → ℕ
ended_number (Ok ended.Full) = 0
ended_number (Ok (ended.Waiting line)) = 0
ended_number (Err refusal) = number refusal

abbrev pub ended_values : RunEnd → List ℕ
ended_values (Ok ended.Full) = []
ended_values (Ok (ended.Waiting line)) = line ∷ []
ended_values (Err refusal) = []

-- a take's word: its line, 16 times what it was (0 data, 1 missing, 2 behind), and 512 times the length or the bytes missing
abbrev pub word_of : TakeAnswer → ℕ
word_of (Ok (Waiting line)) = 0
word_of (Ok (Data line n)) = line + 512 * n
word_of (Ok (Missing line missing)) = 16 + line + 512 * missing
word_of (Ok (Behind line)) = 32 + line
word_of (Err refusal) = 0

-- the bytes that a take has written
abbrev pub bytes_of : TakeAnswer → ℕ
bytes_of (Ok (Waiting line)) = 0
bytes_of (Ok (Data line n)) = n
bytes_of (Ok (Missing line missing)) = 0
bytes_of (Ok (Behind line)) = 0
bytes_of (Err refusal) = 0

-- how a run ends at a take, but for a take that another follows
abbrev pub end_of : TakeAnswer → RunEnd
end_of (Ok (Waiting line)) = Ok (ended.Waiting line)
end_of (Ok (Data line n)) = Ok ended.Full
end_of (Ok (Missing line missing)) = Ok ended.Full
end_of (Ok (Behind line)) = Ok ended.Full
end_of (Err refusal) = Err refusal

abbrev pub goes_on : TakeAnswer → Bool
goes_on (Ok (Waiting line)) = false
goes_on (Ok (Data line n)) = true
goes_on (Ok (Missing line missing)) = true
goes_on (Ok (Behind line)) = true
goes_on (Err refusal) = false

-- how a run ended, with the takes and the bytes so far and the next state; output and log
pub record Run : Type 0 where
  pub result : TakesResult
  pub out : List ℕ
  pub log : List ℕ

abbrev pub stopped : RunEnd → Receiver → ℕ → ℕ → List ℕ → List ℕ → Run
stopped end r k at out log = record { result = record { ended = end; taken = k; bytes = at; next = r }; out = out; log = log }

-- so many takes more, after k that have written the first `at` bytes of the output
unfoldable pub takes_from : ℕ → List ℕ → Receiver → ℕ → ℕ → List ℕ → List ℕ → Run
takes_from zero store r k at out log = stopped (Ok ended.Full) r k at out log
takes_from (suc n) store r k at out log =
    let t = take_of r store (drop at out) in
    cond (goes_on t.result.answer)
    (takes_from n store t.result.next (suc k) (at + bytes_of t.result.answer) (take at out ++ t.out) (set log k (word_of t.result.answer)))
    (stopped (end_of t.result.answer) r k at out log)

-- 2, 9 (length), before the log is looked at
unfoldable pub takes_of : Receiver → List ℕ → List ℕ → List ℕ → Run
takes_of r store out log =
    cond (receiver_ok r)
    (cond (store_fits r store) (takes_from (length log) store r 0 0 out log) (stopped (Err refusal.Store) r 0 0 out log))
    (stopped (Err refusal.State) r 0 0 out log)
