-- What the stage holds, and its lines' queues.
use Rattle.std.specs.Prelude.{ℕ, cond, List, eqb, Ok, Err}
use Rattle.ring.specs.Queue.{Entry, queue}
use Rattle.receiving.specs.declared.Receiver.{Receiver}
use Rattle.receiving.specs.Taking.{TakeAnswer}
use Rattle.receiving.specs.declared.Taken.TheVariants.{Waiting, Data, Missing, Behind}
use Rattle.receiving.specs.Receiver.{held_of, ring_of}

-- the receiver and its store
pub record Stage : Type 0 where
  pub receiver : Receiver
  pub store : List ℕ

abbrev pub stage : Receiver → List ℕ → Stage
stage r store = record { receiver = r; store = store }

-- line i's queue, read as items
abbrev pub queue_on : ℕ → Stage → List Entry
queue_on i s =
    let h = held_of s.receiver.rings i in
    queue (ring_of s.receiver.rings.size s.store i) h.head h.used

-- how many items an answer says were taken from line i
abbrev pub taken_from : ℕ → TakeAnswer → ℕ
taken_from i (Ok (Waiting line)) = 0
taken_from i (Ok (Data line n)) = cond (eqb line i) 1 0
taken_from i (Ok (Missing line missing)) = cond (eqb line i) 1 0
taken_from i (Ok (Behind line)) = cond (eqb line i) 1 0
taken_from i (Err refusal) = 0
