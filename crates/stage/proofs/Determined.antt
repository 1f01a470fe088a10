-- Tightness of the exports. All are proved by a walk, so it is stated of the clause that is generated from the source: the clause is the fact
-- that is shown here, and the fact allows one outcome. Assumes nothing.
use mathlib.Core.Path.{◌≡◌, refl}
use Prim.Native.Nat.{ℕ}
use mathlib.Core.List.{List}
use seplogic.Ra.Ura.{Ura}
use base.Logic.{SProp}
use prog.Memory.{Memory}
use prog.Routine.{Routine}
use types.Logic.{Logic}
use contract.Lifetimes.{Lfts}
use contract.Monad.{Fun, fact}
use denote.Triple.Clauses.{AtExit}
use denote.Triple.Entry.{Args}
use Rattle.numbers.proofs.Tight.{only}
use Rattle.answers.specs.Answers.{told}
use Rattle.plan_record.specs.Record.{plan_read, plan_of}
use Rattle.receiving.specs.declared.Receiver.{Receiver}
use Rattle.receiving.specs.Receiver.{open_receiver, receiver_of}
use Rattle.receiving.specs.Arriving.{Arrival, data_arrival, marker_arrival}
use Rattle.receiving.specs.Taking.{take_of}
use Rattle.receiving.specs.Takes.{takes_of}
use Rattle.taking.specs.Words.{taken_word}
use Rattle.stage.specs.declared.StageRun.{StageRun}
use Rattle.stage.specs.Exports.{stage_run}
use Rattle.stage.specs.contracts.stage_open as thin-open
use Rattle.stage.specs.contracts.stage_data as thin-data
use Rattle.stage.specs.contracts.stage_marker as thin-marker
use Rattle.stage.specs.contracts.stage_take as thin-take
use Rattle.stage.specs.contracts.stage_takes as thin-takes
use Rattle.numbers.specs.Refusals.{number_of}

-- ---- opening: its number and the receiver as it leaves it

abbrev OpenSays : List ℕ → ℕ → ℕ → Receiver → Type 0
OpenSays bytes size n next = (n ≡ told (number_of (open_receiver (plan_of (plan_read bytes)) size))) × (next ≡ receiver_of (open_receiver (plan_of (plan_read bytes)) size))

pub open_clause :
    {M : Type 1} {𝓤 : Ura M} (𝓛 : Logic 𝓤) (mem : Memory → SProp 𝓤) (run : Routine → Fun 𝓤) (κs : Lfts 2)
    (a : Args thin-open.signature κs) (n : ℕ) (e : AtExit thin-open.ended κs)
    → (thin-open.clauses 𝓛 mem run κs a).ensures tt n e ≡ fact 𝓤 (OpenSays a.1.0.now a.1.1.0 n e.0.now)
open_clause 𝓛 mem run κs a n e = refl

pub open_tight : (bytes : List ℕ) (size n n' : ℕ) (next next' : Receiver) → OpenSays bytes size n next → OpenSays bytes size n' next'
    → (n ≡ n') × (next ≡ next')
open_tight bytes size n n' next next' p q = (only p.0 q.0, only p.1 q.1)

-- ---- data or a marker that came: its number, and the receiver and the store as it leaves them

abbrev ArrivalSays : (Receiver → ℕ → List ℕ → List ℕ → Arrival) → Receiver → ℕ → List ℕ → List ℕ → ℕ → Receiver → List ℕ → Type 0
ArrivalSays arrival r line bytes store n next end =
    (n ≡ told (number_of (arrival r line bytes store).arrived.answer)) × (next ≡ (arrival r line bytes store).arrived.next) × (end ≡ (arrival r line bytes store).store)

pub data_clause :
    {M : Type 1} {𝓤 : Ura M} (𝓛 : Logic 𝓤) (mem : Memory → SProp 𝓤) (run : Routine → Fun 𝓤) (κs : Lfts 3)
    (a : Args thin-data.signature κs) (n : ℕ) (e : AtExit thin-data.ended κs)
    → (thin-data.clauses 𝓛 mem run κs a).ensures tt n e
    ≡ fact 𝓤 (ArrivalSays data_arrival a.0.now a.1.0 a.1.1.0.now a.1.1.1.0.now n e.0.now e.1.1.1.0.now)
data_clause 𝓛 mem run κs a n e = refl

pub marker_clause :
    {M : Type 1} {𝓤 : Ura M} (𝓛 : Logic 𝓤) (mem : Memory → SProp 𝓤) (run : Routine → Fun 𝓤) (κs : Lfts 3)
    (a : Args thin-marker.signature κs) (n : ℕ) (e : AtExit thin-marker.ended κs)
    → (thin-marker.clauses 𝓛 mem run κs a).ensures tt n e
    ≡ fact 𝓤 (ArrivalSays marker_arrival a.0.now a.1.0 a.1.1.0.now a.1.1.1.0.now n e.0.now e.1.1.1.0.now)
marker_clause 𝓛 mem run κs a n e = refl

pub arrival_tight : (arrival : Receiver → ℕ → List ℕ → List ℕ → Arrival) (r : Receiver) (line : ℕ) (bytes store : List ℕ) (n n' : ℕ) (next next' : Receiver)
    (end end' : List ℕ) → ArrivalSays arrival r line bytes store n next end → ArrivalSays arrival r line bytes store n' next' end'
    → (n ≡ n') × (next ≡ next') × (end ≡ end')
arrival_tight arrival r line bytes store n n' next next' end end' p q = (only p.0 q.0, only p.1 q.1, only p.2 q.2)

-- ---- a take: its word, and the receiver and the output as it leaves them

abbrev TakeSays : Receiver → List ℕ → List ℕ → ℕ → Receiver → List ℕ → Type 0
TakeSays r store out w next end =
    (w ≡ taken_word (take_of r store out).result.answer) × (next ≡ (take_of r store out).result.next) × (end ≡ (take_of r store out).out)

pub take_clause :
    {M : Type 1} {𝓤 : Ura M} (𝓛 : Logic 𝓤) (mem : Memory → SProp 𝓤) (run : Routine → Fun 𝓤) (κs : Lfts 3)
    (a : Args thin-take.signature κs) (w : ℕ) (e : AtExit thin-take.ended κs)
    → (thin-take.clauses 𝓛 mem run κs a).ensures tt w e
    ≡ fact 𝓤 (TakeSays a.0.now a.1.0.now a.1.1.0.now w e.0.now e.1.1.0.now)
take_clause 𝓛 mem run κs a w e = refl

pub take_tight : (r : Receiver) (store out : List ℕ) (w w' : ℕ) (next next' : Receiver) (end end' : List ℕ)
    → TakeSays r store out w next end → TakeSays r store out w' next' end' → (w ≡ w') × (next ≡ next') × (end ≡ end')
take_tight r store out w w' next next' end end' p q = (only p.0 q.0, only p.1 q.1, only p.2 q.2)

-- ---- a run of takes: why it ended, the takes and the bytes, and the receiver, the output and the log as it leaves them

abbrev TakesSay : Receiver → List ℕ → List ℕ → List ℕ → StageRun → Receiver → List ℕ → List ℕ → Type 0
TakesSay r store out log s next end words =
    (s ≡ stage_run (takes_of r store out log).result) × (next ≡ (takes_of r store out log).result.next) × (end ≡ (takes_of r store out log).out)
    × (words ≡ (takes_of r store out log).log)

pub takes_clause :
    {M : Type 1} {𝓤 : Ura M} (𝓛 : Logic 𝓤) (mem : Memory → SProp 𝓤) (run : Routine → Fun 𝓤) (κs : Lfts 4)
    (a : Args thin-takes.signature κs) (s : StageRun) (e : AtExit thin-takes.ended κs)
    → (thin-takes.clauses 𝓛 mem run κs a).ensures tt s e
    ≡ fact 𝓤 (TakesSay a.0.now a.1.0.now a.1.1.0.now a.1.1.1.0.now s e.0.now e.1.1.0.now e.1.1.1.0.now)
takes_clause 𝓛 mem run κs a s e = refl

pub takes_tight : (r : Receiver) (store out log : List ℕ) (s s' : StageRun) (next next' : Receiver) (end end' words words' : List ℕ)
    → TakesSay r store out log s next end words → TakesSay r store out log s' next' end' words'
    → (s ≡ s') × (next ≡ next') × (end ≡ end') × (words ≡ words')
takes_tight r store out log s s' next next' end end' words words' p q =
    (only p.0 q.0, only p.1 q.1, only p.2 q.2, only p.3 q.3)
