-- Tightness of the exports. Of the thin calls, which are proved by a walk, it is stated of the clause that is generated from the source: the
-- clause is the fact that is shown here, and the fact allows one outcome. Assumes nothing.
use mathlib.Core.Path.{◌≡◌, refl}
use Prim.Native.Nat.{ℕ}
use mathlib.Core.List.{List}
use seplogic.Ra.Ura.{Ura}
use base.Logic.{SProp}
use prog.Memory.{Memory}
use prog.Routine.{Routine}
use types.Logic.{Logic}
use contract.Lifetimes.{Lfts}
use contract.Monad.{Fun, fact}
use denote.Triple.Clauses.{AtExit}
use denote.Triple.Entry.{Args}
use Rattle.numbers.proofs.Tight.{only, OneAnswer, OneOutcome}
use Rattle.plan.specs.declared.Plan.{Plan}
use Rattle.answers.specs.Answers.{told}
use Rattle.plan_record.specs.Record.{plan_read, plan_written, plan_of}
use Rattle.sending.specs.declared.Sender.{Sender}
use Rattle.sending.specs.Sender.{open_sender, send_of, marker_from, sender_of}
use Rattle.booth.specs.Exports.{exported, exported_sent}
use Rattle.booth.proofs.stripes_write_marker.Reads as write-marker
use Rattle.booth.proofs.stripes_write_marker.Kinds as write-marker-kinds
use Rattle.booth.proofs.stripes_read_number.Reads as read_number
use Rattle.booth.proofs.stripes_read_number.Kinds as read-number-kinds
use Rattle.booth.proofs.stripes_write_number.Reads as write-number
use Rattle.booth.proofs.stripes_write_number.Kinds as write-number-kinds
use Rattle.booth.proofs.stripes_read_marker.Reads as read-marker
use Rattle.booth.proofs.stripes_read_marker.Kinds as read-marker-kinds
use Rattle.booth.proofs.stripes_check_plan.Reads as check-plan
use Rattle.booth.proofs.stripes_check_plan.Kinds as check-plan-kinds
use Rattle.booth.proofs.stripes_copy_plan.Reads as copy-plan
use Rattle.booth.proofs.stripes_copy_plan.Kinds as copy-plan-kinds
use Rattle.booth.specs.contracts.stripes_write_plan as thin-write
use Rattle.booth.specs.contracts.stripes_read_plan as thin-read
use Rattle.booth.specs.contracts.stripes_send as thin-send
use Rattle.booth.specs.contracts.stripes_open as thin-open
use Rattle.booth.specs.contracts.stripes_marker as thin-marker
use Rattle.numbers.specs.Refusals.{number_of}

pub write_marker_tight : OneOutcome 1 write-marker-kinds.ps write-marker-kinds.r write-marker.Post (λ κs e. e.1.1.1.0.now)
write_marker_tight κs a z z' e e' p q = (only p.0 q.0, only p.1 q.1)

pub read_number_tight : OneAnswer 1 read-number-kinds.ps read-number-kinds.r read_number.Post
read_number_tight κs a z z' e e' p q = only p q

pub write_number_tight : OneOutcome 1 write-number-kinds.ps write-number-kinds.r write-number.Post (λ κs e. e.1.0.now)
write_number_tight κs a z z' e e' p q = (only p.0 q.0, only p.1 q.1)

pub read_marker_tight : OneAnswer 1 read-marker-kinds.ps read-marker-kinds.r read-marker.Post
read_marker_tight κs a z z' e e' p q = only p q

pub check_plan_tight : OneAnswer 1 check-plan-kinds.ps check-plan-kinds.r check-plan.Post
check_plan_tight κs a z z' e e' p q = only p q

pub copy_plan_tight : OneOutcome 2 copy-plan-kinds.ps copy-plan-kinds.r copy-plan.Post (λ κs e. e.1.0.now)
copy_plan_tight κs a z z' e e' p q = (only p.0 q.0, only p.1 q.1)

-- ---- the thin send: its number and the sender as it leaves it

abbrev SendSays : Sender → ℕ → ℕ → Sender → Type 0
SendSays s length r next = (r ≡ exported_sent (send_of s length).answer) × (next ≡ (send_of s length).next)

pub send_clause :
    {M : Type 1} {𝓤 : Ura M} (𝓛 : Logic 𝓤) (mem : Memory → SProp 𝓤) (run : Routine → Fun 𝓤) (κs : Lfts 1)
    (a : Args thin-send.signature κs) (r : ℕ) (e : AtExit thin-send.ended κs)
    → (thin-send.clauses 𝓛 mem run κs a).ensures tt r e ≡ fact 𝓤 (SendSays a.0.now a.1.0 r e.0.now)
send_clause 𝓛 mem run κs a r e = refl

pub send_tight : (s : Sender) (length r r' : ℕ) (next next' : Sender) → SendSays s length r next → SendSays s length r' next' → (r ≡ r') × (next ≡ next')
send_tight s length r r' next next' p q = (only p.0 q.0, only p.1 q.1)

-- ---- a plan's record written from the plan that C holds: its number and the output as it leaves it

abbrev WriteSays : Plan → List ℕ → ℕ → List ℕ → Type 0
WriteSays p out r end = (r ≡ exported (plan_written p out).answer) × (end ≡ (plan_written p out).out)

pub write_clause :
    {M : Type 1} {𝓤 : Ura M} (𝓛 : Logic 𝓤) (mem : Memory → SProp 𝓤) (run : Routine → Fun 𝓤) (κs : Lfts 2)
    (a : Args thin-write.signature κs) (r : ℕ) (e : AtExit thin-write.ended κs)
    → (thin-write.clauses 𝓛 mem run κs a).ensures tt r e ≡ fact 𝓤 (WriteSays a.0.now a.1.0.now r e.1.0.now)
write_clause 𝓛 mem run κs a r e = refl

pub write_tight : (p : Plan) (out : List ℕ) (r r' : ℕ) (end end' : List ℕ) → WriteSays p out r end → WriteSays p out r' end' → (r ≡ r') × (end ≡ end')
write_tight p out r r' end end' x y = (only x.0 y.0, only x.1 y.1)

-- ---- a plan read into the one that C holds: its number and the plan as it leaves it

abbrev ReadSays : List ℕ → ℕ → Plan → Type 0
ReadSays bytes r next = (r ≡ told (number_of (plan_read bytes))) × (next ≡ plan_of (plan_read bytes))

pub read_clause :
    {M : Type 1} {𝓤 : Ura M} (𝓛 : Logic 𝓤) (mem : Memory → SProp 𝓤) (run : Routine → Fun 𝓤) (κs : Lfts 2)
    (a : Args thin-read.signature κs) (r : ℕ) (e : AtExit thin-read.ended κs)
    → (thin-read.clauses 𝓛 mem run κs a).ensures tt r e ≡ fact 𝓤 (ReadSays a.1.0.now r e.0.now)
read_clause 𝓛 mem run κs a r e = refl

pub read_tight : (bytes : List ℕ) (r r' : ℕ) (next next' : Plan) → ReadSays bytes r next → ReadSays bytes r' next' → (r ≡ r') × (next ≡ next')
read_tight bytes r r' next next' p q = (only p.0 q.0, only p.1 q.1)

-- ---- opening: its number and the sender as it leaves it

abbrev OpenSays : List ℕ → ℕ → Sender → Type 0
OpenSays bytes r next = (r ≡ told (number_of (open_sender (plan_of (plan_read bytes))))) × (next ≡ sender_of (open_sender (plan_of (plan_read bytes))))

pub open_clause :
    {M : Type 1} {𝓤 : Ura M} (𝓛 : Logic 𝓤) (mem : Memory → SProp 𝓤) (run : Routine → Fun 𝓤) (κs : Lfts 2)
    (a : Args thin-open.signature κs) (r : ℕ) (e : AtExit thin-open.ended κs)
    → (thin-open.clauses 𝓛 mem run κs a).ensures tt r e ≡ fact 𝓤 (OpenSays a.1.0.now r e.0.now)
open_clause 𝓛 mem run κs a r e = refl

pub open_tight : (bytes : List ℕ) (r r' : ℕ) (next next' : Sender) → OpenSays bytes r next → OpenSays bytes r' next' → (r ≡ r') × (next ≡ next')
open_tight bytes r r' next next' p q = (only p.0 q.0, only p.1 q.1)

-- ---- a marker from the sender that C holds: its number and the output as it leaves it

abbrev MarkerSays : Sender → ℕ → List ℕ → ℕ → List ℕ → Type 0
MarkerSays s line out r end = (r ≡ exported (marker_from s line out).answer) × (end ≡ (marker_from s line out).out)

pub marker_clause :
    {M : Type 1} {𝓤 : Ura M} (𝓛 : Logic 𝓤) (mem : Memory → SProp 𝓤) (run : Routine → Fun 𝓤) (κs : Lfts 2)
    (a : Args thin-marker.signature κs) (r : ℕ) (e : AtExit thin-marker.ended κs)
    → (thin-marker.clauses 𝓛 mem run κs a).ensures tt r e ≡ fact 𝓤 (MarkerSays a.0.now a.1.0 a.1.1.0.now r e.1.1.0.now)
marker_clause 𝓛 mem run κs a r e = refl

pub marker_tight : (s : Sender) (line : ℕ) (out : List ℕ) (r r' : ℕ) (end end' : List ℕ)
    → MarkerSays s line out r end → MarkerSays s line out r' end' → (r ≡ r') × (end ≡ end')
marker_tight s line out r r' end end' p q = (only p.0 q.0, only p.1 q.1)
