-- Tightness of this crate's public functions. Assumes nothing.
use Rattle.numbers.proofs.Tight.{only, OneAnswer, OneOutcome}
use Rattle.plan_record.proofs.read_plan.Reads as read-plan
use Rattle.plan_record.proofs.read_plan.Kinds as read-plan-kinds
use Rattle.plan_record.proofs.write_plan.Reads as write-plan
use Rattle.plan_record.proofs.write_plan.Kinds as write-plan-kinds

pub read_plan_tight : OneAnswer 1 read-plan-kinds.ps read-plan-kinds.r read-plan.Post
read_plan_tight κs a z z' e e' p q = only p q

pub write_plan_tight : OneOutcome 1 write-plan-kinds.ps write-plan-kinds.r write-plan.Post (λ κs e. e.1.0.now)
write_plan_tight κs a z z' e e' p q = (only p.0 q.0, only p.1 q.1)
