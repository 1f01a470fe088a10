-- Tightness of this crate's public functions. Assumes nothing.
use Rattle.numbers.proofs.Tight.{only, OneAnswer}
use Rattle.plan.proofs.plan_ok.Reads as plan-ok
use Rattle.plan.proofs.plan_ok.Kinds as plan-ok-kinds
use Rattle.plan.proofs.store_ok.Reads as store_ok
use Rattle.plan.proofs.store_ok.Kinds as store-ok-kinds
use Rattle.plan.proofs.counters_ok.Reads as counters-ok
use Rattle.plan.proofs.counters_ok.Kinds as counters-ok-kinds
use Rattle.plan.proofs.line_plan.Reads as line-plan
use Rattle.plan.proofs.line_plan.Kinds as line-plan-kinds
use Rattle.plan.proofs.no_plan.Reads as no-plan
use Rattle.plan.proofs.no_plan.Kinds as no-plan-kinds
use Rattle.plan.proofs.entry.Reads as entry
use Rattle.plan.proofs.entry.Kinds as entry-kinds
use Rattle.plan.proofs.charge.Reads as charge
use Rattle.plan.proofs.charge.Kinds as charge-kinds
use Rattle.plan.proofs.first_entries.Reads as first-entries
use Rattle.plan.proofs.first_entries.Kinds as first-entries-kinds
use Rattle.plan.proofs.trim.Reads as trim
use Rattle.plan.proofs.trim.Kinds as trim-kinds

pub plan_ok_tight : OneAnswer 0 plan-ok-kinds.ps plan-ok-kinds.r plan-ok.Post
plan_ok_tight κs a z z' e e' p q = only p q

pub store_ok_tight : OneAnswer 0 store-ok-kinds.ps store-ok-kinds.r store_ok.Post
store_ok_tight κs a z z' e e' p q = only p q

pub counters_ok_tight : OneAnswer 0 counters-ok-kinds.ps counters-ok-kinds.r counters-ok.Post
counters_ok_tight κs a z z' e e' p q = only p q

pub entry_tight : OneAnswer 0 entry-kinds.ps entry-kinds.r entry.Post
entry_tight κs a z z' e e' p q = only p q

pub line_plan_tight : OneAnswer 0 line-plan-kinds.ps line-plan-kinds.r line-plan.Post
line_plan_tight κs a z z' e e' p q = only p q

pub no_plan_tight : OneAnswer 0 no-plan-kinds.ps no-plan-kinds.r no-plan.Post
no_plan_tight κs a z z' e e' p q = only p q

pub charge_tight : OneAnswer 0 charge-kinds.ps charge-kinds.r charge.Post
charge_tight κs a z z' e e' p q = only p q

pub first_entries_tight : OneAnswer 0 first-entries-kinds.ps first-entries-kinds.r first-entries.Post
first_entries_tight κs a z z' e e' p q = only p q

pub trim_tight : OneAnswer 0 trim-kinds.ps trim-kinds.r trim.Post
trim_tight κs a z z' e e' p q = only p q
