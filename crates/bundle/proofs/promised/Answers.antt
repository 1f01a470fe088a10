-- `bundle::promised` meets its contract, by the theorems.
-- Assumes nothing.
use Rattle.bundle.proofs.Refusals.{refused_changes_nothing, valid_stays_valid}
use Rattle.bundle.proofs.Running.{run_is_takes}
use Rattle.bundle.proofs.Booth as booth
use Rattle.bundle.proofs.Queues as queues
use Rattle.bundle.proofs.Proved.{promises}
use Rattle.bundle.proofs.promised.Goals as goal

pub returns : goal.returns
returns c = (refused_changes_nothing, valid_stays_valid, run_is_takes, booth.every_history, queues.every_history, promises)
