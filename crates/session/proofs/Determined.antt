-- Tightness of this crate's public functions. Assumes nothing.
use Rattle.numbers.proofs.Tight.{only, OneAnswer, OneOutcome}
use Rattle.session.proofs.begin.Reads as begin
use Rattle.session.proofs.begin.Kinds as begin-kinds
use Rattle.session.proofs.ended.Reads as ended
use Rattle.session.proofs.ended.Kinds as ended-kinds
use Rattle.session.proofs.feed.Reads as feed
use Rattle.session.proofs.feed.Kinds as feed-kinds
use Rattle.session.proofs.close.Reads as close
use Rattle.session.proofs.close.Kinds as close-kinds

pub begin_tight : OneAnswer 0 begin-kinds.ps begin-kinds.r begin.Post
begin_tight κs a z z' e e' p q = only p q

pub ended_tight : OneAnswer 0 ended-kinds.ps ended-kinds.r ended.Post
ended_tight κs a z z' e e' p q = only p q

pub feed_tight : OneOutcome 2 feed-kinds.ps feed-kinds.r feed.Post (λ κs e. e.1.1.0.now)
feed_tight κs a z z' e e' p q =
    let session = only p.0 q.0 in
    let used = only p.1 q.1 in
    let wrote = only p.2 q.2 in
    (λ k. record { session = session k; used = used k; wrote = wrote k }, only p.3 q.3)

pub close_tight : OneOutcome 1 close-kinds.ps close-kinds.r close.Post (λ κs e. e.1.0.now)
close_tight κs a z z' e e' p q = (only p.0 q.0, only p.1 q.1)
