-- Tightness of this crate's public functions. Assumes nothing.
use mathlib.Core.Path.{◌≡◌}
use mathlib.Core.Bool.{Bool, cond}
use Rattle.numbers.proofs.Tight.{only, OneAnswer, OneOutcome}
use Rattle.ring.proofs.store.Reads as store
use Rattle.ring.proofs.store.Kinds as store-kinds
use Rattle.ring.proofs.head_item.Reads as head-item
use Rattle.ring.proofs.head_item.Kinds as head-item-kinds
use Rattle.ring.proofs.hand_out.Reads as hand-out
use Rattle.ring.proofs.hand_out.Kinds as hand-out-kinds

-- what an answer picks is one, as the answer is
picked : {A : Type 0} (x y : A) {t t' : Bool} {l l' : A} → t ≡ t' → l ≡ cond t x y → l' ≡ cond t' x y → l ≡ l'
picked x y same p q = only (rw same at p) q

pub head_item_tight : OneAnswer 1 head-item-kinds.ps head-item-kinds.r head-item.Post
head_item_tight κs a z z' e e' p q = only p q

pub hand_out_tight : OneOutcome 2 hand-out-kinds.ps hand-out-kinds.r hand-out.Post (λ κs e. e.1.1.1.0.now)
hand_out_tight κs a z z' e e' p q = (only p.0 q.0, only p.1 q.1)

pub store_tight : OneOutcome 2 store-kinds.ps store-kinds.r store.Post (λ κs e. e.0.now)
store_tight κs a z z' e e' p q = (only p.0 q.0, picked _ _ (only p.0 q.0) p.1 q.1)
