-- Both ends opened show the system's opening. Assumes nothing.
use Prim.Native.Nat.{ℕ, ◌≤◌, ◌<◌}
use native.Mathlib.Nat.{zero-div, zero-mod}
use native.Mathlib.Omega.{arith}
use mathlib.Core.List.{List, []}
use mathlib.Core.Path.{◌≡◌, refl, ap, ◌∙◌}
use Rattle.plan.specs.declared.Plan.{Plan}
use Rattle.plan.specs.Limits.{most_lines}
use Rattle.plan.specs.Plan.{quantum, trimmed}
use Rattle.plan.proofs.Laws.{in_range_lem, first_ones}
use Rattle.theory.specs.Sending.{round_at, counter_at}
use Rattle.theory.specs.System as T
use Rattle.receiving.specs.declared.Receiver.{Receiver}
use Rattle.receiving.specs.Receiver.{turn_of, opened_receiver, open_receiver, receiver_of}
use Rattle.receiving.specs.Stage.{stage}
use Rattle.receiving.proofs.Opening.{opens_in, is_open, open_sound, open_empty}
use Rattle.bundle.specs.Words.{Opens}
use Rattle.bundle.specs.Demands.{opened}
use Rattle.bundle.proofs.Meeting.{turn_at, Shows, Far, Roads}
use Rattle.bundle.proofs.Senders.{plan_good_lem}
use Rattle.numbers.specs.Refusals.{number_of}

-- figures where nothing is carried
first_round : (q : ℕ) → 1 ≡ round_at q 0
first_round q = rw (zero-div q) refl

first_counter : (q : ℕ) → q ≡ counter_at q 0
first_counter q = rw (zero-mod q) (omega arith)

module _ (p : Plan) (size : ℕ) (store : List ℕ) (o : Opens p size store) where
  opens : (number_of (open_receiver p size)) ≡ 0
  opens = opens_in p size o.plan o.room

  is : (receiver_of (open_receiver p size)) ≡ opened_receiver p size
  is = is_open p size opens

  few : p.lines ≤ most_lines
  few = (in_range_lem p (plan_good_lem p size store o)).few_lines

  first_turn : (i : ℕ) → i < p.lines → turn_of (opened_receiver p size).turns i ≡ turn_at (quantum (trimmed p) i) 0
  first_turn i line = λ k. record { round = (first_ones p.lines few i line ∙ first_round (quantum (trimmed p) i)) k; counter = first_counter (quantum (trimmed p) i) k }

  shows : Shows (trimmed p) (stage (receiver_of (open_receiver p size)) store) (λ i. 0) (λ i. [])
  shows = record {
    plan = ap (λ (r : Receiver). r.plan) is;
    sound = open_sound p size store o.sixteen opens o.long;
    round = ap (λ (r : Receiver). r.turns.round) is ∙ first_round _;
    turns = λ i line. ap (λ (r : Receiver). turn_of r.turns i) is ∙ first_turn i line;
    holds = λ i line. open_empty p size store o.sixteen opens o.long i line;
    fit = λ i line. tt;
  }

  pub open_far : Far (trimmed p) (opened p size store).receiver store T.at_opening
  open_far = shows

  pub open_roads : Roads (trimmed p) (opened p size store).road (T.at_opening).line
  open_roads = record { same = λ i. refl; fit = λ i. tt; off = λ i off. refl }
