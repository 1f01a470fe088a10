-- `receiver::line_at` meets its contract: the line found is the first that the definition finds. Assumes nothing.
use Rattle.std.proofs.Common.{Bool, Option, None, Some, false, true, arith, eqb, rules, sym, tests, ℕ, ◌≤◌, ◌<◌, ◌≡◌, MatchOption, unwrap_or, ◌∙◌, inl, inr}
use Rattle.std.proofs.lemmas.Iterator.{first_from_Range}
use Rattle.std.proofs.lemmas.Bool.{cases_lt, cases_order, false≢true}
use Rattle.plan.specs.Plan.{at}
use Rattle.receiving.specs.Receiver.{first_from, line_at}
use Rattle.receiving.proofs.Laws.{first_is}
use Rattle.receiver.proofs.line_at.Goals as goal

found : (f : ℕ → Bool) (n : ℕ) (r : Option ℕ)
    → MatchOption r ((k : ℕ) → 0 ≤ k → k < n → f k ≡ false) (λ i. (0 ≤ i) × (i < n) × (f i ≡ true) × ((k : ℕ) → 0 ≤ k → k < i → f k ≡ false))
    → unwrap_or r n ≡ first_from f n 0
found f n None h =
    let is = first_is f n 0 in
    elim (cases_lt (first_from f n 0) n) [
      | inl below ↦ absurd (false≢true (sym (h (first_from f n 0) (omega arith) below) ∙ is.holds (omega arith)))
      | inr past ↦ omega (arith, is.most)
    ]
found f n (Some i) h =
    let is = first_is f n 0 in
    elim (cases_order i (first_from f n 0)) [
      | inl same ↦ same
      | inr other ↦ elim other [
        | inl before ↦ absurd (false≢true (sym (is.none i (omega arith) before) ∙ h.2))
        | inr past ↦ absurd (false≢true (sym (h.3 (first_from f n 0) (omega arith) past) ∙ is.holds (omega arith)))
      ]
    ]

pub returns : goal.returns
unfolding line_at
returns c =
    let a = c.args in
    let f = λ (i : ℕ). eqb (at a.rounds i) a.round in
    let r = first_from_Range _ _ _ c.find.result (λ i. f i ≡ true) (λ i. f i ≡ false) c.find.ensures.ran (λ x q k. search (rules, tests)) (λ x q k. search (rules, tests)) in
    c.unwrap_or.ensures ∙ found f a.lines c.find.result r
