-- How tightness is stated: any two outcomes that a function's contract allows are equal, for every input. P is the contract
-- itself, the `Post` that is generated from the source's `ensures` clauses; `lent` reads what a lent slice holds at exit.
-- Assumes nothing.
use mathlib.Core.Path.{◌≡◌, sym, ◌∙◌}
use mathlib.Core.List.{List}
use Prim.Native.Nat.{ℕ}
use contract.Lifetimes.{Lfts}
use denote.Triple.Clauses.{AtExit}
use borrow.Fn.Kinds.{ParamKind, ResultKind, Dens, res_t, Out, ended_of}

pub only : {A : Type 0} {x y z : A} → x ≡ z → y ≡ z → x ≡ y
only p q = p ∙ sym q

module _ (n : ℕ) (ps : List (ParamKind n)) (r : ResultKind n) (P : Out n ps r) where
  -- one answer
  abbrev pub OneAnswer : Type 0
  OneAnswer =
      (κs : Lfts n) (a : Dens κs ps) (z z' : (res_t r κs).Denot) (e e' : AtExit (ended_of n ps r) κs) → P κs a z e → P κs a z' e' → z ≡ z'

  -- one answer, and one content of the slice that `lent` reads
  abbrev pub OneOutcome : ((κs : Lfts n) → AtExit (ended_of n ps r) κs → List ℕ) → Type 0
  OneOutcome lent =
      (κs : Lfts n) (a : Dens κs ps) (z z' : (res_t r κs).Denot) (e e' : AtExit (ended_of n ps r) κs) → P κs a z e → P κs a z' e'
      → (z ≡ z') × (lent κs e ≡ lent κs e')
