-- The session's plan keeps to the table of ranges. Assumes nothing.
use mathlib.Core.Path.{◌≡◌, refl}
use mathlib.Core.Bool.{true}
use mathlib.Core.List.{◌∷◌}
use lib.ListN.{replicate}
use Rattle.numbers.specs.Checks.{all_below}
use Rattle.plan.specs.declared.Plan.{Plan}
use Rattle.plan.specs.Plan.{plan_ok}

-- An example: 2 lines, Max 500, K 1, quanta 1000 and 500
abbrev pub session : Plan
session = record { lines = 2; max = 500; interval = 1; quanta = 1000 ∷ 500 ∷ replicate 14 0 }

pub session_ok : plan_ok session ≡ true
unfolding plan_ok all_below
session_ok = refl
