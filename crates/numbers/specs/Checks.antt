-- How the definitions of the calls say which refusal is given: a row of checks, in the order that the specification lists them.
use Rattle.std.specs.Prelude.{ℕ, zero, suc, Bool, true, ◌&&◌, cond, leb, Result, Ok, Err}
use Rattle.numbers.specs.declared.Refusal.{Refusal}

-- what a row of checks gives: nothing to say, or the refusal
abbrev pub Checked : Type 0
Checked = Result (Unit {0}) Refusal

-- the end of a row: nothing is refused
abbrev pub passed : Checked
passed = Ok tt

-- the refusal where the check does not hold, else what the rest of the row gives
abbrev pub check : Bool → Refusal → Checked → Checked
check ok refusal rest = cond ok rest (Err refusal)

-- what a call makes of its checks: one thing where nothing is refused, else what it makes of the refusal
abbrev pub settled : {A : Type 0} → Checked → A → (Refusal → A) → A
settled (Ok u) good bad = good
settled (Err refusal) good bad = bad refusal

-- whether an answer refuses, without what else it says
abbrev pub checked : {A : Type 0} → Result A Refusal → Checked
checked (Ok a) = passed
checked (Err refusal) = Err refusal

abbrev pub in_range : ℕ → ℕ → ℕ → Bool
in_range low x high = leb low x && leb x high

-- f holds of every number below n
unfoldable pub all_below : (ℕ → Bool) → ℕ → Bool
all_below f zero = true
all_below f (suc n) = all_below f n && f n
