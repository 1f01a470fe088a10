-- The table of numbers: why a call is refused, and the number that tells it.
use Rattle.std.specs.Prelude.{ℕ, cond, eqb, Result, Ok, Err}
use Rattle.numbers.specs.declared.Refusal.{Refusal}
use Rattle.numbers.specs.declared.Refusal.TheVariants.{Plan, State, Line, Length, NoMarker, OtherLine, NoRoom, ShortOutput, Store, Counter}

abbrev pub number : Refusal → ℕ
number Plan = 1
number State = 2
number Line = 3
number Length = 4
number NoMarker = 5
number OtherLine = 6
number NoRoom = 7
number ShortOutput = 8
number Store = 9
number Counter = 10

-- the refusal of a number in the table
abbrev pub refusal_of : ℕ → Refusal
refusal_of k =
    cond (eqb k 1) Plan (cond (eqb k 2) State (cond (eqb k 3) Line (cond (eqb k 4) Length (cond (eqb k 5) NoMarker
    (cond (eqb k 6) OtherLine (cond (eqb k 7) NoRoom (cond (eqb k 8) ShortOutput (cond (eqb k 9) Store Counter))))))))

-- the table's number that an answer gives, 0 for none
abbrev pub number_of : {A : Type 0} → Result A Refusal → ℕ
number_of (Ok a) = 0
number_of (Err refusal) = number refusal
