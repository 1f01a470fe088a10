-- The laws of a line of table: its parts, one after another, and how long it is. Assumes nothing.
use Rattle.std.proofs.Common.{◌≡◌, ℕ, ◌^◌, ◌<◌, ◌≤◌, Bool, cond, List, [], ◌∷◌, length, append_assoc, append-nil, arith, length-append}
use mathlib.Core.List.{flatten}
use Rattle.plan.specs.Limits.{most_lines, most_max, most_quantum}
use Rattle.text.specs.Text.{line_feed, decimal}
use Rattle.text.specs.Printing.{spaced}
use Rattle.text.proofs.Printing.{decimal_size}
use Rattle.table.specs.Table.{most_text, row, refused_word, refused_text}

module _ (number n line round counter : ℕ) (due : Bool) where
  abbrev pub row_parts : List (List ℕ)
  row_parts = spaced number ∷ spaced n ∷ spaced line ∷ spaced round ∷ spaced counter ∷ (cond due 77 45 ∷ line_feed ∷ []) ∷ []

  pub row_is : row number n line round counter due ≡ flatten row_parts
  unfolding row flatten
  row_is = simp (append_assoc, append-nil)

  pub row_size : number < 2 ^ 64 → n ≤ most_max → line < most_lines → round < 2 ^ 32 → counter ≤ most_quantum → length (row number n line round counter due) ≤ most_text
  unfolding row
  row_size f g h i j =
      let a = decimal_size number 20 (omega arith) (omega arith) in
      let b = decimal_size n 4 (omega arith) (omega arith) in
      let c = decimal_size line 2 (omega arith) (omega arith) in
      let d = decimal_size round 10 (omega arith) (omega arith) in
      let e = decimal_size counter 7 (omega arith) (omega arith) in
      simp length-append (omega arith)

module _ (number line : ℕ) where
  abbrev pub refused_parts : List (List ℕ)
  refused_parts = refused_word ∷ spaced number ∷ decimal line ∷ (line_feed ∷ []) ∷ []

  pub refused_is : refused_text number line ≡ flatten refused_parts
  unfolding refused_text flatten
  refused_is = simp (append_assoc, append-nil)

  pub refused_size : number < 2 ^ 32 → line < 2 ^ 64 → length (refused_text number line) ≤ most_text
  unfolding refused_text
  refused_size f g =
      let a = decimal_size number 10 (omega arith) (omega arith) in
      let b = decimal_size line 20 (omega arith) (omega arith) in
      simp length-append (omega arith)
