-- A line longer than nineteen numbers of ten digits, one space apart, says no row of numbers, so it is refused with 1. Assumes nothing.
use borrow.Author.Tests.{ltb-true, lt-leb}
use native.Mathlib.Omega.{arith}
use mathlib.Core.Path.{◌≡◌, refl, ap, sym, ◌∙◌}
use mathlib.Core.Bool.{Bool, true, false, ◌&&◌, cond}
use mathlib.Core.List.{List, [], ◌∷◌, ◌++◌}
use Rattle.std.specs.Prelude.{None}
use Prim.Native.Nat.{ℕ, suc, ◌+◌, ◌-◌, ◌*◌, ◌≤◌, ◌<◌}
use lib.Dec.{ltb, leb, eqb}
use lib.ListN.{length, length-append}
use Rattle.numbers.proofs.Checks.{never, both}
use Rattle.text.specs.Text.{space, is_digit, most_digits, Said, numbers, bad_text, said_from, said}
use Rattle.text.specs.Rows.{most_numbers, row_of}
use Rattle.table.specs.declared.Stage.{Stage}
use Rattle.table.specs.declared.Stage.TheVariants.{PlanToCome, Packets, Ended}
use Rattle.table.specs.declared.Table.{Table}
use Rattle.table.specs.Table.{refused_at, plan_line, packet_line, said_at, line_of}
use Rattle.table.specs.Steps.{row_made}
use Rattle.table.proofs.Making.{line_made_lem}
use Rattle.session.specs.Session.{most_line, has_ended}
use Rattle.session.specs.Lines.{LongLinesAreBad}

-- each number has at most ten digits, and a space or the end of the line behind it
abbrev Holds : ℕ → Said → Type 0
Holds size bad_text = Unit {0}
Holds size (numbers ns) = size ≤ (most_digits + 1) * length ns

holds_less : (s : Said) (size more : ℕ) → size ≤ more → Holds more s → Holds size s
holds_less bad_text size more h f = tt
holds_less (numbers ns) size more h f = omega arith

-- the numbers before, the digits so far, and what is left of the line with its end
holds_from : (rest before : List ℕ) (k v : ℕ) → k ≤ most_digits → Holds ((most_digits + 1) * length before + k + length rest + 1) (said_from before k v rest)
unfolding said_from
holds_from [] before k v h = go (leb 1 k)
  where
    go : (t : Bool) → Holds ((most_digits + 1) * length before + k + 0 + 1) (cond t (numbers (before ++ (v ∷ []))) bad_text)
    go true = omega (arith, length-append before (v ∷ []))
    go false = tt
holds_from (b ∷ rest) before k v h =
    go (eqb b space) (leb 1 k) (is_digit b && ltb k most_digits) refl
    (holds_from rest (before ++ (v ∷ [])) 0 0 (omega arith))
    (holds_from rest before (suc k) (v * 10 + (b - 48)))
  where
    next : Said
    next = said_from (before ++ (v ∷ [])) 0 0 rest

    other : Said
    other = said_from before (suc k) (v * 10 + (b - 48)) rest

    size : ℕ
    size = (most_digits + 1) * length before + k + suc (length rest) + 1

    go : (s t u : Bool) → is_digit b && ltb k most_digits ≡ u
        → Holds ((most_digits + 1) * length (before ++ (v ∷ [])) + 0 + length rest + 1) next
        → (suc k ≤ most_digits → Holds ((most_digits + 1) * length before + suc k + length rest + 1) other)
        → Holds size (cond s (cond t next bad_text) (cond u other bad_text))
    go true true u e p q = holds_less next size _ (omega (arith, length-append before (v ∷ []))) p
    go true false u e p q = tt
    go false t true e p q = holds_less other size _ (omega arith) (q (omega (arith, ltb-true k most_digits (both (is_digit b) (ltb k most_digits) e).1)))
    go false t false e p q = tt

-- so a row of numbers fits the longest line
too_long : (s : Said) (size : ℕ) → most_line < size → Holds (size + 1) s → row_of s ≡ None
unfolding row_of
too_long bad_text size h f = refl
too_long (numbers ns) size h f = rw (lt-leb (length ns) most_numbers (omega arith))

no_row_lem : (line : List ℕ) → most_line < length line → row_of (said line) ≡ None
no_row_lem line h = too_long (said line) (length line) h (holds_less (said line) (length line + 1) _ (omega arith) (holds_from line [] 0 0 (omega arith)))

-- what makes the same row makes the same line of table: a line that is too long makes what bad text makes
pub as_bad_text : (t : Table) (line : List ℕ) → most_line < length line → said_at t.stage t bad_text ≡ line_of t line
unfolding line_of row_of
as_bad_text t line h = sym (line_made_lem t bad_text) ∙ ap (row_made t) (sym (no_row_lem line h)) ∙ line_made_lem t (said line)

refused : (t : Table) → has_ended t.stage ≡ false → said_at t.stage t bad_text ≡ refused_at t 1
unfolding plan_line packet_line
refused t h = go t.stage h
  where
    go : (stage : Stage) → has_ended stage ≡ false → said_at stage t bad_text ≡ refused_at t 1
    go PlanToCome h = refl
    go Packets h = refl
    go Ended h = absurd (never h)

pub long_lines_are_bad : LongLinesAreBad
long_lines_are_bad line h = (no_row_lem line h, λ t going. sym (as_bad_text t line h) ∙ refused t going)
