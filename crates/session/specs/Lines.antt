-- The whole text, by lines: a text prints the table of its lines, however it comes in.
use Rattle.std.specs.Prelude.{◌≡◌, None, true, false, cond, ℕ, ◌≤◌, ◌<◌, eqb, length, take, drop}
use mathlib.Core.List.{List, [], ◌∷◌, ◌++◌, flatten}
use Rattle.text.specs.Text.{line_feed, said}
use Rattle.text.specs.Rows.{row_of}
use Rattle.table.specs.declared.Table.{Table}
use Rattle.table.specs.Table.{most_text, no_table, refused_at, line_of}
use Rattle.session.specs.declared.Session.{Session}
use Rattle.session.specs.Session.{most_line, begun, has_ended, feed_of, close_of}

-- ---- what a text prints

-- one more byte, in front of the first line
abbrev pub in_front : ℕ → List (List ℕ) → List (List ℕ)
in_front b [] = (b ∷ []) ∷ []
in_front b (line ∷ lines) = (b ∷ line) ∷ lines

-- a text cut at its line feeds: the last line may lack its own, and behind the last line feed there is no line
unfoldable pub cut : List ℕ → List (List ℕ)
cut [] = []
cut (b ∷ text) = cond (eqb b line_feed) ([] ∷ cut text) (in_front b (cut text))

-- the lines of a text; no text at all is one blank line
abbrev pub lines_of : List ℕ → List (List ℕ)
lines_of [] = [] ∷ []
lines_of (b ∷ text) = cut (b ∷ text)

-- a line of table for each line of text, and nothing behind the first refusal
unfoldable pub table_of : Table → List (List ℕ) → List (List ℕ)
table_of t [] = []
table_of t (line ∷ lines) = cond (has_ended t.stage) [] ((line_of t line).text ∷ table_of (line_of t line).table lines)

-- what a text prints: the table of its lines
abbrev pub table_of_text : List ℕ → List ℕ
table_of_text text = flatten (table_of no_table (lines_of text))

-- ---- a text in pieces: each call of feed is offered some of what is left, and leaves what it does not use

-- how many bytes are offered, and the room of the output
pub record Call : Type 0 where
  pub size : ℕ
  pub room : ℕ

-- the session after some calls, what is left of the text, and what was written
pub record Run : Type 0 where
  pub session : Session
  pub left : List ℕ
  pub wrote : List ℕ

unfoldable pub run_of : Session → List ℕ → List Call → Run
run_of s text [] = record { session = s; left = text; wrote = [] }
run_of s text (c ∷ calls) =
    let f = feed_of s (take c.size text) c.room in
    let r = run_of f.session (drop f.used text) calls in
    record { session = r.session; left = r.left; wrote = f.text ++ r.wrote }

-- ---- what is promised

-- no byte of a line is a line feed
abbrev pub NoFeed : List ℕ → Type 0
NoFeed [] = Unit {0}
NoFeed (b ∷ line) = (eqb b line_feed ≡ false) × NoFeed line

-- A line and its line feed are the first line of a text; without a line feed, the last.
abbrev pub CutsAtFeeds : Type 0
CutsAtFeeds =
    (line : List ℕ) → NoFeed line
    → ((rest : List ℕ) → cut (line ++ (line_feed ∷ rest)) ≡ line ∷ cut rest) × (0 < length line → cut line ≡ line ∷ [])

-- A text that is fed in any pieces, with any room, until nothing is left, and closed where a line of table fits, prints the table of its lines.
abbrev pub PrintsItsTable : Type 0
PrintsItsTable =
    (text : List ℕ) (calls : List Call) (room : ℕ)
    → let r = run_of begun text calls in r.left ≡ [] → most_text ≤ room → r.wrote ++ (close_of r.session room).text ≡ table_of_text text

-- Once a line was refused, what was written is the table of the whole text, whatever is left of it.
abbrev pub EndsItsTable : Type 0
EndsItsTable =
    (text : List ℕ) (calls : List Call)
    → let r = run_of begun text calls in has_ended r.session.table.stage ≡ true → r.wrote ≡ table_of_text text

-- A line that is too long to be kept says no row of numbers by the rule for lines, so it is refused with 1, whatever is expected.
abbrev pub LongLinesAreBad : Type 0
LongLinesAreBad =
    (line : List ℕ) → most_line < length line
    → (row_of (said line) ≡ None) × ((t : Table) → has_ended t.stage ≡ false → line_of t line ≡ refused_at t 1)
