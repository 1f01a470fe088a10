-- The whole text, byte by byte: the open line is kept until its end, and each end of a line makes one line of table. Lines.antt says what
-- that prints, by lines.
use Rattle.std.specs.Prelude.{Bool, true, false, cond, List, [], ◌∷◌, ◌++◌, ℕ, suc, ◌+◌, ◌-◌, ltb, leb, eqb, length, take, set, replicate}
use Rattle.text.specs.Text.{line_feed, Said, bad_text, said}
use Rattle.table.specs.declared.Stage.{Stage}
use Rattle.table.specs.declared.Stage.TheVariants.{PlanToCome, Packets, Ended}
use Rattle.table.specs.declared.Table.{Table}
use Rattle.table.specs.Table.{most_text, Made, no_table, said_at}
use Rattle.session.specs.declared.Session.{Session}

-- no line of text that can be good is longer (`LongLinesAreBad`): N, Max, K and the quanta of sixteen lines, nineteen numbers of ten digits,
-- one space apart; `limits` of src/lib.rt ties it to the constant of `Session`
abbrev pub most_line : ℕ
most_line = 208

pub record Fed : Type 0 where
  pub session : Session
  pub text : List ℕ

-- a line with no bytes is open
abbrev pub open_line : Table → List ℕ → Session
open_line t line = record { table = t; kept = 0; line = line }

abbrev pub begun : Session
begun = open_line no_table (replicate most_line 0)

-- what an open line of so many bytes says; one that was too long is bad text
unfoldable pub heard : ℕ → List ℕ → Said
heard kept line = cond (leb kept most_line) (said (take kept line)) bad_text

-- the open line ends
unfoldable pub line_made : Session → Made
line_made s = said_at s.table.stage s.table (heard s.kept s.line)

abbrev pub line_ends : Session → Fed
line_ends s = record { session = open_line (line_made s).table s.line; text = (line_made s).text }

-- one more byte of the open line; past the longest line only that it is too long is kept
unfoldable pub keep_byte : Session → ℕ → Session
keep_byte s b =
    cond (ltb s.kept most_line)
    (record { table = s.table; kept = s.kept + 1; line = set s.line s.kept b })
    (record { table = s.table; kept = most_line + 1; line = s.line })

abbrev pub has_ended : Stage → Bool
has_ended PlanToCome = false
has_ended Packets = false
has_ended Ended = true

-- one byte of text; a session that has ended takes no notice
unfoldable pub byte_of : Session → ℕ → Fed
byte_of s b =
    cond (has_ended s.table.stage) (record { session = s; text = [] })
    (cond (eqb b line_feed) (line_ends s) (record { session = keep_byte s b; text = [] }))

-- text x, and then what f makes
abbrev pub before : List ℕ → Fed → Fed
before x f = record { session = f.session; text = x ++ f.text }

-- the whole of some text: one byte after another
unfoldable pub text_of : Session → List ℕ → Fed
text_of s [] = record { session = s; text = [] }
text_of s (b ∷ bytes) = before (byte_of s b).text (text_of (byte_of s b).session bytes)

-- whether the end of the text ends a line, of which so many bytes were kept: no text at all is one blank line
abbrev pub ends_line : Stage → ℕ → Bool
ends_line PlanToCome kept = true
ends_line Packets kept = leb 1 kept
ends_line Ended kept = false

-- the end of the text: the last line may lack its line feed
unfoldable pub end_of : Session → Fed
end_of s = cond (ends_line s.table.stage s.kept) (line_ends s) (record { session = s; text = [] })

-- what a whole text prints
unfoldable pub printed : List ℕ → List ℕ
printed text = (text_of begun text).text ++ (end_of (text_of begun text).session).text

-- ---- the calls: a piece of the text, and an output with so much room

-- bytes are used while the output has room for a line of table
pub record Taken : Type 0 where
  pub session : Session
  pub used : ℕ
  pub text : List ℕ

abbrev pub one_more : List ℕ → Taken → Taken
one_more x f = record { session = f.session; used = suc f.used; text = x ++ f.text }

unfoldable pub feed_of : Session → List ℕ → ℕ → Taken
feed_of s [] room = record { session = s; used = 0; text = [] }
feed_of s (b ∷ bytes) room =
    cond (ltb room most_text) (record { session = s; used = 0; text = [] })
    (one_more (byte_of s b).text (feed_of (byte_of s b).session bytes (room - length (byte_of s b).text)))

-- the end, where there is room for a line of table
pub record Last : Type 0 where
  pub done : Bool
  pub text : List ℕ

unfoldable pub close_of : Session → ℕ → Last
close_of s room = cond (ltb room most_text) (record { done = false; text = [] }) (record { done = true; text = (end_of s).text })
