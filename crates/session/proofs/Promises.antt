-- What a session promises: how the text is cut into pieces cannot matter, a call of feed is that much of the text, the whole text prints
-- the table of its lines, and so does the session on paper. Assumes nothing.
use borrow.Author.Tests.{ltb-true, le-ltb}
use native.Mathlib.Omega.{arith}
use mathlib.Core.Logic.{◌⊎◌, inl, inr}
use mathlib.Core.Path.{◌≡◌, refl, ap, sym, ◌∙◌}
use mathlib.Core.Bool.{Bool, true, false, cond}
use mathlib.Core.List.{List, [], ◌∷◌, ◌++◌, append-nil, append_assoc, flatten}
use Prim.Native.Nat.{ℕ, suc, ◌-◌, ◌≤◌, ◌<◌}
use lib.Dec.{ltb}
use lib.ListN.{length, take, drop, length-append, length-take, take-append-drop}
use lib.Seq.{take-take}
use Rattle.numbers.specs.Checks.{all_below}
use Rattle.plan.specs.Plan.{plan_ok, counters_ok, charge_of}
use Rattle.sending.specs.Sender.{sender_ok, next_sender, send_checks, send_of}
use Rattle.text.specs.Text.{said_from, digits_of}
use Rattle.table.specs.Table.{most_text, row, plan_good, plan_line, packet_line, line_of}
use Rattle.session.specs.declared.Session.{Session}
use Rattle.session.specs.Session.{Fed, begun, byte_of, before, text_of, end_of, printed, Taken, one_more, feed_of, close_of}
use Rattle.session.specs.Lines.{cut, table_of, table_of_text, Call, run_of, PrintsItsTable, EndsItsTable}
use Rattle.session.proofs.ByLines.{closed, ended_prints, by_lines}

before_both : (x y : List ℕ) (f : Fed) → before x (before y f) ≡ before (x ++ y) f
before_both x y f = ap (λ (t : List ℕ). record { session = f.session; text = t }) (sym (append_assoc x y f.text))

-- The text in two pieces is the text whole.
pub pieces : (s : Session) (a b : List ℕ) → text_of s (a ++ b) ≡ before (text_of s a).text (text_of (text_of s a).session b)
unfolding text_of
pieces s [] b = refl
pieces s (x ∷ a) b =
    let f = byte_of s x in
    let g = text_of f.session a in
    ap (before f.text) (pieces f.session a b) ∙ before_both f.text g.text (text_of g.session b)

-- What is used of a piece makes the session and the text of the answer,
pub fed : (s : Session) (bytes : List ℕ) (room : ℕ)
    → text_of s (take (feed_of s bytes room).used bytes) ≡ record { session = (feed_of s bytes room).session; text = (feed_of s bytes room).text }
unfolding text_of feed_of
fed s [] room = refl
fed s (b ∷ bytes) room = go (ltb room most_text) (fed (byte_of s b).session bytes (room - length (byte_of s b).text))
  where
    f : Fed
    f = byte_of s b

    g : Taken
    g = feed_of f.session bytes (room - length f.text)

    go : (t : Bool) → text_of f.session (take g.used bytes) ≡ record { session = g.session; text = g.text }
        → let w = cond {A = Taken} t (record { session = s; used = 0; text = [] }) (one_more f.text g) in
        text_of s (take w.used (b ∷ bytes)) ≡ record { session = w.session; text = w.text }
    go true ih = refl
    go false ih = ap (before f.text) ih

-- and all of it is used, or the room that is left is less than a line of table may take.
pub used : (s : Session) (bytes : List ℕ) (room : ℕ) → ((feed_of s bytes room).used ≡ length bytes) ⊎ (room - length (feed_of s bytes room).text < most_text)
unfolding feed_of
used s [] room = inl refl
used s (b ∷ bytes) room = go (ltb room most_text) refl (used (byte_of s b).session bytes (room - length (byte_of s b).text))
  where
    f : Fed
    f = byte_of s b

    g : Taken
    g = feed_of f.session bytes (room - length f.text)

    go : (t : Bool) → ltb room most_text ≡ t → (g.used ≡ length bytes) ⊎ (room - length f.text - length g.text < most_text)
        → let w = cond {A = Taken} t (record { session = s; used = 0; text = [] }) (one_more f.text g) in
        (w.used ≡ length (b ∷ bytes)) ⊎ (room - length w.text < most_text)
    go true e ih = inr (omega (arith, ltb-true room most_text e))
    go false e (inl p) = inl (ap suc p)
    go false e (inr h) = inr (omega (arith, length-append f.text g.text))

-- Where there is room for a line of table, some of a piece is used,
pub some : (s : Session) (bytes : List ℕ) (room : ℕ) → 0 < length bytes → most_text ≤ room → 0 < (feed_of s bytes room).used
unfolding feed_of
some s [] room h f = absurd (omega arith)
some s (b ∷ bytes) room h f = rw (le-ltb room most_text f) (omega arith)

-- and never more than there is.
pub within : (s : Session) (bytes : List ℕ) (room : ℕ) → (feed_of s bytes room).used ≤ length bytes
unfolding feed_of
within s [] room = omega arith
within s (b ∷ bytes) room = go (ltb room most_text) (within (byte_of s b).session bytes (room - length (byte_of s b).text))
  where
    g : Taken
    g = feed_of (byte_of s b).session bytes (room - length (byte_of s b).text)

    go : (t : Bool) → g.used ≤ length bytes
        → (cond {A = Taken} t (record { session = s; used = 0; text = [] }) (one_more (byte_of s b).text g)).used ≤ length (b ∷ bytes)
    go true ih = omega arith
    go false ih = omega arith

-- a feed of some of a text, and then what is left of it, make what the whole text makes
feed_left : (s : Session) (text : List ℕ) (c : Call)
    → let f = feed_of s (take c.size text) c.room in text_of s text ≡ before f.text (text_of f.session (drop f.used text))
feed_left s text c =
    let piece = take c.size text in
    let f = feed_of s piece c.room in
    let front : take f.used piece ≡ take f.used text =
    take-take f.used c.size text (omega (arith, within s piece c.room, length-take c.size text)) in
    ap (text_of s) (sym (take-append-drop f.used text)) ∙ pieces s (take f.used text) (drop f.used text)
    ∙ ap (λ (g : Fed). before g.text (text_of g.session (drop f.used text))) (ap (text_of s) (sym front) ∙ fed s piece c.room)

-- and so do any feeds
runs : (s : Session) (text : List ℕ) (calls : List Call) → let r = run_of s text calls in text_of s text ≡ before r.wrote (text_of r.session r.left)
unfolding run_of
runs s text [] = refl
runs s text (c ∷ calls) =
    let f = feed_of s (take c.size text) c.room in
    let r = run_of f.session (drop f.used text) calls in
    feed_left s text c ∙ ap (before f.text) (runs f.session (drop f.used text) calls)
    ∙ before_both f.text r.wrote (text_of r.session r.left)

-- However a text comes in, it prints the table of its lines,
pub prints_its_table : PrintsItsTable
unfolding close_of printed text_of
prints_its_table text calls room none h =
    let r = run_of begun text calls in
    let all : text_of begun text ≡ record { session = r.session; text = r.wrote } = runs begun text calls ∙ rw (none, append-nil) in
    rw (le-ltb room most_text h) (ap closed (sym all) ∙ by_lines text)

-- and nothing behind the first refusal.
pub ends_its_table : EndsItsTable
unfolding printed
ends_its_table text calls e =
    let r = run_of begun text calls in
    let f = text_of r.session r.left in
    sym (append-nil r.wrote) ∙ ap (λ (l : List ℕ). r.wrote ++ l) (sym (ended_prints r.session e r.left))
    ∙ sym (append_assoc r.wrote f.text (end_of f.session).text) ∙ ap closed (sym (runs begun text calls)) ∙ by_lines text

-- An example: the session on paper, and the table that it prints.
abbrev pub paper : List ℕ
paper =
    50 ∷ 32 ∷ 53 ∷ 48 ∷ 48 ∷ 32 ∷ 49 ∷ 32 ∷ 49 ∷ 48 ∷ 48 ∷ 48 ∷ 32 ∷ 53 ∷ 48 ∷ 48 ∷ 10 ∷
    52 ∷ 48 ∷ 48 ∷ 10 ∷
    53 ∷ 48 ∷ 48 ∷ 10 ∷
    51 ∷ 48 ∷ 48 ∷ 10 ∷
    52 ∷ 53 ∷ 48 ∷ 10 ∷
    50 ∷ 48 ∷ 48 ∷ 10 ∷
    53 ∷ 48 ∷ 48 ∷ 10 ∷
    53 ∷ 48 ∷ 48 ∷ 10 ∷
    49 ∷ 48 ∷ 48 ∷ 10 ∷ []

abbrev pub table : List ℕ
table =
    110 ∷ 111 ∷ 32 ∷ 108 ∷ 101 ∷ 110 ∷ 32 ∷ 99 ∷ 104 ∷ 32 ∷ 114 ∷ 111 ∷ 117 ∷ 110 ∷ 100 ∷ 32 ∷ 98 ∷ 101 ∷ 102 ∷ 111 ∷ 114 ∷ 101 ∷ 32 ∷ 100 ∷ 117 ∷ 101 ∷ 10 ∷
    49 ∷ 32 ∷ 52 ∷ 48 ∷ 48 ∷ 32 ∷ 48 ∷ 32 ∷ 49 ∷ 32 ∷ 49 ∷ 48 ∷ 48 ∷ 48 ∷ 32 ∷ 45 ∷ 10 ∷
    50 ∷ 32 ∷ 53 ∷ 48 ∷ 48 ∷ 32 ∷ 48 ∷ 32 ∷ 49 ∷ 32 ∷ 54 ∷ 48 ∷ 48 ∷ 32 ∷ 45 ∷ 10 ∷
    51 ∷ 32 ∷ 51 ∷ 48 ∷ 48 ∷ 32 ∷ 48 ∷ 32 ∷ 49 ∷ 32 ∷ 49 ∷ 48 ∷ 48 ∷ 32 ∷ 45 ∷ 10 ∷
    52 ∷ 32 ∷ 52 ∷ 53 ∷ 48 ∷ 32 ∷ 49 ∷ 32 ∷ 49 ∷ 32 ∷ 53 ∷ 48 ∷ 48 ∷ 32 ∷ 45 ∷ 10 ∷
    53 ∷ 32 ∷ 50 ∷ 48 ∷ 48 ∷ 32 ∷ 49 ∷ 32 ∷ 49 ∷ 32 ∷ 53 ∷ 48 ∷ 32 ∷ 77 ∷ 10 ∷
    54 ∷ 32 ∷ 53 ∷ 48 ∷ 48 ∷ 32 ∷ 48 ∷ 32 ∷ 50 ∷ 32 ∷ 56 ∷ 48 ∷ 48 ∷ 32 ∷ 45 ∷ 10 ∷
    55 ∷ 32 ∷ 53 ∷ 48 ∷ 48 ∷ 32 ∷ 48 ∷ 32 ∷ 50 ∷ 32 ∷ 51 ∷ 48 ∷ 48 ∷ 32 ∷ 45 ∷ 10 ∷
    56 ∷ 32 ∷ 49 ∷ 48 ∷ 48 ∷ 32 ∷ 49 ∷ 32 ∷ 50 ∷ 32 ∷ 51 ∷ 53 ∷ 48 ∷ 32 ∷ 45 ∷ 10 ∷ []

pub example_by_lines : table_of_text paper ≡ table
unfolding cut table_of flatten line_of plan_line plan_good packet_line row said_from digits_of plan_ok all_below
    send_of send_checks sender_ok counters_ok next_sender charge_of
example_by_lines = refl

pub example : printed paper ≡ table
example = by_lines paper ∙ example_by_lines
