-- A text prints the table of its lines: byte by byte is line by line. Assumes nothing.
use borrow.Author.Tests.{le-leb}
use native.Mathlib.Omega.{arith}
use mathlib.Core.Logic.{◌⊎◌, inl, inr}
use mathlib.Core.Path.{◌≡◌, refl, ap, sym, ◌∙◌}
use mathlib.Core.Bool.{Bool, true, false, cond}
use mathlib.Core.List.{List, [], ◌∷◌, ◌++◌, append-nil, append_assoc, flatten}
use Prim.Native.Nat.{ℕ, ◌+◌, ◌<◌}
use lib.Dec.{eqb}
use lib.ListN.{length, replicate, length-append}
use Rattle.numbers.proofs.Checks.{never}
use Rattle.sending.specs.declared.Sender.{Sender}
use Rattle.sending.specs.Sender.{Sent, send_of}
use Rattle.std.specs.Prelude.{Ok, Err}
use Rattle.text.specs.Text.{line_feed, Said, numbers, bad_text, said}
use Rattle.table.specs.declared.Stage.{Stage}
use Rattle.table.specs.declared.Stage.TheVariants.{PlanToCome, Packets, Ended}
use Rattle.table.specs.declared.Table.{Table}
use Rattle.table.specs.Table.{no_table, refused_at, plan_of, plan_good, planned, plan_line, sent_line, packet_line, said_at, line_of}
use Rattle.session.specs.declared.Session.{Session}
use Rattle.session.specs.Session.{most_line, Fed, open_line, begun, line_made, line_ends, keep_byte, has_ended, byte_of, text_of, ends_line, end_of, printed}
use Rattle.session.specs.Lines.{cut, table_of, table_of_text}
use Rattle.session.proofs.OpenLine.{Open, no_bytes, more, same_table, made}
use Rattle.session.proofs.Cutting.{onto, onto_byte, onto_feed, onto_end}

-- what is written, with the end of the text
abbrev pub closed : Fed → List ℕ
closed f = f.text ++ (end_of f.session).text

-- ---- a refusal ends all

-- an ended session makes nothing of any text, nor of its end
pub ended_prints : (s : Session) → has_ended s.table.stage ≡ true → (text : List ℕ) → closed (text_of s text) ≡ []
unfolding text_of byte_of end_of
ended_prints s e [] = go s.table.stage e
  where
    go : (stage : Stage) → has_ended stage ≡ true → (cond (ends_line stage s.kept) (line_ends s) (record { session = s; text = [] })).text ≡ []
    go PlanToCome e = absurd (never (sym e))
    go Packets e = absurd (never (sym e))
    go Ended e = refl
ended_prints s e (b ∷ text) = rw e (ended_prints s e text)

-- and an ended table nothing of any lines
ended_table : (t : Table) → has_ended t.stage ≡ true → (lines : List (List ℕ)) → flatten (table_of t lines) ≡ []
unfolding table_of flatten
ended_table t e [] = refl
ended_table t e (line ∷ lines) = rw e

-- ---- the plan's line is the first

-- behind a line of text the end of the text ends no blank line
not_first : (t : Table) (line : List ℕ) → ends_line (line_of t line).table.stage 0 ≡ false
unfolding line_of plan_line packet_line refused_at
not_first t line = go t.stage refl (said line)
  where
    sent : (n : ℕ) (next : Sender) (answer : Sent) → ends_line (sent_line t n next answer).table.stage 0 ≡ false
    sent n next (Ok went) = refl
    sent n next (Err refusal) = refl

    plan : (ns : List ℕ) (good : Bool) → ends_line (cond good (planned t (plan_of ns)) (refused_at t 1)).table.stage 0 ≡ false
    plan ns true = refl
    plan ns false = refl

    go : (stage : Stage) → t.stage ≡ stage → (s : Said) → ends_line (said_at stage t s).table.stage 0 ≡ false
    go PlanToCome e bad_text = refl
    go PlanToCome e (numbers ns) = plan ns (plan_good ns)
    go Packets e bad_text = refl
    go Packets e (numbers []) = refl
    go Packets e (numbers (n ∷ [])) = sent n (send_of t.sender n).next (send_of t.sender n).answer
    go Packets e (numbers (n ∷ m ∷ ns)) = refl
    go Ended e s = rw e

-- ---- what is left of the text makes the table of the lines that are left

-- the text has a byte, or had a line before: no text at all is a case of its own
abbrev Some : Session → List ℕ → List ℕ → Type 0
Some s line text = (0 < length line + length text) ⊎ (ends_line s.table.stage 0 ≡ false)

-- at the end of the text
end_printed : (s : Session) (line : List ℕ) → Open s line → Some s line [] → (end_of s).text ≡ flatten (table_of s.table (onto line []))
unfolding end_of table_of flatten
end_printed s [] o (inl h) = absurd (omega arith)
end_printed s [] o (inr e) = rw (o.count, e)
end_printed s (b ∷ line) o some = rw (onto_end b line) (go s.table.stage)
  where
    go : (stage : Stage)
        → (cond (ends_line stage s.kept) (line_ends s) (record { session = s; text = [] })).text
        ≡ flatten (cond (has_ended stage) [] ((line_of s.table (b ∷ line)).text ∷ []))
    go PlanToCome = rw (made s (b ∷ line) o, append-nil)
    go Packets = rw (le-leb 1 s.kept (omega (arith, o.count)), made s (b ∷ line) o, append-nil)
    go Ended = refl

-- at a line feed the open line makes its line of table, and the lines behind it make theirs
line_printed : (s : Session) (line : List ℕ) (lines : List (List ℕ)) → Open s line → has_ended s.table.stage ≡ false
    → flatten (table_of s.table (onto line ([] ∷ lines))) ≡ (line_made s).text ++ flatten (table_of (line_made s).table lines)
unfolding table_of flatten
line_printed s line lines o going = rw (onto_feed line lines, going, made s line o)

-- byte by byte
from_here : (text : List ℕ) (s : Session) (line : List ℕ) → Open s line → Some s line text
    → closed (text_of s text) ≡ flatten (table_of s.table (onto line (cut text)))
unfolding text_of byte_of cut
from_here [] s line o some = end_printed s line o some
from_here (b ∷ text) s line o some =
    go (has_ended s.table.stage) refl (eqb b line_feed) refl
    (from_here text after [] (no_bytes (line_made s).table s.line o.size) (inr (rw (made s line o) (not_first s.table line))))
    (from_here text (keep_byte s b) (line ++ (b ∷ [])) (more s line b o) (inl (omega (arith, length-append line (b ∷ [])))))
  where
    after : Session
    after = open_line (line_made s).table s.line

    go : (ended : Bool) → has_ended s.table.stage ≡ ended → (feed : Bool) → eqb b line_feed ≡ feed
        → closed (text_of after text) ≡ flatten (table_of (line_made s).table (cut text))
        → closed (text_of (keep_byte s b) text) ≡ flatten (table_of (keep_byte s b).table (onto (line ++ (b ∷ [])) (cut text)))
        → closed (text_of s (b ∷ text)) ≡ flatten (table_of s.table (onto line (cut (b ∷ text))))
    go true e feed f p q = ended_prints s e (b ∷ text) ∙ sym (ended_table s.table e (onto line (cut (b ∷ text))))
    go false e true f p q =
        rw (e, f) (append_assoc (line_made s).text (text_of after text).text (end_of (text_of after text).session).text
        ∙ ap (λ (l : List ℕ). (line_made s).text ++ l) p ∙ sym (line_printed s line (cut text) o e))
    go false e false f p q = rw (e, f) (q ∙ rw (same_table s b, onto_byte line b (cut text)))

-- What a text prints, byte by byte, is the table of its lines.
pub by_lines : (text : List ℕ) → printed text ≡ table_of_text text
unfolding printed text_of end_of table_of flatten
by_lines [] = rw (made begun [] (no_bytes no_table (replicate most_line 0) refl), append-nil)
by_lines (b ∷ text) = from_here (b ∷ text) begun [] (no_bytes no_table (replicate most_line 0) refl) (inl (omega arith))
