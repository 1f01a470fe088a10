-- The laws of the open line: what it says, the line of table that its end makes, and what is kept of it. Assumes nothing.
use borrow.Author.Tests.{lt-ltb, le-ltb, le-leb, lt-leb}
use native.Mathlib.Decide.{dec_lt}
use native.Mathlib.Numerals.{add-one}
use native.Mathlib.Omega.{arith}
use mathlib.Core.Path.{◌≡◌, refl, ap, ◌∙◌}
use mathlib.Core.List.{List, [], ◌∷◌, ◌++◌}
use Rattle.std.specs.Prelude.{None}
use Prim.Native.Nat.{ℕ, suc, ◌+◌, ◌≤◌, ◌<◌, min}
use lib.ListN.{length, take, length-append, length-set}
use lib.Seq.{take-suc-set}
use Rattle.text.specs.Text.{said}
use Rattle.text.specs.Rows.{row_of}
use Rattle.table.specs.declared.Table.{Table}
use Rattle.table.specs.Table.{line_of}
use Rattle.table.specs.Steps.{row_made}
use Rattle.table.proofs.Making.{line_made_lem}
use Rattle.session.specs.declared.Session.{Session}
use Rattle.session.specs.Session.{most_line, open_line, heard, line_made, keep_byte}
use Rattle.session.proofs.LongLines.{as_bad_text}

module _ (kept : ℕ) (line : List ℕ) where
  pub heard_long : most_line < kept → None ≡ row_of (heard kept line)
  unfolding heard row_of
  heard_long h = simp (lt-leb kept most_line h)

  pub heard_line : kept ≤ most_line → row_of (said (take kept line)) ≡ row_of (heard kept line)
  unfolding heard
  heard_line h = simp (le-leb kept most_line h)

pub row_made_lem : (s : Session) → row_made s.table (row_of (heard s.kept s.line)) ≡ line_made s
unfolding line_made
row_made_lem s = line_made_lem s.table (heard s.kept s.line)

-- ---- what is kept of it

-- what a session keeps of an open line: its bytes, or only that it is too long
pub record Open (s : Session) (line : List ℕ) : Type 0 where
  pub size : length s.line ≡ most_line
  pub count : s.kept ≡ min (length line) (most_line + 1)
  pub bytes : length line ≤ most_line → take (length line) s.line ≡ line

pub no_bytes : (t : Table) (buffer : List ℕ) → length buffer ≡ most_line → Open (open_line t buffer) []
no_bytes t buffer h = record { size = h; count = refl; bytes = λ f. refl }

-- one more byte
pub more : (s : Session) (line : List ℕ) (b : ℕ) → Open s line → Open (keep_byte s b) (line ++ (b ∷ []))
unfolding keep_byte
more s line b o = go (dec_lt s.kept most_line)
  where
    long : length (line ++ (b ∷ [])) ≡ suc (length line)
    long = length-append line (b ∷ []) ∙ add-one (length line)

    go : Dec (s.kept < most_line) → Open (keep_byte s b) (line ++ (b ∷ []))
    go (yes h) =
        let all : s.kept ≡ length line = omega (arith, o.count) in
        rw (lt-ltb s.kept most_line h) (record {
          size = simp length-set o.size;
          count = rw long (omega (arith, o.count));
          bytes = λ f.
              rw (long, all)
              (take-suc-set s.line (length line) b (omega (arith, o.size)) ∙ ap (λ (l : List ℕ). l ++ (b ∷ [])) (o.bytes (omega arith)));
        })
    go (no h) =
        rw (le-ltb s.kept most_line (omega arith)) (record {
          size = o.size;
          count = rw long (omega (arith, o.count));
          bytes = λ f. absurd (omega (arith, long, o.count));
        })

pub same_table : (s : Session) (b : ℕ) → (keep_byte s b).table ≡ s.table
unfolding keep_byte
same_table s b = go (dec_lt s.kept most_line)
  where
    go : Dec (s.kept < most_line) → (keep_byte s b).table ≡ s.table
    go (yes h) = rw (lt-ltb s.kept most_line h)
    go (no h) = rw (le-ltb s.kept most_line (omega arith))

-- the buffer's rule and the rule for lines agree
pub made : (s : Session) (line : List ℕ) → Open s line → line_made s ≡ line_of s.table line
unfolding line_made heard line_of
made s line o = go (dec_lt most_line (length line))
  where
    go : Dec (most_line < length line) → line_made s ≡ line_of s.table line
    go (yes h) = rw (lt-leb s.kept most_line (omega (arith, o.count))) (as_bad_text s.table line h)
    go (no h) =
        let all : s.kept ≡ length line = omega (arith, o.count) in
        rw (all, le-leb (length line) most_line (omega arith), o.bytes (omega arith))
