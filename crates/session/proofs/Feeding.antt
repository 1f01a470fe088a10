-- The laws of a piece of the text, byte by byte. Assumes nothing.
use borrow.Author.Tests.{lt-ltb, le-ltb, eq-eqb, ne_eqb}
use native.Mathlib.Numerals.{add-one}
use native.Mathlib.Nat.{zero-add}
use native.Mathlib.Omega.{arith}
use mathlib.Core.Path.{◌≡◌, refl, ap, sym, ◌∙◌}
use mathlib.Core.Bool.{true, false}
use mathlib.Core.List.{List, [], ◌++◌}
use Prim.Native.Nat.{ℕ, ◌+◌, ◌-◌, ◌≤◌, ◌<◌}
use lib.ListN.{length, get_or, drop, length-append, length-drop, drop_of_length-le}
use lib.Seq.{drop-cons, sets, sets-eq}
use Rattle.numbers.proofs.Laws.{sets-append}
use Rattle.text.specs.Text.{line_feed}
use Rattle.table.specs.declared.Table.{Table}
use Rattle.table.specs.Table.{most_text}
use Rattle.session.specs.declared.Session.{Session}
use Rattle.session.specs.Session.{Fed, open_line, line_made, line_ends, keep_byte, has_ended, byte_of, Taken, one_more, feed_of}

-- a text at the front of the output
pub front : (text out : List ℕ) → length text ≤ length out → sets out 0 text ≡ text ++ drop (length text) out
front text out h = sets-eq text out 0 (omega arith) ∙ simp zero-add

-- and a text that is there fits
pub front_fits : (text out after : List ℕ) → after ≡ text ++ drop (length text) out → length after ≡ length out → length text ≤ length out
front_fits text out after e same = omega (arith, ap length e ∙ length-append text (drop (length text) out), length-drop (length text) out)

-- ---- a byte

module _ (s : Session) (b : ℕ) where
  pub byte_ended : has_ended s.table.stage ≡ true → byte_of s b ≡ record { session = s; text = [] }
  unfolding byte_of
  byte_ended e = simp e

  module _ (going : has_ended s.table.stage ≡ false) where
    pub byte_line : b ≡ line_feed → byte_of s b ≡ line_ends s
    unfolding byte_of
    byte_line e = simp (going, eq-eqb b line_feed e)

    pub byte_kept : (b ≡ line_feed → ⊥) → byte_of s b ≡ record { session = keep_byte s b; text = [] }
    unfolding byte_of
    byte_kept other = simp (going, ne_eqb b line_feed other)

-- ---- a piece of the text: what is left of it, fed from here, makes the whole answer

-- the answer to the whole piece, from what was used and written so far, and the answer g to what is left
pub record Left (whole : Taken) (out₀ out : List ℕ) (used wrote : ℕ) (g : Taken) : Type 0 where
  pub session : g.session ≡ whole.session
  pub used_all : used + g.used ≡ whole.used
  pub wrote_all : wrote + length g.text ≡ length whole.text
  pub stored : sets out wrote g.text ≡ sets out₀ 0 whole.text

pub left_all : (whole : Taken) (out : List ℕ) → Left whole out out 0 0 whole
left_all whole out = record { session = refl; used_all = zero-add whole.used; wrote_all = zero-add (length whole.text); stored = refl }

-- one byte was used, and made a text
pub left_next : {whole : Taken} {out₀ out : List ℕ} {used wrote : ℕ} (x : List ℕ) (g : Taken) (after : List ℕ) → after ≡ sets out wrote x
    → Left whole out₀ out used wrote (one_more x g) → Left whole out₀ after (used + 1) (wrote + length x) g
left_next {whole} {out₀} {out} {used} {wrote} x g after e l = record {
  session = l.session;
  used_all = omega (arith, l.used_all);
  wrote_all = omega (arith, length-append x g.text, l.wrote_all);
  stored = rw e (sym (sets-append out wrote x g.text) ∙ l.stored);
}

module _ (s : Session) (bytes : List ℕ) (used room : ℕ) where
  pub feed_byte : used < length bytes → most_text ≤ room → (f : Fed) → byte_of s (get_or bytes used 0) ≡ f
      → feed_of s (drop used bytes) room ≡ one_more f.text (feed_of f.session (drop (used + 1) bytes) (room - length f.text))
  unfolding feed_of
  feed_byte more h f e = rw (drop-cons bytes used 0 more, add-one used) (rw (le-ltb room most_text h, e))

  pub feed_done : length bytes ≤ used → feed_of s (drop used bytes) room ≡ record { session = s; used = 0; text = [] }
  unfolding feed_of
  feed_done end = rw (drop_of_length-le bytes end)

  pub feed_full : used < length bytes → room < most_text → feed_of s (drop used bytes) room ≡ record { session = s; used = 0; text = [] }
  unfolding feed_of
  feed_full more h = rw (drop-cons bytes used 0 more) (simp (lt-ltb room most_text h))

-- a turn: one byte is used, its text is stored, and what is left is fed from there
module _ (whole : Taken) (out₀ out bytes : List ℕ) (used wrote : ℕ) (s : Session) (more : used < length bytes) (room : most_text ≤ length out₀ - wrote) where
  pub turn : (f : Fed) (after : List ℕ) (to : ℕ) → byte_of s (get_or bytes used 0) ≡ f → after ≡ sets out wrote f.text → to ≡ wrote + length f.text
      → Left whole out₀ out used wrote (feed_of s (drop used bytes) (length out₀ - wrote))
      → Left whole out₀ after (used + 1) to (feed_of f.session (drop (used + 1) bytes) (length out₀ - to))
  turn f after to e stored place l =
      let left : length out₀ - to ≡ length out₀ - wrote - length f.text = omega arith in
      rw (left, place) (left_next f.text (feed_of f.session (drop (used + 1) bytes) (length out₀ - wrote - length f.text)) after stored
      (rw (feed_byte s bytes used (length out₀ - wrote) more room f e) at l))

-- the table after a line's end, with no bytes of the next line
pub line_ended : (s : Session) (t : Table) → t ≡ (line_made s).table → line_ends s ≡ record { session = open_line t s.line; text = (line_made s).text }
line_ended s t e = rw e

-- nothing is left
pub left_none : (whole : Taken) (out₀ out : List ℕ) (used wrote : ℕ) (s : Session) → length out ≡ length out₀ → wrote ≤ length out₀
    → Left whole out₀ out used wrote (record { session = s; used = 0; text = [] })
    → (s ≡ whole.session) × (used ≡ whole.used) × (wrote ≡ length whole.text) × (out ≡ whole.text ++ drop (length whole.text) out₀)
left_none whole out₀ out used wrote s same fits l =
    (l.session, omega (arith, l.used_all), omega (arith, l.wrote_all), l.stored ∙ front whole.text out₀ (omega (arith, l.wrote_all)))
