-- The laws of a text's lines: each line feed ends one, and the last may lack its own. Assumes nothing.
use native.Mathlib.Omega.{arith}
use mathlib.Core.Path.{◌≡◌, refl, ap, sym, ◌∙◌}
use mathlib.Core.List.{List, [], ◌∷◌, ◌++◌, append-nil}
use Prim.Native.Nat.{ℕ, ◌<◌}
use lib.ListN.{length}
use Rattle.text.specs.Text.{line_feed}
use Rattle.session.specs.Lines.{in_front, cut, NoFeed, CutsAtFeeds}

-- some bytes of a line, in front of the first line
abbrev pub onto : List ℕ → List (List ℕ) → List (List ℕ)
onto [] lines = lines
onto (b ∷ line) lines = in_front b (onto line lines)

pub onto_byte : (line : List ℕ) (b : ℕ) (lines : List (List ℕ)) → onto (line ++ (b ∷ [])) lines ≡ onto line (in_front b lines)
onto_byte [] b lines = refl
onto_byte (x ∷ line) b lines = ap (in_front x) (onto_byte line b lines)

pub onto_feed : (line : List ℕ) (lines : List (List ℕ)) → onto line ([] ∷ lines) ≡ line ∷ lines
onto_feed [] lines = refl
onto_feed (x ∷ line) lines = ap (in_front x) (onto_feed line lines)

pub onto_end : (b : ℕ) (line : List ℕ) → onto (b ∷ line) [] ≡ (b ∷ line) ∷ []
onto_end b [] = refl
onto_end b (x ∷ line) = ap (in_front b) (onto_end x line)

onto_cut : (line text : List ℕ) → NoFeed line → cut (line ++ text) ≡ onto line (cut text)
unfolding cut
onto_cut [] text none = refl
onto_cut (b ∷ line) text none = rw none.0 (ap (in_front b) (onto_cut line text none.1))

last_line : (line : List ℕ) → NoFeed line → 0 < length line → cut line ≡ line ∷ []
unfolding cut
last_line [] none h = absurd (omega arith)
last_line (b ∷ line) none h = ap cut (sym (append-nil (b ∷ line))) ∙ onto_cut (b ∷ line) [] none ∙ onto_end b line

pub cuts_at_feeds : CutsAtFeeds
unfolding cut
cuts_at_feeds line none = (λ rest. onto_cut line (line_feed ∷ rest) none ∙ onto_feed line (cut rest), last_line line none)
