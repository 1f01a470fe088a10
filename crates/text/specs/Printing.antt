-- Texts put into an output, one after another.
use Rattle.std.specs.Prelude.{◌≡◌, cond, List, [], ◌∷◌, ◌++◌, ℕ, ◌+◌, ◌≤◌, leb, length, drop}
use Rattle.std.proofs.lemmas.List.Edits.{sets}
use Rattle.text.specs.Text.{space, all_digits, decimal}

-- a number and a space
abbrev pub spaced : ℕ → List ℕ
spaced n = decimal n ++ (space ∷ [])

-- bytes that end, from a place on, with a number and a space
abbrev pub EndsSpaced : List ℕ → ℕ → ℕ → Type 0
EndsSpaced bytes from n = (length bytes ≡ all_digits + 1) × (from ≤ all_digits) × (drop from bytes ≡ spaced n)

-- the place after a text, and the output as the text leaves it
pub record Place : Type 0 where
  pub at : ℕ
  pub out : List ℕ

-- a text from a place on; one that does not fit whole is not written, and the place stays
unfoldable pub placed : List ℕ → ℕ → List ℕ → Place
placed text at out =
    cond (leb (at + length text) (length out)) (record { at = at + length text; out = sets out at text }) (record { at = at; out = out })

-- what every function that puts a text ensures,
abbrev pub PutWhereFits : List ℕ → ℕ → List ℕ → ℕ → List ℕ → Type 0
PutWhereFits text at before r after = (r ≡ (placed text at before).at) × (after ≡ (placed text at before).out)

-- and what that is where the text fits
abbrev pub Put : List ℕ → ℕ → List ℕ → ℕ → List ℕ → Type 0
Put text at before r after = (r ≡ at + length text) × (after ≡ sets before at text)
