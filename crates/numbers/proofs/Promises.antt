-- What the number coding promises, over its width w; the code is the instance at 32. Assumes nothing.
use mathlib.Core.Path.{◌≡◌, refl, ap, sym, ◌∙◌}
use Prim.Native.Nat.{ℕ, ◌+◌, ◌*◌, ◌^◌, ◌≤◌, ◌<◌}
use native.Mathlib.Omega.{arith}
use mathlib.Core.List.{List, [], ◌∷◌, ◌++◌}
use lib.ListN.{length, take}
use lib.Seq.{take-length}
use Rattle.numbers.specs.Coding.{Reading, Bytes, yields, reading_of, coded}
use Rattle.std.specs.Prelude.{Some, None}
use Rattle.numbers.proofs.Laws as law

-- what a reading yields says which it is
was : (r : Reading) {v at : ℕ} → yields r ≡ v ∷ at ∷ [] → r ≡ Some (v, at)
was (Some (u, k)) {v} {at} e = let p : u ≡ v = cc in let q : k ≡ at = cc in rw (p, q)
was None e = absurd (omega (arith, ap length e))

-- What is written reads back, with the place after it, whatever follows.
pub written_reads_back : (w v : ℕ) (t : List ℕ) → v < 2 ^ w → yields (reading_of w (coded w v ++ t)) ≡ v ∷ length (coded w v) ∷ []
written_reads_back w v t f = ap yields (law.round_trip w v t f)

-- Two byte strings that read as one number are equal: there is no form but the shortest.
pub one_form : (w : ℕ) (s t : List ℕ) (v : ℕ) → Bytes s → Bytes t
    → yields (reading_of w s) ≡ v ∷ length s ∷ [] → yields (reading_of w t) ≡ v ∷ length t ∷ [] → s ≡ t
one_form w s t v bs bt e f =
    sym (take-length s) ∙ law.shortest w s (was (reading_of w s) e) bs ∙ sym (law.shortest w t (was (reading_of w t) f) bt) ∙ take-length t

-- A number that is read is below 2 ^ w, ends within the bytes, and takes no more than a byte for each seven bits begun.
pub number_size : (w : ℕ) (s : List ℕ) (v at : ℕ) → 0 < w → yields (reading_of w s) ≡ v ∷ at ∷ [] → (v < 2 ^ w) × (at ≤ length s) × (7 * at < w + 7)
number_size w s v at pos e =
    let r = was (reading_of w s) e in
    (law.fits w s r, (law.place w s r).1, law.size w s r pos)

-- The bytes after the number do not matter.
pub later_bytes : (w : ℕ) (s t : List ℕ) (v at : ℕ) → yields (reading_of w s) ≡ v ∷ at ∷ [] → yields (reading_of w (take at s ++ t)) ≡ v ∷ at ∷ []
later_bytes w s t v at e = ap yields (law.after w s (was (reading_of w s) e) t)

-- At 32 bits the first five bytes decide, whether a number is read or nothing.
pub five_bytes : (s : List ℕ) → reading_of 32 (take 5 s) ≡ reading_of 32 s
five_bytes s = law.enough 32 5 s (omega arith) (omega arith)

-- An example: 127 is 7F; 128 is 80 01; 80 00 is refused. FF FF FF FF 0F is 4,294,967,295; FF FF FF FF 10 is refused.
pub examples :
    (coded 32 127 ≡ 0x7F ∷ []) × (coded 32 128 ≡ 0x80 ∷ 0x01 ∷ []) × (yields (reading_of 32 (0x80 ∷ 0x00 ∷ [])) ≡ [])
    × (yields (reading_of 32 (0xFF ∷ 0xFF ∷ 0xFF ∷ 0xFF ∷ 0x0F ∷ [])) ≡ 4294967295 ∷ 5 ∷ [])
    × (yields (reading_of 32 (0xFF ∷ 0xFF ∷ 0xFF ∷ 0xFF ∷ 0x10 ∷ [])) ≡ [])
unfolding coded reading_of
examples = (refl, refl, refl, refl, refl)
