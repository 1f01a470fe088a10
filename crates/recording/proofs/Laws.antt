-- The laws of what stands at a place. Players cite these and not the definitions' text. Assumes nothing.
use Rattle.std.proofs.Common.{◌≡◌, refl, ℕ, ◌≤◌, ◌<◌, List, length, drop, length-drop, Some, None, arith}
use Rattle.std.proofs.Math.ListN.{drop_of_length-le}
use Rattle.numbers.specs.Coding.{Reading, reading_of}
use Rattle.numbers.proofs.Laws.{place}
use Rattle.std.specs.declared.ops.Range.{Range}
use Rattle.recording.specs.Recording.{from, number_at, part_of, part_at}

pub past_end : (s : List ℕ) (at : ℕ) → length s < at → number_at s at ≡ None
unfolding number_at reading_of
past_end s at h = let short : length s ≤ at = omega arith in rw (drop_of_length-le s short)

-- a number ends within the recording, past its own place
pub within : (s : List ℕ) (at : ℕ) {v n : ℕ} → number_at s at ≡ Some (v, n) → (at < n) × (n ≤ length s)
unfolding number_at
within s at {v} {n} e = go (reading_of 32 (drop at s)) refl e
  where
    go : (r : Reading) → reading_of 32 (drop at s) ≡ r → from at r ≡ Some (v, n) → (at < n) × (n ≤ length s)
    go None f e = cc
    go (Some (w, k)) f e = let p = place 32 (drop at s) f in let l = length-drop at s in grind arith

-- a part stands within the recording, past the place of its length
pub part_within : (s : List ℕ) (at : ℕ) {r : Range ℕ} → part_at s at ≡ Some r → (at < r.start) × (r.start ≤ r.end) × (r.end ≤ length s)
unfolding part_at
part_within s at {r} e = go (number_at s at) refl e
  where
    go : (o : Reading) → number_at s at ≡ o → part_of s o ≡ Some r → (at < r.start) × (r.start ≤ r.end) × (r.end ≤ length s)
    go None f e = cc
    go (Some (n, place)) f e = let w = within s at f in grind arith
