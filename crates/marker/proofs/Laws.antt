-- The laws of the marker record. Callers cite these and not the definitions' text. Assumes nothing.
use mathlib.Core.Path.{◌≡◌, refl, ap, sym, ◌∙◌}
use Prim.Native.Nat.{ℕ, ◌-◌, ◌^◌, ◌≤◌, ◌<◌}
use native.Mathlib.Omega.{arith}
use mathlib.Core.Bool.{Bool, true, false, cond}
use mathlib.Core.List.{List, [], ◌++◌}
use lib.ListN.{length, drop, length-drop}
use lib.Dec.{eqb}
use borrow.Author.Tests.{ltb-true, eq-eqb, eqb-true}
use Rattle.std.specs.Prelude.{Ok, Err, Some, None}
use Rattle.std.proofs.lemmas.List.{nil_from_length}
use Rattle.numbers.specs.declared.Refusal.{Refusal}
use Rattle.numbers.specs.declared.Refusal.TheVariants as refusal
use Rattle.numbers.specs.Refusals.{number, number_of}
use Rattle.numbers.specs.Checks.{Checked, passed, check}
use Rattle.numbers.specs.Coding.{Bytes, Reading, reading_of, onward, coded, row_bytes}
use Rattle.numbers.proofs.Checks.{from_range}
use Rattle.numbers.proofs.Laws.{onward_written, onward_number, split, fits, size, bytes_drop}
use Rattle.plan.specs.Limits.{most_lines, most_quantum}
use Rattle.marker.specs.declared.Marker.{Marker}
use Rattle.marker.specs.Marker.{MarkerRead, marker_of, field, record_read, marker_bytes, judge, judged, counter_ok, line_ok, read_checks, marker_read}

-- a marker that is read is none that is refused
pub whole_not_refused : {k : Refusal} {m : Marker} → ◌≡◌ {A = MarkerRead} (Err k) (Ok m) → ⊥
whole_not_refused e = let z : ◌≡◌ {A = ℕ} 0 1 = cc in omega arith

-- ---- the record as a whole

-- three numbers that are written are read
pub record_written : (m : Marker) → m.line < 2 ^ 32 → m.round < 2 ^ 32 → m.counter < 2 ^ 32 → record_read (marker_bytes m) ≡ Ok m
unfolding record_read row_bytes
record_written m l r c = onward_written m.line _ _ _ l ∙ onward_written m.round _ _ _ r ∙ onward_written m.counter _ _ _ c

one_number : (s : List ℕ) (next : ℕ → List ℕ → MarkerRead) (m : Marker) → Bytes s → field s next ≡ Ok m
    → (v : ℕ) × (t : List ℕ) × (s ≡ coded 32 v ++ t) × (v < 2 ^ 32) × (Bytes t) × (next v t ≡ Ok m)
one_number s next m bytes e =
    let n = onward_number (λ (r : MarkerRead). r ≡ Ok m) (reading_of 32 s) s (Err refusal.NoMarker) next whole_not_refused e in
    (n.0, drop n.1 s, split 32 s n.2 bytes, fits 32 s n.2, bytes_drop n.1 s bytes, n.3)

-- and what is read was written
pub record_read_lem : (s : List ℕ) (m : Marker) → Bytes s → record_read s ≡ Ok m
    → (s ≡ marker_bytes m) × (m.line < 2 ^ 32) × (m.round < 2 ^ 32) × (m.counter < 2 ^ 32)
unfolding record_read row_bytes
record_read_lem s m bytes e =
    let l = one_number s _ m bytes e in
    let r = one_number l.1 _ m l.4 l.5 in
    let c = one_number r.1 _ m r.4 r.5 in
    let d = end c.1 (marker_of l.0 r.0 c.0) c.5 in
    let is : marker_of l.0 r.0 c.0 ≡ m = d.1 in
    let whole : s ≡ marker_bytes (marker_of l.0 r.0 c.0) =
    l.2 ∙ ap (λ (t : List ℕ). coded 32 l.0 ++ t) (r.2 ∙ ap (λ (t : List ℕ). coded 32 r.0 ++ t) (c.2 ∙ ap (λ (t : List ℕ). coded 32 c.0 ++ t) d.0)) in
    (whole ∙ ap marker_bytes is, omega (arith, ap (λ (k : Marker). k.line) is, l.3), omega (arith, ap (λ (k : Marker). k.round) is, r.3), omega (arith, ap (λ (k : Marker). k.counter) is, c.3))
  where
    end : (over : List ℕ) (n : Marker) → cond {A = MarkerRead} (eqb (length over) 0) (Ok n) (Err refusal.NoMarker) ≡ Ok m → (over ≡ []) × (n ≡ m)
    end over n e = go (eqb (length over) 0) refl e
      where
        go : (t : Bool) → eqb (length over) 0 ≡ t → cond {A = MarkerRead} t (Ok n) (Err refusal.NoMarker) ≡ Ok m → (over ≡ []) × (n ≡ m)
        go true h e = (nil_from_length over (eqb-true (length over) 0 h), cc)
        go false h e = absurd (whole_not_refused e)

-- a marker has at most fifteen bytes, and its round is below 2^32
pub fifteen_bytes : (s : List ℕ) (m : Marker) → record_read s ≡ Ok m → (length s ≤ 15) × (m.round < 2 ^ 32)
unfolding record_read
fifteen_bytes s m e =
    let l = onward_number Is (reading_of 32 s) s (Err refusal.NoMarker) _ whole_not_refused e in
    let s₁ = drop l.1 s in
    let r = onward_number Is (reading_of 32 s₁) s₁ (Err refusal.NoMarker) _ whole_not_refused l.3 in
    let s₂ = drop r.1 s₁ in
    let c = onward_number Is (reading_of 32 s₂) s₂ (Err refusal.NoMarker) _ whole_not_refused r.3 in
    let z = end (drop c.1 s₂) (marker_of l.0 r.0 c.0) c.3 in
    let over : length s - l.1 - r.1 - c.1 ≡ 0 = simp length-drop at z.0 in (
      omega (arith, over, size 32 s l.2 (omega arith), size 32 s₁ r.2 (omega arith), size 32 s₂ c.2 (omega arith)),
      omega (arith, fits 32 s₁ r.2, ap (λ (k : Marker). k.round) z.1),
    )
  where
    Is : MarkerRead → Type 0
    Is r = r ≡ Ok m

    end : (over : List ℕ) (n : Marker) → cond {A = MarkerRead} (eqb (length over) 0) (Ok n) (Err refusal.NoMarker) ≡ Ok m → (length over ≡ 0) × (n ≡ m)
    end over n e = go (eqb (length over) 0) refl e
      where
        go : (t : Bool) → eqb (length over) 0 ≡ t → cond {A = MarkerRead} t (Ok n) (Err refusal.NoMarker) ≡ Ok m → (length over ≡ 0) × (n ≡ m)
        go true h e = (eqb-true (length over) 0 h, cc)
        go false h e = absurd (whole_not_refused e)

-- number 0 is a whole marker
pub record_accepted : (s : List ℕ) → number_of (record_read s) ≡ 0 → (m : Marker) × (record_read s ≡ Ok m)
unfolding record_read
record_accepted s e =
    let l = onward_number Accepted (reading_of 32 s) s (Err refusal.NoMarker) _ five e in
    let s₁ = drop l.1 s in
    let r = onward_number Accepted (reading_of 32 s₁) s₁ (Err refusal.NoMarker) _ five l.3 in
    let s₂ = drop r.1 s₁ in
    let c = onward_number Accepted (reading_of 32 s₂) s₂ (Err refusal.NoMarker) _ five r.3 in
    let m = marker_of l.0 r.0 c.0 in
    (m, simp (l.2, r.2, c.2, eq-eqb (length (drop c.1 s₂)) 0 (omega (arith, end (drop c.1 s₂) m c.3))))
  where
    Accepted : MarkerRead → Type 0
    Accepted r = number_of r ≡ 0

    five : Accepted (Err refusal.NoMarker) → ⊥
    five e = omega arith

    end : (over : List ℕ) (m : Marker) → number_of (cond {A = MarkerRead} (eqb (length over) 0) (Ok m) (Err refusal.NoMarker)) ≡ 0 → length over ≤ 0
    end over m e = go (eqb (length over) 0) refl e
      where
        go : (t : Bool) → eqb (length over) 0 ≡ t → number_of (cond {A = MarkerRead} t (Ok m) (Err refusal.NoMarker)) ≡ 0 → length over ≤ 0
        go true h e = omega (arith, eqb-true (length over) 0 h)
        go false h e = absurd (omega arith)

-- ---- a marker that is judged

-- what passes is the marker itself, and its checks gave nothing
pub judge_passed : (row : Checked) (m k : Marker) → judge row m ≡ Ok k → (row ≡ passed) × (m ≡ k)
unfolding judge
judge_passed (Ok u) m k e = (refl, cc)
judge_passed (Err r) m k e = absurd (whole_not_refused e)

-- ---- the standalone checks

pub both_good : (m : Marker) → counter_ok m ≡ true → line_ok m ≡ true → Ok m ≡ judge (read_checks m) m
unfolding judge
both_good m e h = rw (e, h) refl

-- a marker that passes them comes back, and is in range
pub comes_back : (m : Marker) → number_of (judge (read_checks m) m) ≡ 0 → (judge (read_checks m) m ≡ Ok m) × (counter_ok m ≡ true) × (line_ok m ≡ true)
unfolding judge
comes_back m e = go (counter_ok m) refl (line_ok m) refl e
  where
    row : Bool → Bool → Checked
    row counter line = check counter refusal.NoMarker (check line refusal.Line passed)

    go : (a : Bool) → counter_ok m ≡ a → (b : Bool) → line_ok m ≡ b → number_of (judge (row a b) m) ≡ 0
        → (judge (row (counter_ok m) (line_ok m)) m ≡ Ok m) × (counter_ok m ≡ true) × (line_ok m ≡ true)
    go true p true q e = (rw (p, q) refl, p, q)
    go true p false q e = absurd (omega arith)
    go false p b q e = absurd (omega arith)

-- ---- the standalone reading: how large its answers are

pub read_in_range : (s : List ℕ) (m : Marker) → marker_read s ≡ Ok m → (m.line < most_lines) × (m.counter ≤ most_quantum) × (m.round < 2 ^ 32)
unfolding marker_read
read_in_range s m e = go (record_read s) refl e
  where
    go : (r : MarkerRead) → record_read s ≡ r → judged read_checks r ≡ Ok m → (m.line < most_lines) × (m.counter ≤ most_quantum) × (m.round < 2 ^ 32)
    go (Err k) h e = absurd (whole_not_refused e)
    go (Ok n) h e =
        let p = comes_back n (ap number_of e) in
        let back : ◌≡◌ {A = MarkerRead} (Ok n) (Ok m) = sym p.0 ∙ e in
        let same : n ≡ m = cc in (
          omega (arith, ltb-true n.line most_lines p.2, ap (λ (k : Marker). k.line) same),
          omega (arith, (from_range 1 n.counter most_quantum p.1).1, ap (λ (k : Marker). k.counter) same),
          omega (arith, (fifteen_bytes s n h).1, ap (λ (k : Marker). k.round) same),
        )

-- ---- the numbers that refuse a reading

onward_small : (r : Reading) (s : List ℕ) (next : ℕ → List ℕ → MarkerRead) → ((v : ℕ) (t : List ℕ) → number_of (next v t) ≤ 5)
    → number_of (onward r s (Err refusal.NoMarker) next) ≤ 5
onward_small None s next h = omega arith
onward_small (Some (v, at)) s next h = h v (drop at s)

-- bytes that are not three numbers are refused by 5,
pub record_number : (s : List ℕ) → number_of (record_read s) ≤ 5
unfolding record_read
record_number s =
    onward_small (reading_of 32 s) s _ (λ line s₁. onward_small (reading_of 32 s₁) s₁ _ (λ round s₂. onward_small (reading_of 32 s₂) s₂ _
    (λ counter over. end (eqb (length over) 0) (marker_of line round counter))))
  where
    end : (t : Bool) (m : Marker) → number_of (cond {A = MarkerRead} t (Ok m) (Err refusal.NoMarker)) ≤ 5
    end true m = omega arith
    end false m = omega arith

-- and no reading by more than that
pub number_small : (s : List ℕ) (k : Refusal) → marker_read s ≡ Err k → number k ≤ 5
unfolding marker_read judge
number_small s k e = omega (arith, ap number_of e, go (record_read s) (record_number s))
  where
    checked : (m : Marker) (a b : Bool) → number_of (judge (check a refusal.NoMarker (check b refusal.Line passed)) m) ≤ 5
    checked m true true = omega arith
    checked m true false = omega arith
    checked m false b = omega arith

    go : (r : MarkerRead) → number_of r ≤ 5 → number_of (judged read_checks r) ≤ 5
    go (Ok m) h = checked m (counter_ok m) (line_ok m)
    go (Err k) h = h
