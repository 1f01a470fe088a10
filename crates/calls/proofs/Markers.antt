-- What bytes spell as a marker, and what is read of them. Assumes nothing.
use Prim.Native.Nat.{ℕ}
use mathlib.Core.Bool.{Bool, true, false, cond}
use mathlib.Core.List.{List, ◌++◌, append-nil, append_assoc}
use mathlib.Core.Logic.{◌⊎◌, inl, inr}
use mathlib.Core.Path.{◌≡◌, refl, ap, sym, ◌∙◌}
use lib.Dec.{eqb}
use lib.ListN.{length, drop}
use Rattle.std.specs.Prelude.{Some, None, Ok, Err}
use Rattle.numbers.specs.declared.Refusal.{Refusal}
use Rattle.numbers.specs.declared.Refusal.TheVariants as refusal
use Rattle.numbers.specs.Refusals.{number_of}
use Rattle.numbers.specs.Checks.{Checked}
use Rattle.numbers.specs.Coding.{Bytes, Reading, coded, row_bytes, reading_of, onward}
use Rattle.plan.specs.Plan.{at}
use Rattle.plan.specs.Ranges.{From}
use Rattle.marker.specs.declared.Marker.{Marker}
use Rattle.marker.specs.Marker.{MarkerRead, marker_of, record_read, marker_bytes, judge}
use Rattle.marker.proofs.Laws.{whole_not_refused, record_written, record_read_lem}
use Rattle.calls.specs.Plain.{MarkerSpelled, MarkerTo, MarkerOf}

-- the record's bytes, number by number
pub marker_bytes_lem : (m : Marker) → marker_bytes m ≡ coded 32 m.line ++ coded 32 m.round ++ coded 32 m.counter
unfolding row_bytes
marker_bytes_lem m = simp (append_assoc, append-nil)

-- what is spelled reads,
pub spelled_reads : (b : List ℕ) (line round counter : ℕ) → MarkerSpelled b line round counter → record_read b ≡ Ok (marker_of line round counter)
spelled_reads b line round counter is =
    let m = marker_of line round counter in
    ap record_read (is.bytes ∙ sym (marker_bytes_lem m)) ∙ record_written m is.line_small is.round_small is.counter_small

-- and as one marker only
pub one_marker : (b : List ℕ) (m : Marker) (line round counter : ℕ) → record_read b ≡ Ok m → MarkerSpelled b line round counter
    → m ≡ marker_of line round counter
one_marker b m line round counter e is =
    let both : ◌≡◌ {A = MarkerRead} (Ok m) (Ok (marker_of line round counter)) = sym e ∙ spelled_reads b line round counter is in cc

-- what reads is spelled,
pub marker_spelled : (b : List ℕ) (m : Marker) → Bytes b → record_read b ≡ Ok m → MarkerSpelled b m.line m.round m.counter
marker_spelled b m bytes e =
    let r = record_read_lem b m bytes e in
    record { line_small = r.1; round_small = r.2; counter_small = r.3; bytes = r.0 ∙ marker_bytes_lem m }

-- and what does not read is refused with number 5
abbrev pub WholeOrFive : MarkerRead → Type 0
WholeOrFive r = ((m : Marker) × (r ≡ Ok m)) ⊎ (r ≡ Err refusal.NoMarker)

onward_five : (r : Reading) (s : List ℕ) (next : ℕ → List ℕ → MarkerRead) → ((v : ℕ) (t : List ℕ) → WholeOrFive (next v t))
    → WholeOrFive (onward r s (Err refusal.NoMarker) next)
onward_five None s next h = inr refl
onward_five (Some (v, at)) s next h = h v (drop at s)

pub whole_or_five : (b : List ℕ) → WholeOrFive (record_read b)
unfolding record_read
whole_or_five b =
    onward_five (reading_of 32 b) b _ (λ line s₁. onward_five (reading_of 32 s₁) s₁ _ (λ round s₂. onward_five (reading_of 32 s₂) s₂ _
    (λ counter over. end (eqb (length over) 0) (marker_of line round counter))))
  where
    end : (t : Bool) (m : Marker) → WholeOrFive (cond {A = MarkerRead} t (Ok m) (Err refusal.NoMarker))
    end true m = inl (m, refl)
    end false m = inr refl

pub only_five : (b : List ℕ) (k : Refusal) → record_read b ≡ Err k → k ≡ refusal.NoMarker
only_five b k e = go (whole_or_five b)
  where
    go : WholeOrFive (record_read b) → k ≡ refusal.NoMarker
    go (inl w) = absurd (whole_not_refused (sym e ∙ w.1))
    go (inr five) = let both : ◌≡◌ {A = MarkerRead} (Err k) (Err refusal.NoMarker) = sym e ∙ five in cc

-- so what holds of some marker that is spelled holds of the one that is read
module _ (b : List ℕ) (m : Marker) (e : record_read b ≡ Ok m) where
  pub read_counter : (q : ℕ) → MarkerTo q b → From 1 q m.counter
  read_counter q x = let same = ap (λ (k : Marker). k.counter) (one_marker b m x.0 x.1 x.2 e x.3) in rw same x.4

  pub read_line : (Line : ℕ → Type 0) → MarkerOf Line b → Line m.line
  read_line Line x = let same = ap (λ (k : Marker). k.line) (one_marker b m x.0 x.1 x.2 e x.3) in rw same x.4

-- a marker that is judged gives the number of its checks
pub judged_number : (checks : Checked) (m : Marker) → number_of (judge checks m) ≡ number_of checks
unfolding judge
judged_number (Ok u) m = refl
judged_number (Err k) m = refl
