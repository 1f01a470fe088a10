-- Where each marker taken is fewer than 2^31 rounds ahead, the far end's rounds stay within 2^31 of the current one.
-- Assumes nothing.
use Prim.Native.Nat.{ℕ, suc, ◌+◌, ◌/◌, ◌≤◌, ◌<◌}
use mathlib.Core.List.{List, [], ◌∷◌}
use mathlib.Core.Path.{◌≡◌, refl, sym, ap, subst, fun_ext}
use native.Mathlib.Nat.{le_refl, le_trans, zero-div}
use native.Mathlib.Decide.{ℕ_discrete}
use native.Mathlib.Omega.{arith}
use lib.ListN.{length}
use Rattle.theory.specs.Sending.{Plan, rounds, choose}
use Rattle.theory.specs.Demands.{Sound, Fit}
use Rattle.theory.specs.System.{Item, packet, marker, Line, State, at_opening, Step, send, ask, arrive, lose, take, line_taken}
use Rattle.theory.specs.System.{arrived, dropped, fetched, at_line, positions, current, step, run, packets, nth}
use Rattle.theory.specs.FarEnd.{after, near_head, near_step, Near, Window}
use Rattle.theory.proofs.Lines.{arrived_position, dropped_position}
use Rattle.theory.proofs.Choose.{choose_wins, div_mono}
use Rattle.theory.proofs.Counting.{one_round_more}
use Rattle.theory.proofs.Share.{some_quantum}
use Rattle.theory.proofs.Invariant.{next, Chain, chain_le}
use Rattle.theory.proofs.Histories.{at_same, at_other, at_field, Agree, Good, good_step, good_open, own, missing_at, sent_count, sent_are}

-- every line is fewer than 2^31 rounds ahead of the current one
abbrev Within : Plan → (ℕ → ℕ) → Type 0
Within p v = (i : ℕ) → i < p.lines → rounds p v i < rounds p v (choose p v) + 2147483648

-- bytes: the packets, of which the first n are no larger than the largest
module _ (p : Plan) (sound : Sound p) (bytes : ℕ → List ℕ) (n : ℕ) (fit : Fit p (λ m. length (bytes m)) n) where
  -- a take does not move a line back,
  no_fall : (s : State) (i : ℕ) (items : List Item) → Good p bytes s → (s.line i).store ≡ items
      → (s.line i).position ≤ (line_taken p i items (s.line i)).position
  no_fall s i [] g e = le_refl _
  no_fall s i (packet k x ∷ rest) g e = omega arith
  no_fall s i (marker k m ∷ rest) g e = (missing_at p bytes s i k m rest g e).0

  -- and moves it by fewer than 2^31 rounds: a packet in a queue is among the first n, so it moves its line by one round at most
  no_leap : (s : State) (i : ℕ) (items : List Item) → Good p bytes s → s.sent ≤ n → i < p.lines → (s.line i).store ≡ items
      → near_head p i (s.line i) items → (line_taken p i items (s.line i)).position / p.quantum i < (s.line i).position / p.quantum i + 2147483648
  no_leap s i [] g c b e near = omega arith
  no_leap s i (packet k x ∷ rest) g c b e near =
      let o = g.each i in
      let now : ℕ = next (s.line i).taken in
      let t : Chain p bytes i now (packet k x ∷ rest) o.middle = subst (λ (w : List Item). Chain p bytes i now w o.middle) e o.held in
      let queued = chain_le p bytes i (suc k) o.middle rest t.3 in
      let on-road = chain_le p bytes i o.middle s.sent (s.line i).road o.way in
      let f : p.charge i (length x) ≤ p.charge i p.largest =
      subst (λ (y : List ℕ). p.charge i (length y) ≤ p.charge i p.largest) (sym t.2) (fit k (omega arith) i b) in
      omega (arith, one_round_more (p.quantum i) (s.line i).position (p.charge i (length x)) (some_quantum p sound i b) (le_trans f (sound.enough i b)))
  no_leap s i (marker k m ∷ rest) g c b e near = near

  -- where only the current line moves, and by fewer than 2^31 rounds, the rounds lie within 2^31 of the one that was current
  span : (v w : ℕ → ℕ) → Within p v → v (choose p v) ≤ w (choose p v) → rounds p w (choose p v) < rounds p v (choose p v) + 2147483648
      → ((j : ℕ) → (choose p v ≡ j → ⊥) → w j ≡ v j) → (i : ℕ) → i < p.lines
      → (rounds p v (choose p v) ≤ rounds p w i) × (rounds p w i < rounds p v (choose p v) + 2147483648)
  span v w h up leap others i l = go (ℕ_discrete (choose p v) i)
    where
      go : Dec (choose p v ≡ i) → (rounds p v (choose p v) ≤ rounds p w i) × (rounds p w i < rounds p v (choose p v) + 2147483648)
      go (yes e) =
          subst (λ (k : ℕ). (rounds p v (choose p v) ≤ rounds p w k) × (rounds p w k < rounds p v (choose p v) + 2147483648)) e
          (omega (arith, div_mono (p.quantum (choose p v)) _ _ up), omega arith)
      go (no e) =
          let same : rounds p w i ≡ rounds p v i = ap (λ (c : ℕ). c / p.quantum i + 1) (others i e) in
          (omega (arith, ((choose_wins p sound.some_line v).beats i l).low), omega (arith, h i l))

  -- after a take the rounds lie within 2^31 of the one that was current
  take_span : (s : State) → Good p bytes s → s.sent ≤ n → near_step p s take → Within p (positions s) → (i : ℕ) → i < p.lines
      → (rounds p (positions s) (current p s) ≤ rounds p (positions (step p s take)) i)
      × (rounds p (positions (step p s take)) i < rounds p (positions s) (current p s) + 2147483648)
  take_span s g c near h =
      let a : ℕ = current p s in
      let q : (at_line a (fetched p a) s.line a).position ≡ (fetched p a (s.line a)).position =
      ap (λ (l : Line). l.position) (at_same a (fetched p a) s.line a refl) in
      span (positions s) (positions (step p s take)) h
      (omega (arith, q, no_fall s a (s.line a).store g refl))
      (omega (
        arith,
        ap (λ (c : ℕ). c / p.quantum a) q,
        no_leap s a (s.line a).store g c (choose_wins p sound.some_line (positions s)).is_below refl near,
      ))
      (λ j d. ap (λ (l : Line). l.position) (at_other a (fetched p a) s.line j d))

  still : (s t : State) → ((j : ℕ) → (t.line j).position ≡ (s.line j).position) → Within p (positions s) → Within p (positions t)
  still s t e h = subst (λ (v : ℕ → ℕ). Within p v) (sym (fun_ext e)) h

  window_one : (s : State) (e : Step) → Good p bytes s → s.sent ≤ n → near_step p s e → Within p (positions s)
      → Within p (positions (step p s e))
  window_one s (send x) g c near h = still s (step p s (send x)) (at_field (λ (l : Line). l.position) _ _ s.line (λ l. refl)) h
  window_one s (ask i) g c near h = still s (step p s (ask i)) (at_field (λ (l : Line). l.position) _ _ s.line (λ l. refl)) h
  window_one s (arrive i) g c near h =
      still s (step p s (arrive i)) (at_field (λ (l : Line). l.position) i arrived s.line arrived_position) h
  window_one s (lose i) g c near h =
      still s (step p s (lose i)) (at_field (λ (l : Line). l.position) i dropped s.line dropped_position) h
  window_one s take g c near h = λ i l.
      let after-take : ℕ → ℕ = positions (step p s take) in
      let a = take_span s g c near h i l in
      let b = take_span s g c near h (choose p after-take) (choose_wins p sound.some_line after-take).is_below in
      omega arith

  window_run : (h : List Step) (s : State) → Good p bytes s → Agree p bytes s h → (run p s h).sent ≤ n → Near p s h → Within p (positions s)
      → Within p (positions (run p s h))
  window_run [] s g a c near v = v
  window_run (e ∷ h) s g a c near v =
      window_run h (step p s e) (good_step p bytes s e g a.0) a.1 c near.1
      (window_one s e g (omega (arith, sent_count p (e ∷ h) s)) near.0 v)

pub window : (p : Plan) → Sound p → Window p
window p sound h fit near i l = (
  ((choose_wins p sound.some_line (positions (after p h))).beats i l).low,
  window_run p sound (nth (packets h)) (length (packets h)) fit h at_opening (good_open p (nth (packets h))) (own p h) (omega (arith, sent_are p h)) near
      (λ j m. omega (arith, zero-div (p.quantum j))) i l,
)
