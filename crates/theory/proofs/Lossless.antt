-- Where nothing is lost a marker says where its line stands already, so each marker taken is near.
-- Assumes nothing.
use Prim.Native.Nat.{ℕ, ◌/◌}
use mathlib.Core.List.{List, [], ◌∷◌}
use mathlib.Core.Path.{◌≡◌, refl, sym, ap, ◌∙◌, subst}
use native.Mathlib.Omega.{arith}
use lib.ListN.{length}
use Rattle.theory.specs.Sending.{Plan, choose}
use Rattle.theory.specs.Demands.{Sound}
use Rattle.theory.specs.System.{Item, packet, marker, Line, State, at_opening, Step, send, ask, arrive, lose, take, put, lose_of}
use Rattle.theory.specs.System.{arrived, dropped, fetched, positions, current, step, run, packets, nth}
use Rattle.theory.specs.Words.{total, before}
use Rattle.theory.specs.FarEnd.{after, NothingLost, near_head, near_step, Near}
use Rattle.theory.proofs.Lines.{arrived_lost, fetched_lost}
use Rattle.theory.proofs.Choose.{choose_wins}
use Rattle.theory.proofs.Histories.{at_all, Agree, Good, good_step, good_open, own, missing_at}

-- ---- what is lost stays lost

lose_lost : (items : List Item) (l : Line) → (lose_of items l).lost ≡ [] → l.lost ≡ []
lose_lost [] l e = e
lose_lost (x ∷ rest) l e = let n : length (x ∷ l.lost) ≡ 0 = ap length e in absurd (omega arith)

-- line i, as l: where nothing is lost on it, nothing was in state s
abbrev NoneIn : State → ℕ → Line → Type 0
NoneIn s i l = l.lost ≡ [] → (s.line i).lost ≡ []

none_before : (p : Plan) (s : State) (e : Step) (i : ℕ) → NoneIn s i ((step p s e).line i)
none_before p s (send x) = at_all (NoneIn s) (choose p s.carries) (put (packet s.sent x)) s.line (λ z. z) (λ j d z. z)
none_before p s (ask i) = at_all (NoneIn s) i (put (marker s.sent (s.carries i))) s.line (λ z. z) (λ j d z. z)
none_before p s (arrive i) = at_all (NoneIn s) i arrived s.line (λ z. sym (arrived_lost (s.line i)) ∙ z) (λ j d z. z)
none_before p s (lose i) = at_all (NoneIn s) i dropped s.line (lose_lost (s.line i).road (s.line i)) (λ j d z. z)
none_before p s take =
    let i : ℕ = current p s in
    at_all (NoneIn s) (current p s) (fetched p (current p s)) s.line (λ z. sym (fetched_lost p i (s.line i)) ∙ z) (λ j d z. z)

nothing_before : (p : Plan) (h : List Step) (s : State) → NothingLost p (run p s h) → NothingLost p s
nothing_before p [] s z = z
nothing_before p (e ∷ h) s z = λ i l. none_before p s e i (nothing_before p h (step p s e) z i l)

-- ---- so every marker is near

module _ (p : Plan) (sound : Sound p) (bytes : ℕ → List ℕ) where
  near_take : (s : State) → Good p bytes s → NothingLost p s → near_step p s take
  near_take s g z = go (s.line i).store refl
    where
      i : ℕ
      i = current p s

      go : (items : List Item) → (s.line i).store ≡ items → near_head p i (s.line i) (s.line i).store
      go [] e = rw e tt
      go (packet k x ∷ rest) e = rw e tt
      go (marker k m ∷ rest) e =
          let u = missing_at p bytes s (current p s) k m rest g e in
          let none : total (before p (current p s) k) (s.line (current p s)).lost ≡ 0 =
          ap (total (before p (current p s) k)) (z (current p s) (choose_wins p sound.some_line (positions s)).is_below) in
          let here : m ≡ (s.line (current p s)).position = omega arith in
          subst (near_head p i (s.line i)) (sym e) (omega (arith, ap (λ (y : ℕ). y / p.quantum (current p s)) here))

  near_step_lem : (s : State) (e : Step) → Good p bytes s → NothingLost p s → near_step p s e
  near_step_lem s (send x) g z = tt
  near_step_lem s (ask i) g z = tt
  near_step_lem s (arrive i) g z = tt
  near_step_lem s (lose i) g z = tt
  near_step_lem s take g z = near_take s g z

  near_run : (h : List Step) (s : State) → Good p bytes s → Agree p bytes s h → NothingLost p (run p s h) → Near p s h
  near_run [] s g a z = tt
  near_run (e ∷ h) s g a z = (near_step_lem s e g (nothing_before p (e ∷ h) s z), near_run h (step p s e) (good_step p bytes s e g a.0) a.1 z)

pub lossless_near : (p : Plan) → Sound p → (h : List Step) → NothingLost p (after p h) → Near p at_opening h
lossless_near p sound h z = near_run p sound (nth (packets h)) h at_opening (good_open p (nth (packets h))) (own p h) z
