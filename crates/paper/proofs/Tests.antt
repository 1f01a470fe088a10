-- What the promises ask of a history, by tests that compute: nearness, room, and what the system's state has on two lines. Assumes nothing.
use Prim.Native.Nat.{ℕ, zero, suc, ◌+◌, ◌/◌, ◌≤◌, ◌<◌}
use native.Mathlib.Nat.{le_refl}
use native.Mathlib.Omega.{arith}
use mathlib.Core.Bool.{Bool, true, ◌&&◌}
use mathlib.Core.List.{List, [], ◌∷◌, ◌++◌, map, map-append, append_assoc}
use mathlib.Core.Path.{◌≡◌, refl, sym, ap, ◌∙◌, subst}
use lib.Dec.{ltb, leb, eqb}
use lib.ListN.{length, get_or, drop}
use borrow.Author.Tests.{ltb-true, leb-true, eqb-true}
use Rattle.numbers.specs.Wrap.{half}
use Rattle.numbers.proofs.Checks.{both}
use Rattle.plan.specs.declared.Plan.{Plan}
use Rattle.theory.specs.Sending as S
use Rattle.theory.specs.Demands.{Lowest}
use Rattle.theory.specs.System.{Item, Line, State, Step, current, step}
use Rattle.theory.specs.System as T
use Rattle.theory.specs.FarEnd.{front, near_head, near_step}
use Rattle.theory.specs.FarEnd as F
use Rattle.theory.proofs.Histories.{run_append}
use Rattle.bundle.specs.Worlds.{World, Call, sends, asks, arrives, loses, takes, seen, call}
use Rattle.bundle.specs.Log.{steps_of, log}
use Rattle.bundle.specs.Words.{and_then, RoomFor, held_below}
use Rattle.bundle.specs.Demands.{opened, theirs, after, system, Near, Roomy}

-- ---- a history in which nothing is refused: each call is logged as one step, and what is read off the steps holds of the log

abbrev step_of : Call → Step
step_of (sends x) = T.send x
step_of (asks i out) = T.ask i
step_of (arrives i) = T.arrive i
step_of (loses i) = T.lose i
step_of (takes out) = T.take

abbrev pub each_logged : World → List Call → List (List Step)
each_logged w [] = []
each_logged w (e ∷ h) = steps_of (seen w e) ∷ each_logged (call w e) h

abbrev pub Plain : World → List Call → Type 0
Plain w h = each_logged w h ≡ map (λ (e : Call). step_of e ∷ []) h

abbrev pub plain_steps : List Call → List Step
plain_steps h = map step_of h

first_step : {steps others : List Step} {each more : List (List Step)} → steps ∷ each ≡ others ∷ more → steps ≡ others
first_step e = ap (λ l. get_or l 0 []) e

log_is : (h : List Call) (w : World) → Plain w h → log w h ≡ plain_steps h
log_is [] w plain = refl
log_is (e ∷ h) w plain =
    ap (λ (steps : List Step). steps ++ log (call w e) h) (first_step plain) ∙ ap (λ (steps : List Step). step_of e ∷ steps) (log_is h (call w e) (ap (drop 1) plain))

-- so is a beginning of it
pub beginning : (h g : List Call) (w : World) → Plain w (h ++ g) → Plain w h
beginning [] g w plain = refl
beginning (e ∷ h) g w plain =
    ap (λ (steps : List Step). steps ∷ each_logged (call w e) h) (first_step plain)
    ∙ ap (λ (each : List (List Step)). (step_of e ∷ []) ∷ each) (beginning h g (call w e) (ap (drop 1) plain))

-- ---- nearness

abbrev head_test : S.Plan → ℕ → Line → List Item → Bool
head_test p i l [] = true
head_test p i l (T.packet k x ∷ rest) = true
head_test p i l (T.marker k m ∷ rest) = ltb (m / p.quantum i) (l.position / p.quantum i + half)

abbrev step_test : S.Plan → State → Step → Bool
step_test p s (T.send x) = true
step_test p s (T.ask i) = true
step_test p s (T.arrive i) = true
step_test p s (T.lose i) = true
step_test p s T.take = head_test p (current p s) (front p s) (front p s).store

abbrev pub near_test : S.Plan → State → List Step → Bool
near_test p s [] = true
near_test p s (e ∷ steps) = step_test p s e && near_test p (step p s e) steps

head_near : (p : S.Plan) (i : ℕ) (l : Line) (items : List Item) → head_test p i l items ≡ true → near_head p i l items
head_near p i l [] passed = tt
head_near p i l (T.packet k x ∷ rest) passed = tt
head_near p i l (T.marker k m ∷ rest) passed = ltb-true _ _ passed

step_near : (p : S.Plan) (s : State) (e : Step) → step_test p s e ≡ true → near_step p s e
step_near p s (T.send x) passed = tt
step_near p s (T.ask i) passed = tt
step_near p s (T.arrive i) passed = tt
step_near p s (T.lose i) passed = tt
step_near p s T.take passed = head_near p (current p s) (front p s) (front p s).store passed

steps_near : (p : S.Plan) (steps : List Step) (s : State) → near_test p s steps ≡ true → F.Near p s steps
steps_near p [] s passed = tt
steps_near p (e ∷ steps) s passed =
    let b = both (step_test p s e) (near_test p (step p s e) steps) passed in
    (step_near p s e b.0, steps_near p steps (step p s e) b.1)

-- ---- of two lines

pub on_both : (P : ℕ → Type 0) → P 0 → P 1 → (i : ℕ) → i < 2 → P i
on_both P first second zero h = first
on_both P first second (suc zero) h = second
on_both P first second (suc (suc i)) h = absurd (omega arith)

-- ---- of the log

module _ (p : Plan) (size : ℕ) (store : List ℕ) (h : List Call) (plain : Plain (opened p size store) h) where
  pub near : near_test (theirs p size store) T.at_opening (plain_steps h) ≡ true → Near p size store h
  near passed =
      subst (F.Near (theirs p size store) T.at_opening) (sym (log_is h (opened p size store) plain))
      (steps_near (theirs p size store) (plain_steps h) T.at_opening passed)

  pub of_system : (P : State → Type 0) → P (F.after (theirs p size store) (plain_steps h)) → P (system p size store h)
  of_system P = subst (λ (steps : List Step). P (F.after (theirs p size store) steps)) (sym (log_is h (opened p size store) plain))

  pub on_lines : (P : State → ℕ → Type 0) → P (F.after (theirs p size store) (plain_steps h)) 0 → P (F.after (theirs p size store) (plain_steps h)) 1
      → (i : ℕ) → i < 2 → P (system p size store h) i
  on_lines P first second = of_system (λ (s : State). (i : ℕ) → i < 2 → P s i) (on_both (P (F.after (theirs p size store) (plain_steps h))) first second)

-- ---- of two lines, the first has the lowest round

pub first_lowest : (p : S.Plan) → p.lines ≡ 2 → (v : ℕ → ℕ) → leb (S.rounds p v 0) (S.rounds p v 1) ≡ true → Lowest p v 0
first_lowest p two v test = record {
  is_line = omega arith;
  lowest = λ j l. on_both (λ j. S.rounds p v 0 ≤ S.rounds p v j) (le_refl _) (leb-true _ _ test) j (omega arith);
  on_tie = λ j l e. omega arith;
}

-- ---- as many outputs as items held, and room in each for what is in front then

abbrev room_head : List Item → List ℕ → Bool
room_head [] out = true
room_head (T.packet k x ∷ rest) out = leb (length x) (length out)
room_head (T.marker k m ∷ rest) out = true

abbrev room_test : S.Plan → State → List (List ℕ) → Bool
room_test p s [] = true
room_test p s (out ∷ outs) = room_head (front p s).store out && room_test p (step p s T.take) outs

room_for : (items : List Item) (out : List ℕ) → room_head items out ≡ true → RoomFor items out
room_for [] out passed = tt
room_for (T.packet k x ∷ rest) out passed = leb-true _ _ passed
room_for (T.marker k m ∷ rest) out passed = tt

module _ (p : Plan) (size : ℕ) (store : List ℕ) where
  roomy : (outs : List (List ℕ)) (h : List Call) → Plain (opened p size store) (h ++ map takes outs)
      → room_test (theirs p size store) (F.after (theirs p size store) (plain_steps h)) outs ≡ true → Roomy p size store h outs
  roomy [] h plain passed = tt
  roomy (out ∷ outs) h plain passed =
      let q = theirs p size store in
      let s : State = F.after q (plain_steps h) in
      let b = both (room_head (front q s).store out) (room_test q (step q s T.take) outs) passed in
      let more : Plain (opened p size store) (and_then h (takes out) ++ map takes outs) = rw (append_assoc h (takes out ∷ []) (map takes outs)) plain in
      let after-it : step q s T.take ≡ F.after q (plain_steps (and_then h (takes out))) =
      sym (ap (T.run q T.at_opening) (map-append step_of h (takes out ∷ [])) ∙ run_append q (plain_steps h) (T.take ∷ []) T.at_opening) in (
        of_system p size store h (beginning h (takes out ∷ map takes outs) (opened p size store) plain) (λ s. RoomFor (front q s).store out) (room_for (front q s).store out b.0),
        roomy outs (and_then h (takes out)) more (ap (λ (s : State). room_test q s outs) (sym after-it) ∙ b.1),
      )

  abbrev pub Enough : List Call → List (List ℕ) → Type 0
  Enough h outs = (length outs ≡ held_below (after p size store h) p.lines) × Roomy p size store h outs

  abbrev pub enough_test : List Call → List (List ℕ) → Bool
  enough_test h outs =
      eqb (length outs) (held_below (after p size store h) p.lines) && room_test (theirs p size store) (F.after (theirs p size store) (plain_steps h)) outs

  pub enough : (h : List Call) (outs : List (List ℕ)) → Plain (opened p size store) (h ++ map takes outs) → enough_test h outs ≡ true → Enough h outs
  enough h outs plain passed =
      let b = both (eqb (length outs) (held_below (after p size store h) p.lines)) _ passed in
      (eqb-true _ _ b.0, roomy outs h plain b.1)
