-- The invariant holds after every list of steps from the opening, and what a marker in front reports missing is right.
-- Assumes nothing.
use Prim.Native.Nat.{ℕ, suc, ◌+◌, ◌-◌, ◌≤◌, ◌<◌}
use mathlib.Core.Bool.{Bool, cond}
use mathlib.Core.List.{List, [], ◌∷◌, ◌++◌, append_assoc}
use mathlib.Core.Path.{◌≡◌, refl, sym, ap, ◌∙◌, subst}
use native.Mathlib.Nat.{le_refl}
use native.Mathlib.Decide.{ℕ_discrete}
use native.Mathlib.Omega.{arith}
use borrow.Author.Tests.{eq-eqb, ne_eqb}
use lib.ListN.{length}
use Rattle.theory.specs.Sending.{Plan, choose, charged, carried, line_of}
use Rattle.theory.specs.System.{Item, packet, marker, Line, State, at_opening, Step, send, ask, arrive, lose, take, put, arrived, dropped, fetched}
use Rattle.theory.specs.System.{at_line, current, step, run, sent_by, packets, nth, sizes, Out, handed, outs}
use Rattle.theory.specs.Words.{total, before}
use Rattle.theory.specs.FarEnd.{after, Near, Missing}
use Rattle.theory.proofs.Carried.{carried_mono}
use Rattle.theory.proofs.Invariant.{next, Chain, LineOk, spent}
use Rattle.theory.proofs.Invariant.{keep_put, keep_other, keep_ask, keep_arrive, keep_lose, keep_take, keep_opened}

pub at_same : (i : ℕ) (f : Line → Line) (ls : ℕ → Line) (j : ℕ) → i ≡ j → at_line i f ls j ≡ f (ls j)
unfolding at_line
at_same i f ls j e = ap (λ (t : Bool). cond t (f (ls j)) (ls j)) (eq-eqb i j e)

pub at_other : (i : ℕ) (f : Line → Line) (ls : ℕ → Line) (j : ℕ) → (i ≡ j → ⊥) → at_line i f ls j ≡ ls j
unfolding at_line
at_other i f ls j e = ap (λ (t : Bool). cond t (f (ls j)) (ls j)) (ne_eqb i j e)

-- what f leaves as it was stays on every line
pub at_field {ℓ} : {A : Type ℓ} (g : Line → A) (i : ℕ) (f : Line → Line) (ls : ℕ → Line)
    → ((l : Line) → g (f l) ≡ g l) → (j : ℕ) → g (at_line i f ls j) ≡ g (ls j)
at_field {A = A} g i f ls h j = go (ℕ_discrete i j)
  where
    go : Dec (i ≡ j) → g (at_line i f ls j) ≡ g (ls j)
    go (yes e) = ap g (at_same i f ls j e) ∙ h (ls j)
    go (no e) = ap g (at_other i f ls j e)

-- a property of every line, by its number, after line i has changed
pub at_all : (Q : ℕ → Line → Type 0) (i : ℕ) (f : Line → Line) (ls : ℕ → Line)
    → Q i (f (ls i)) → ((j : ℕ) → (i ≡ j → ⊥) → Q j (ls j)) → (j : ℕ) → Q j (at_line i f ls j)
at_all Q i f ls a b j = go (ℕ_discrete i j)
  where
    go : Dec (i ≡ j) → Q j (at_line i f ls j)
    go (yes e) = subst (λ (k : ℕ). Q k (at_line i f ls k)) e (subst (λ (l : Line). Q i l) (sym (at_same i f ls i refl)) a)
    go (no e) = subst (λ (l : Line). Q j l) (sym (at_other i f ls j e)) (b j e)

module _ (p : Plan) (bytes : ℕ → List ℕ) where
  abbrev lengths : ℕ → ℕ
  lengths n = length (bytes n)

  -- the packets sent by these steps are those that `bytes` names, from number n on
  abbrev pub AgreeStep : ℕ → Step → Type 0
  AgreeStep n (send x) = x ≡ bytes n
  AgreeStep n (ask i) = Unit {0}
  AgreeStep n (arrive i) = Unit {0}
  AgreeStep n (lose i) = Unit {0}
  AgreeStep n take = Unit {0}

  abbrev pub Agree : State → List Step → Type 0
  Agree s [] = Unit {0}
  Agree s (e ∷ h) = AgreeStep s.sent e × Agree (step p s e) h

  -- the sender's account is that of its packets, and every line is in order
  pub record Good (s : State) : Type 0 where
    pub carries : s.carries ≡ carried p lengths s.sent
    pub each : (i : ℕ) → LineOk p bytes s.sent i (s.line i)

  pub good_step : (s : State) (e : Step) → Good s → AgreeStep s.sent e → Good (step p s e)
  unfolding carried
  good_step s (send x) g a =
      let to : ℕ = choose p s.carries in
      let same : line_of p lengths s.sent ≡ choose p s.carries = ap (choose p) (sym g.carries) in
      record {
        carries = ap (λ (v : ℕ → ℕ). charged p v (length x)) g.carries
            ∙ ap (λ (y : List ℕ). charged p (carried p lengths s.sent) (length y)) a;
        each = at_all (LineOk p bytes (suc s.sent)) (choose p s.carries) (put (packet s.sent x)) s.line
            (subst (λ (y : List ℕ). LineOk p bytes (suc s.sent) to (put (packet s.sent y) (s.line to))) (sym a)
            (keep_put p bytes s.sent (choose p s.carries) _ same (g.each _)))
            (λ j h. keep_other p bytes s.sent j _ (λ q. h (sym same ∙ q)) (g.each j));
      }
  good_step s (ask i) g a = record {
    carries = g.carries;
    each = at_all (LineOk p bytes s.sent) i (put (marker s.sent (s.carries i))) s.line
        (subst (λ (m : ℕ). LineOk p bytes s.sent i (put (marker s.sent m) (s.line i))) (sym (ap (λ (v : ℕ → ℕ). v i) g.carries))
        (keep_ask p bytes s.sent i _ (g.each i)))
        (λ j h. g.each j);
  }
  good_step s (arrive i) g a = record {
    carries = g.carries;
    each = at_all (LineOk p bytes s.sent) i arrived s.line (keep_arrive p bytes s.sent i _ _ refl (g.each i)) (λ j h. g.each j);
  }
  good_step s (lose i) g a = record {
    carries = g.carries;
    each = at_all (LineOk p bytes s.sent) i dropped s.line (keep_lose p bytes s.sent i _ _ refl (g.each i)) (λ j h. g.each j);
  }
  good_step s take g a = record {
    carries = g.carries;
    each = at_all (LineOk p bytes s.sent) (current p s) (fetched p (current p s)) s.line
        (keep_take p bytes s.sent (current p s) _ _ refl (g.each (current p s))) (λ j h. g.each j);
  }

  pub good_run : (h : List Step) (s : State) → Good s → Agree s h → Good (run p s h)
  good_run [] s g a = g
  good_run (e ∷ h) s g a = good_run h (step p s e) (good_step s e g a.0) a.1

  pub good_open : Good at_opening
  unfolding carried
  good_open = record { carries = refl; each = λ i. keep_opened p bytes i }

  -- a marker in front of line i reports exactly what was lost before it and not yet reported
  pub missing_at : (s : State) (i k m : ℕ) (rest : List Item) → Good s → (s.line i).store ≡ marker k m ∷ rest
      → ((s.line i).position ≤ m) × ((s.line i).reported + (m - (s.line i).position) ≡ total (before p i k) (s.line i).lost)
  missing_at s i k m rest g e =
      let o = g.each i in
      let now : ℕ = next (s.line i).taken in
      let t : Chain p bytes i now (marker k m ∷ rest) o.middle = subst (λ (w : List Item). Chain p bytes i now w o.middle) e o.held in
      let w : Chain p bytes i k (s.line i).store o.middle =
      subst (λ (w : List Item). Chain p bytes i k w o.middle) (sym e) (le_refl k, t.1, t.2) in
      let a = spent p bytes s.sent i k (s.line i) o t.0 w in
      let b = carried_mono p bytes (next (s.line i).taken) k i t.0 in
      (omega (arith, o.low, t.1), omega (arith, o.low, o.accounted, t.1))

-- ---- steps after steps

pub run_append : (p : Plan) (h g : List Step) (s : State) → run p s (h ++ g) ≡ run p (run p s h) g
run_append p [] g s = refl
run_append p (e ∷ h) g s = run_append p h g (step p s e)

pub packets_append : (h g : List Step) → packets (h ++ g) ≡ packets h ++ packets g
packets_append [] g = refl
packets_append (e ∷ h) g = ap (λ (w : List (List ℕ)). sent_by e ++ w) (packets_append h g) ∙ sym (append_assoc (sent_by e) (packets h) (packets g))

pub outs_append : (p : Plan) (h g : List Step) (s : State) → outs p s (h ++ g) ≡ outs p s h ++ outs p (run p s h) g
outs_append p [] g s = refl
outs_append p (e ∷ h) g s =
    ap (λ (w : List Out). handed p s e ++ w) (outs_append p h g (step p s e))
    ∙ sym (append_assoc (handed p s e) (outs p (step p s e) h) (outs p (run p (step p s e) h) g))

pub near_split : (p : Plan) (h g : List Step) (s : State) → Near p s (h ++ g) → Near p s h × Near p (run p s h) g
near_split p [] g s n = (tt, n)
near_split p (e ∷ h) g s n = let b = near_split p h g (step p s e) n.1 in ((n.0, b.0), b.1)

pub agree_split : (p : Plan) (bytes : ℕ → List ℕ) (h g : List Step) (s : State) → Agree p bytes s (h ++ g)
    → Agree p bytes s h × Agree p bytes (run p s h) g
agree_split p bytes [] g s a = (tt, a)
agree_split p bytes (e ∷ h) g s a = let b = agree_split p bytes h g (step p s e) a.1 in ((a.0, b.0), b.1)

-- ---- from the opening

-- the packets that steps send are their own
pub agree_own : (p : Plan) (bytes : ℕ → List ℕ) (h : List Step) (s : State)
    → ((n : ℕ) → n < length (packets h) → bytes (n + s.sent) ≡ nth (packets h) n) → Agree p bytes s h
agree_own p bytes [] s a = tt
agree_own p bytes (send x ∷ h) s a = (
  sym (a 0 (omega arith)) ∙ ap bytes (omega arith),
  agree_own p bytes h (step p s (send x)) (λ n l. ap bytes (omega arith) ∙ a (suc n) (omega arith)),
)
agree_own p bytes (ask i ∷ h) s a = (tt, agree_own p bytes h (step p s (ask i)) a)
agree_own p bytes (arrive i ∷ h) s a = (tt, agree_own p bytes h (step p s (arrive i)) a)
agree_own p bytes (lose i ∷ h) s a = (tt, agree_own p bytes h (step p s (lose i)) a)
agree_own p bytes (take ∷ h) s a = (tt, agree_own p bytes h (step p s take) a)

pub own : (p : Plan) (h : List Step) → Agree p (nth (packets h)) at_opening h
own p h = agree_own p (nth (packets h)) h at_opening (λ n l. ap (nth (packets h)) (omega arith))

pub good_after : (p : Plan) (h : List Step) → Good p (nth (packets h)) (after p h)
good_after p h = good_run p (nth (packets h)) h at_opening (good_open p (nth (packets h))) (own p h)

pub sent_count : (p : Plan) (h : List Step) (s : State) → (run p s h).sent ≡ length (packets h) + s.sent
sent_count p [] s = omega arith
sent_count p (send x ∷ h) s = omega (arith, sent_count p h (step p s (send x)))
sent_count p (ask i ∷ h) s = sent_count p h (step p s (ask i))
sent_count p (arrive i ∷ h) s = sent_count p h (step p s (arrive i))
sent_count p (lose i ∷ h) s = sent_count p h (step p s (lose i))
sent_count p (take ∷ h) s = sent_count p h (step p s take)

pub sent_are : (p : Plan) (h : List Step) → (after p h).sent ≡ length (packets h)
sent_are p h = omega (arith, sent_count p h at_opening)

pub carries_are : (p : Plan) (h : List Step) → (after p h).carries ≡ carried p (sizes (packets h)) (length (packets h))
carries_are p h = (good_after p h).carries ∙ ap (carried p (sizes (packets h))) (sent_are p h)

pub missing : (p : Plan) → Missing p
missing p h k m rest e =
    let a = missing_at p (nth (packets h)) (after p h) (current p (after p h)) k m rest (good_after p h) e in
    (a.0, omega arith)
