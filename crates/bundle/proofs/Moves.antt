-- A take that takes the item in front of the current line: the world goes on showing the system's state. Assumes nothing.
use Prim.Native.Nat.{ℕ, ◌+◌, ◌/◌, ◌≤◌, ◌<◌}
use mathlib.Core.Bool.{Bool, true, false, cond}
use mathlib.Core.List.{List, [], ◌∷◌, map}
use mathlib.Core.Path.{◌≡◌, refl, sym, ap, ◌∙◌, subst}
use native.Mathlib.Omega.{arith}
use borrow.Author.Tests.{eq-eqb, ne_eqb}
use lib.Dec.{eqb}
use lib.ListN.{drop}
use Rattle.numbers.specs.Wrap.{half}
use Rattle.plan.specs.declared.Plan.{Plan}
use Rattle.plan.specs.Limits.{most_lines}
use Rattle.plan.specs.Plan.{quantum, line_plan, plan_ok}
use Rattle.plan.proofs.Laws.{in_range_lem}
use Rattle.theory.specs.Sending.{rounds}
use Rattle.theory.specs.System.{Item, packet, marker, State, positions, current, fetched, step, take}
use Rattle.theory.specs.System as T
use Rattle.theory.proofs.Choose.{choose_wins, div_mono}
use Rattle.theory.proofs.Histories.{at_all}
use Rattle.receiving.specs.declared.Turn.{Turn}
use Rattle.receiving.specs.declared.Turns.{Turns}
use Rattle.receiving.specs.declared.Receiver.{Receiver}
use Rattle.receiving.specs.declared.Taken.TheVariants.{Waiting}
use Rattle.std.specs.Prelude.{Ok}
use Rattle.receiving.specs.Receiver.{turn_of, line_of, with_turn, round_of, line_at, current_line}
use Rattle.receiving.specs.Taking.{Stepped, item_on, step_of, round_now, TakeOutcome, taken, take_of}
use Rattle.receiving.specs.Stage.{Stage, stage, taken_from}
use Rattle.receiving.proofs.Lines.{turn_same, turn_other}
use Rattle.receiving.proofs.Stages.{HoldsOn}
use Rattle.receiving.proofs.Valid.{take_valid}
use Rattle.receiving.proofs.Dropping.{taken_holds, taken_sound, taken_plan}
use Rattle.receiving.proofs.Heads.{empty_waits, head_taken}
use Rattle.bundle.specs.Worlds.{World}
use Rattle.bundle.specs.Log.{entry_of}
use Rattle.bundle.proofs.Meeting.{turn_at, theirs, AllFit, Far}
use Rattle.bundle.proofs.Currents.{Within, line_is, round_is}

-- a take leaves the rest of its queue
head_goes : (p : Plan) (i : ℕ) (x : Item) (rest : List Item) (l : T.Line) → (T.line_taken (theirs p) i (x ∷ rest) l).store ≡ rest
head_goes p i (packet k b) rest l = refl
head_goes p i (marker k m) rest l = refl

module _ (p : Plan) (good : plan_ok p ≡ true) (some : 1 ≤ p.lines) (w : World) (s : State) (m : Far p w.receiver w.store s)
    (within : Within (theirs p) some (positions s) (rounds (theirs p) (positions s) (current (theirs p) s)))
  where
    abbrev r : Receiver
    r = w.receiver

    abbrev here : Stage
    here = stage w.receiver w.store

    -- the line that the system's take looks at is the one that the receiver does
    abbrev c : ℕ
    c = current (theirs p) s

    pub is_line : c < p.lines
    is_line = (choose_wins (theirs p) some (positions s)).is_below

    is_one : c < most_lines
    is_one = omega (arith, is_line, (in_range_lem p good).few_lines)

    round_shown : (i : ℕ) → i < p.lines → round_of r.turns i ≡ (turn_at (quantum p i) (positions s i)).round
    round_shown i l = ap (λ (t : Turn). t.round) (m.turns i l)

    current_is : current_line r ≡ c
    current_is =
        ap (λ (q : Plan). line_at q.lines (round_of r.turns) r.turns.round) m.plan
        ∙ line_is (theirs p) some (positions s) (round_of r.turns) r.turns.round round_shown m.round within

    held : (items : List Item) → (s.line c).store ≡ items → HoldsOn (current_line r) here (map (entry_of p c) items)
    held items e =
        subst (λ (i : ℕ). HoldsOn i here (map (entry_of p c) items)) (sym current_is)
        (subst (λ (is : List Item). HoldsOn c here (map (entry_of p c) is)) e (m.holds c is_line))

    -- a take of the item in front, and one that finds none
    pub head_step : (out : List ℕ) (x : Item) (rest : List Item) → (s.line c).store ≡ x ∷ rest
        → take_of r w.store out
        ≡ taken r c (step_of (line_plan p c) r.rings.size c (line_of r c) out (item_on (line_plan p c) c (entry_of p c x).kind (entry_of p c x).bytes))
    head_step out x rest e =
        let kind : ℕ = (entry_of p c x).kind in
        let bytes : List ℕ = (entry_of p c x).bytes in
        head_taken here m.sound out (entry_of p c x) (map (entry_of p c) rest) (held (x ∷ rest) e)
        ∙ ap (λ (i : ℕ). taken r i (step_of (line_plan r.plan i) r.rings.size i (line_of r i) out (item_on (line_plan r.plan i) i kind bytes))) current_is
        ∙ ap (λ (q : Plan). taken r c (step_of (line_plan q c) r.rings.size c (line_of r c) out (item_on (line_plan q c) c kind bytes))) m.plan

    pub waits : (out : List ℕ) → (s.line c).store ≡ []
        → take_of r w.store out ≡ record { result = record { answer = Ok (Waiting c); next = r }; out = out }
    waits out e =
        empty_waits here m.sound out (held [] e)
        ∙ ap (λ (i : ℕ). record { result = record { answer = Ok (Waiting i); next = r }; out = out }) current_is

    abbrev moved : State
    moved = step (theirs p) s take

    -- the item in front, x, is taken, its line goes to position y, and its turn becomes that of y
    module _ (out : List ℕ) (x : Item) (rest : List Item) (e : (s.line c).store ≡ x ∷ rest)
        (y : ℕ) (to : (T.line_taken (theirs p) c (x ∷ rest) (s.line c)).position ≡ y)
        (up : (s.line c).position ≤ y) (near : y / quantum p c < (s.line c).position / quantum p c + half)
        (did : Stepped) (is : take_of r w.store out ≡ taken r c did)
        (turn : did.step.line.turn ≡ turn_at (quantum p c) y)
        (one : (j : ℕ) → taken_from j did.step.answer ≡ cond (eqb c j) 1 0)
      where
        abbrev took : TakeOutcome
        took = take_of r w.store out

        abbrev left : Stage
        left = stage took.result.next w.store

        now : fetched (theirs p) c (s.line c) ≡ T.line_taken (theirs p) c (x ∷ rest) (s.line c)
        now = ap (λ (items : List Item). T.line_taken (theirs p) c items (s.line c)) e

        position_now : (fetched (theirs p) c (s.line c)).position ≡ y
        position_now = ap (λ (l : T.Line). l.position) now ∙ to

        store_now : (fetched (theirs p) c (s.line c)).store ≡ rest
        store_now = ap (λ (l : T.Line). l.store) now ∙ head_goes p c x rest (s.line c)

        -- what holds of the line that was taken from, and of the others, holds of all
        each : (Q : ℕ → T.Line → Type 0) → (c < p.lines → Q c (fetched (theirs p) c (s.line c)))
            → ((j : ℕ) → (c ≡ j → ⊥) → j < p.lines → Q j (s.line j)) → (i : ℕ) → i < p.lines → Q i (moved.line i)
        each Q new old = at_all (λ i l. i < p.lines → Q i l) c (fetched (theirs p) c) s.line new old

        spans : Within (theirs p) some (positions moved) (rounds (theirs p) (positions s) c)
        spans =
            let from : ℕ = rounds (theirs p) (positions s) c in
            each (λ i l. (from ≤ l.position / quantum p i + 1) × (l.position / quantum p i + 1 < from + half))
            (λ _.
            let same : (fetched (theirs p) c (s.line c)).position / quantum p c ≡ y / quantum p c = ap (λ (z : ℕ). z / quantum p c) position_now in
            (omega (arith, same, div_mono (quantum p c) _ _ up), omega (arith, same, near)))
            (λ j d l. within j l)

        abbrev turns : Turns
        turns = with_turn r.turns c did.step.line.turn

        new_turns : (i : ℕ) → i < p.lines → turn_of turns i ≡ turn_at (quantum p i) (moved.line i).position
        new_turns =
            each (λ i l. turn_of turns i ≡ turn_at (quantum p i) l.position)
            (λ l. turn_same r.turns c did.step.line.turn m.sound.whole.turns is_one ∙ turn ∙ ap (turn_at (quantum p c)) (sym position_now))
            (λ j d l. turn_other r.turns c did.step.line.turn j (λ q. d (sym q)) ∙ m.turns j l)

        -- one item is gone from the line that was taken from, none from another
        gone : (j : ℕ) (t : Bool) → eqb c j ≡ t → taken_from j took.result.answer ≡ cond t 1 0
        gone j t q = ap (λ (o : TakeOutcome). taken_from j o.result.answer) is ∙ one j ∙ ap (λ (u : Bool). cond u 1 0) q

        less : (j n : ℕ) → taken_from j took.result.answer ≡ n → j < p.lines → HoldsOn j left (drop n (map (entry_of p j) (s.line j).store))
        less j n q l =
            subst (λ (k : ℕ). HoldsOn j left (drop k (map (entry_of p j) (s.line j).store))) q
            (taken_holds here m.sound out j _ (m.holds j l)).holds

        new_holds : (i : ℕ) → i < p.lines → HoldsOn i left (map (entry_of p i) (moved.line i).store)
        new_holds =
            each (λ i l. HoldsOn i left (map (entry_of p i) l.store))
            (λ l.
            let fewer = less c 1 (gone c true (eq-eqb c c refl)) l in
            subst (λ (items : List Item). HoldsOn c left (map (entry_of p c) items)) (sym store_now)
            (subst (λ (items : List Item). HoldsOn c left (drop 1 (map (entry_of p c) items))) e fewer))
            (λ j d l. less j 0 (gone j false (ne_eqb c j d)) l)

        pub moves : Far p (take_of r w.store out).result.next w.store moved
        moves = record {
          plan = taken_plan here m.sound out ∙ m.plan;
          sound = taken_sound here m.sound out (take_valid r w.store out m.sound.good);
          round = rw is (
              ap (λ (q : Plan). round_now q.lines (round_of turns) r.turns.round) m.plan
              ∙ round_is (theirs p) some (positions s) (positions moved) (round_of turns) r.turns.round
              (λ i l. ap (λ (t : Turn). t.round) (new_turns i l)) m.round spans);
          turns = rw is new_turns;
          holds = new_holds;
          fit = each (λ i l. AllFit p l.store)
              (λ l. subst (AllFit p) (sym store_now) (subst (AllFit p) e (m.fit c l)).1)
              (λ j d l. m.fit j l);
        }
