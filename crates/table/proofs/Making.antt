-- The laws of what a row of numbers makes: the plan, and the outcome of a line. Assumes nothing.
use Rattle.std.proofs.Common.{subst, Ok, Some, None, ◌≡◌, ℕ, zero, suc, ◌+◌, ◌-◌, ◌<◌, ◌≤◌, Bool, true, false, cond, ◌&&◌, eqb, leb, List, [], ◌∷◌, ◌++◌, map, length, get_or, take, drop, set, replicate, sym, refl, ap, ◌∙◌, add-one, arith, length-append, length-drop, length-take, get_or-drop, take_all, get_or-take, take-suc, take-suc-set, ext_get_or, ne_eqb, eqb-true, leb-false, leb-true}
use native.Mathlib.Decide.{dec_lt}
use denote.Param.Members.{Mut, Called}
use Rattle.std.specs.Array.{IsFromFnResult, IsFromFnResultFrom}
use lib.ListN.{length-map, length-replicate, get_or-map}
use Rattle.numbers.specs.Checks.{in_range}
use Rattle.numbers.proofs.Checks.{check_passed, by_checks, from_range}
use Rattle.plan.specs.declared.Plan.{Plan}
use Rattle.plan.specs.Limits.{most_lines, most_max, most_quantum}
use Rattle.plan.specs.Plan.{plan_ok}
use Rattle.plan.proofs.Laws.{in_range_lem}
use Rattle.sending.specs.declared.Sender.{Sender}
use Rattle.sending.specs.declared.SendResult.{SendResult}
use Rattle.sending.specs.declared.Went.{Went}
use Rattle.sending.specs.Sender.{Sent, sent_values, went_to, sender_ok, send_checks, send_of}
use Rattle.sending.proofs.Laws.{valid}
use Rattle.text.specs.Text.{Said, numbers, bad_text}
use Rattle.text.specs.Rows.{most_numbers, row_with, row_of}
use Rattle.table.specs.declared.Stage.{Stage}
use Rattle.table.specs.declared.Stage.TheVariants.{PlanToCome, Packets, Ended}
use Rattle.table.specs.declared.Table.{Table}
use Rattle.table.specs.Table.{Made, refused_at, narrow, plan_of, plan_good, planned, plan_line, packet_line, said_at}
use Rattle.table.specs.Steps.{plan_from, plan_made, packet_made, made_at, row_made}
use Rattle.numbers.specs.Refusals.{number_of}

-- ---- the plan of a row

-- a closure that stays as it is gives its value at each index
module _ {F : Type 0} {g : Mut F (ℕ × Unit {0}) ℕ} {f : F} (h : ℕ → ℕ) (step : (i y : ℕ) (q : F) → Called g f (i, tt) y q → (y ≡ h i) × (q ≡ f)) where
  given_from : (ys : List ℕ) (n from i : ℕ) → IsFromFnResultFrom g f ys from n → from ≤ i → i < from + n → get_or ys i 0 ≡ h i
  given_from ys zero from i m low high = absurd (omega arith)
  given_from ys (suc n) from i m low high =
      go (dec_lt from i)
      (λ more. given_from ys n (from + 1) i (subst (λ x. IsFromFnResultFrom g x ys (from + 1) n) (step from m.1 m.0 m.3).1 m.4) (omega arith) (omega arith))
    where
      go : Dec (from < i) → (from < i → get_or ys i 0 ≡ h i) → get_or ys i 0 ≡ h i
      go (yes more) later = later more
      go (no here) later = let at : i ≡ from = omega arith in rw at (m.2.1 0 ∙ (step from m.1 m.0 m.3).0)

  pub given_at : {ys : List ℕ} {n : ℕ} → IsFromFnResult g f ys n → (i : ℕ) → i < n → get_or ys i 0 ≡ h i
  given_at {ys} {n} made i inside = given_from ys n 0 i made.each (omega arith) (omega arith)

module _ (values : List ℕ) where
  quantum_at : (i : ℕ) → get_or (map narrow (drop 3 values)) i 0 ≡ narrow (get_or values (3 + i) 0)
  quantum_at i = get_or-map narrow (drop 3 values) i 0 ∙ ap narrow (get_or-drop 3 values i 0)

  module _ (all : length values ≡ most_numbers) where
    sixteen : length (map narrow (drop 3 values)) ≡ most_lines
    sixteen = length-map (drop 3 values) narrow ∙ length-drop 3 values ∙ omega arith

    pub quanta_made : (quanta : List ℕ) → length quanta ≡ most_lines → ((i : ℕ) → i < most_lines → get_or quanta i 0 ≡ narrow (get_or values (3 + i) 0))
        → quanta ≡ map narrow (drop 3 values)
    quanta_made quanta size each =
        ext_get_or 0 quanta (map narrow (drop 3 values)) (size ∙ sym sixteen) (λ i h. each i (omega arith) ∙ sym (quantum_at i))

    -- one more quantum
    pub quantum_stored : (quanta : List ℕ) (i v : ℕ) → length quanta ≡ most_lines → i < most_lines → v ≡ narrow (get_or values (3 + i) 0)
        → take i quanta ≡ take i (map narrow (drop 3 values)) → take (i + 1) (set quanta i v) ≡ take (i + 1) (map narrow (drop 3 values))
    quantum_stored quanta i v size more e h =
        let inside : i < length quanta = omega arith in
        let there : i < length (map narrow (drop 3 values)) = omega (arith, sixteen) in
        rw (add-one i, take-suc-set quanta i v inside, take-suc (map narrow (drop 3 values)) i 0 there, h, quantum_at i, e)

    -- and sixteen of them
    pub quanta_stored : (quanta : List ℕ) (i : ℕ) → length quanta ≡ most_lines → most_lines ≤ i
        → take i quanta ≡ take i (map narrow (drop 3 values)) → quanta ≡ map narrow (drop 3 values)
    quanta_stored quanta i size end h =
        sym (take_all i quanta (omega arith)) ∙ h ∙ take_all i (map narrow (drop 3 values)) (omega (arith, sixteen))

-- zeros behind numbers are not seen
none : (k i : ℕ) → ◌≡◌ {A = ℕ} (get_or (replicate k 0) i 0) 0
none zero i = refl
none (suc k) zero = refl
none (suc k) (suc i) = none k i

padded : (ns : List ℕ) (k i : ℕ) → get_or (ns ++ replicate k 0) i 0 ≡ get_or ns i 0
padded [] k i = none k i
padded (n ∷ ns) k zero = refl
padded (n ∷ ns) k (suc i) = padded ns k i

module _ (ns : List ℕ) (few : length ns ≤ most_numbers) where
  abbrev filled : List ℕ
  filled = ns ++ replicate (most_numbers - length ns) 0

  nineteen : length filled ≡ most_numbers
  nineteen = length-append ns (replicate (most_numbers - length ns) 0) ∙ simp length-replicate (omega arith)

  quanta_are : map narrow (drop 3 filled) ≡ take most_lines (map narrow (drop 3 ns) ++ replicate most_lines 0)
  quanta_are =
      let right = map narrow (drop 3 ns) ++ replicate most_lines 0 in
      let size : length (take most_lines right) ≡ most_lines = length-take most_lines right ∙ simp length-append (omega arith) in
      ext_get_or 0 (map narrow (drop 3 filled)) (take most_lines right) (sixteen filled nineteen ∙ sym size)
      (λ i h.
      let inside : i < most_lines = omega (arith, sixteen filled nineteen) in
      quantum_at filled i ∙ ap narrow (padded ns (most_numbers - length ns) (3 + i)) ∙ sym (quantum_at ns i) ∙ sym (padded (map narrow (drop 3 ns)) most_lines i)
      ∙ sym (get_or-take most_lines right i 0 inside))

  plan_is : plan_from filled ≡ plan_of ns
  plan_is = λ k. record {
    lines = narrow (padded ns (most_numbers - length ns) 0 k);
    max = narrow (padded ns (most_numbers - length ns) 1 k);
    interval = narrow (padded ns (most_numbers - length ns) 2 k);
    quanta = quanta_are k;
  }

-- ---- a line that says numbers is made of its row

-- a plan's line has no more numbers than a row
plan_over : (ns : List ℕ) → most_numbers < length ns → plan_good ns ≡ false
unfolding plan_good
plan_over ns h = go (eqb (length ns) (3 + (plan_of ns).lines)) refl (plan_ok (plan_of ns)) refl
  where
    go : (a : Bool) → eqb (length ns) (3 + (plan_of ns).lines) ≡ a → (b : Bool) → plan_ok (plan_of ns) ≡ b → a && b ≡ false
    go true p true q = absurd (omega (arith, eqb-true (length ns) (3 + (plan_of ns).lines) p, (in_range_lem (plan_of ns) q).few_lines))
    go true p false q = refl
    go false p b q = refl

pub plan_made_lem : (t : Table) (s : Said) → made_at PlanToCome t (row_of s) ≡ plan_line t s
unfolding plan_made plan_line plan_good row_of
plan_made_lem t bad_text = refl
plan_made_lem t (numbers ns) = go (leb (length ns) most_numbers) refl
  where
    made : Plan → Made
    made p = cond (eqb (length ns) (3 + p.lines) && plan_ok p) (planned t p) (refused_at t 1)

    go : (few : Bool) → leb (length ns) most_numbers ≡ few → made_at PlanToCome t (cond few (Some (row_with ns)) None) ≡ plan_line t (numbers ns)
    go true e = ap made (plan_is ns (leb-true (length ns) most_numbers e))
    go false e = rw (plan_over ns (leb-false (length ns) most_numbers e))

pub packet_made_lem : (t : Table) (s : Said) → made_at Packets t (row_of s) ≡ packet_line t s
unfolding packet_made packet_line row_of
packet_made_lem t bad_text = refl
packet_made_lem t (numbers []) = refl
packet_made_lem t (numbers (n ∷ [])) = refl
packet_made_lem t (numbers (n ∷ m ∷ ns)) = go (leb (length (n ∷ m ∷ ns)) most_numbers)
  where
    go : (few : Bool) → made_at Packets t (cond few (Some (row_with (n ∷ m ∷ ns))) None) ≡ refused_at t 1
    go true = simp (ne_eqb (suc (suc (length ns))) 1 (λ e. omega arith))
    go false = refl

-- a packet that goes has a line of the plan, no more bytes than the largest packet, and a counter in range
pub went_line : (s : Sender) (n : ℕ) (r : SendResult) → r ≡ send_of s n → (to : Went) → r.answer ≡ Ok to
    → (to.line < most_lines) × (n ≤ most_max) × (get_or s.counters to.line 0 ≤ most_quantum)
unfolding send_of send_checks
went_line s n r done to e =
    by_checks (λ (x : SendResult). x.answer ≡ Ok to → (to.line < most_lines) × (n ≤ most_max) × (get_or s.counters to.line 0 ≤ most_quantum)) (send_checks s n)
    (λ passes e.
    let here : s.line ≡ to.line = line_of e in
    let first = check_passed (sender_ok s) _ _ (ap number_of passes) in
    let second = check_passed (in_range 1 n s.plan.max) _ _ first.1 in
    let v = valid s first.0 in
    let p = in_range_lem s.plan v.plan in
    let size = from_range 1 n s.plan.max second.0 in
    let counter = v.counter_most s.line v.is_line in
    let quantum = p.quantum_most s.line v.is_line in
    rw (← here) (omega (arith, v.is_line, p.few_lines), omega (arith, p.max_most), omega arith))
    (λ refusal fails e. absurd (let z : ◌≡◌ {A = ℕ} 0 1 = cc in omega arith))
    (ap (λ (x : SendResult). x.answer) (sym done) ∙ e)
  where
    line_of : {i : ℕ} {d : Bool} → went_to i d ≡ Ok to → i ≡ to.line
    line_of e = ap (λ (a : Sent). get_or (sent_values a) 0 0) e

-- ---- the line that a row makes

-- the row of what a line says makes the line's table and text
pub line_made_lem : (t : Table) (s : Said) → row_made t (row_of s) ≡ said_at t.stage t s
unfolding row_made
line_made_lem t s = go t.stage
  where
    go : (stage : Stage) → made_at stage t (row_of s) ≡ said_at stage t s
    go PlanToCome = plan_made_lem t s
    go Packets = packet_made_lem t s
    go Ended = refl
