-- A take: what it answers, hands out and reports is what the system's take finds, and the world goes on showing the system's state. Assumes nothing.
use Prim.Native.Nat.{ℕ, ◌+◌, ◌-◌, ◌/◌, ◌≤◌, ◌<◌}
use mathlib.Core.Bool.{Bool, true, false, cond}
use mathlib.Core.List.{List, [], ◌∷◌, ◌++◌}
use mathlib.Core.Path.{◌≡◌, refl, sym, ap, ◌∙◌, subst, fun_ext}
use native.Mathlib.Omega.{arith}
use borrow.Author.Tests.{eq-eqb, ne_eqb}
use lib.Dec.{leb}
use lib.ListN.{length, drop}
use lib.Seq.{take-append_seam}
use Rattle.plan.specs.declared.Plan.{Plan}
use Rattle.numbers.specs.Wrap.{half}
use Rattle.plan.specs.Plan.{quantum, line_plan, plan_ok, charge_of}
use Rattle.plan.proofs.Laws.{line_in_range, charge_quantum}
use Rattle.marker.specs.Marker.{MarkerRead, marker_of}
use Rattle.report.specs.Report.{Report, report_of}
use Rattle.std.specs.Prelude.{Some, None, Ok, Err}
use Rattle.ring.specs.Ring.{onto}
use Rattle.theory.specs.Sending.{rounds, round_at, counter_at}
use Rattle.theory.specs.System.{Item, packet, marker, State, positions, current, fetched, out_of, take, step, run, outs}
use Rattle.theory.specs.System as T
use Rattle.theory.specs.FarEnd.{front, handed_bytes, near_head, Near}
use Rattle.theory.proofs.Counting.{one_round_more}
use Rattle.theory.proofs.Histories.{at_all}
use Rattle.receiving.specs.declared.Receiver.{Receiver}
use Rattle.receiving.specs.Taking.{TakeAnswer}
use Rattle.receiving.specs.declared.Taken.TheVariants.{Waiting, Data, Missing}
use Rattle.receiving.specs.declared.Turn.{Turn}
use Rattle.receiving.specs.Receiver.{turn_of, line_of}
use Rattle.receiving.specs.Taking.{Head, Stepped, stays, past, charged_turn, marker_head, item_on, told_step, step_of, taken, TakeOutcome, take_of}
use Rattle.receiving.specs.Taking as head
use Rattle.receiving.specs.Takes.{goes_on}
use Rattle.receiving.proofs.Taking.{is_data, data_item}
use Rattle.receiving.proofs.Valid.{refused_stays}
use Rattle.bundle.specs.Events.{Event, handed_by, reported_by, bytes_out}
use Rattle.bundle.specs.Worlds.{World, take_seen}
use Rattle.bundle.specs.Log.{steps_of, mark_of}
use Rattle.bundle.proofs.Meeting.{turn_at, theirs, AllFit, Far}
use Rattle.bundle.proofs.Marks.{some_quantum, mark_read}
use Rattle.bundle.proofs.Figures.{round_next, counter_next, report_at}
use Rattle.bundle.proofs.Currents.{Within}
use Rattle.bundle.proofs.Moves.{is_line, head_step, waits, moves}
use Rattle.numbers.specs.declared.Refusal.TheVariants as refusal

-- what a take answers, by what stands in front of line i, at position x
abbrev pub says : List ℕ → ℕ → List Item → ℕ → TakeAnswer
says out i [] x = Ok (Waiting i)
says out i (packet k b ∷ rest) x = cond (leb (length b) (length out)) (Ok (Data i (length b))) (Err refusal.ShortOutput)
says out i (marker k m ∷ rest) x = Ok (Missing i (m - x))

-- and the output as it leaves it
abbrev pub writes : List ℕ → List Item → List ℕ
writes out [] = out
writes out (packet k b ∷ rest) = cond (leb (length b) (length out)) (b ++ drop (length b) out) out
writes out (marker k m ∷ rest) = out

module _ (p : Plan) (good : plan_ok p ≡ true) (some : 1 ≤ p.lines) (w : World) (s : State) (m : Far p w.receiver w.store s)
    -- rounds lie within 2^31 of the current one, and a marker in front is not behind its line
    (within : Within (theirs p) some (positions s) (rounds (theirs p) (positions s) (current (theirs p) s)))
    (low : (k at : ℕ) (rest : List Item) → (front (theirs p) s).store ≡ marker k at ∷ rest → (front (theirs p) s).position ≤ at)
    (out : List ℕ)
  where
    abbrev c : ℕ
    c = current (theirs p) s

    abbrev r : Receiver
    r = w.receiver

    abbrev took : TakeOutcome
    took = take_of w.receiver w.store out

    abbrev x : ℕ
    x = (s.line c).position

    abbrev q : ℕ
    q = quantum p c

    line : c < p.lines
    line = is_line p good some w s m within

    some_q : 1 ≤ q
    some_q = some_quantum p good c line

    -- what is to be shown of it
    record Done (items : List Item) (a : TakeAnswer) (o : List ℕ) : Type 0 where
      answer : a ≡ says out c items x
      leaves : o ≡ writes out items
      hands : bytes_out (handed_by (take_seen o a)) ≡ handed_bytes (outs (theirs p) s (steps_of (take_seen o a)))
      reports : (i : ℕ) → ((run (theirs p) s (steps_of (take_seen o a))).line i).reported ≡ (s.line i).reported + reported_by i (take_seen o a)
      far : Far p took.result.next w.store (run (theirs p) s (steps_of (take_seen o a)))

    -- a take that hands back the receiver's state leaves the far end
    idle : (t : State) → took.result.next ≡ w.receiver → Far p w.receiver w.store t → Far p took.result.next w.store t
    idle t e m = subst (λ (next : Receiver). Far p next w.store t) (sym e) m

    nothing_here : (s.line c).store ≡ [] → Done [] took.result.answer took.out
    nothing_here e =
        let is = waits p good some w s m within out e in
        let still : fetched (theirs p) c (s.line c) ≡ s.line c = ap (λ (items : List Item). T.line_taken (theirs p) c items (s.line c)) e in
        let lines = at_all (λ j l. l ≡ s.line j) c (fetched (theirs p) c) s.line still (λ j d. refl) in
        let same : s ≡ step (theirs p) s take = λ k. record { sent = s.sent; carries = s.carries; line = fun_ext (λ j. sym (lines j)) k } in
        rw is (record {
          answer = refl;
          leaves = refl;
          hands = ap (λ (items : List Item). handed_bytes (out_of items ++ [])) (sym e);
          reports = λ i. ap (λ (l : T.Line). l.reported) (lines i) ∙ omega arith;
          far = idle (step (theirs p) s take) (ap (λ (o : TakeOutcome). o.result.next) is) (subst (Far p w.receiver w.store) same m);
        })

    -- what is reported on each line, by what is on the one that was taken from
    reports_are : (v : Event) (items : List Item) → (s.line c).store ≡ items
        → (T.line_taken (theirs p) c items (s.line c)).reported ≡ (s.line c).reported + reported_by c v
        → ((j : ℕ) → (c ≡ j → ⊥) → reported_by j v ≡ 0) → (i : ℕ) → ((step (theirs p) s take).line i).reported ≡ (s.line i).reported + reported_by i v
    reports_are v items e new others =
        at_all (λ j l. l.reported ≡ (s.line j).reported + reported_by j v) c (fetched (theirs p) c) s.line
        (ap (λ (items : List Item). (T.line_taken (theirs p) c items (s.line c)).reported) e ∙ new) (λ j d. omega (arith, others j d))

    -- the line's turn, as the receiver has it
    turn_is : turn_of r.turns c ≡ turn_at q x
    turn_is = m.turns c line

    -- a packet in front
    module _ (k : ℕ) (b : List ℕ) (rest : List Item) (e : (s.line c).store ≡ packet k b ∷ rest) where
      fits : (1 ≤ length b) × (length b ≤ p.max)
      fits = (subst (AllFit p) e (m.fit c line)).0

      abbrev charge : ℕ
      charge = charge_of (line_plan p c) (length b)

      charge_fits : charge ≤ q
      charge_fits = charge_quantum (line_plan p c) (line_in_range p good c line) (length b) fits.0 fits.1

      one_more : (x + charge) / q < x / q + half
      one_more = omega (arith, one_round_more q x charge some_q charge_fits)

      took_packet : took ≡ taken r c (step_of (line_plan p c) r.rings.size c (line_of r c) out (head.packet b))
      took_packet =
          head_step p good some w s m within out (packet k b) rest e
          ∙ ap (λ (h : Head). taken r c (step_of (line_plan p c) r.rings.size c (line_of r c) out h))
          (sym (is_data (line_plan p c) b (length b) refl fits.0 fits.1 ∙ data_item (line_plan p c) c 0 b refl))

      abbrev handed : Stepped
      handed = record {
        step = record { answer = Ok (Data c (length b)); line = past r.rings.size (line_of r c) (length b) (charged_turn (line_plan p c) (turn_of r.turns c) (length b)) };
        out = onto b out;
      }

      -- the counter moves as the position does
      turn_next : charged_turn (line_plan p c) (turn_of r.turns c) (length b) ≡ turn_at q (x + charge)
      turn_next =
          ap (λ (t : Turn). charged_turn (line_plan p c) t (length b)) turn_is
          ∙ (λ n. record { round = round_next q x charge some_q charge_fits n; counter = counter_next q x charge some_q charge_fits n })

      a_packet : Done (packet k b ∷ rest) took.result.answer took.out
      a_packet = go (leb (length b) (length out)) refl
        where
          go : (t : Bool) → leb (length b) (length out) ≡ t → Done (packet k b ∷ rest) took.result.answer took.out
          go true t =
              let is : took ≡ taken r c handed = took_packet ∙ ap (taken r c) (simp t) in
              rw is (record {
                answer = simp t;
                leaves = simp t;
                hands = ap (λ (bytes : List ℕ). bytes ∷ []) (take-append_seam b (drop (length b) out))
                    ∙ ap (λ (items : List Item). handed_bytes (out_of items ++ [])) (sym e);
                reports = reports_are (take_seen (onto b out) (Ok (Data c (length b)))) _ e (omega arith) (λ j d. refl);
                far = moves p good some w s m within out (packet k b) rest e (x + charge) refl (omega arith) one_more handed is turn_next (λ j. refl);
              })
          go false t =
              let is : took ≡ taken r c (stays (line_of r c) (Err refusal.ShortOutput) out) = took_packet ∙ ap (taken r c) (simp t) in
              let answered : took.result.answer ≡ Err refusal.ShortOutput = ap (λ (o : TakeOutcome). o.result.answer) is in
              let same = (refused_stays r w.store out (ap goes_on answered)).0 in
              rw answered (record {
                answer = simp t;
                leaves = (refused_stays r w.store out (ap goes_on answered)).1 ∙ simp t;
                hands = refl;
                reports = λ i. omega arith;
                far = idle s same m;
              })

    -- a marker in front, of position y
    module _ (k y : ℕ) (rest : List Item) (e : (s.line c).store ≡ marker k y ∷ rest) where
      abbrev mark : List ℕ
      mark = mark_of p c y

      abbrev told_step_lem : Report → Stepped
      told_step_lem t = record { step = told_step r.rings.size c (line_of r c) (length mark) (marker_of c (round_at q y) (counter_at q y)) t; out = out }

      abbrev told : Report
      told = report_of q (turn_of r.turns c).round (turn_of r.turns c).counter (marker_of c (round_at q y) (counter_at q y))

      is_report : took ≡ taken r c (told_step_lem told)
      unfolding item_on
      is_report =
          head_step p good some w s m within out (marker k y) rest e
          ∙ ap (λ (t : MarkerRead). taken r c (step_of (line_plan p c) r.rings.size c (line_of r c) out (marker_head (length mark) t))) (mark_read p good c line y)

      -- whatever it tells, the take is a step, so that the premise speaks of this marker
      steps : (t : Report) (o : List ℕ) → steps_of (take_seen o (told_step_lem t).step.answer) ≡ take ∷ []
      steps None o = refl
      steps (Some missing) o = refl

      near_front : Near (theirs p) s (steps_of (take_seen took.out took.result.answer)) → y / q < x / q + half
      near_front near =
          let is-take : steps_of (take_seen took.out took.result.answer) ≡ take ∷ [] =
          ap (λ (o : TakeOutcome). steps_of (take_seen o.out o.result.answer)) is_report ∙ steps told out in
          let front : near_head (theirs p) c (s.line c) (s.line c).store = (subst (Near (theirs p) s) is-take near).0 in
          subst (near_head (theirs p) c (s.line c)) e front

      a_marker : Near (theirs p) s (steps_of (take_seen took.out took.result.answer)) → Done (marker k y ∷ rest) took.result.answer took.out
      a_marker near =
          let ahead = near_front near in
          let up : x ≤ y = low k y rest e in
          let missing : told ≡ Some (y - x) =
          ap (λ (t : Turn). report_of q t.round t.counter (marker_of c (round_at q y) (counter_at q y))) turn_is ∙ report_at q x y c some_q up ahead in
          let did : Stepped = told_step_lem (Some (y - x)) in
          let is : took ≡ taken r c did = is_report ∙ ap (λ (t : Report). taken r c (told_step_lem t)) missing in
          rw is (record {
            answer = refl;
            leaves = refl;
            hands = ap (λ (items : List Item). handed_bytes (out_of items ++ [])) (sym e);
            reports = reports_are (take_seen out (Ok (Missing c (y - x)))) _ e (rw (eq-eqb c c refl) refl) (λ j d. rw (ne_eqb c j d) refl);
            far = moves p good some w s m within out (marker k y) rest e y refl up ahead did is refl (λ j. refl);
          })

    done : (items : List Item) → (s.line c).store ≡ items → Near (theirs p) s (steps_of (take_seen took.out took.result.answer))
        → Done items took.result.answer took.out
    done [] e near = nothing_here e
    done (packet k b ∷ rest) e near = a_packet k b rest e
    done (marker k y ∷ rest) e near = a_marker k y rest e near

    module _ (near : Near (theirs p) s (steps_of (take_seen took.out took.result.answer))) where
      pub take_says : took.result.answer ≡ says out (current (theirs p) s) (front (theirs p) s).store (front (theirs p) s).position
      take_says = (done _ refl near).answer

      pub take_leaves : took.out ≡ writes out (front (theirs p) s).store
      take_leaves = (done _ refl near).leaves

      pub take_hands : bytes_out (handed_by (take_seen took.out took.result.answer))
          ≡ handed_bytes (outs (theirs p) s (steps_of (take_seen took.out took.result.answer)))
      take_hands = (done _ refl near).hands

      pub take_reports : (i : ℕ)
          → ((run (theirs p) s (steps_of (take_seen took.out took.result.answer))).line i).reported
          ≡ (s.line i).reported + reported_by i (take_seen took.out took.result.answer)
      take_reports i = (done _ refl near).reports i

      pub take_far : Far p took.result.next w.store (run (theirs p) s (steps_of (take_seen took.out took.result.answer)))
      take_far = (done _ refl near).far
