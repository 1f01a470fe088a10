-- Along every history the world shows the state that its log leads to, and has handed out and reported what that has. Assumes nothing.
use Prim.Native.Nat.{ℕ, ◌+◌, ◌≤◌}
use native.Mathlib.Omega.{arith}
use mathlib.Core.List.{List, [], ◌∷◌, ◌++◌, append-nil}
use mathlib.Core.Path.{◌≡◌, refl, sym, ap, ◌∙◌, subst}
use lib.ListN.{length}
use Rattle.plan.specs.declared.Plan.{Plan}
use Rattle.plan.specs.Plan.{line_plan, trimmed}
use Rattle.plan.proofs.Laws.{line_in_range, charge_max}
use Rattle.theory.specs.Sending.{rounds}
use Rattle.theory.specs.Sending as S
use Rattle.theory.specs.Demands.{Sound, Fit}
use Rattle.theory.specs.System.{Item, marker, Line, State, Step, send, ask, arrive, lose, take, arrived, dropped, positions, current, step, run, packets, sizes, Out, outs, handed}
use Rattle.theory.specs.System as T
use Rattle.theory.specs.FarEnd.{front, handed_bytes}
use Rattle.theory.specs.FarEnd as F
use Rattle.theory.proofs.Lines.{arrived_reported, dropped_reported}
use Rattle.theory.proofs.Histories.{at_field, run_append, outs_append, near_split, carries_are}
use Rattle.theory.proofs.Proved.{far_end}
use Rattle.sending.specs.Sender.{Sent, send_of, marker_from}
use Rattle.std.specs.Prelude.{Ok, Err}
use Rattle.sending.proofs.InTheory.{sound}
use Rattle.bundle.specs.Events.{Event, handed_by, reported_by, bytes_out}
use Rattle.bundle.specs.Worlds.{World, Call, sends, asks, arrives, loses, takes, send_seen, seen, call, handed_in, reported_in}
use Rattle.bundle.specs.Log.{steps_of}
use Rattle.bundle.specs.Words.{and_then, Opens}
use Rattle.bundle.specs.Demands.{theirs, opened, after, log_of, system, sent_of, carried, Near}
use Rattle.bundle.proofs.Meeting.{Far, Roads}
use Rattle.bundle.proofs.Currents.{Within}
use Rattle.bundle.proofs.Histories.{along, calls_append, log_append, handed_append, reported_append, log_packets, ask_cases, arrive_cases, lose_cases}
use Rattle.bundle.proofs.Senders.{kept_good, sent_fit, goes, marks}
use Rattle.bundle.proofs.Opening.{open_far, open_roads}
use Rattle.bundle.proofs.Roads.{Booths, call_roads, send_far, ask_far, lose_far}
use Rattle.bundle.proofs.Arrivals.{arrive_far}
use Rattle.bundle.proofs.Takes.{take_hands, take_reports, take_far}

pub bytes_append : (xs ys : List Out) → handed_bytes (xs ++ ys) ≡ handed_bytes xs ++ handed_bytes ys
bytes_append [] ys = refl
bytes_append (x ∷ xs) ys = ap (λ (l : List (List ℕ)). x.bytes ∷ l) (bytes_append xs ys)

-- ---- steps that take nothing hand out and report nothing

abbrev Quiet : Step → Type 0
Quiet (send x) = Unit {0}
Quiet (ask i) = Unit {0}
Quiet (arrive i) = Unit {0}
Quiet (lose i) = Unit {0}
Quiet take = ⊥

abbrev AllQuiet : List Step → Type 0
AllQuiet [] = Unit {0}
AllQuiet (e ∷ steps) = Quiet e × AllQuiet steps

module _ (p : S.Plan) where
  quiet_reports : (s : State) (e : Step) → Quiet e → (i : ℕ) → ((step p s e).line i).reported ≡ (s.line i).reported
  quiet_reports s (send x) q i = at_field (λ (l : Line). l.reported) _ _ s.line (λ l. refl) i
  quiet_reports s (ask j) q i = at_field (λ (l : Line). l.reported) _ _ s.line (λ l. refl) i
  quiet_reports s (arrive j) q i = at_field (λ (l : Line). l.reported) j arrived s.line arrived_reported i
  quiet_reports s (lose j) q i = at_field (λ (l : Line). l.reported) j dropped s.line dropped_reported i
  quiet_reports s take q i = absurd q

  quiet_hands : (s : State) (e : Step) → Quiet e → handed p s e ≡ []
  quiet_hands s (send x) q = refl
  quiet_hands s (ask i) q = refl
  quiet_hands s (arrive i) q = refl
  quiet_hands s (lose i) q = refl
  quiet_hands s take q = absurd q

  all_reports : (steps : List Step) (s : State) → AllQuiet steps → (i : ℕ) → ((run p s steps).line i).reported ≡ (s.line i).reported
  all_reports [] s q i = refl
  all_reports (e ∷ steps) s q i = all_reports steps (step p s e) q.1 i ∙ quiet_reports s e q.0 i

  all_hands : (steps : List Step) (s : State) → AllQuiet steps → outs p s steps ≡ []
  all_hands [] s q = refl
  all_hands (e ∷ steps) s q = rw (quiet_hands s e q.0) (all_hands steps (step p s e) q.1)

-- an event that hands out and reports nothing, and whose steps do not either
pub record Silent (e : Event) : Type 0 where
  pub steps : AllQuiet (steps_of e)
  pub hands : handed_by e ≡ []
  pub reports : (i : ℕ) → reported_by i e ≡ 0

-- the booth's calls, arrivals and losses are so
module _ (w : World) where
  send_silent : (x : List ℕ) → Silent (seen w (sends x))
  send_silent x = go (send_of w.sender (length x)).answer
    where
      go : (t : Sent) → Silent (send_seen x t)
      go (Ok went) = record { steps = (tt, tt); hands = refl; reports = λ j. refl }
      go (Err k) = record { steps = tt; hands = refl; reports = λ j. refl }

  ask_silent : (i : ℕ) (out : List ℕ) → Silent (seen w (asks i out))
  ask_silent i out =
      ask_cases Silent i _ (marker_from w.sender i out).answer
      (λ b. record { steps = (tt, tt); hands = refl; reports = λ j. refl })
      (λ k. record { steps = tt; hands = refl; reports = λ j. refl })

  arrive_silent : (i : ℕ) → Silent (seen w (arrives i))
  arrive_silent i =
      arrive_cases Silent w i (w.road i)
      (λ x. record { steps = (tt, tt); hands = refl; reports = λ j. refl })
      (λ x k. record { steps = (tt, tt); hands = refl; reports = λ j. refl })
      (record { steps = tt; hands = refl; reports = λ j. refl })

  lose_silent : (i : ℕ) → Silent (seen w (loses i))
  lose_silent i =
      lose_cases Silent i (w.road i)
      (λ x. record { steps = (tt, tt); hands = refl; reports = λ j. refl })
      (record { steps = tt; hands = refl; reports = λ j. refl })

-- ---- along a history

module _ (p : Plan) (size : ℕ) (store : List ℕ) (o : Opens p size store) where
  abbrev kept : Plan
  kept = trimmed p

  abbrev plan : S.Plan
  plan = theirs p size store

  pub plan_sound : Sound plan
  plan_sound = sound kept (kept_good p size store o)

  abbrev pub far : F.FarEnd plan
  far = far_end plan plan_sound

  abbrev world : List Call → World
  world h = after p size store h

  abbrev state : List Call → State
  state h = system p size store h

  -- the packets of the log are no larger than the largest
  pub packets_fit : (h : List Call) → Fit plan (sizes (packets (log_of p size store h))) (length (packets (log_of p size store h)))
  packets_fit h = rw (log_packets h (opened p size store)) (λ n l i line.
      let r = sent_fit p size store o h n l in
      charge_max (line_plan kept i) (line_in_range kept (kept_good p size store o) i line) (sizes (sent_of p size store h) n) r.0 r.1)

  pub carries_is : (h : List Call) → (state h).carries ≡ carried p size store h
  carries_is h = carries_are plan (log_of p size store h) ∙ ap (λ (ps : List (List ℕ)). S.carried plan (sizes ps) (length ps)) (log_packets h (opened p size store))

  -- one call more
  pub after_and : (h : List Call) (e : Call) → world (and_then h e) ≡ call (world h) e
  after_and h e = calls_append h (e ∷ []) (opened p size store)

  pub log_and : (h : List Call) (e : Call) → log_of p size store (and_then h e) ≡ log_of p size store h ++ steps_of (seen (world h) e)
  log_and h e = log_append h (e ∷ []) (opened p size store) ∙ ap (λ (l : List Step). log_of p size store h ++ l) (append-nil (steps_of (seen (world h) e)))

  pub system_and : (h : List Call) (e : Call) → state (and_then h e) ≡ run plan (state h) (steps_of (seen (world h) e))
  system_and h e = ap (run plan T.at_opening) (log_and h e) ∙ run_append plan (log_of p size store h) (steps_of (seen (world h) e)) T.at_opening

  pub near_and : (h : List Call) (e : Call) → Near p size store (and_then h e) → Near p size store h × F.Near plan (state h) (steps_of (seen (world h) e))
  near_and h e near = near_split plan (log_of p size store h) (steps_of (seen (world h) e)) T.at_opening (subst (F.Near plan T.at_opening) (log_and h e) near)

  pub some : 1 ≤ p.lines
  some = plan_sound.some_line

  pub within : (h : List Call) → Near p size store h → Within plan some (positions (state h)) (rounds plan (positions (state h)) (current plan (state h)))
  within h near = far.window (log_of p size store h) (packets_fit h) near

  pub not_behind : (h : List Call) (k m : ℕ) (rest : List Item) → (front plan (state h)).store ≡ marker k m ∷ rest → (front plan (state h)).position ≤ m
  not_behind h k m rest e = (far.missing (log_of p size store h) k m rest e).0

  -- the roads show the system's after any calls
  fair : (h : List Call) (e : Call) → Booths kept (world h) (state h) e
  fair h (sends x) = rw (carries_is h) (goes p size store o h x)
  fair h (asks i out) = rw (carries_is h) (marks p size store o h i out)
  fair h (arrives i) = tt
  fair h (loses i) = tt
  fair h (takes out) = tt

  pub roads : (h : List Call) → Roads kept (world h).road (state h).line
  roads =
      along (λ h. Roads kept (world h).road (state h).line) (open_roads p size store o)
      (λ h e now. rw (after_and h e, system_and h e) (call_roads kept (world h) (state h) now e (fair h e)))

  -- and the far end, as long as markers are near
  pub record Reaches (h : List Call) : Type 0 where
    pub far_end : Far kept (world h).receiver (world h).store (state h)
    pub hands : handed_in (opened p size store) h ≡ handed_bytes (outs plan T.at_opening (log_of p size store h))
    pub reports : (i : ℕ) → reported_in i (opened p size store) h ≡ ((state h).line i).reported

  -- what a call does, from a world that shows a state
  record Does (w : World) (s : State) (e : Call) : Type 0 where
    far_end : Far kept (call w e).receiver (call w e).store (run plan s (steps_of (seen w e)))
    hands : bytes_out (handed_by (seen w e)) ≡ handed_bytes (outs plan s (steps_of (seen w e)))
    reports : (i : ℕ) → ((run plan s (steps_of (seen w e))).line i).reported ≡ (s.line i).reported + reported_by i (seen w e)

  silent_does : (w : World) (s : State) (e : Call) → Silent (seen w e)
      → Far kept (call w e).receiver (call w e).store (run plan s (steps_of (seen w e))) → Does w s e
  silent_does w s e silent far_end = record {
    far_end = far_end;
    hands = ap bytes_out silent.hands ∙ ap handed_bytes (sym (all_hands plan (steps_of (seen w e)) s silent.steps));
    reports = λ i. omega (arith, all_reports plan (steps_of (seen w e)) s silent.steps i, silent.reports i);
  }

  does : (h : List Call) (e : Call) → Reaches h → Near p size store (and_then h e) → Does (world h) (state h) e
  does h (sends x) r near = silent_does (world h) (state h) (sends x) (send_silent (world h) x) (send_far kept (world h) (state h) r.far_end x)
  does h (asks i out) r near =
      silent_does (world h) (state h) (asks i out) (ask_silent (world h) i out) (ask_far kept (world h) (state h) r.far_end i out)
  does h (arrives i) r near =
      silent_does (world h) (state h) (arrives i) (arrive_silent (world h) i) (arrive_far kept (world h) (state h) (roads h) r.far_end i)
  does h (loses i) r near = silent_does (world h) (state h) (loses i) (lose_silent (world h) i) (lose_far kept (world h) (state h) r.far_end i)
  does h (takes out) r near =
      let n = near_and h (takes out) near in
      let good = kept_good p size store o in
      record {
        far_end = take_far kept good some (world h) (state h) r.far_end (within h n.0) (not_behind h) out n.1;
        hands = take_hands kept good some (world h) (state h) r.far_end (within h n.0) (not_behind h) out n.1;
        reports = take_reports kept good some (world h) (state h) r.far_end (within h n.0) (not_behind h) out n.1;
      }

  reaches_and : (h : List Call) (e : Call) → Reaches h → Near p size store (and_then h e) → Reaches (and_then h e)
  reaches_and h e r near =
      let d = does h e r near in
      record {
        far_end = rw (after_and h e, system_and h e) d.far_end;
        hands =
            handed_append h (e ∷ []) (opened p size store)
            ∙ ap (λ (l : List (List ℕ)). handed_in (opened p size store) h ++ l) (ap bytes_out (append-nil (handed_by (seen (world h) e))) ∙ d.hands)
            ∙ ap (λ (l : List (List ℕ)). l ++ handed_bytes (outs plan (state h) (steps_of (seen (world h) e)))) r.hands
            ∙ sym (bytes_append (outs plan T.at_opening (log_of p size store h)) (outs plan (state h) (steps_of (seen (world h) e))))
            ∙ ap handed_bytes (sym (ap (outs plan T.at_opening) (log_and h e) ∙ outs_append plan (log_of p size store h) (steps_of (seen (world h) e)) T.at_opening));
        reports = λ i. omega (
          arith,
          reported_append i h (e ∷ []) (opened p size store),
          r.reports i,
          d.reports i,
          ap (λ (s : State). (s.line i).reported) (system_and h e),
        );
      }

  open_reaches : Reaches []
  open_reaches = record { far_end = open_far p size store o; hands = refl; reports = λ i. refl }

  pub reaches : (h : List Call) → Near p size store h → Reaches h
  reaches = along (λ h. Near p size store h → Reaches h) (λ near. open_reaches) (λ h e now near. reaches_and h e (now (near_and h e near).0) near)
