-- Demand 2 of the booth's end by itself, whatever the stage and the lines do.
use Rattle.std.specs.Prelude.{ℕ, ◌+◌, ◌*◌, ◌≤◌, ◌<◌, ◌≡◌, true, false, List, [], ◌∷◌, ◌++◌, length}
use Rattle.numbers.specs.Writing.{written}
use Rattle.plan.specs.declared.Plan.{Plan}
use Rattle.plan.specs.Ranges.{PlanIn}
use Rattle.plan.specs.Plan.{quantum, line_plan, charge_of, trimmed}
use Rattle.theory.specs.Sending as S
use Rattle.theory.specs.System.{sizes}
use Rattle.theory.specs.Demands.{Lowest, Shows}
use Rattle.sending.specs.declared.Sender.{Sender}
use Rattle.sending.specs.Sender.{went_to, sender_ok, open_sender, not_sent, send_of, marker_from, sender_of}
use Rattle.sending.specs.InTheory.{is_packet, in_theory, figures_of}
use Rattle.bundle.specs.Log.{mark_of}
use Rattle.bundle.specs.Worlds.{World, Call, calls, sent_in}
use Rattle.numbers.specs.declared.Refusal.TheVariants as refusal

-- what each line has carried once these packets are sent, and the full rounds that have ended
abbrev pub carried_by : Plan → List (List ℕ) → ℕ → ℕ
carried_by p packets = S.carried (in_theory p) (sizes packets) (length packets)

abbrev pub ended_by : Plan → List (List ℕ) → ℕ
ended_by p packets = S.ended (in_theory p) (sizes packets) (length packets)

-- one packet more
abbrev pub and_packet : List (List ℕ) → List ℕ → List (List ℕ)
and_packet packets x = packets ++ (x ∷ [])

-- For a plan whose entries from line N on are zero: s is the state once these packets are sent.
pub record Keeps (p : Plan) (packets : List (List ℕ)) (s : Sender) : Type 0 where
  pub valid : sender_ok s ≡ true
  -- the state shows round (modulo 2^32), counter, current line and countdown by the definition
  pub figures : Shows (in_theory p) (figures_of s) (carried_by p packets) (ended_by p packets)
  -- a packet goes to the line of lowest round by what the lines have carried, lower number on a tie, and markers are due by the definition
  pub rule : Lowest (in_theory p) (carried_by p packets) s.line
  pub goes : (x : List ℕ) → is_packet p (length x) ≡ true
      → (send_of s (length x)).answer ≡ went_to s.line (S.due_after (in_theory p) (sizes (and_packet packets x)) (length packets))
  -- any other length is refused with 4, and leaves the state
  pub refuses : (size : ℕ) → is_packet p size ≡ false → send_of s size ≡ not_sent s refusal.Length
  -- at the end of k full rounds a line has carried at least k quanta, and less than k quanta plus one largest packet
  pub share : (x : List ℕ) → is_packet p (length x) ≡ true → S.ends (in_theory p) (carried_by p packets) (length x) ≡ true → (i : ℕ) → i < p.lines
      → (ended_by p (and_packet packets x) * quantum p i ≤ carried_by p (and_packet packets x) i)
      × (carried_by p (and_packet packets x) i < ended_by p (and_packet packets x) * quantum p i + charge_of (line_plan p i) p.max)
  -- a marker carries its line's figures
  pub marks : (i : ℕ) → i < p.lines → (out : List ℕ) → marker_from s i out ≡ written (mark_of p i (carried_by p packets i)) out

-- From any world whose sender is opened, after any calls, for the packets that its sends have answered to be on their way.
abbrev pub EveryHistory : Type 0
EveryHistory =
    (p : Plan) → PlanIn p → length p.quanta ≡ 16 → (w : World) → w.sender ≡ sender_of (open_sender p)
    → (h : List Call) → Keeps (trimmed p) (sent_in w h) (calls w h).sender
