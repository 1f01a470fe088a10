-- The sender's calls: what each answers and leaves.
use Rattle.std.specs.Prelude.{ℕ, suc, ◌+◌, ◌-◌, Bool, ◌&&◌, cond, List, [], ◌∷◌, ltb, eqb, set, replicate, Result, Ok, Err}
use Rattle.std.specs.Result.{result_unwrap_or}
use Rattle.numbers.specs.Checks.{Checked, passed, check, settled, in_range}
use Rattle.numbers.specs.Writing.{Outcome, room, outcome}
use Rattle.plan.specs.declared.Plan.{Plan}
use Rattle.plan.specs.Limits.{most_lines}
use Rattle.plan.specs.Plan.{at, quantum, line_plan, charge_of, spent, counter_after, round_after, plan_ok, counters_ok, zeros, no_plan, first_entries, trimmed}
use Rattle.marker.specs.Marker.{marker_of, marker_bytes}
use Rattle.sending.specs.declared.Sender.{Sender}
use Rattle.numbers.specs.declared.Refusal.{Refusal}
use Rattle.numbers.specs.declared.Refusal.TheVariants as refusal
use Rattle.sending.specs.declared.Went.{Went}
use Rattle.sending.specs.declared.SendResult.{SendResult}

-- what a send answers: the line the packet goes to and whether markers are due, or the refusal
abbrev pub Sent : Type 0
Sent = Result Went Refusal

abbrev pub went_to : ℕ → Bool → Sent
went_to line due = Ok (record { line = line; due = due })

-- the line, and whether markers are due (1 or 0)
abbrev pub sent_values : Sent → List ℕ
sent_values (Ok went) = went.line ∷ cond went.due 1 0 ∷ []
sent_values (Err refusal) = []

-- ---- a valid state

unfoldable pub sender_ok : Sender → Bool
sender_ok s =
    plan_ok s.plan && ltb s.line s.plan.lines && in_range 1 s.countdown s.plan.interval
    && counters_ok s.plan s.counters

-- ---- opening

-- all zeros
abbrev pub closed_sender : Sender
closed_sender = record { plan = no_plan; line = 0; countdown = 0; rounds = zeros; counters = zeros }

-- line 0 current, each round 1 and each counter its quantum; every entry from line N on is zero
abbrev pub opened_sender : Plan → Sender
opened_sender p = record {
  plan = trimmed p;
  line = 0;
  countdown = p.interval;
  rounds = first_entries p.lines (replicate most_lines 1);
  counters = (trimmed p).quanta;
}

-- what opening answers: the sender, or the refusal
abbrev pub SenderOpened : Type 0
SenderOpened = Result Sender Refusal

unfoldable pub open_sender : Plan → SenderOpened
open_sender p = cond (plan_ok p) (Ok (opened_sender p)) (Err refusal.Plan)

-- the sender of an opening; a refusal's is the closed one
abbrev pub sender_of : SenderOpened → Sender
sender_of o = result_unwrap_or o closed_sender

-- ---- sending: c is what the packet is charged

-- the current line's counter falls by c; it is then zero or less
abbrev pub runs_out : Sender → ℕ → Bool
runs_out s c = spent (at s.counters s.line) c

-- and line 0 is next: the round is complete
abbrev pub completes : Sender → ℕ → Bool
completes s c = runs_out s c && eqb (suc s.line) s.plan.lines

abbrev pub is_due : Sender → ℕ → Bool
is_due s c = completes s c && eqb s.countdown 1

-- a counter that runs out rises by its quantum, its line's round by one, and the next line becomes current, after N - 1 line 0;
-- at a complete round the countdown falls, and restarts where it was 1
unfoldable pub next_sender : Sender → ℕ → Sender
next_sender s c = record {
  plan = s.plan;
  line = cond (runs_out s c) (cond (ltb (suc s.line) s.plan.lines) (suc s.line) 0) s.line;
  countdown = cond (completes s c) (cond (eqb s.countdown 1) s.plan.interval (s.countdown - 1)) s.countdown;
  rounds = set s.rounds s.line (round_after (at s.rounds s.line) (at s.counters s.line) c);
  counters = set s.counters s.line (counter_after (quantum s.plan s.line) (at s.counters s.line) c);
}

abbrev pub not_sent : Sender → Refusal → SendResult
not_sent s refusal = record { answer = Err refusal; next = s }

abbrev pub went : Sender → ℕ → SendResult
went s c = record { answer = went_to s.line (is_due s c); next = next_sender s c }

-- what the packet is charged on the current line
abbrev pub charge_now : Sender → ℕ → ℕ
charge_now s length = charge_of (line_plan s.plan s.line) length

-- 2, 4, and 10: the counter is still not positive after its quantum
unfoldable pub send_checks : Sender → ℕ → Checked
send_checks s length =
    check (sender_ok s) refusal.State
    (check (in_range 1 length s.plan.max) refusal.Length
    (check (ltb (charge_now s length) (at s.counters s.line + quantum s.plan s.line)) refusal.Counter
    passed))

unfoldable pub send_of : Sender → ℕ → SendResult
send_of s length = settled (send_checks s length) (went s (charge_now s length)) (not_sent s)

-- ---- a marker from a state: 2, 3, 8

-- line i's figures
abbrev pub line_marker : Sender → ℕ → List ℕ
line_marker s i = marker_bytes (marker_of i (at s.rounds i) (at s.counters i))

unfoldable pub marker_from : Sender → ℕ → List ℕ → Outcome
marker_from s i out =
    outcome (check (sender_ok s) refusal.State (check (ltb i s.plan.lines) refusal.Line (room (line_marker s i) out))) (line_marker s i) out
