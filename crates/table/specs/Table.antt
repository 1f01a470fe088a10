-- One line of text in, one line of table out.
use Rattle.std.specs.Prelude.{ℕ, ◌+◌, ◌%◌, ◌^◌, min, Bool, cond, ◌&&◌, List, [], ◌∷◌, ◌++◌, map, length, take, drop, replicate, ◌==◌, slice_index, Ok, Err}
use Rattle.plan.specs.declared.Plan.{Plan}
use Rattle.plan.specs.Limits.{most_lines}
use Rattle.plan.specs.Plan.{at, plan_ok}
use Rattle.sending.specs.declared.Sender.{Sender}
use Rattle.numbers.specs.Refusals.{number}
use Rattle.sending.specs.Sender.{Sent, closed_sender, opened_sender, send_of}
use Rattle.text.specs.Text.{space, line_feed, Said, numbers, bad_text, said, decimal}
use Rattle.text.specs.Printing.{spaced}
use Rattle.table.specs.declared.Stage.{Stage}
use Rattle.table.specs.declared.Stage.TheVariants.{PlanToCome, Packets, Ended}
use Rattle.table.specs.declared.Table.{Table}

-- no line of table is longer; `limits` of src/lib.rt ties it to the constant of `Table`
abbrev pub most_text : ℕ
most_text = 64

-- the table after a line, and the text that the line makes
pub record Made : Type 0 where
  pub table : Table
  pub text : List ℕ

-- lines and packets are counted modulo 2^64
abbrev pub next : ℕ → ℕ
next n = (n + 1) % 2 ^ 64

-- ---- the three lines that are printed

-- `no len ch round before due`
abbrev pub header : List ℕ
header =
    110 ∷ 111 ∷ 32 ∷ 108 ∷ 101 ∷ 110 ∷ 32 ∷ 99 ∷ 104 ∷ 32 ∷ 114 ∷ 111 ∷ 117 ∷ 110 ∷ 100 ∷ 32 ∷ 98 ∷ 101 ∷ 102 ∷ 111 ∷ 114 ∷ 101 ∷ 32 ∷ 100 ∷ 117 ∷ 101 ∷ 10 ∷ []

-- packet number, length, line, round and counter before the send, and M where markers are due, else a dash
unfoldable pub row : ℕ → ℕ → ℕ → ℕ → ℕ → Bool → List ℕ
row number length line round counter due =
    spaced number ++ spaced length ++ spaced line ++ spaced round ++ spaced counter ++ (cond due 77 45 ∷ line_feed ∷ [])

-- `refused`, the number and the line of the text, from 1
abbrev pub refused_word : List ℕ
refused_word = 114 ∷ 101 ∷ 102 ∷ 117 ∷ 115 ∷ 101 ∷ 100 ∷ space ∷ []

unfoldable pub refused_text : ℕ → ℕ → List ℕ
refused_text number line = refused_word ++ spaced number ++ decimal line ++ (line_feed ∷ [])

-- ---- what a line does

-- before the first line
abbrev pub no_table : Table
no_table = record { stage = PlanToCome; sender = closed_sender; lines = 0; packets = 0 }

unfoldable pub refused_at : Table → ℕ → Made
refused_at t number = record {
  table = record { stage = Ended; sender = t.sender; lines = next t.lines; packets = t.packets };
  text = refused_text number (next t.lines);
}

-- the largest number of 32 bits stands for any above it: it is outside every range of a plan
abbrev pub narrow : ℕ → ℕ
narrow v = min v 4294967295

-- N, Max, K and the quanta, in the record's order
abbrev pub plan_of : List ℕ → Plan
plan_of ns = record {
  lines = narrow (slice_index ns 0);
  max = narrow (slice_index ns 1);
  interval = narrow (slice_index ns 2);
  quanta = take most_lines (map narrow (drop 3 ns) ++ replicate most_lines 0);
}

-- as many numbers as the plan's lines ask, and a plan in range
unfoldable pub plan_good : List ℕ → Bool
plan_good ns = length ns == 3 + (plan_of ns).lines && plan_ok (plan_of ns)

-- the table begins, with an opened sender
abbrev pub begins : Table → Sender → Made
begins t sender = record { table = record { stage = Packets; sender = sender; lines = next t.lines; packets = t.packets }; text = header }

abbrev pub planned : Table → Plan → Made
planned t p = begins t (opened_sender p)

unfoldable pub plan_line : Table → Said → Made
plan_line t bad_text = refused_at t 1
plan_line t (numbers ns) = cond (plan_good ns) (planned t (plan_of ns)) (refused_at t 1)

-- a packet of n bytes, of which a send answered so and left this sender
abbrev pub sent_line : Table → ℕ → Sender → Sent → Made
sent_line t n after (Err refusal) = refused_at t (number refusal)
sent_line t n after (Ok went) = record {
  table = record { stage = Packets; sender = after; lines = next t.lines; packets = next t.packets };
  text = row (next t.packets) n went.line (at t.sender.rounds went.line) (at t.sender.counters went.line) went.due;
}

-- a packet of n bytes is sent
abbrev pub packet_sent : Table → ℕ → Made
packet_sent t n = sent_line t n (send_of t.sender n).next (send_of t.sender n).answer

unfoldable pub packet_line : Table → Said → Made
packet_line t bad_text = refused_at t 1
packet_line t (numbers []) = refused_at t 1
packet_line t (numbers (n ∷ [])) = packet_sent t n
packet_line t (numbers (n ∷ m ∷ ns)) = refused_at t 1

-- what a line says, by the stage
abbrev pub said_at : Stage → Table → Said → Made
said_at PlanToCome t s = plan_line t s
said_at Packets t s = packet_line t s
said_at Ended t s = record { table = t; text = [] }

-- one line of text
unfoldable pub line_of : Table → List ℕ → Made
line_of t line = said_at t.stage t (said line)
