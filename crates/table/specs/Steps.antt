-- What the row of numbers that a line says makes, and what that leaves in an output.
use Rattle.std.specs.Prelude.{◌≡◌, Option, Some, None, ℕ, ◌+◌, ◌≤◌, Bool, cond, ◌&&◌, List, [], map, length, drop, ◌==◌, nat_le, slice_index}
use Rattle.std.proofs.lemmas.List.Edits.{sets}
use Rattle.plan.specs.declared.Plan.{Plan}
use Rattle.plan.specs.Plan.{plan_ok}
use Rattle.text.specs.declared.Row.{Row}
use Rattle.table.specs.declared.Stage.{Stage}
use Rattle.table.specs.declared.Stage.TheVariants.{PlanToCome, Packets, Ended}
use Rattle.table.specs.declared.Table.{Table}
use Rattle.table.specs.declared.Step.{Step}
use Rattle.table.specs.declared.Entry.{Entry}
use Rattle.table.specs.declared.Entry.TheVariants.{Nothing, Header, Packet, Refused}
use Rattle.table.specs.Table.{most_text, Made, header, row, refused_text, refused_at, narrow, planned, packet_sent}
use Rattle.numbers.specs.Refusals.{number}

-- N, Max, K and the quanta of a row
abbrev pub plan_from : List ℕ → Plan
plan_from values = record {
  lines = narrow (slice_index values 0);
  max = narrow (slice_index values 1);
  interval = narrow (slice_index values 2);
  quanta = map narrow (drop 3 values);
}

abbrev pub plan_fits : Row → Bool
plan_fits row = row.count == 3 + (plan_from row.values).lines && plan_ok (plan_from row.values)

unfoldable pub plan_made : Table → Row → Made
plan_made t row = cond (plan_fits row) (planned t (plan_from row.values)) (refused_at t 1)

unfoldable pub packet_made : Table → Row → Made
packet_made t row = cond (row.count == 1) (packet_sent t (slice_index row.values 0)) (refused_at t 1)

-- by the stage; no row of numbers is bad text
abbrev pub made_at : Stage → Table → Option Row → Made
made_at Ended t row = record { table = t; text = [] }
made_at PlanToCome t None = refused_at t 1
made_at PlanToCome t (Some row) = plan_made t row
made_at Packets t None = refused_at t 1
made_at Packets t (Some row) = packet_made t row

unfoldable pub row_made : Table → Option Row → Made
row_made t row = made_at t.stage t row

-- the text of what a line of table says
abbrev pub entry_text : Entry → List ℕ
entry_text Nothing = []
entry_text Header = header
entry_text (Packet p) = row p.number p.size p.line p.round p.counter p.due
entry_text (Refused refusal line) = refused_text (number refusal) line

-- what the functions behind `line_of` ensure: the table and the text, which is never longer than there is room for
abbrev pub Makes : Made → Table × Entry → Type 0
Makes m r = (r.0 ≡ m.table) × (entry_text r.1 ≡ m.text) × (length m.text ≤ most_text)

-- the next table, the place after the line's text, and the output as it leaves it
pub record Line : Type 0 where
  pub table : Table
  pub at : ℕ
  pub out : List ℕ

-- a line of table from a place on; without room for the longest, nothing changes
unfoldable pub line_at : Table → Made → ℕ → List ℕ → Line
line_at t m at out =
    cond (nat_le (at + most_text) (length out))
    (record { table = m.table; at = at + length m.text; out = sets out at m.text })
    (record { table = t; at = at; out = out })

-- what `line_of` ensures,
abbrev pub SteppedWhereRoom : Table → Made → ℕ → List ℕ → Step → List ℕ → Type 0
SteppedWhereRoom t m at before r after =
    let l = line_at t m at before in
    (r.table ≡ l.table) × (r.at ≡ l.at) × (after ≡ l.out) × (r.at ≤ at + most_text)

-- and what that is where there is room
abbrev pub Stepped : Made → ℕ → List ℕ → Step → List ℕ → Type 0
Stepped m at before r after =
    (r.table ≡ m.table) × (r.at ≡ at + length m.text) × (after ≡ sets before at m.text) × (length m.text ≤ most_text)
