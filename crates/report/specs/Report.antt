-- What a marker tells the line that it came on: whether it can be one there, and what is missing.
use Rattle.std.specs.Prelude.{ℕ, ◌+◌, ◌-◌, ◌*◌, ◌%◌, Bool, cond, ◌&&◌, ◌||◌, List, [], ◌∷◌, ◌==◌, nat_le, nat_lt, Option, Some, None}
use Rattle.numbers.specs.declared.Refusal.TheVariants as refusal
use Rattle.numbers.specs.Checks.{Checked, passed, check, in_range}
use Rattle.numbers.specs.Wrap.{wrap, half}
use Rattle.marker.specs.declared.Marker.{Marker}
use Rattle.marker.specs.Marker.{MarkerRead, record_read, judged}

-- the bytes missing before a marker; or nothing: the line has gone past it
abbrev pub Report : Type 0
Report = Option ℕ

-- the table's number that a report gives, 0 for none; and the bytes missing
abbrev pub report_number : Report → ℕ
report_number (Some x) = 0
report_number None = 11

abbrev pub report_values : Report → List ℕ
report_values (Some x) = x ∷ []
report_values None = 0 ∷ []

-- ---- a marker on a line of quantum q: 5, 6

abbrev pub on_checks : ℕ → ℕ → Marker → Checked
on_checks line q m = check (in_range 1 m.counter q) refusal.NoMarker (check (m.line == line) refusal.OtherLine passed)

unfoldable pub marker_on : ℕ → ℕ → List ℕ → MarkerRead
marker_on line q s = judged (on_checks line q) (record_read s)

-- ---- the loss report

-- a round less another, by subtraction that wraps at 2^32
unfoldable pub ahead : ℕ → ℕ → ℕ
ahead round from = (round + (wrap - from % wrap)) % wrap

-- a line with that round and counter has gone past the marker: 11
abbrev pub is_behind : ℕ → ℕ → Marker → Bool
is_behind round counter m =
    nat_le half (ahead m.round round) || (ahead m.round round == 0 && nat_lt counter m.counter)

abbrev pub missing : ℕ → ℕ → ℕ → Marker → ℕ
missing q round counter m = ahead m.round round * q + counter - m.counter

unfoldable pub report_of : ℕ → ℕ → ℕ → Marker → Report
report_of q round counter m = cond (is_behind round counter m) None (Some (missing q round counter m))
