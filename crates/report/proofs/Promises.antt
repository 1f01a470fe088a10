-- The examples of a report, which compute. Assumes nothing.
use Rattle.std.proofs.Common.{◌≡◌, refl}
use Rattle.marker.specs.Marker.{marker_of}
use Rattle.std.specs.Prelude.{Some, None}
use Rattle.report.specs.Report.{ahead, report_of}

-- An example: line round 4,294,967,295 and marker round 1: ahead 2. Ahead 2^31 − 1 is taken, 2^31 gives 11. Same round and same
-- counter: taken, missing 0; counter one higher: 11.
pub examples :
    (ahead 1 4294967295 ≡ 2)
    × (report_of 1000 1 800 (marker_of 0 2147483648 800) ≡ Some 2147483647000)
    × (report_of 1000 1 800 (marker_of 0 2147483649 800) ≡ None)
    × (report_of 1000 7 800 (marker_of 0 7 800) ≡ Some 0)
    × (report_of 1000 7 800 (marker_of 0 7 801) ≡ None)
unfolding ahead report_of
examples = (refl, refl, refl, refl, refl)
