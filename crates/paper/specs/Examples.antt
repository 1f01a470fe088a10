-- The specification's examples, gathered: what an answer is, by its number in the table and its values.
use Rattle.std.specs.Prelude.{ℕ, List, [], ◌∷◌, ◌++◌, ◌≡◌, get_or, replicate}
use Rattle.numbers.specs.Coding.{yields, reading_of, coded}
use Rattle.plan.specs.declared.Plan.{Plan}
use Rattle.marker.specs.declared.Marker.{Marker}
use Rattle.marker.specs.Marker.{marker_of}
use Rattle.report.specs.Report.{report_number, report_values, ahead, report_of}
use Rattle.plan.specs.Plan.{at}
use Rattle.sending.specs.declared.Sender.{Sender}
use Rattle.sending.specs.Sender.{Sent, sent_values, open_sender, send_of, line_marker, sender_of}
use Rattle.bundle.specs.Events.{Event, each}
use Rattle.bundle.specs.Events as event
use Rattle.bundle.specs.Worlds.{World, Call, arrives, calls, events, handed_in}
use Rattle.paper.specs.Session.{numbered, some_takes, opened, first_five, lossy}
use Rattle.numbers.specs.Refusals.{number_of}

-- a row of the table: the number that a send gives, its line and whether markers are due (1 or 0), and round and counter before it on its line
abbrev pub row_of : Sender → Sent → List ℕ
row_of s answer = let line = get_or (sent_values answer) 0 0 in number_of answer ∷ sent_values answer ++ (at s.rounds line ∷ at s.counters line ∷ [])

abbrev pub rows : Sender → List ℕ → List (List ℕ)
rows s [] = []
rows s (size ∷ sizes) = row_of s (send_of s size).answer ∷ rows (send_of s size).next sizes

-- the line and the bytes missing that each marker reports
abbrev pub told_by : Event → List (List ℕ)
told_by (event.sent i x due) = []
told_by (event.marked i b) = []
told_by (event.stored i x) = []
told_by (event.turned_away i x k) = []
told_by (event.lost i x) = []
told_by event.nothing = []
told_by (event.handed i b) = []
told_by (event.missing i m) = (i ∷ m ∷ []) ∷ []
told_by (event.behind i) = []
told_by (event.waiting i) = []
told_by (event.refused k) = []

abbrev pub told_in : World → List Call → List (List ℕ)
told_in w h = each told_by (events w h)

-- one line of quantum 500, and another: line and counter after a first send
abbrev pub equal : Plan
equal = record { lines = 2; max = 500; interval = 1; quanta = 500 ∷ 500 ∷ replicate 14 0 }

abbrev pub line_and_counter : ℕ → List ℕ
line_and_counter size = let s = (send_of (sender_of (open_sender equal)) size).next in s.line ∷ at s.counters 0 ∷ []

-- what a marker tells a line of quantum 1000 at a round and a counter: the number, and the bytes missing
abbrev pub told : ℕ → ℕ → Marker → List ℕ
told round counter m = let t = report_of 1000 round counter m in report_number t ∷ report_values t

pub record Examples : Type 0 where
  -- the eight choices
  pub choices :
      rows opened.sender (400 ∷ 500 ∷ 300 ∷ 450 ∷ 200 ∷ 500 ∷ 500 ∷ 100 ∷ [])
      ≡ (0 ∷ 0 ∷ 0 ∷ 1 ∷ 1000 ∷ [])
      ∷ (0 ∷ 0 ∷ 0 ∷ 1 ∷ 600 ∷ [])
      ∷ (0 ∷ 0 ∷ 0 ∷ 1 ∷ 100 ∷ [])
      ∷ (0 ∷ 1 ∷ 0 ∷ 1 ∷ 500 ∷ [])
      ∷ (0 ∷ 1 ∷ 1 ∷ 1 ∷ 50 ∷ [])
      ∷ (0 ∷ 0 ∷ 0 ∷ 2 ∷ 800 ∷ [])
      ∷ (0 ∷ 0 ∷ 0 ∷ 2 ∷ 300 ∷ [])
      ∷ (0 ∷ 1 ∷ 0 ∷ 2 ∷ 350 ∷ [])
      ∷ []
  -- markers after packet 5
  pub markers :
      (line_marker (calls opened (first_five (arrives 0) (arrives 1))).sender 0 ≡ 0x00 ∷ 0x02 ∷ 0xA0 ∷ 0x06 ∷ [])
      × (line_marker (calls opened (first_five (arrives 0) (arrives 1))).sender 1 ≡ 0x01 ∷ 0x02 ∷ 0xDE ∷ 0x02 ∷ [])
  -- packet 2 lost: handed out are 1, 3, 4, 5, 6, 7, 8; line 0's marker reports 500 missing, line 1's 0
  pub packet_lost :
      (handed_in opened (lossy ++ some_takes 5)
      ≡ numbered 1 400 ∷ numbered 3 300 ∷ numbered 4 450 ∷ numbered 5 200 ∷ numbered 6 500 ∷ numbered 7 500 ∷ numbered 8 100 ∷ [])
      × (told_in opened (lossy ++ some_takes 5) ≡ (0 ∷ 500 ∷ []) ∷ (1 ∷ 0 ∷ []) ∷ [])
  -- 127 is 7F; 128 is 80 01; 80 00 is refused
  pub one_byte_and_two :
      (coded 32 127 ≡ 0x7F ∷ []) × (coded 32 128 ≡ 0x80 ∷ 0x01 ∷ []) × (yields (reading_of 32 (0x80 ∷ 0x00 ∷ [])) ≡ [])
  -- FF FF FF FF 0F is 4,294,967,295; FF FF FF FF 10 is refused
  pub largest_number :
      (yields (reading_of 32 (0xFF ∷ 0xFF ∷ 0xFF ∷ 0xFF ∷ 0x0F ∷ [])) ≡ 4294967295 ∷ 5 ∷ [])
      × (yields (reading_of 32 (0xFF ∷ 0xFF ∷ 0xFF ∷ 0xFF ∷ 0x10 ∷ [])) ≡ [])
  -- counter 500, length 500, q 500: moves on, counter 500; length 499: stays, counter 1
  pub moves_on : (line_and_counter 500 ≡ 1 ∷ 500 ∷ []) × (line_and_counter 499 ≡ 0 ∷ 1 ∷ [])
  -- line round 4,294,967,295, marker round 1: ahead 2
  pub wraps : ahead 1 4294967295 ≡ 2
  -- ahead 2^31 − 1 is taken; 2^31 gives 11
  pub half_way :
      (told 1 800 (marker_of 0 2147483648 800) ≡ 0 ∷ 2147483647000 ∷ []) × (told 1 800 (marker_of 0 2147483649 800) ≡ 11 ∷ 0 ∷ [])
  -- same round, same counter: taken, missing 0; same round, counter one higher: 11
  pub same_round : (told 7 800 (marker_of 0 7 800) ≡ 0 ∷ 0 ∷ []) × (told 7 800 (marker_of 0 7 801) ≡ 11 ∷ 0 ∷ [])
