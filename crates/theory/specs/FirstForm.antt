-- The first form of sending: a current line, a countdown, and for each line a round, kept modulo 2^32, and a counter.
use Rattle.std.specs.Prelude.{ℕ, zero, suc, ◌+◌, ◌-◌, ◌%◌, Bool, ◌&&◌, cond, ltb, leb, eqb}
use Rattle.numbers.specs.Wrap.{wrap}
use Rattle.theory.specs.Sending.{Plan}

pub record Figures : Type 0 where
  pub line : ℕ
  pub countdown : ℕ
  pub round : ℕ → ℕ
  pub counter : ℕ → ℕ

-- f, but y at a
abbrev pub change : (ℕ → ℕ) → ℕ → ℕ → ℕ → ℕ
change f a y i = cond (eqb a i) y (f i)

-- the current line's counter falls by the charge; it is then zero or less
abbrev pub runs_out : Plan → Figures → ℕ → Bool
runs_out p s length = leb (s.counter s.line) (p.charge s.line length)

-- and line 0 is next: the round is complete
abbrev pub completes : Plan → Figures → ℕ → Bool
completes p s length = runs_out p s length && eqb (suc s.line) p.lines

-- a counter that runs out rises by the quantum, its line's round by one, and the next line becomes current, after the last line 0;
-- at a complete round the countdown falls, and restarts where it was 1
unfoldable pub first_send : Plan → Figures → ℕ → Figures
first_send p s length = record {
  line = cond (runs_out p s length) (cond (ltb (suc s.line) p.lines) (suc s.line) 0) s.line;
  countdown = cond (completes p s length) (cond (eqb s.countdown 1) p.interval (s.countdown - 1)) s.countdown;
  round = change s.round s.line (cond (runs_out p s length) ((s.round s.line + 1) % wrap) (s.round s.line));
  counter =
      change s.counter s.line
      (cond (runs_out p s length) (s.counter s.line + p.quantum s.line - p.charge s.line length) (s.counter s.line - p.charge s.line length));
}

abbrev pub first_due : Plan → Figures → ℕ → Bool
first_due p s length = completes p s length && eqb s.countdown 1

-- after the first n packets, from s
unfoldable pub first_after : Plan → Figures → (ℕ → ℕ) → ℕ → Figures
first_after p s lengths zero = s
first_after p s lengths (suc n) = first_send p (first_after p s lengths n) (lengths n)

abbrev pub first_open : Plan → Figures
first_open p = record { line = 0; countdown = p.interval; round = λ i. 1; counter = p.quantum }
