-- The current line and the current round, by rounds kept modulo 2^32: they are those of the choice, while all rounds lie within 2^31 of one.
-- Assumes nothing.
use Prim.Native.Nat.{ℕ, ◌+◌, ◌-◌, ◌%◌, ◌≤◌, ◌<◌}
use mathlib.Core.Logic.{dite}
use mathlib.Core.Path.{◌≡◌, ap, sym, ◌∙◌}
use native.Mathlib.Decide.{dec_lt}
use native.Mathlib.Omega.{arith}
use borrow.Author.Tests.{eq-eqb}
use lib.Dec.{eqb}
use Rattle.numbers.proofs.Checks.{never}
use Rattle.theory.specs.Sending.{Plan, rounds, best, choose, round_at}
use Rattle.theory.proofs.Choose.{Wins, Beats, best_wins, choose_wins, only_one_wins}
use Rattle.report.specs.Report.{ahead}
use Rattle.numbers.specs.Wrap.{wrap, half}
use Rattle.receiving.specs.Receiver.{line_at}
use Rattle.receiving.specs.Taking.{round_now}
use Rattle.receiving.proofs.Laws.{First, first_is, at_round}
use Rattle.receiving.proofs.Taking.{still_at, moved_on_lem}
use Rattle.bundle.proofs.Figures.{ahead_rounds}

-- stored rounds of rounds less than 2^31 apart are equal only where the rounds are
same_stored : (a b : ℕ) → a ≤ b → b < a + half → b % wrap ≡ a % wrap → a ≡ b
same_stored a b le near e = omega arith

module _ (p : Plan) (some : 1 ≤ p.lines) where
  -- the round of the choice, as it is stored
  abbrev pub now : (ℕ → ℕ) → ℕ
  now v = round_at (p.quantum (choose p v)) (v (choose p v))

  -- the lines' stored rounds show positions
  abbrev pub Stored : (ℕ → ℕ) → (ℕ → ℕ) → Type 0
  Stored kept v = (i : ℕ) → i < p.lines → kept i ≡ round_at (p.quantum i) (v i)

  abbrev pub Within : (ℕ → ℕ) → ℕ → Type 0
  Within v r = (i : ℕ) → i < p.lines → (r ≤ rounds p v i) × (rounds p v i < r + half)

  pub line_is : (v : ℕ → ℕ) (kept : ℕ → ℕ) (round : ℕ) → Stored kept v → round ≡ now v → Within v (rounds p v (choose p v))
      → line_at p.lines kept round ≡ choose p v
  unfolding line_at
  line_is v kept round stored e within = dite (dec_lt line a) early (λ h. dite (dec_lt a line) late (λ l. omega arith))
    where
      a : ℕ
      a = choose p v

      line : ℕ
      line = line_at p.lines kept round

      wins : Wins (rounds p v) p.lines a
      wins = choose_wins p some v

      first : First (λ i. eqb (kept i) round) p.lines 0 line
      first = first_is (λ i. eqb (kept i) round) p.lines 0

      -- the choice is at the round, so that none behind it is found,
      late : a < line → line ≡ a
      late h = absurd (never (sym (eq-eqb (kept a) round (stored a wins.is_below ∙ sym e)) ∙ first.none a (omega arith) h))

      -- and what is found has the choice's round, so that it is not before it
      early : line < a → line ≡ a
      early h =
          let below : line < p.lines = omega (arith, wins.is_below) in
          let near = within line below in
          let here : kept line ≡ round = at_round p.lines kept round below in
          let same = same_stored (rounds p v a) (rounds p v line) near.0 near.1 (sym (stored line below) ∙ here ∙ e) in
          let tie : a ≤ line = (wins.beats line below).tie (omega (arith, same)) in
          omega arith

  -- from positions v to w: the round that was current, if some line is still there, else the nearest
  pub round_is : (v w : ℕ → ℕ) (kept : ℕ → ℕ) (round : ℕ) → Stored kept w → round ≡ now v → Within w (rounds p v (choose p v))
      → round_now p.lines kept round ≡ now w
  round_is v w kept round stored e within = dite (dec_lt line p.lines) stays moves
    where
      line : ℕ
      line = line_at p.lines kept round

      was : ℕ
      was = rounds p v (choose p v)

      wins : Wins (rounds p w) p.lines (choose p w)
      wins = choose_wins p some w

      stays : line < p.lines → round_now p.lines kept round ≡ now w
      stays h =
          let near = within line h in
          let here : kept line ≡ round = at_round p.lines kept round h in
          let same : was ≡ rounds p w line = same_stored was (rounds p w line) near.0 near.1 (sym (stored line h) ∙ here ∙ e) in
          let lowest : was ≡ rounds p w (choose p w) = omega (arith, same, (wins.beats line h).low, (within (choose p w) wins.is_below).0) in
          sym (still_at p.lines kept round h) ∙ e ∙ ap (λ (n : ℕ). n % wrap) lowest

      key : ℕ → ℕ
      key i = ahead (kept i) round

      key_is : (i : ℕ) → i < p.lines → key i ≡ rounds p w i - was
      key_is i h =
          let near = within i h in
          rw (stored i h, e) (ahead_rounds (rounds p w i) was near.0 (omega (arith, near.1)))

      nearest : best key p.lines ≡ choose p w
      nearest =
          only_one_wins key p.lines _ _ (best_wins key p.lines some) (record { is_below = wins.is_below; beats = beats })
        where
          beats : (j : ℕ) → j < p.lines → Beats key (choose p w) j
          beats j h =
              let b = wins.beats j h in
              let here = key_is (choose p w) wins.is_below in
              let there = key_is j h in
              record {
                low = omega (arith, b.low, here, there);
                tie = λ l. b.tie (omega (arith, here, there, (within j h).0, (within (choose p w) wins.is_below).0));
              }

      moves : (line < p.lines → ⊥) → round_now p.lines kept round ≡ now w
      moves h = sym (moved_on_lem p.lines kept round (omega arith)) ∙ ap kept nearest ∙ stored (choose p w) wins.is_below
