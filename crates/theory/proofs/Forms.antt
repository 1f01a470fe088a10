-- The two forms of sending agree, and say alike when markers are due.
-- Assumes nothing.
use Prim.Native.Nat.{ℕ, zero, suc, ◌+◌, ◌%◌, ◌≤◌, ◌<◌}
use mathlib.Core.Bool.{◌&&◌, cond}
use mathlib.Core.Path.{◌≡◌, sym}
use native.Mathlib.Nat.{zero-div, zero-mod}
use native.Mathlib.Decide.{ℕ_discrete}
use native.Mathlib.Omega.{arith}
use borrow.Author.Tests.{eq-eqb, ne_eqb}
use lib.Dec.{eqb}
use Rattle.theory.specs.Sending.{Plan, choose, charged, carried, ends, ended, due_after, round_at, counter_at}
use Rattle.theory.specs.FirstForm.{Figures, change, completes, first_send, first_due, first_after}
use Rattle.theory.specs.Demands.{Sound, Shows, Opens, FormsAgree, DuesAgree}
use Rattle.theory.proofs.Counting.{round_after_lem, counter_after_lem, countdown_after, due_after_lem}
use Rattle.theory.proofs.Share.{Sent, charged_here, charged_elsewhere, fit_fewer, some_quantum, at_choose, at_start, sent_after}

-- one packet, from figures that show the positions v
module _ (p : Plan) (sound : Sound p) {s : Figures} {v : ℕ → ℕ} {k length : ℕ} (shows : Shows p s v k) (sent : Sent p v k (choose p v) length) where
  abbrev a : ℕ
  a = choose p v

  some : 1 ≤ p.quantum a
  some = some_quantum p sound a sent.is_line

  counter_is : s.counter a ≡ counter_at (p.quantum a) (v a)
  counter_is = shows.counter a sent.is_line

  completes_is : completes p s length ≡ ends p v length
  completes_is = rw (shows.line, counter_is) (sym sent.complete)

  -- a figure of each line, changed at the line that the packet goes to
  changed : (now : ℕ → ℕ) (figure : ℕ → ℕ → ℕ) → ((i : ℕ) → i < p.lines → now i ≡ figure (p.quantum i) (v i))
      → (y : ℕ) → y ≡ figure (p.quantum a) (v a + p.charge a length)
      → (i : ℕ) → i < p.lines → change now s.line y i ≡ figure (p.quantum i) (charged p v length i)
  changed now figure was y e i l = go (ℕ_discrete a i)
    where
      go : Dec (a ≡ i) → change now s.line y i ≡ figure (p.quantum i) (charged p v length i)
      go (yes d) = rw (shows.line, eq-eqb a i d, ← d, charged_here p v length) e
      go (no d) = rw (shows.line, ne_eqb a i d, charged_elsewhere p v length i d) (was i l)

  send_shows : Shows p (first_send p s length) (charged p v length) (k + cond (ends p v length) 1 0)
  unfolding first_send
  send_shows = record {
    line = rw (shows.line, counter_is) (sym sent.line);
    countdown = rw (completes_is, shows.countdown) (countdown_after p.interval k sound.some_round (ends p v length));
    round =
        changed s.round round_at shows.round _
        (rw (shows.line, counter_is, shows.round a sent.is_line) (round_after_lem (p.quantum a) (v a) (p.charge a length) some sent.in_quantum));
    counter =
        changed s.counter counter_at shows.counter _
        (rw (shows.line, counter_is) (counter_after_lem (p.quantum a) (v a) (p.charge a length) some sent.in_quantum));
  }

  send_due : first_due p s length ≡ (ends p v length && eqb ((k + cond (ends p v length) 1 0) % p.interval) 0)
  send_due = rw (completes_is, shows.countdown) (due_after_lem p.interval k sound.some_round (ends p v length))

pub opens : (p : Plan) → Sound p → Opens p
opens p sound = record {
  line = sym (at_choose p sound (at_start p sound));
  countdown = omega (arith, zero-mod p.interval);
  round = λ i l. rw (zero-div (p.quantum i));
  counter = λ i l. omega (arith, zero-mod (p.quantum i));
}

pub forms_agree : (p : Plan) → Sound p → FormsAgree p
unfolding carried ended first_after
forms_agree p sound s start lengths zero fit = start
forms_agree p sound s start lengths (suc n) fit =
    send_shows p sound (forms_agree p sound s start lengths n (fit_fewer p lengths n fit)) (sent_after p sound lengths n fit)

pub dues_agree : (p : Plan) → Sound p → DuesAgree p
unfolding due_after ended
dues_agree p sound s start lengths n fit =
    send_due p sound (forms_agree p sound s start lengths n (fit_fewer p lengths n fit)) (sent_after p sound lengths n fit)
