-- Nothing lost: what is handed out is a beginning of the packets sent, and once nothing is under way, as many takes as items held hand out the rest.
-- Assumes nothing.
use Prim.Native.Nat.{ℕ, zero, suc, ◌≤◌, ◌<◌}
use mathlib.Core.Bool.{true, false}
use mathlib.Core.List.{List, [], ◌∷◌, ◌++◌, map, append-nil, map-append}
use mathlib.Core.Path.{◌≡◌, refl, sym, ap, ◌∙◌, subst}
use native.Mathlib.Nat.{le_refl}
use native.Mathlib.Decide.{dec_le}
use native.Mathlib.Omega.{arith}
use borrow.Author.Tests.{le-leb, lt-leb}
use lib.Dec.{leb}
use lib.ListN as listN
use lib.ListN.{length}
use lib.Seq.{take-suc, take-length}
use Rattle.theory.specs.Sending.{Plan, carried, line_of}
use Rattle.theory.specs.Demands.{Sound}
use Rattle.theory.specs.System.{Item, State, at_opening, Step, take, step, run, sent_by, packets, nth, Out, outs}
use Rattle.theory.specs.Words.{total, NoneBehind, NoPacketIn, sieve, stored_below, takes}
use Rattle.theory.specs.FarEnd.{after, handed_bytes, NothingLost, InOrder, AllOut}
use Rattle.theory.proofs.Choose.{choose_wins}
use Rattle.theory.proofs.Carried.{one, sum_one}
use Rattle.theory.proofs.Invariant.{next, past_none, LineOk}
use Rattle.theory.proofs.Histories.{Agree, Good, good_run, good_open, run_append, sent_are, own, good_after}
use Rattle.theory.proofs.Sieve.{sieve_same, sieve_none}
use Rattle.theory.proofs.Drain.{none_total, Whole, whole_run, empty}
use Rattle.theory.proofs.Order.{label, ahead, come, follow, all, from_all}

-- ---- what is to come at the opening

-- the packets numbered below n, in order, are the list's first n
firsts : (ps : List (List ℕ)) (n : ℕ) → n ≤ length ps → map (nth ps) (sieve (λ (k : ℕ). true) n) ≡ listN.take n ps
firsts ps zero h = refl
firsts ps (suc n) h =
    map-append (nth ps) (sieve (λ (k : ℕ). true) n) (n ∷ [])
    ∙ ap (λ (w : List (List ℕ)). w ++ (nth ps n ∷ [])) (firsts ps n (omega arith)) ∙ sym (take-suc ps n [] h)

bytes_label : (p : Plan) (bytes : ℕ → List ℕ) (xs : List ℕ) → handed_bytes (map (label p bytes) xs) ≡ map bytes xs
bytes_label p bytes [] = refl
bytes_label p bytes (x ∷ xs) = ap (λ (w : List (List ℕ)). bytes x ∷ w) (bytes_label p bytes xs)

all_ahead : (p : Plan) (ps : List (List ℕ)) → handed_bytes (come p (nth ps) all at_opening (length ps)) ≡ ps
all_ahead p ps =
    bytes_label p (nth ps) (sieve (ahead p (nth ps) all at_opening) (length ps))
    ∙ ap (map (nth ps)) (sieve_same (ahead p (nth ps) all at_opening) (λ (k : ℕ). true) (length ps) (λ k l. le-leb 0 k (omega arith)))
    ∙ firsts ps (length ps) (le_refl _) ∙ take-length ps

-- ---- nothing lost

abbrev to_come_after : Plan → List Step → List Out
to_come_after p h = come p (nth (packets h)) all (after p h) (length (packets h))

-- every line, opened, has yielded a marker labelled 0, behind which no packet is lost
whole_follow : (p : Plan) → 1 ≤ p.lines → (h : List Step) → NothingLost p (after p h)
    → handed_bytes (outs p at_opening h) ++ handed_bytes (to_come_after p h) ≡ packets h
whole_follow p some h lossless =
    let bytes : ℕ → List ℕ = nth (packets h) in
    let bytes_of : Out → List ℕ = λ o. o.bytes in
    sym (map-append bytes_of (outs p at_opening h) (to_come_after p h))
    ∙ ap (λ (w : List Out). handed_bytes (w ++ to_come_after p h)) (sym (from_all p bytes (outs p at_opening h)))
    ∙ ap (map bytes_of)
    (follow p bytes all some (λ i. 0) h at_opening (length (packets h)) (good_open p bytes) (own p h) (λ i b f. refl)
    (λ i b f. subst (λ (w : List Item). NoneBehind 0 w) (sym (lossless i b)) tt) (omega (arith, sent_are p h)))
    ∙ all_ahead p (packets h)

pub in_order : (p : Plan) → Sound p → InOrder p
in_order p sound h lossless = (handed_bytes (to_come_after p h), whole_follow p sound.some_line h lossless)

-- ---- and nothing under way

packets_takes : (h : List Step) (n : ℕ) → packets (h ++ takes n) ≡ packets h
packets_takes [] zero = refl
packets_takes [] (suc n) = packets_takes [] n
packets_takes (e ∷ h) n = ap (λ (w : List (List ℕ)). sent_by e ++ w) (packets_takes h n)

agree_takes : (p : Plan) (bytes : ℕ → List ℕ) (n : ℕ) (s : State) → Agree p bytes s (takes n)
agree_takes p bytes zero s = tt
agree_takes p bytes (suc n) s = (tt, agree_takes p bytes n (step p s take))

-- with no packet queued either, none is to come
none_ahead : (p : Plan) (bytes : ℕ → List ℕ) → 1 ≤ p.lines → (s : State) → Good p bytes s
    → ((i : ℕ) → i < p.lines → Whole (s.line i)) → ((i : ℕ) → i < p.lines → NoPacketIn (s.line i).store)
    → (k : ℕ) → k < s.sent → ahead p bytes all s k ≡ false
none_ahead p bytes some s good whole none k h = go (dec_le (next (s.line i).taken) k)
  where
    i : ℕ
    i = line_of p (λ n. length (bytes n)) k

    is_line : i < p.lines
    is_line = (choose_wins p some (carried p (λ n. length (bytes n)) k)).is_below

    o : LineOk p bytes s.sent i (s.line i)
    o = good.each i

    go : Dec (next (s.line i).taken ≤ k) → leb (next (s.line i).taken) k ≡ false
    go (yes to_come_lem) =
        absurd
        (omega (
          arith,
          o.conserved (one k),
          sum_one p bytes s.sent k h,
          past_none p bytes (next (s.line i).taken) k to_come_lem (s.line i).taken o.past,
          ap (total (one k)) (whole i is_line).lossless,
          none_total (one k) (s.line i).road (whole i is_line).arrives,
          none_total (one k) (s.line i).store (none i is_line),
        ))
    go (no passed) = lt-leb (next (s.line i).taken) k (omega arith)

-- n takes, where no more than n items are held
module _ (p : Plan) (some : 1 ≤ p.lines) (h : List Step) (n : ℕ) (enough : stored_below (after p h).line p.lines ≤ n)
    (whole : (i : ℕ) → i < p.lines → Whole ((after p h).line i)) where
  abbrev steps : List Step
  steps = h ++ takes n

  abbrev bytes : ℕ → List ℕ
  bytes = nth (packets steps)

  abbrev end : State
  end = run p (after p h) (takes n)

  at_end : after p steps ≡ end
  at_end = run_append p h (takes n) at_opening

  good : Good p bytes (after p h)
  good = subst (λ (ps : List (List ℕ)). Good p (nth ps) (after p h)) (sym (packets_takes h n)) (good_after p h)

  whole_end : (i : ℕ) → i < p.lines → Whole (end.line i)
  whole_end = whole_run p n (after p h) whole

  none_comes : to_come_after p steps ≡ []
  none_comes =
      ap (map (label p bytes))
      (sieve_none (ahead p bytes all (after p steps)) (length (packets steps))
      (λ k l. ap (λ (s : State). ahead p bytes all s k) at_end
      ∙ none_ahead p bytes some end (good_run p bytes (takes n) (after p h) good (agree_takes p bytes n (after p h))) whole_end
      (empty p bytes some (after p h) good whole n enough) k (omega (arith, ap (λ (s : State). s.sent) at_end, sent_are p steps))))

  all_out_at : handed_bytes (outs p at_opening steps) ≡ packets h
  all_out_at =
      sym (append-nil _) ∙ sym (ap (λ (w : List Out). handed_bytes (outs p at_opening steps) ++ handed_bytes w) none_comes)
      ∙ whole_follow p some steps (λ i l. ap (λ (s : State). (s.line i).lost) at_end ∙ (whole_end i l).lossless) ∙ packets_takes h n

pub all_out : (p : Plan) → Sound p → AllOut p
all_out p sound h lossless arrived =
    all_out_at p sound.some_line h (stored_below (after p h).line p.lines) (le_refl _)
    (λ i l. record { lossless = lossless i l; arrives = arrived i l })
