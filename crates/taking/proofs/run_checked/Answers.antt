-- `taking::run_checked` meets its contract: what is left of the run, done from here, is the whole of it. Assumes nothing.
use Rattle.std.proofs.Common.{ap, arith, false, length, suc, sym, true, Ok, ℕ, ◌+◌, ◌-◌, ◌<◌, ◌∙◌, ◌≡◌}
use Rattle.receiving.specs.Takes.{RunEnd}
use Rattle.receiving.specs.declared.Ended.TheVariants.{Full}
use Rattle.receiving.specs.Takes.{Run, takes_from, takes_of, goes_on}
use Rattle.receiving.proofs.Runs.{run_of, run_full, back_length, word_small, bytes_inside, next_valid, next_fits, stops, goes}
use Rattle.taking.proofs.Words.{logged}
use Rattle.taking.proofs.run_checked.Goals as goal
use Rattle.taking.proofs.run_checked.Goals.{Start}

-- the run from its start is all of it
whole_run : (c : Start) → takes_from (length c.args.log.now) c.args.store.now c.args.r 0 0 c.args.out.now c.args.log.now
    ≡ takes_of c.args.r c.args.store.now c.args.out.now c.args.log.now
whole_run c = run_of c.args.r c.args.store.now c.args.out.now c.args.log.now c.requires.0 c.requires.1

one_left : (n i : ℕ) → i < n → n - i ≡ suc (n - (i + 1))
one_left n i h = omega arith

pub returns-then-not-goes_on : goal.returns-then-not-goes_on
returns-then-not-goes_on c =
    let v = c.loop-taken in
    let n = length c.args.log.now in
    let left = one_left n v.taken (omega arith) in
    let no : goes_on c.take_checked-t.result.answer ≡ false = sym c.goes_on.ensures ∙ c.if-not-goes_on.true in
    let s = stops c.args.store.now v.state v.taken v.bytes v.out v.log v.invariant.within _ _ c.take_checked-t.ensures.0 c.take_checked-t.ensures.1 (n - (v.taken + 1)) no in
    let whole = s.0 ∙ ap (λ (k : ℕ). takes_from k c.args.store.now v.state v.taken v.bytes v.out v.log) (sym left) ∙ v.invariant.left ∙ whole_run (goal.at.returns-then-not-goes_on c).Start in (
      ap (λ (e : RunEnd). record { ended = e; taken = v.taken; bytes = v.bytes; next = v.state }) c.end_of.ensures
          ∙ ap (λ (x : Run). x.result) whole,
      s.1 ∙ ap (λ (x : Run). x.out) whole,
      ap (λ (x : Run). x.log) whole,
    )

pub loop-taken-preserved : goal.loop-taken-preserved
loop-taken-preserved c =
    let v = c.loop-taken in
    let n = length c.args.log.now in
    let left = one_left n v.taken (omega arith) in
    let on : goes_on c.take_checked-t.result.answer ≡ true = sym c.goes_on.ensures ∙ c.if-not-goes_on.false in
    let b = c.bytes_of-bytes.ensures in
    let fits = word_small c.args.store.now v.state v.taken v.bytes v.out v.log v.invariant.within _ _ c.take_checked-t.ensures.0 c.take_checked-t.ensures.1 in
    let w = c.word_of.ensures ∙ logged c.take_checked-t.result.answer on fits in
    let size = back_length c.args.store.now v.state v.taken v.bytes v.out v.log v.invariant.within _ _ c.take_checked-t.ensures.0 c.take_checked-t.ensures.1 in
    record {
      valid = next_valid c.args.store.now v.state v.taken v.bytes v.out v.log v.invariant.within _ _ c.take_checked-t.ensures.0 c.take_checked-t.ensures.1 v.invariant.valid;
      fits = next_fits c.args.store.now v.state v.taken v.bytes v.out v.log v.invariant.within _ _ c.take_checked-t.ensures.0 c.take_checked-t.ensures.1 v.invariant.fits;
      within = omega (arith, b, size, bytes_inside c.args.store.now v.state v.taken v.bytes v.out v.log v.invariant.within _ _ c.take_checked-t.ensures.0 c.take_checked-t.ensures.1);
      left = goes c.args.store.now v.state v.taken v.bytes v.out v.log v.invariant.within _ _ c.take_checked-t.ensures.0 c.take_checked-t.ensures.1 (n - (v.taken + 1)) on _ b _ w
          ∙ ap (λ (k : ℕ). takes_from k c.args.store.now v.state v.taken v.bytes v.out v.log) (sym left)
          ∙ v.invariant.left;
    }

pub returns : goal.returns
returns c =
    let v = c.loop-taken in
    let n = length c.args.log.now in
    let none : n - v.taken ≡ 0 = omega arith in
    let whole = run_full c.args.store.now v.state v.taken v.bytes v.out v.log _ none ∙ v.invariant.left ∙ whole_run (goal.at.returns c).Start in (
      ap (λ (k : ℕ). record { ended = Ok Full; taken = k; bytes = v.bytes; next = v.state }) (omega arith)
          ∙ ap (λ (x : Run). x.result) whole,
      ap (λ (x : Run). x.out) whole,
      ap (λ (x : Run). x.log) whole,
    )
