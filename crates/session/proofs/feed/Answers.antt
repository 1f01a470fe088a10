-- `session::feed` meets its contract: what is left of the piece, fed from here, makes the whole answer. Assumes nothing.
use Rattle.std.proofs.Common.{List, arith, drop, get_or, length, refl, sym, ℕ, ◌+◌, ◌-◌, ◌∙◌, ◌≡◌}
use native.Mathlib.Nat.{sub-zero}
use lib.Seq.{sets}
use Rattle.session.specs.Session.{Fed, byte_of, feed_of}
use Rattle.session.proofs.Feeding.{byte_ended, byte_line, byte_kept, Left, left_all, turn, line_ended, feed_done, feed_full, left_none}
use Rattle.session.proofs.feed.Goals as goal
use Rattle.session.proofs.feed.Goals.{Else-out-wrote-lt-MOST_TEXT}

-- a byte is used, and its text is stored
onward :
    (c : Else-out-wrote-lt-MOST_TEXT) →
    let bytes = c.args.bytes.now in
    let out₀ = c.args.out.now in
    (f : Fed) (after : List ℕ) (to : ℕ) → byte_of c.loop-used.session (get_or bytes c.loop-used.used 0) ≡ f
    → after ≡ sets c.loop-used.out c.loop-used.wrote f.text → to ≡ c.loop-used.wrote + length f.text
    → Left (feed_of c.args.s bytes (length out₀)) out₀ after (c.loop-used.used + 1) to (feed_of f.session (drop (c.loop-used.used + 1) bytes) (length out₀ - to))
onward c f after to e stored place =
    turn (feed_of c.args.s c.args.bytes.now (length c.args.out.now)) c.args.out.now c.loop-used.out c.args.bytes.now c.loop-used.used c.loop-used.wrote
    c.loop-used.session c.loop-used-test.true (omega (arith, c.if-out-wrote-lt-MOST_TEXT.false)) f after to e stored place c.loop-used.invariant.1

pub loop-used-init : goal.loop-used-init
loop-used-init c = (omega arith, rw sub-zero (left_all _ _))

pub loop-used-preserved-then-has_ended : goal.loop-used-preserved-then-has_ended
loop-used-preserved-then-has_ended c =
    (c.loop-used.invariant.0, onward (goal.at.loop-used-preserved-then-has_ended c).Else-out-wrote-lt-MOST_TEXT _ c.loop-used.out c.loop-used.wrote (byte_ended c.loop-used.session _ (sym c.if-has_ended.ensures)) refl (omega arith))

pub loop-used-preserved-then-b-ne10 : goal.loop-used-preserved-then-b-ne10
loop-used-preserved-then-b-ne10 c =
    let s = c.loop-used.session in
    let going = sym c.if-has_ended.ensures in
    rw c.keep_byte.ensures (c.loop-used.invariant.0, onward (goal.at.loop-used-preserved-then-b-ne10 c).Else-out-wrote-lt-MOST_TEXT _ c.loop-used.out c.loop-used.wrote (byte_kept s _ going c.if-b-ne10.true) refl (omega arith))

pub loop-used-preserved : goal.loop-used-preserved
loop-used-preserved c =
    let s = c.loop-used.session in
    let going = sym c.if-has_ended.ensures in
    let q = c.end_line-step.ensures in
    (omega (arith, q.1, q.3, c.if-out-wrote-lt-MOST_TEXT.false), onward (goal.at.loop-used-preserved c).Else-out-wrote-lt-MOST_TEXT _ _ _ (byte_line s _ going c.if-b-ne10.false ∙ line_ended s _ q.0) q.2 q.1)

pub returns : goal.returns
returns c =
    let bytes = c.args.bytes.now in
    let out₀ = c.args.out.now in
    let q = left_none (feed_of c.args.s bytes (length out₀)) out₀ c.loop-used.out c.loop-used.used c.loop-used.wrote c.loop-used.session (omega arith) c.loop-used.invariant.0
    (rw (feed_done c.loop-used.session bytes c.loop-used.used (length out₀ - c.loop-used.wrote) c.loop-used-test.false) at c.loop-used.invariant.1) in
    (q.0, omega (arith, q.1), q.2, q.3)

pub returns-then-out-wrote-lt-MOST_TEXT : goal.returns-then-out-wrote-lt-MOST_TEXT
returns-then-out-wrote-lt-MOST_TEXT c =
    let bytes = c.args.bytes.now in
    let out₀ = c.args.out.now in
    left_none (feed_of c.args.s bytes (length out₀)) out₀ c.loop-used.out c.loop-used.used c.loop-used.wrote c.loop-used.session (omega arith) c.loop-used.invariant.0
    (rw (feed_full c.loop-used.session bytes c.loop-used.used (length out₀ - c.loop-used.wrote) c.loop-used-test.true (omega (arith, c.if-out-wrote-lt-MOST_TEXT.true))) at c.loop-used.invariant.1)
