-- `text::digits` meets its contract: the digits of what is left of the number, in front of those that stand, are the whole. Assumes nothing.
use Rattle.std.proofs.Common.{drop, length, ◌++◌, ◌+◌, ◌<◌, ◌^◌, ◌≡◌, ◌≤◌}
use Rattle.text.specs.Text.{all_digits, decimal}
use Rattle.text.specs.Printing.{spaced}
use Rattle.text.proofs.digits.Given as goal

abbrev pub invariant-loop-left : goal.invariant-loop-left
invariant-loop-left l =
    (0 < l.from) × (l.from ≤ all_digits) × (length l.bytes ≡ all_digits + 1) × (l.left < 2 ^ 64) × (l.left < 10 ^ l.from) × (decimal l.left ++ drop l.from l.bytes ≡ spaced l.n)

abbrev pub decreases-loop-left : goal.decreases-loop-left
decreases-loop-left l = l.left
