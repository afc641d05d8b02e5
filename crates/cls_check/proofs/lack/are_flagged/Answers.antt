use Rattle.std.proofs.Common.{ℕ, get_or, IsTrue, length, sym, ◌∙◌, arith}
use Rattle.cls_base.proofs.Lists.{AreBelow-at}
use Rattle.cls_check.specs.Layers.{flag}
use Rattle.cls_check.proofs.Loops.{not-false, is-true, differs}
use Rattle.cls_check.proofs.Sets.{each_number, number_at}
use Rattle.cls_check.proofs.lack.are_flagged.Goals as goal

pub bounds-flags-number : goal.bounds-flags-number
bounds-flags-number c = AreBelow-at (length c.args.flags.now) c.args.numbers.now c.loop-number.number-index c.requires c.loop-number-test.true

pub returns-then-not-flags-number : goal.returns-then-not-flags-number
returns-then-not-flags-number c = (
  (λ t. absurd (not-false t)),
  (λ h. absurd (differs (sym c.if-not-flags-number.true ∙ h (get_or c.args.numbers.now c.loop-number.number-index 0) (number_at c.args.numbers.now c.loop-number.number-index c.loop-number-test.true)))),
)

pub returns : goal.returns
returns c = (
  (λ t. each_number (λ (i : ℕ). IsTrue (flag c.args.flags.now i)) c.args.numbers.now (λ k l. c.loop-number.invariant k (omega arith))),
  (λ h. is-true),
)
