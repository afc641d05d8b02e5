use Rattle.cls_filtered.proofs.Keeping.{numbers-none, numbers-more, numbers-all, numbers-few}
use Rattle.cls_filtered.proofs.kept.numbers_of.Goals as goal

pub loop-flag-init : goal.loop-flag-init
loop-flag-init c = numbers-none c.args.flags.now c.in_ok-numbers.numbers.items c.in_ok-numbers.ensures.items

pub loop-flag-preserved : goal.loop-flag-preserved
loop-flag-preserved c =
    numbers-more c.args.flags.now c.loop-flag.flag-index c.loop-flag.numbers.items c.push.new.self.items c.loop-flag.next c.in_ok-next.next c.loop-flag.invariant c.loop-flag-test.true c.in_ok-push.ensures.items c.in_ok-next.ensures.number c.in_ok-next.ensures.few

pub returns-clause-numbers : goal.returns-clause-numbers
returns-clause-numbers c =
    numbers-all c.args.flags.now c.loop-flag.flag-index c.loop-flag.numbers.items c.loop-flag.next c.loop-flag.invariant c.loop-flag-test.false

pub returns-clause-few : goal.returns-clause-few
returns-clause-few c =
    numbers-few c.args.flags.now c.loop-flag.flag-index c.loop-flag.numbers.items c.loop-flag.next c.loop-flag.invariant c.loop-flag-test.false
