use Rattle.cls_live.proofs.Updating.{puts_none, puts_one, puts_wide}
use Rattle.cls_live.proofs.updates.put_part.Goals as goal

pub returns-in_default : goal.returns-in_default
returns-in_default c =
    puts_wide c.args.live.now c.args.numbers.now c.args.next c.args.end c.args.number c.args.answer.now c.args.parts.now.items c.in_default.ensures.wide

pub returns-then-end-next : goal.returns-then-end-next
returns-then-end-next c =
    puts_none c.args.live.now c.args.numbers.now c.args.next c.args.end c.args.number c.args.answer.now c.in-Some.rules.now c.args.parts.now.items
    c.in-Some.ensures.rules c.if-end-next.true

pub returns : goal.returns
returns c =
    puts_one c.args.live.now c.args.numbers.now c.args.next c.args.end c.args.number c.args.answer.now c.in-Some.rules.now c.in_ok-rules.rules
    c.args.parts.now.items c.push.new.self.items c.in-Some.ensures.rules c.in_ok-rules.ensures c.in_ok-push.ensures.items
