use Rattle.std.proofs.Common.{arith}
use Rattle.cls_walk.proofs.FrameRules.{put-made, put-none}
use Rattle.cls_walk.proofs.rules.put_made.Goals as goal

pub returns-then-place-len-clause-made : goal.returns-then-place-len-clause-made
returns-then-place-len-clause-made c = λ l w. put-none l c.args.left c.args.makes.now.items c.args.made (let a = c.if-place-len.true in let b = c.len.ensures in omega (arith, a, b)) w

pub returns-clause-made : goal.returns-clause-made
returns-clause-made c = λ l w.
    put-made l c.args.left c.args.makes.now.items c.index_mut.result.now c.push.new.self c.args.made (let a = c.if-place-len.false in let b = c.len.ensures in omega (arith, a, b)) c.index_mut.ensures.value c.in_ok-push.ensures.items
