use Rattle.std.proofs.Common.{arith}
use Rattle.cls_repo.proofs.TemplateTexts.{bad_hole_within, hole_zero_within, hole_over_within}
use Rattle.cls_repo.proofs.declaration.template_fault.Goals as goal

pub overflow_add-result : goal.overflow_add-result
overflow_add-result c = let within = bad_hole_within c.args.text.now c.args.fault c.in-BadHole.byte c.in-BadHole.is c.requires.fault in let few = c.requires.few in omega (arith, within, few)

pub overflow_add-result-in-HoleZero : goal.overflow_add-result-in-HoleZero
overflow_add-result-in-HoleZero c = let within = hole_zero_within c.args.text.now c.args.fault c.in-HoleZero.byte c.in-HoleZero.is c.requires.fault in let few = c.requires.few in omega (arith, within, few)

pub overflow_add-result-in-HoleOver16 : goal.overflow_add-result-in-HoleOver16
overflow_add-result-in-HoleOver16 c = let within = hole_over_within c.args.text.now c.args.fault c.in-HoleOver16.byte c.in-HoleOver16.is c.requires.fault in let few = c.requires.few in omega (arith, within, few)
