use Rattle.std.proofs.Common.{arith}
use Rattle.cls_base.specs.Ty.{type_of}
use Rattle.cls_lexer.specs.Names.{number_of}
use Rattle.cls_syntax.specs.SpelledTypes.{type_text}
use Rattle.cls_proof.proofs.Meanings.{too_wide, narrow_enough, goal_is}
use Rattle.cls_proof.proofs.reading.goal.Goals as goal

pub returns-then-spread-gt-MAX_TYPE_SPREAD-clause-spelled :
    goal.returns-then-spread-gt-MAX_TYPE_SPREAD-clause-spelled
returns-then-spread-gt-MAX_TYPE_SPREAD-clause-spelled c = λ number t g.
    too_wide (number_of c.ty.new.constructors) number (type_text c.args.text.now) (type_of c.in_ok-goal.goal) t c.in_ok-goal.ensures.ty
    (omega (arith, c.spread.ensures, c.if-spread-gt-MAX_TYPE_SPREAD.true)) g

pub returns-clause-spelled : goal.returns-clause-spelled
returns-clause-spelled c = λ later.
    goal_is c.ty.new.constructors later (type_text c.args.text.now) (type_of c.in_ok-goal.goal) c.in_ok-goal.ensures.held c.in_ok-goal.ensures.ty
    (c.is_small.ensures.0 c.if-not-is_small.false)
    (narrow_enough (type_of c.in_ok-goal.goal) (omega (arith, c.spread.ensures, c.if-spread-gt-MAX_TYPE_SPREAD.false)))
