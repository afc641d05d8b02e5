use Rattle.std.proofs.Common.{sym, subst, ℕ}
use Rattle.std.specs.Prelude.{Contains}
use Rattle.cls_core.specs.declared.answer.Answer.{Answer}
use Rattle.cls_core.specs.Arguments.{arguments_of}
use Rattle.cls_grammar.proofs.numbering.Numbering.add_answer.Goals as goal

pub add_all-requires : goal.add_all-requires
add_all-requires c = λ n h.
    c.requires n (subst (λ (a : Answer ℕ). Contains (arguments_of a) n) (sym c.in-Some.ensures.rules) (subst (λ l. Contains l n) c.arguments.ensures h))
