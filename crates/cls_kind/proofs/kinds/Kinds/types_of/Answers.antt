use Rattle.std.proofs.Common.{ℕ, List, ap, ◌∙◌}
use Rattle.cls_base.specs.Types.{ClosedType}
use Rattle.cls_kind.specs.Kinds.{kind_of}
use Rattle.cls_kind.proofs.KindLaws.{found_kind, lookup-kind}
use Rattle.cls_kind.proofs.kinds.Kinds.types_of.Goals as goal

pub returns-in-Some-clause-kind : goal.returns-in-Some-clause-kind
returns-in-Some-clause-kind c =
    c.as_slice.ensures ∙ ap found_kind c.in-Some.ensures.value ∙ lookup-kind c.self.inside.by_variable.entries c.args.variable
    ∙ ap (λ (x : List (ℕ × List ClosedType)). kind_of x c.args.variable) c.self.view_is

pub returns-in-None-clause-kind : goal.returns-in-None-clause-kind
returns-in-None-clause-kind c =
    ap found_kind c.in-None.ensures.value ∙ lookup-kind c.self.inside.by_variable.entries c.args.variable
    ∙ ap (λ (x : List (ℕ × List ClosedType)). kind_of x c.args.variable) c.self.view_is
