use Rattle.std.proofs.Common.{◌≡◌, ℕ, List, [], ◌∷◌, ◌++◌, ap, ◌∙◌}
use Rattle.cls_base.specs.Types.{ClosedType}
use Rattle.cls_kind.specs.Kinds.{kind_of}
use Rattle.cls_kind.proofs.KindLaws.{insert-new, kinds-more}
use Rattle.cls_kind.proofs.kinds.Kinds.add.Goals as goal

pub invariant_of-self-2 : goal.invariant_of-self-2
invariant_of-self-2 c =
    let old = c.self.inside.by_variable.entries in
    let none : kind_of old c.args.variable.0 ≡ [] = ap (λ (x : List (ℕ × List ClosedType)). kind_of x c.args.variable.0) c.self.view_is ∙ c.requires.has_none in
    rw (c.in_ok-insert.ensures.entries, insert-new old c.args.variable.0 c.args.choices c.self.invariant none) (kinds-more old c.args.variable.0 c.args.choices c.self.invariant c.requires.nonempty)

pub returns-clause-added : goal.returns-clause-added
returns-clause-added c =
    let old = c.self.inside.by_variable.entries in
    let none : kind_of old c.args.variable.0 ≡ [] = ap (λ (x : List (ℕ × List ClosedType)). kind_of x c.args.variable.0) c.self.view_is ∙ c.requires.has_none in
    c.in_ok-insert.ensures.entries ∙ insert-new old c.args.variable.0 c.args.choices c.self.invariant none ∙ ap (λ (x : List (ℕ × List ClosedType)). x ++ (c.args.variable.0, c.args.choices) ∷ []) c.self.view_is
