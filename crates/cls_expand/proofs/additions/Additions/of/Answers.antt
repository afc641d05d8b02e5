use Rattle.std.proofs.Common.{ap, ◌∙◌, ℕ, List, slice_index_or}
use Rattle.cls_core.specs.Arguments.{map_answer}
use Rattle.cls_core.specs.Closure.{goals_of}
use Rattle.cls_expand.specs.Memos.{newcomers}
use Rattle.cls_core.proofs.Insertion.{numbers-kept}
use Rattle.cls_expand.proofs.additions.Additions.of.Goals as goal

pub returns-clause-answers : goal.returns-clause-answers
returns-clause-answers g c =
    let eq = g.G.PartialEq.eq in
    let gs = c.args.goals.now.keys in
    c.in_ok-answers.ensures
    ∙ ap (λ (ns : List ℕ). newcomers eq (λ a. map_answer (λ i. slice_index_or ns i 0) a) gs c.args.rows.now) (c.as_slice.ensures.value ∙ (c.in_ok-numbers.ensures.numbers ∙ numbers-kept eq g.met.G.Eq.laws.refl gs (goals_of c.args.rows.now)))
