use Rattle.std.proofs.Common.{ℕ, List, ◌++◌, map, sym, ap, ◌∙◌, append-nil, append_assoc}
use Rattle.std.proofs.lemmas.List.{map-append}
use Rattle.cls_base.specs.declared.taxa.Variance.{Variance}
use Rattle.cls_base.specs.declared.ty.Name.{Name}
use Rattle.cls_base.specs.Taxonomies as taxonomies
use Rattle.cls_taxon.specs.Variances.{declared_of, entry_of}
use Rattle.cls_repo.proofs.VarianceEntries.{named_once}
use Rattle.cls_repo.proofs.repository.variances.Goals as goal

pub returns-clause-distinct : goal.returns-clause-distinct
returns-clause-distinct c =
    let made = map declared_of c.loop-name.variances.items in
    let all = sym (append-nil made) ∙ (ap (λ (es : List (ℕ × Variance)). made ++ map entry_of es) (sym c.in-None.ensures.steps.0) ∙ c.loop-name.invariant) in
    named_once c.args.draft.now.variances.entries c.loop-name.variances.items all c.len.ensures.unique

pub loop-name-preserved : goal.loop-name-preserved
loop-name-preserved c =
    let made = map declared_of c.loop-name.variances.items in
    let rest = map entry_of c.next.new.self in
    ap (λ (vs : List (Name × Variance)). map declared_of vs ++ rest) c.in_ok-push.ensures.items
    ∙ ap (λ (vs : List (ℕ × taxonomies.Variance)). vs ++ rest) (map-append declared_of c.loop-name.variances.items _)
    ∙ append_assoc made _ rest
    ∙ ap (λ (es : List (ℕ × Variance)). made ++ map entry_of es) (sym c.in-Some.ensures.steps)
    ∙ c.loop-name.invariant
