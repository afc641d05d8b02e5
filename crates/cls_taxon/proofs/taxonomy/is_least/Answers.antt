use Rattle.std.proofs.Common.{ℕ, ◌≤◌, [], length, sym, subst, ◌∙◌, inl, inr}
use Rattle.std.proofs.lemmas.Bool.{ltb-true, ltb-false}
use Rattle.std.proofs.lemmas.List.{get_or_default}
use Rattle.cls_taxon.specs.Closures.{spans_at}
use Rattle.cls_taxon.specs.Spans.{HaveOne}
use Rattle.cls_taxon.proofs.taxonomy.is_least.Goals as goal

pub returns-in-Some : goal.returns-in-Some
returns-in-Some c = λ t.
    let below = c.args.below.now in
    let within = ltb-true _ _ (sym c.in-Some.ensures.lookup.0) in
    let at = c.in-Some.ensures.lookup.1 ∙ get_or_default below c.place.result c.in-Some.spans.now [] within in
    let one : HaveOne (spans_at below c.place.result) = subst (λ x. HaveOne x) at (c.is_one.ensures t) in
    inr (subst (λ (j : ℕ). HaveOne (spans_at below j)) c.place.ensures one)

pub returns-in-None : goal.returns-in-None
returns-in-None c = λ t.
    let beyond : length c.args.below.now ≤ c.place.result = ltb-false _ _ (sym c.in-None.ensures.lookup.0) in
    inl (subst (λ (j : ℕ). length c.args.below.now ≤ j) c.place.ensures beyond)
