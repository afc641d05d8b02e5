use Rattle.std.proofs.Common.{◌≡◌, ℕ, List, length, map, sym, ap, ◌∙◌, subst}
use Rattle.std.specs.List.{concat}
use Rattle.cls_base.specs.Cuts.{cut, AreEnds}
use Rattle.cls_base.proofs.Refilling.{concat-cut, cut-map, cut-lengths}
use Rattle.cls_base.proofs.number_lists.NumberLists.with_numbers.Goals as goal

pub invariant_of-result : goal.invariant_of-result
invariant_of-result c =
    let ns = c.self.inside.numbers.items in
    let es = c.self.inside.ends.items in
    let p : c.in_ok-ends.ends.items ≡ es = c.in_ok-ends.ensures.items ∙ c.as_slice.ensures.value in
    let q : length ns ≡ length c.args.numbers.items = ap length (sym (concat-cut ns es c.self.invariant) ∙ ap concat c.self.view_is) ∙ sym c.requires in
    let h : AreEnds 0 (length c.args.numbers.items) es = subst (λ (n : ℕ). AreEnds 0 n es) q c.self.invariant in
    subst (AreEnds 0 (length c.args.numbers.items)) (sym p) h

pub returns-clause-lengths : goal.returns-clause-lengths
returns-clause-lengths c =
    let ns = c.self.inside.numbers.items in
    let es = c.self.inside.ends.items in
    let p : c.in_ok-ends.ends.items ≡ es = c.in_ok-ends.ensures.items ∙ c.as_slice.ensures.value in
    let q : length c.args.numbers.items ≡ length ns = c.requires ∙ ap length (ap concat (sym c.self.view_is) ∙ concat-cut ns es c.self.invariant) in
    let r = cut-lengths c.args.numbers.items ns 0 es q ∙ ap (map length) c.self.view_is in
    ap (λ (ends : List ℕ). map length (cut c.args.numbers.items 0 ends)) p ∙ r

pub returns-clause-mapped : goal.returns-clause-mapped
returns-clause-mapped c f e =
    let ns = c.self.inside.numbers.items in
    let es = c.self.inside.ends.items in
    let p : c.in_ok-ends.ends.items ≡ es = c.in_ok-ends.ensures.items ∙ c.as_slice.ensures.value in
    let n : concat c.args.self.now ≡ ns = ap concat (sym c.self.view_is) ∙ concat-cut ns es c.self.invariant in
    let m : c.args.numbers.items ≡ map f ns = e ∙ ap (map f) n in
    (λ i. cut (m i) 0 (p i)) ∙ (cut-map f ns 0 es ∙ ap (map (map f)) c.self.view_is)
