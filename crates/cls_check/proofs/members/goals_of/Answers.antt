use Rattle.std.proofs.Common.{◌≡◌, ◌+◌, ◌∷◌, ◌++◌, inl, inr, take, subst, sym, ap, ◌∙◌, ◌↔◌, arith, List, []}
use Rattle.std.proofs.lemmas.List.{take_all}
use Rattle.std.specs.Prelude.{Contains}
use Rattle.std.proofs.lemmas.List.Elements.{Contains-push, Contains-push_cases, Contains-append_left}
use Rattle.cls_path.specs.Paths.{TypePath}
use Rattle.cls_check.proofs.Loops.{take-one}
use Rattle.cls_check.proofs.members.goals_of.Goals as goal

pub loop-form-preserved : goal.loop-form-preserved
loop-form-preserved c = λ g.
    let forms = c.args.forms.now in
    let k = c.loop-form.form-index in
    let f = c.in_ok-copy.field-0 in
    let e : f ≡ c.form-item.result = c.in_ok-copy.ensures in
    let longer : take (k + 1) forms ≡ take k forms ++ f ∷ [] = take-one forms k c.form-item.result c.form-item.is c.loop-form-test.true ∙ ap (λ (x : List TypePath). take k forms ++ x ∷ []) (sym e) in
    let put = c.in_ok-put.ensures g in
    let h = c.loop-form.invariant g in (
      (λ m. subst (λ (q : List (List TypePath)). Contains q g) (sym longer) (elim (put.0 m) [ inl a ↦ Contains-append_left (take k forms) (f ∷ []) g (h.0 a) | inr b ↦ subst (λ (x : List TypePath). Contains (take k forms ++ f ∷ []) x) (sym b) (Contains-push (take k forms) f) ])),
      (λ m. put.1 (elim (Contains-push_cases (take k forms) f g (subst (λ (q : List (List TypePath)). Contains q g) longer m)) [ inl a ↦ inl (h.1 a) | inr b ↦ inr (sym b) ])),
    )

pub returns : goal.returns
returns c = λ g. subst (λ (q : List (List TypePath)). Contains c.loop-form.goals g ↔ Contains q g) (take_all c.loop-form.form-index c.args.forms.now (omega arith)) (c.loop-form.invariant g)
