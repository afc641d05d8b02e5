use Rattle.std.proofs.Common.{◌≡◌, ◌+◌, ◌≤◌, ◌∷◌, ◌++◌, [], List, inl, inr, take, get_or, sym, subst, arith}
use Rattle.std.specs.Prelude.{Contains}
use Rattle.std.proofs.lemmas.List.{take_all, take_more}
use Rattle.std.proofs.lemmas.List.Elements.{Contains-push_cases}
use Rattle.cls_base.proofs.Lists.{Contains-nil}
use Rattle.cls_library.specs.declared.ending.Ending.{Ending}
use Rattle.cls_library.specs.declared.ending.Head.TheVariants.{Covariant}
use Rattle.cls_library.proofs.column.have_all.Goals as goal

pub loop-kind-init : goal.loop-kind-init
loop-kind-init c = λ e h. absurd (Contains-nil e h)

pub loop-kind-preserved : goal.loop-kind-preserved
loop-kind-preserved c = λ e h.
    let items = c.args.kinds.now in
    let i = c.loop-kind.kind-index in
    let none : Ending = record { arrows = 0; head = Covariant (record { 0 = 0 }) } in
    let k : Ending = get_or items i none in
    let grown : take (i + 1) items ≡ take i items ++ k ∷ [] = take_more items i none c.loop-kind-test.true in
    elim (Contains-push_cases (take i items) k e (subst (λ (l : List Ending). Contains l e) grown h)) [
      | inl m ↦ c.loop-kind.invariant e m
      | inr m ↦ subst (λ (x : Ending). c.args.count ≤ x.arrows) m (let t = c.if-kind-count.false in omega arith)
    ]

pub returns : goal.returns
returns c = λ t e h. c.loop-kind.invariant e (subst (λ (l : List Ending). Contains l e) (sym (take_all c.loop-kind.kind-index c.args.kinds.now c.loop-kind-test.false)) h)
