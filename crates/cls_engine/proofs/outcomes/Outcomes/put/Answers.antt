use Rattle.std.proofs.Common.{◌≡◌, ◌⊎◌, ◌++◌, ◌∷◌, [], Bool, true, false, List, inl, inr, sym, ap, subst, ◌∙◌}
use Rattle.std.specs.Prelude.{Contains, if◌then◌else◌}
use Rattle.std.specs.Result.{is_ok}
use Rattle.std.proofs.lemmas.List.Elements.{Contains-push_cases}
use Rattle.cls_engine.specs.declared.outcomes.Decided.{Decided}
use Rattle.cls_engine.proofs.outcomes.Outcomes.put.Goals as goal

-- one of the outcomes, once one more is put last if there is memory for it
put-cases : (b : Bool) (xs ys : List Decided) (y d : Decided) → ys ≡ (if b then xs ++ y ∷ [] else xs) → Contains ys d → Contains xs d ⊎ (d ≡ y)
put-cases true xs ys y d e h = elim (Contains-push_cases xs y d (subst (λ (zs : List Decided). Contains zs d) e h)) [ inl a ↦ inl a | inr s ↦ inr (sym s) ]
put-cases false xs ys y d e h = inl (subst (λ (zs : List Decided). Contains zs d) e h)

pub returns : goal.returns
returns c = λ d has.
    let y : Decided = record { goal = c.in-Ok.copy; outcome = c.args.outcome } in
    elim (put-cases (is_ok c.push.result) c.make_room.new.self.kept.items c.push.new.self.items y d c.push.ensures.items has) [
      | inl a ↦ inl (c.forget_goal.ensures d (c.make_room.ensures d a))
      | inr e ↦ inr (ap (λ (x : Decided). x.goal) e ∙ c.in-Ok.ensures, ap (λ (x : Decided). x.outcome) e)
    ]
