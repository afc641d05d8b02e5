use Rattle.std.proofs.Common.{ℕ, List, ◌≡◌, ◌∙◌, ◌++◌, ◌∷◌, [], length, map, reverse, refl, ap, sym, subst, arith}
use Rattle.cls_cover.specs.Sets.{members}
use Rattle.cls_cover.proofs.Grouping.{append_none}
use Rattle.cls_cover.proofs.SetOrder.{taken_last}
use Rattle.cls_cover.proofs.small.from_greatest.Goals as goal

pub loop-set-init : goal.loop-set-init
loop-set-init c = ap (λ (l : List (List ℕ)). l ++ map members (reverse c.args.sets.items)) c.new-lists.ensures

pub loop-set-preserved : goal.loop-set-preserved
loop-set-preserved c =
    let e : c.deref.result.now ≡ members c.in-Some.set = c.deref.ensures.value ∙ (c.in_ok-put_members.ensures ∙ ap (λ (s : List ℕ). s ++ members c.in-Some.set) c.clear.ensures.items) in
    ap (λ (l : List (List ℕ)). l ++ map members (reverse c.pop.new.self.items)) (c.in_ok-push.ensures.ok ∙ ap (λ (s : List ℕ). c.loop-set.lists ++ s ∷ []) e)
    ∙ taken_last c.loop-set.lists _ c.loop-set.sets.items c.pop.new.self.items c.in-Some.set c.in-Some.ensures.items c.loop-set.invariant

pub returns : goal.returns
returns c =
    let z : length c.loop-set.sets.items ≡ 0 = omega (arith, c.in_default.ensures.cases.0) in
    let e : c.loop-set.sets.items ≡ [] = nothing c.loop-set.sets.items z in
    sym (append_none c.loop-set.lists)
    ∙ subst (λ (l : List ℕ). c.loop-set.lists ++ map members (reverse l) ≡ map members (reverse c.args.sets.items)) e c.loop-set.invariant
  where
    nothing : (xs : List ℕ) → length xs ≡ 0 → xs ≡ []
    nothing [] e = refl
    nothing (x ∷ xs) e = absurd (omega arith)
