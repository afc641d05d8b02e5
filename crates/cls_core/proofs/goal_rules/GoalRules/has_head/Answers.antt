use Rattle.std.proofs.Common.{◌≡◌, ◌≤◌, ◌<◌, ◌+◌, ◌-◌, ◌∙◌, ℕ, List, Some, Contains, false, true, refl, sym, ap, arith, length, length-drop, drop, get_or, slice_get}
use Rattle.std.proofs.lemmas.List.{get_or-drop}
use Rattle.std.proofs.lemmas.Option.{slice_get_within, slice_get-get_or, get_or_from_slice_get}
use Rattle.cls_base.specs.declared.rule.Rule.TheVariants.{Head}
use Rattle.cls_core.proofs.goal_rules.GoalRules.has_head.Goals as goal

-- what stands behind a front stands in the rest
in_rest : {A : Type 0} (xs : List A) (n i : ℕ) (x : A) → n ≤ i → slice_get xs i ≡ Some x → Contains (drop n xs) x
in_rest xs n i x h e =
    let l = slice_get_within xs i x e in
    let at : n + (i - n) ≡ i = omega arith in
    (i - n, omega (arith, length-drop n xs), get_or-drop n xs (i - n) x ∙ (ap (λ (k : ℕ). get_or xs k x) at ∙ get_or_from_slice_get xs i x x e))

from_rest : {A : Type 0} (xs : List A) (n : ℕ) (x : A) → Contains (drop n xs) x → (i : ℕ) × (n ≤ i) × (i < length xs) × (slice_get xs i ≡ Some x)
from_rest xs n x c =
    let h = c.1 in
    let l : n + c.0 < length xs = omega (arith, length-drop n xs) in
    (n + c.0, omega arith, l, slice_get-get_or xs (n + c.0) x l ∙ ap Some (sym (get_or-drop n xs c.0 x) ∙ c.2))

pub returns-then-is_head : goal.returns-then-is_head
returns-then-is_head g c =
    ((λ t. in_rest c.args.self.now c.args.begin c.loop-place.place (Head c.args.component c.args.args.now) c.loop-place.auto.place (c.is_head.ensures.0 c.if-is_head.true)), (λ m. refl))

pub returns : goal.returns
returns g c =
    ((λ t. absurd (let e : false ≡ true = t in cc)), (λ m. let r = from_rest c.args.self.now c.args.begin (Head c.args.component c.args.args.now) m in absurd (c.loop-place.invariant r.0 r.1 (omega (arith, r.2, c.loop-place-test.false, c.len-place-end.ensures)) r.3)))
