use Rattle.std.proofs.Common.{ℕ, ◌≡◌, ◌<◌, ◌≤◌, [], ◌∷◌, ◌++◌, length, inl, inr, refl, sym, ap, subst}
use Rattle.std.specs.Prelude.{◌⊎◌}
use Rattle.cls_base.specs.declared.rule.Rule.{Rule}
use Rattle.cls_base.specs.Columns.{rule_of}
use Rattle.cls_enum.specs.Members.{IsIn}
use Rattle.cls_walk.specs.Counts.{HeadRule, heads_of}
use Rattle.cls_walk.specs.Orders.{InOrder}
use Rattle.cls_walk.proofs.OrderSteps.{ends-head}
use Rattle.cls_walk.proofs.order.behind.Goals as goal

pub returns-else-component-last-2 : goal.returns-else-component-last-2
returns-else-component-last-2 c = λ hs e.
    let m = length c.in-Head.args.now in
    let y = c.in-Head.component in
    let P : Rule ℕ → Type 0 = λ r. InOrder (hs ++ heads_of (r ∷ [])) × ((h : HeadRule) → IsIn (hs ++ heads_of (r ∷ [])) h → (h.0 < y) ⊎ ((h.0 ≡ y) × (length h.1 ≤ m))) in
    let x = c.args.last.component in
    let k = c.args.last.arguments in
    subst P (sym (ap rule_of c.in-Head.is)) (ends-head x k y m c.in-Head.args.now hs refl c.if-component-last.false
    (λ p. elim c.else-component-last-2.either [ inl z ↦ z.1 | inr z ↦ absurd (z p) ])
    e.0 e.1)
