-- A closed type among the types that may have variables is that type.
use Rattle.std.proofs.Common.{◌≡◌, ℕ, List, refl, ap, sym, ◌∙◌}
use Rattle.cls_base.specs.Types as types
use Rattle.cls_base.specs.Types.{ClosedType}
use Rattle.cls_syntax.specs.ClosedTypes.{opened, closed, Spells}
use Rattle.cls_syntax.specs.TypeTexts.{TypeText}

pub closed-opened : (t : ClosedType) → closed (opened t) ≡ t
closed-opened types.omega = refl
closed-opened (types.constructor c s) = ap (types.constructor c) (closed-opened s)
closed-opened (types.product s t) = λ i. types.product (closed-opened s i) (closed-opened t i)
closed-opened (types.arrow s t) = λ i. types.arrow (closed-opened s i) (closed-opened t i)
closed-opened (types.meet s t) = λ i. types.meet (closed-opened s i) (closed-opened t i)

-- a text spells one type
pub spelled-once : (number : List ℕ → ℕ) (t : TypeText) (a b : ClosedType) → Spells number t a → Spells number t b → a ≡ b
spelled-once number t a b p q = sym (closed-opened a) ∙ (ap closed (p (λ x. 0) ∙ sym (q (λ x. 0))) ∙ closed-opened b)
