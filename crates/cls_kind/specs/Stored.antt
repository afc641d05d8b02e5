-- internal: closed types as std's trees of numbers, by which a model tells its values apart
use Rattle.std.specs.Prelude.{zero, suc, ◌≡◌, refl}
use Rattle.std.proofs.Common.{sym, ap, ◌∙◌}
use base.Stored.{Gv, gnil, gnum, gcons, num, Coded}
use Rattle.cls_base.specs.Types.{ClosedType, omega, constructor, product, arrow, meet}

abbrev pub code_type : ClosedType → Gv
code_type omega = gnil
code_type (constructor c s) = gcons (gnum 0) (gcons (gnum c) (code_type s))
code_type (product s t) = gcons (gnum 1) (gcons (code_type s) (code_type t))
code_type (arrow s t) = gcons (gnum 2) (gcons (code_type s) (code_type t))
code_type (meet s t) = gcons (gnum 3) (gcons (code_type s) (code_type t))

-- Back from the code. Numerals are no patterns here, so they are counted down.
abbrev pub type_from : Gv → ClosedType
type_from (gcons (gnum zero) (gcons c g)) = constructor (num c) (type_from g)
type_from (gcons (gnum (suc zero)) (gcons g h)) = product (type_from g) (type_from h)
type_from (gcons (gnum (suc (suc zero))) (gcons g h)) = arrow (type_from g) (type_from h)
type_from (gcons (gnum (suc (suc (suc k)))) (gcons g h)) = meet (type_from g) (type_from h)
type_from _ = omega

pub type_from-code_type : (t : ClosedType) → type_from (code_type t) ≡ t
type_from-code_type omega = refl
type_from-code_type (constructor c s) = ap (constructor c) (type_from-code_type s)
type_from-code_type (product s t) = λ i. product (type_from-code_type s i) (type_from-code_type t i)
type_from-code_type (arrow s t) = λ i. arrow (type_from-code_type s i) (type_from-code_type t i)
type_from-code_type (meet s t) = λ i. meet (type_from-code_type s i) (type_from-code_type t i)

abbrev pub coded_type : Coded ClosedType
coded_type = record { code = code_type; inj = λ s t e. sym (type_from-code_type s) ∙ ap type_from e ∙ type_from-code_type t }
