-- internal: types with variables as std's trees of numbers, by which a model tells its values apart
use Rattle.std.specs.Prelude.{zero, suc, ◌≡◌, refl}
use Rattle.std.proofs.Common.{sym, ap, ◌∙◌}
use base.Stored.{Gv, gnil, gnum, gcons, num, Coded}
use Rattle.cls_base.specs.Schemas.{OpenType, omega, constructor, product, arrow, meet, variable}

abbrev pub code_schema : OpenType → Gv
code_schema omega = gnil
code_schema (constructor c s) = gcons (gnum 0) (gcons (gnum c) (code_schema s))
code_schema (product s t) = gcons (gnum 1) (gcons (code_schema s) (code_schema t))
code_schema (arrow s t) = gcons (gnum 2) (gcons (code_schema s) (code_schema t))
code_schema (meet s t) = gcons (gnum 3) (gcons (code_schema s) (code_schema t))
code_schema (variable v) = gcons (gnum 4) (gnum v)

-- Back from the code. Numerals are no patterns here, so they are counted down.
abbrev pub schema_from : Gv → OpenType
schema_from (gcons (gnum zero) (gcons c g)) = constructor (num c) (schema_from g)
schema_from (gcons (gnum (suc zero)) (gcons g h)) = product (schema_from g) (schema_from h)
schema_from (gcons (gnum (suc (suc zero))) (gcons g h)) = arrow (schema_from g) (schema_from h)
schema_from (gcons (gnum (suc (suc (suc zero)))) (gcons g h)) = meet (schema_from g) (schema_from h)
schema_from (gcons (gnum (suc (suc (suc (suc k))))) g) = variable (num g)
schema_from _ = omega

pub schema_from-code_schema : (t : OpenType) → schema_from (code_schema t) ≡ t
schema_from-code_schema omega = refl
schema_from-code_schema (constructor c s) = ap (constructor c) (schema_from-code_schema s)
schema_from-code_schema (product s t) = λ i. product (schema_from-code_schema s i) (schema_from-code_schema t i)
schema_from-code_schema (arrow s t) = λ i. arrow (schema_from-code_schema s i) (schema_from-code_schema t i)
schema_from-code_schema (meet s t) = λ i. meet (schema_from-code_schema s i) (schema_from-code_schema t i)
schema_from-code_schema (variable v) = refl

abbrev pub coded_schema : Coded OpenType
coded_schema = record {
  code = code_schema;
  inj = λ s t e. sym (schema_from-code_schema s) ∙ ap schema_from e ∙ schema_from-code_schema t;
}
