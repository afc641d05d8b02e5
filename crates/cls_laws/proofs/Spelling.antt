-- A text that spells a type by some numbers of constructors spells one by any others.
use Rattle.std.proofs.Common.{◌≡◌, ℕ, List, refl, subst}
use Rattle.cls_base.specs.Types as types
use Rattle.cls_base.specs.Types.{ClosedType}
use Rattle.cls_base.specs.Schemas as schema
use Rattle.cls_base.specs.Schemas.{OpenType}
use Rattle.cls_syntax.specs.ClosedTypes.{opened, HasNoDollar, Spells}
use Rattle.cls_syntax.specs.TypeSchemas.{type_schema, meet_schema, product_schema, atom_schema}
use Rattle.cls_syntax.specs.TypeTexts.{TypeText, MeetText, ProductText, AtomText, only_meet, arrow, only_product, meet, only_atom, product, named, applied, variable, inside, type_words}
use Rattle.cls_syntax.specs.TypeTexts as grammar
use Rattle.cls_laws.proofs.Variables.{HasNoVariable, no_variable}

opened_closed : (t : ClosedType) → HasNoVariable (opened t)
opened_closed types.omega = tt
opened_closed (types.constructor c s) = opened_closed s
opened_closed (types.product s t) = (opened_closed s, opened_closed t)
opened_closed (types.arrow s t) = (opened_closed s, opened_closed t)
opened_closed (types.meet s t) = (opened_closed s, opened_closed t)

-- the type that a text spells, if no variable is in it
module _ (number : List ℕ → ℕ) where
  abbrev mutual
    type_in : TypeText → ClosedType
    type_in (only_meet m) = meet_in m
    type_in (arrow m t) = types.arrow (meet_in m) (type_in t)

    meet_in : MeetText → ClosedType
    meet_in (only_product p) = product_in p
    meet_in (meet m p) = types.meet (meet_in m) (product_in p)

    product_in : ProductText → ClosedType
    product_in (only_atom a) = atom_in a
    product_in (product p a) = types.product (product_in p) (atom_in a)

    atom_in : AtomText → ClosedType
    atom_in grammar.omega = types.omega
    atom_in (named x) = types.constructor (number x) types.omega
    atom_in (applied x t) = types.constructor (number x) (type_in t)
    atom_in (variable x) = types.omega
    atom_in (inside t) = type_in t

  module _ (other v w : List ℕ → ℕ) where
    mutual
      type_spelled : (t : TypeText) → HasNoVariable (type_schema other v t) → opened (type_in t) ≡ type_schema number w t
      type_spelled (only_meet m) h = meet_spelled m h
      type_spelled (arrow m t) h = λ i. schema.arrow (meet_spelled m h.0 i) (type_spelled t h.1 i)

      meet_spelled : (m : MeetText) → HasNoVariable (meet_schema other v m) → opened (meet_in m) ≡ meet_schema number w m
      meet_spelled (only_product p) h = product_spelled p h
      meet_spelled (meet m p) h = λ i. schema.meet (meet_spelled m h.0 i) (product_spelled p h.1 i)

      product_spelled : (p : ProductText) → HasNoVariable (product_schema other v p) → opened (product_in p) ≡ product_schema number w p
      product_spelled (only_atom a) h = atom_spelled a h
      product_spelled (product p a) h = λ i. schema.product (product_spelled p h.0 i) (atom_spelled a h.1 i)

      atom_spelled : (a : AtomText) → HasNoVariable (atom_schema other v a) → opened (atom_in a) ≡ atom_schema number w a
      atom_spelled grammar.omega h = refl
      atom_spelled (named x) h = refl
      atom_spelled (applied x t) h = λ i. schema.constructor (number x) (type_spelled t h i)
      atom_spelled (variable x) h = absurd h
      atom_spelled (inside t) h = type_spelled t h

pub spelled_again : (other number : List ℕ → ℕ) (text : TypeText) (t : ClosedType) → Spells other text t → (s : ClosedType) × Spells number text s
spelled_again other number text t h =
    let v : List ℕ → ℕ = λ x. 0 in
    let none : HasNoVariable (type_schema other v text) = subst (λ (o : OpenType). HasNoVariable o) (h v) (opened_closed t) in
    (type_in number text, λ w. type_spelled number other v w text none)

-- A text without a variable spells a type.
pub spelled_closed : (number : List ℕ → ℕ) (text : TypeText) → HasNoDollar (type_words text) → (t : ClosedType) × Spells number text t
spelled_closed number text h = (type_in number text, λ w. type_spelled number number w w text (no_variable number w text h))
