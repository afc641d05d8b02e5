-- What a type spells stays the same while tables of names grow.
use Rattle.std.proofs.Common.{◌≡◌, ℕ, List, [], ◌∷◌, ◌++◌, refl, sym, ◌∙◌, subst}
use Rattle.std.specs.List.{AllByRecursion}
use Rattle.cls_base.specs.Schemas as schema
use Rattle.cls_base.specs.Types.{ClosedType}
use Rattle.cls_lexer.specs.declared.token.TokenKind.TheVariants.{To, And, Times, Close}
use Rattle.cls_lexer.specs.Names.{number_of, with_texts}
use Rattle.cls_lexer.specs.Words.{sign}
use Rattle.cls_syntax.specs.declared.role.Role.TheVariants.{Constructor}
use Rattle.cls_syntax.specs.ClosedTypes.{Spells}
use Rattle.cls_syntax.specs.Forms.{Part, fixed, naming, numeral, type_parts, meet_parts, product_parts, atom_parts, constructors_named}
use Rattle.cls_syntax.specs.TypeSchemas.{type_schema, meet_schema, product_schema, atom_schema}
use Rattle.cls_syntax.specs.TypeTexts.{TypeText, MeetText, ProductText, AtomText, only_meet, arrow, only_product, meet, only_atom, product, named, applied, variable, inside, type_words}
use Rattle.cls_syntax.specs.TypeTexts as grammar
use Rattle.cls_syntax.proofs.Tables.{Held, Grows, stays, held_all}

module _ (f g : List ℕ → ℕ) where
  -- both number the constructors among the parts alike
  abbrev Agrees : List Part → Type 0
  Agrees ps = AllByRecursion (λ x. f x ≡ g x) (constructors_named ps)

  left : (ps qs : List Part) → Agrees (ps ++ qs) → Agrees ps
  left [] qs h = tt
  left (fixed w ∷ ps) qs h = left ps qs h
  left (naming Constructor x ∷ ps) qs h = (h.0, left ps qs h.1)
  left (naming _ x ∷ ps) qs h = left ps qs h
  left (numeral l g d ∷ ps) qs h = left ps qs h

  right : (ps qs : List Part) → Agrees (ps ++ qs) → Agrees qs
  right [] qs h = h
  right (fixed w ∷ ps) qs h = right ps qs h
  right (naming Constructor x ∷ ps) qs h = right ps qs h.1
  right (naming _ x ∷ ps) qs h = right ps qs h
  right (numeral l g d ∷ ps) qs h = right ps qs h

  module _ (v : List ℕ → ℕ) where
    mutual
      type_same : (t : TypeText) → Agrees (type_parts t) → type_schema f v t ≡ type_schema g v t
      type_same (only_meet m) h = meet_same m h
      type_same (arrow m t) h = λ i. schema.arrow (meet_same m (left (meet_parts m) (fixed (sign To) ∷ type_parts t) h) i) (type_same t (right (meet_parts m) (fixed (sign To) ∷ type_parts t) h) i)

      meet_same : (m : MeetText) → Agrees (meet_parts m) → meet_schema f v m ≡ meet_schema g v m
      meet_same (only_product p) h = product_same p h
      meet_same (meet m p) h = λ i. schema.meet (meet_same m (left (meet_parts m) (fixed (sign And) ∷ product_parts p) h) i) (product_same p (right (meet_parts m) (fixed (sign And) ∷ product_parts p) h) i)

      product_same : (p : ProductText) → Agrees (product_parts p) → product_schema f v p ≡ product_schema g v p
      product_same (only_atom a) h = atom_same a h
      product_same (product p a) h = λ i. schema.product (product_same p (left (product_parts p) (fixed (sign Times) ∷ atom_parts a) h) i) (atom_same a (right (product_parts p) (fixed (sign Times) ∷ atom_parts a) h) i)

      atom_same : (a : AtomText) → Agrees (atom_parts a) → atom_schema f v a ≡ atom_schema g v a
      atom_same grammar.omega h = refl
      atom_same (named x) h = λ i. schema.constructor (h.0 i) schema.omega
      atom_same (applied x t) h = λ i. schema.constructor (h.0 i) (type_same t (left (type_parts t) (fixed (sign Close) ∷ []) h.1) i)
      atom_same (variable x) h = refl
      atom_same (inside t) h = type_same t (left (type_parts t) (fixed (sign Close) ∷ []) h)

agree : {old new : List (List ℕ)} → Grows old new → (xs : List (List ℕ)) → AllByRecursion (Held old) xs → AllByRecursion (λ x. number_of old x ≡ number_of new x) xs
agree g [] h = tt
agree g (x ∷ xs) h = (sym (stays g x h.0), agree g xs h.1)

-- a type whose names came into a table is spelled the same by each later one
pub spelled_still : {old new : List (List ℕ)} (before : List (List ℕ)) (t : TypeText) (c : ClosedType) → old ≡ with_texts before (constructors_named (type_parts t)) → Grows old new → Spells (number_of old) t c → Spells (number_of new) t c
spelled_still {old} {new} before t c is g s v =
    let xs : List (List ℕ) = constructors_named (type_parts t) in
    let held : AllByRecursion (Held old) xs = subst (λ (ts : List (List ℕ)). AllByRecursion (Held ts) xs) (sym is) (held_all before xs) in
    s v ∙ type_same (number_of old) (number_of new) v t (agree g xs held)
