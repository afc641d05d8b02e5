-- Texts without a `$` spell types without variables.
use Rattle.std.proofs.Common.{ℕ, List, [], ◌∷◌, ◌++◌, refl}
use Rattle.std.specs.List.{list_any}
use Rattle.std.proofs.lemmas.Bool.{or_parts}
use Rattle.cls_base.specs.Schemas as schemas
use Rattle.cls_base.specs.Schemas.{OpenType}
use Rattle.cls_lexer.specs.declared.token.TokenKind.TheVariants as kinds
use Rattle.cls_lexer.specs.Words.{Word, sign}
use Rattle.cls_syntax.specs.TypeTexts.{TypeText, MeetText, ProductText, AtomText, only_meet, arrow, only_product, meet, only_atom, product, named, applied, variable, inside, type_words, meet_words, product_words, atom_words}
use Rattle.cls_syntax.specs.TypeTexts as grammar
use Rattle.cls_syntax.specs.TypeSchemas.{is_dollar, type_schema, meet_schema, product_schema, atom_schema}
use Rattle.cls_syntax.specs.ClosedTypes.{HasNoDollar}

-- no variable stands in the type
abbrev pub HasNoVariable : OpenType → Type 0
HasNoVariable schemas.omega = Unit {0}
HasNoVariable (schemas.constructor c s) = HasNoVariable s
HasNoVariable (schemas.product s t) = HasNoVariable s × HasNoVariable t
HasNoVariable (schemas.arrow s t) = HasNoVariable s × HasNoVariable t
HasNoVariable (schemas.meet s t) = HasNoVariable s × HasNoVariable t
HasNoVariable (schemas.variable v) = ⊥

-- the parts of words without a dollar
parts : (xs ys : List Word) → HasNoDollar (xs ++ ys) → HasNoDollar xs × HasNoDollar ys
parts [] ys h = (refl, h)
parts (x ∷ xs) ys h =
    let p = or_parts (is_dollar x) (list_any is_dollar (xs ++ ys)) h in
    let q = parts xs ys p.1 in
    let a = p.0 in
    let b = q.0 in
    (rw (a, b) refl, q.1)

-- the part behind one word more
behind : (xs ys : List Word) (w : Word) → HasNoDollar (xs ++ w ∷ ys) → HasNoDollar xs × HasNoDollar ys
behind xs ys w h = let p = parts xs (w ∷ ys) h in (p.0, (or_parts (is_dollar w) (list_any is_dollar ys) p.1).1)

module _ (c v : List ℕ → ℕ) where
  mutual
    type_closed : (t : TypeText) → HasNoDollar (type_words t) → HasNoVariable (type_schema c v t)
    type_closed (only_meet m) h = meet_closed m h
    type_closed (arrow m t) h = let p = behind (meet_words m) (type_words t) (sign kinds.To) h in (meet_closed m p.0, type_closed t p.1)

    meet_closed : (m : MeetText) → HasNoDollar (meet_words m) → HasNoVariable (meet_schema c v m)
    meet_closed (only_product p) h = product_closed p h
    meet_closed (meet m p) h = let q = behind (meet_words m) (product_words p) (sign kinds.And) h in (meet_closed m q.0, product_closed p q.1)

    product_closed : (p : ProductText) → HasNoDollar (product_words p) → HasNoVariable (product_schema c v p)
    product_closed (only_atom a) h = atom_closed a h
    product_closed (product p a) h = let q = behind (product_words p) (atom_words a) (sign kinds.Times) h in (product_closed p q.0, atom_closed a q.1)

    atom_closed : (a : AtomText) → HasNoDollar (atom_words a) → HasNoVariable (atom_schema c v a)
    atom_closed grammar.omega h = tt
    atom_closed (named x) h = tt
    atom_closed (applied x t) h = type_closed t (behind (type_words t) [] (sign kinds.Close) h).0
    atom_closed (variable x) h = cc
    atom_closed (inside t) h = type_closed t (behind (type_words t) [] (sign kinds.Close) h).0

  pub no_variable : (t : TypeText) → HasNoDollar (type_words t) → HasNoVariable (type_schema c v t)
  no_variable = type_closed
