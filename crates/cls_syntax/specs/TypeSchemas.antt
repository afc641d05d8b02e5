-- The schema that a text of the grammar of types spells, and the names in it.
use Rattle.std.specs.Prelude.{ℕ, Bool, true, false, List, [], ◌∷◌, ◌++◌, if◌then◌else◌}
use Rattle.cls_base.specs.Schemas as schema
use Rattle.cls_base.specs.Schemas.{OpenType}
use Rattle.cls_lexer.specs.Names.{with_texts}
use Rattle.cls_lexer.specs.declared.token.TokenKind.TheVariants.{Dollar}
use Rattle.cls_lexer.specs.Words.{Word, omega, name, number, sign}
use Rattle.cls_syntax.specs.TypeTexts.{TypeText, MeetText, ProductText, AtomText, only_meet, arrow, only_product, meet, only_atom, product, named, applied, variable, inside}
use Rattle.cls_syntax.specs.TypeTexts as grammar

-- The numbers that constructors and variables have.
module _ (constructor variable_number : List ℕ → ℕ) where
  abbrev mutual
    pub type_schema : TypeText → OpenType
    type_schema (only_meet m) = meet_schema m
    type_schema (arrow m t) = schema.arrow (meet_schema m) (type_schema t)

    pub meet_schema : MeetText → OpenType
    meet_schema (only_product p) = product_schema p
    meet_schema (meet m p) = schema.meet (meet_schema m) (product_schema p)

    pub product_schema : ProductText → OpenType
    product_schema (only_atom a) = atom_schema a
    product_schema (product p a) = schema.product (product_schema p) (atom_schema a)

    pub atom_schema : AtomText → OpenType
    atom_schema grammar.omega = schema.omega
    atom_schema (named x) = schema.constructor (constructor x) schema.omega
    atom_schema (applied x t) = schema.constructor (constructor x) (type_schema t)
    atom_schema (variable x) = schema.variable (variable_number x)
    atom_schema (inside t) = type_schema t

abbrev pub is_dollar : Word → Bool
is_dollar (sign Dollar) = true
is_dollar _ = false

-- The text of a name, where such names are asked for.
abbrev pub name_text : Bool → Word → List (List ℕ)
name_text wanted omega = []
name_text wanted (name x) = if wanted then x ∷ [] else []
name_text wanted (number n) = []
name_text wanted (sign kind) = []

-- The texts of the constructors in the words, in order. `behind` says that a `$` stands directly before the words.
abbrev pub constructors_in : (behind : Bool) → List Word → List (List ℕ)
constructors_in behind [] = []
constructors_in behind (w ∷ ws) = name_text (if behind then false else true) w ++ constructors_in (is_dollar w) ws

-- The texts of the variables in the words, in order.
abbrev pub variables_in : (behind : Bool) → List Word → List (List ℕ)
variables_in behind [] = []
variables_in behind (w ∷ ws) = name_text behind w ++ variables_in (is_dollar w) ws

-- The tables after the words of a type came: constructors and variables are numbered in the order of the words.
abbrev pub with_constructors : List (List ℕ) → List Word → List (List ℕ)
with_constructors table ws = with_texts table (constructors_in false ws)

abbrev pub with_variables : List (List ℕ) → List Word → List (List ℕ)
with_variables table ws = with_texts table (variables_in false ws)
