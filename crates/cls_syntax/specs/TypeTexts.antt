-- The grammar of types: one constructor a production, and the words that each text has.
use Rattle.std.specs.Prelude.{ℕ, ◌+◌, List, [], ◌∷◌, ◌++◌}
use Rattle.cls_lexer.specs.declared.token.TokenKind.TheVariants.{To, And, Times, Open, Close, Dollar}
use Rattle.cls_lexer.specs.Words as word
use Rattle.cls_lexer.specs.Words.{Word, name, sign}

-- `->` is weakest and associates to the right, `&` binds tighter and `*` tighter still, and both associate to the left.
mutual
  pub data TypeText : Type 0 where
    only_meet : MeetText → TypeText
    arrow : MeetText → TypeText → TypeText

  pub data MeetText : Type 0 where
    only_product : ProductText → MeetText
    meet : MeetText → ProductText → MeetText

  pub data ProductText : Type 0 where
    only_atom : AtomText → ProductText
    product : ProductText → AtomText → ProductText

  pub data AtomText : Type 0 where
    omega : AtomText
    named : (text : List ℕ) → AtomText
    applied : (text : List ℕ) → TypeText → AtomText
    variable : (text : List ℕ) → AtomText
    inside : TypeText → AtomText

abbrev mutual
  pub type_words : TypeText → List Word
  type_words (only_meet m) = meet_words m
  type_words (arrow m t) = meet_words m ++ sign To ∷ type_words t

  pub meet_words : MeetText → List Word
  meet_words (only_product p) = product_words p
  meet_words (meet m p) = meet_words m ++ sign And ∷ product_words p

  pub product_words : ProductText → List Word
  product_words (only_atom a) = atom_words a
  product_words (product p a) = product_words p ++ sign Times ∷ atom_words a

  pub atom_words : AtomText → List Word
  atom_words omega = word.omega ∷ []
  atom_words (named x) = name x ∷ []
  atom_words (applied x t) = name x ∷ sign Open ∷ (type_words t ++ sign Close ∷ [])
  atom_words (variable x) = sign Dollar ∷ name x ∷ []
  atom_words (inside t) = sign Open ∷ (type_words t ++ sign Close ∷ [])

-- The nodes of the type that a text spells. A bare name is the name over omega.
abbrev mutual
  pub type_nodes : TypeText → ℕ
  type_nodes (only_meet m) = meet_nodes m
  type_nodes (arrow m t) = 1 + meet_nodes m + type_nodes t

  pub meet_nodes : MeetText → ℕ
  meet_nodes (only_product p) = product_nodes p
  meet_nodes (meet m p) = 1 + meet_nodes m + product_nodes p

  pub product_nodes : ProductText → ℕ
  product_nodes (only_atom a) = atom_nodes a
  product_nodes (product p a) = 1 + product_nodes p + atom_nodes a

  pub atom_nodes : AtomText → ℕ
  atom_nodes omega = 1
  atom_nodes (named x) = 2
  atom_nodes (applied x t) = 1 + type_nodes t
  atom_nodes (variable x) = 1
  atom_nodes (inside t) = type_nodes t

-- One type or more.
pub data TypeList : Type 0 where
  last : TypeText → TypeList
  more : TypeText → TypeList → TypeList
