-- A text of few words has few nodes.
use Rattle.std.proofs.Common.{◌≡◌, ℕ, ◌+◌, ◌*◌, ◌<◌, ◌≤◌, false, List, [], ◌∷◌, ◌++◌, length, length-append, arith}
use Rattle.std.proofs.lemmas.Bool.{le-ltb}
use Rattle.cls_base.specs.Limits.{max_type_nodes}
use Rattle.cls_lexer.specs.Words.{Word, sign}
use Rattle.cls_lexer.specs.declared.token.TokenKind.TheVariants.{To, And, Times, Open, Close}
use Rattle.cls_syntax.specs.TypeTexts as grammar
use Rattle.cls_syntax.specs.TypeTexts.{TypeText, MeetText, ProductText, AtomText, only_meet, arrow, only_product, meet, only_atom, product, named, applied, variable, inside, type_words, meet_words, product_words, atom_words, type_nodes, meet_nodes, product_nodes, atom_nodes}
use Rattle.cls_query.specs.QueryErrors.{is_large}

-- The words of a type are no fewer than two for three of its nodes.
abbrev IsWithin : ℕ → List Word → Type 0
IsWithin nodes ws = 2 * nodes ≤ 3 * length ws + 1

joined : (a b : ℕ) (us : List Word) (w : Word) (vs : List Word) → IsWithin a us → IsWithin b vs → IsWithin (1 + a + b) (us ++ w ∷ vs)
joined a b us w vs h k = let e = length-append us (w ∷ vs) in omega (arith, h, k, e)

enclosed : (a : ℕ) (ws : List Word) → IsWithin a ws → IsWithin a (sign Open ∷ (ws ++ sign Close ∷ []))
enclosed a ws h = let e = length-append ws (sign Close ∷ []) in omega (arith, h, e)

mutual
  type_within : (t : TypeText) → IsWithin (type_nodes t) (type_words t)
  type_within (only_meet m) = meet_within m
  type_within (arrow m t) = joined (meet_nodes m) (type_nodes t) (meet_words m) (sign To) (type_words t) (meet_within m) (type_within t)

  meet_within : (m : MeetText) → IsWithin (meet_nodes m) (meet_words m)
  meet_within (only_product p) = product_within p
  meet_within (meet m p) = joined (meet_nodes m) (product_nodes p) (meet_words m) (sign And) (product_words p) (meet_within m) (product_within p)

  product_within : (p : ProductText) → IsWithin (product_nodes p) (product_words p)
  product_within (only_atom a) = atom_within a
  product_within (product p a) = joined (product_nodes p) (atom_nodes a) (product_words p) (sign Times) (atom_words a) (product_within p) (atom_within a)

  atom_within : (a : AtomText) → IsWithin (atom_nodes a) (atom_words a)
  atom_within grammar.omega = omega arith
  atom_within (named x) = omega arith
  atom_within (applied x t) = let h = enclosed (type_nodes t) (type_words t) (type_within t) in omega (arith, h)
  atom_within (variable x) = omega arith
  atom_within (inside t) = enclosed (type_nodes t) (type_words t) (type_within t)

-- a short text has no more nodes than a type may have
pub short_is_small : (t : TypeText) → 3 * length (type_words t) < 2 * max_type_nodes → is_large t ≡ false
short_is_small t l = let h = type_within t in le-ltb max_type_nodes (type_nodes t) (omega (arith, h, l))
