-- The text of a term by the templates of its components.
use Rattle.std.specs.Prelude.{ℕ, ◌-◌, max, List, [], ◌∷◌, ◌++◌, drop, map, codes, slice_index_or}
use Rattle.std.specs.List.{flat_map}
use Rattle.cls_base.specs.Terms.{Applicative, component, apply, head_of}
use Rattle.cls_assemble.specs.declared.piece.Piece.{Piece}
use Rattle.cls_assemble.specs.declared.piece.Piece.TheVariants.{Byte, Hole}

abbrev pub hole_number : Piece → ℕ
hole_number (Byte b) = 0
hole_number (Hole n) = n

-- the greatest number of a hole, and 0 if there is none
abbrev pub greatest_hole : List Piece → ℕ
greatest_hole [] = 0
greatest_hole (p ∷ ps) = max (hole_number p) (greatest_hole ps)

-- the text of the argument with this number, and `_` if there is none
abbrev pub argument_text : List (List ℕ) → ℕ → List ℕ
argument_text texts n = slice_index_or texts (n - 1) (codes "_")

-- what stands for a piece, by the texts of the arguments
abbrev pub piece_text : List (List ℕ) → Piece → List ℕ
piece_text texts (Byte b) = b ∷ []
piece_text texts (Hole n) = argument_text texts n

abbrev pub in_parentheses : List ℕ → List ℕ
in_parentheses text = codes "(" ++ text ++ codes ")"

-- the texts from this place on, each in parentheses
abbrev pub surplus_from : ℕ → List (List ℕ) → List ℕ
surplus_from place texts = flat_map in_parentheses (drop place texts)

-- The template with its holes filled, and behind it each argument whose number is over the greatest hole, in
-- parentheses. An argument whose number has no hole and isn't over the greatest is dropped.
abbrev pub filled : List Piece → List (List ℕ) → List ℕ
filled pieces texts = flat_map (piece_text texts) pieces ++ surplus_from (greatest_hole pieces) texts

abbrev mutual
  pub text_of : (ℕ → List Piece) → Applicative → List ℕ
  text_of template (component x) = filled (template x) []
  text_of template (apply f a) = filled (template (head_of f)) (argument_texts template f ++ text_of template a ∷ [])

  -- the texts of what the head of the term is applied to, in turn
  pub argument_texts : (ℕ → List Piece) → Applicative → List (List ℕ)
  argument_texts template (component x) = []
  argument_texts template (apply f a) = argument_texts template f ++ text_of template a ∷ []

-- the template of a component in a list, which has no pieces if it isn't in the list
abbrev pub template_at : List (List Piece) → ℕ → List Piece
template_at templates x = slice_index_or templates x []

abbrev pub text_by : List (List Piece) → Applicative → List ℕ
text_by templates e = text_of (template_at templates) e

abbrev pub texts_by : List (List Piece) → List Applicative → List (List ℕ)
texts_by templates es = map (text_of (template_at templates)) es
