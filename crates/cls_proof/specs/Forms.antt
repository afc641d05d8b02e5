-- The forms of the lines of a certificate.
use Rattle.std.specs.Prelude.{ℕ, false, List, [], ◌∷◌, codes}
use Rattle.std.proofs.Common.{inl, inr}
use Rattle.cls_lexer.specs.declared.token.TokenKind.TheVariants.{Colon}
use Rattle.cls_lexer.specs.Words.{Word}
use Rattle.cls_syntax.specs.declared.role.Role.TheVariants.{Component}
use Rattle.cls_syntax.specs.Forms.{Form, nothing, ◌⨾◌, the_word, the_sign, a_name, a_number, a_type, numbers}
use Rattle.cls_syntax.specs.LineGrammars.{Row, LineOf}
use Rattle.cls_syntax.specs.TypeTexts.{TypeText, type_words}
use Rattle.cls_syntax.specs.TypeSchemas.{constructors_in}

-- the greatest number, so that each fits 32 bits
abbrev pub greatest_number : ℕ
greatest_number = 4294967295

-- TYPE by NAME N : I J ..
abbrev pub row_form : Form
row_form = a_type ⨾ the_word (codes "by") ⨾ a_name Component ⨾ a_number 0 greatest_number ⨾ the_sign Colon ⨾ numbers 0 greatest_number

-- TYPE
abbrev pub member_form : Form
member_form = a_type ⨾ nothing

-- NAME N
abbrev pub block_form : Form
block_form = a_name Component ⨾ a_number 0 greatest_number ⨾ nothing

-- I J ..
abbrev pub set_form : Form
set_form = numbers 0 greatest_number

-- The lines by their first words.
abbrev pub certificate_rows : List Row
certificate_rows =
    record { first = codes "inhabited"; form = nothing }
    ∷ record { first = codes "row"; form = row_form }
    ∷ record { first = codes "empty"; form = nothing }
    ∷ record { first = codes "member"; form = member_form }
    ∷ record { first = codes "block"; form = block_form }
    ∷ record { first = codes "layer"; form = nothing }
    ∷ record { first = codes "set"; form = set_form }
    ∷ record { first = codes "qed"; form = nothing }
    ∷ []

-- A line as it is written: texts of types, texts of components, digits of numbers.
pub data Written : Type 0 where
  inhabited : Written
  row : (goal : TypeText) → (component n : List ℕ) → (cover : List (List ℕ)) → Written
  empty : Written
  member : (goal : TypeText) → Written
  block : (component n : List ℕ) → Written
  layer : Written
  set : (positions : List (List ℕ)) → Written
  qed : Written

abbrev pub line_of : Written → LineOf certificate_rows
line_of inhabited = inl tt
line_of (row t x n cover) = inr (inl (t, (x, (n, cover))))
line_of empty = inr (inr (inl tt))
line_of (member t) = inr (inr (inr (inl (t, tt))))
line_of (block x n) = inr (inr (inr (inr (inl (x, (n, tt))))))
line_of layer = inr (inr (inr (inr (inr (inl tt)))))
line_of (set positions) = inr (inr (inr (inr (inr (inr (inl positions))))))
line_of qed = inr (inr (inr (inr (inr (inr (inr (inl tt)))))))

-- the words of the type that the line names
abbrev pub goal_words : Written → List Word
goal_words (row t x n cover) = type_words t
goal_words (member t) = type_words t
goal_words _ = []

-- the constructors that the line names, in the order of its tokens
abbrev pub constructors_of : Written → List (List ℕ)
constructors_of w = constructors_in false (goal_words w)
