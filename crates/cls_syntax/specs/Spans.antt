-- Words that are the whole of a type, of a term or of a list of types.
use Rattle.std.specs.Prelude.{Bool, true, false, List, [], ◌∷◌, Result, Ok, Err}
use Rattle.cls_lexer.specs.declared.token.TokenKind.{TokenKind}
use Rattle.cls_lexer.specs.Words.{Word}
use Rattle.cls_syntax.specs.Faults.{Stop}
use Rattle.cls_syntax.specs.TypeTexts.{TypeText, only_meet, only_product, only_atom, TypeList, last}
use Rattle.cls_syntax.specs.TypeTexts as grammar
use Rattle.cls_syntax.specs.TermTexts as terms
use Rattle.cls_syntax.specs.TermTexts.{TermText}
use Rattle.cls_syntax.specs.TypeReading.{type_front}
use Rattle.cls_syntax.specs.TermReading.{term_front}
use Rattle.cls_syntax.specs.TypeLists.{types_front}

-- something was read, and nothing is left
abbrev pub is_whole : {A : Type 0} → Result (A × List Word) Stop → Bool
is_whole (Ok (a, [])) = true
is_whole (Ok (a, w ∷ ws)) = false
is_whole (Err e) = false

-- what was read, otherwise the value that is given
abbrev pub read_or : {A : Type 0} → A → Result (A × List Word) Stop → A
read_or a (Ok p) = p.0
read_or a (Err e) = a

abbrev pub omega_text : TypeText
omega_text = only_meet (only_product (only_atom grammar.omega))

-- the type that the words spell
abbrev pub type_in : List Word → TypeText
type_in ws = read_or omega_text (type_front ws)

-- the term that the words spell
abbrev pub term_in : List Word → TermText
term_in ws = read_or (terms.named []) (term_front ws)

-- the list of types that the words spell
abbrev pub types_in : TokenKind → List Word → TypeList
types_in kind ws = read_or (last omega_text) (types_front kind ws)
