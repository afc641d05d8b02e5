-- Lists of types with a sign between two of them, and how one is read from the front of a list of words.
use Rattle.std.specs.Prelude.{ℕ, max, Bool, false, ◌==◌, List, [], ◌∷◌, ◌++◌, Option, Some, None, Result, if◌then◌else◌}
use Rattle.cls_lexer.specs.declared.token.TokenKind.{TokenKind}
use Rattle.cls_lexer.specs.Words.{Word, omega, name, number, sign}
use Rattle.cls_syntax.specs.Fronts.{kind_place}
use Rattle.cls_syntax.specs.TypeTexts.{TypeText, type_words, type_nodes, TypeList, last, more}
use Rattle.cls_syntax.specs.Faults.{Stop}
use Rattle.cls_syntax.specs.Machines.{Machine, reading}
use Rattle.cls_syntax.specs.TypeReading as type
use Rattle.cls_syntax.specs.TypeReading.{State}

-- with the sign between two types
abbrev pub types_words : TokenKind → TypeList → List Word
types_words kind (last t) = type_words t
types_words kind (more t ts) = type_words t ++ sign kind ∷ types_words kind ts

-- the nodes of the greatest of the types
abbrev pub types_nodes : TypeList → ℕ
types_nodes (last t) = type_nodes t
types_nodes (more t ts) = max (type_nodes t) (types_nodes ts)

abbrev pub with_types : List TypeText → TypeList → TypeList
with_types [] ts = ts
with_types (d ∷ ds) ts = with_types ds (more d ts)

abbrev pub is_the_sign : TokenKind → Word → Bool
is_the_sign kind (sign kind') = kind_place kind == kind_place kind'
is_the_sign kind omega = false
is_the_sign kind (name x) = false
is_the_sign kind (number x) = false

-- where no type goes on, the sign ends one and begins the next
abbrev pub next_type : TokenKind → List TypeText → Word → Option TypeText → Option (List TypeText × State)
next_type kind ds w None = None
next_type kind ds w (Some t) = if is_the_sign kind w then Some (t ∷ ds, type.start) else None

abbrev pub stepped : TokenKind → List TypeText → Word → Option TypeText → Option State → Option (List TypeText × State)
stepped kind ds w t None = next_type kind ds w t
stepped kind ds w t (Some s) = Some (ds, s)

abbrev pub step : TokenKind → List TypeText × State → Word → Option (List TypeText × State)
step kind p w = stepped kind p.0 w (type.ended p.1) (type.step p.1 w)

abbrev pub with_last : List TypeText → Option TypeText → Option TypeList
with_last ds None = None
with_last ds (Some t) = Some (with_types ds (last t))

abbrev pub ended : List TypeText × State → Option TypeList
ended p = with_last p.0 (type.ended p.1)

-- The types that were read, the last one first, beside the state of the one that is being read.
abbrev pub types_machine : TokenKind → Machine (List TypeText × State) TypeList
types_machine kind = record { step = step kind; ended = ended; wants_name = λ p. type.wants_name p.1 }

-- Types and the words after them, or the stop.
unfoldable pub types_front : TokenKind → List Word → Result (TypeList × List Word) Stop
types_front kind ws = reading (types_machine kind) ([], type.start) ws
