-- The errors that the line of a query and the tables of names decide, in the order in which they are tested.
use Rattle.std.specs.Prelude.{ℕ, suc, ◌≡◌, ◌<◌, Bool, true, false, not, ◌&&◌, nat_le, nat_lt, List, [], ◌∷◌, ◌++◌, length, codes, IsUtf8, Some, position, find}
use Rattle.std.specs.Fmt.{decimal}
use Rattle.std.specs.List.{list_any}
use Rattle.std.specs.Str.{bytes_eq}
use Rattle.cls_base.specs.Firsts.{Cause}
use Rattle.cls_base.specs.Limits.{max_line_bytes, max_type_nodes}
use Rattle.cls_lexer.specs.Numerals.{number_value}
use Rattle.cls_lexer.specs.Tokens.{byte_at}
use Rattle.cls_lexer.specs.Words.{words_of}
use Rattle.cls_syntax.specs.declared.role.Role.{Role}
use Rattle.cls_syntax.specs.declared.role.Role.TheVariants.{Component, Filter, TermComponent}
use Rattle.cls_syntax.specs.Faults.{Says}
use Rattle.cls_syntax.specs.Forms.{Form, nothing, ◌⨾◌, perhaps, names, numbers, types, anything, the_word, the_sign, a_name, a_number, a_type, a_term, Values, Part, naming, numeral}
use Rattle.cls_syntax.specs.SyntaxFaults.{IsTooDeep, LeavesAt}
use Rattle.cls_syntax.specs.TypeSchemas.{is_dollar}
use Rattle.cls_syntax.specs.TypeTexts.{TypeText, TypeList, last, more, type_nodes}
use Rattle.std.specs.Prelude.{None}
use Rattle.cls_query.specs.declared.query.Query.TheVariants.{Batch}
use Rattle.cls_query.specs.QueryForms.{form_of, max_batch_types}
use Rattle.cls_query.specs.Queries.{QueryText, Tables, word_of, values_of, query_words, query_parts, QueryStands}

-- The types of a line in turn.
abbrev pub list_of : TypeList → List TypeText
list_of (last t) = t ∷ []
list_of (more t ts) = t ∷ list_of ts

abbrev pub line_types : (f : Form) → Values f → List TypeText
line_types nothing v = []
line_types (the_word x ⨾ f) v = line_types f v
line_types (the_sign k ⨾ f) v = line_types f v
line_types (a_name r ⨾ f) v = line_types f v.1
line_types (a_number l g ⨾ f) v = line_types f v.1
line_types (a_type ⨾ f) v = v.0 ∷ line_types f v.1
line_types (a_term ⨾ f) v = line_types f v.1
line_types (perhaps f) None = []
line_types (perhaps f) (Some v) = line_types f v
line_types (names r) xs = []
line_types (numbers l g) ds = []
line_types types ts = list_of ts
line_types anything ws = []

abbrev pub query_types : QueryText → List TypeText
query_types q = line_types (form_of (word_of q)) (values_of q)

-- The type has too many nodes.
abbrev pub is_large : TypeText → Bool
is_large t = nat_lt max_type_nodes (type_nodes t)

-- The part is a number outside the range that the form gives it.
abbrev pub is_outside : Part → Bool
is_outside (numeral least greatest digits) =
    not (nat_le least (number_value digits) && nat_le (number_value digits) greatest)
is_outside _ = false

-- The number of the types.
abbrev pub count_types : TypeList → ℕ
count_types (last t) = 1
count_types (more t ts) = suc (count_types ts)

-- The query has a number outside the range that the form gives it, or more types than a batch may have.
abbrev pub is_excessive : QueryText → Bool
is_excessive (Batch ts) = nat_lt max_batch_types (count_types ts)
is_excessive said = list_any is_outside (query_parts said)

-- The name isn't in the table.
abbrev pub is_absent : List (List ℕ) → List ℕ → Bool
is_absent table x = not (list_any (bytes_eq x) table)

-- The part is to name a component, outside of a term, or a filter, and names none.
abbrev pub is_unknown : (components filters : List (List ℕ)) → Part → Bool
is_unknown components filters (naming Component x) = is_absent components x
is_unknown components filters (naming Filter x) = is_absent filters x
is_unknown components filters _ = false

-- The part is to name a component in a term, and names none.
abbrev pub is_unknown_in_term : List (List ℕ) → Part → Bool
is_unknown_in_term table (naming TermComponent x) = is_absent table x
is_unknown_in_term table _ = false

-- What is said of a line that leaves the table at the byte. `reserved` says that `omega` stands there and each name
-- could that isn't set aside.
abbrev pub place_words : (reserved : Bool) → (byte : ℕ) → List ℕ
place_words true byte = codes "reserved " ++ decimal byte
place_words false byte = codes "syntax " ++ decimal byte

module _ (line : List ℕ) where
  -- The line is a query, of which this holds.
  abbrev pub IsQuery : (QueryText → Type 0) → Type 0
  IsQuery P = (said : QueryText) × Says query_words QueryStands said (words_of line) × P said

  abbrev pub too_long : Cause (List ℕ)
  too_long t = (max_line_bytes < length line) × (t ≡ codes "long")

  abbrev pub not_utf8 : Cause (List ℕ)
  not_utf8 t = (IsUtf8 line → ⊥) × (t ≡ codes "utf8")

  abbrev pub too_deep : Cause (List ℕ)
  too_deep t = IsTooDeep line × (t ≡ codes "deep")

  abbrev pub leaves_table : Cause (List ℕ)
  leaves_table t =
      (byte : ℕ) × (reserved : Bool) × LeavesAt query_words QueryStands line byte reserved
      × (t ≡ place_words reserved byte)

  abbrev pub too_many_nodes : Cause (List ℕ)
  too_many_nodes t = IsQuery (λ said. list_any is_large (query_types said) ≡ true) × (t ≡ codes "nodes")

  -- The first `$` stands at the place.
  abbrev pub has_variable : Cause (List ℕ)
  has_variable t =
      (place : ℕ) × (position is_dollar (words_of line) ≡ Some place)
      × (t ≡ codes "variable " ++ decimal (byte_at line place))

  abbrev pub out_of_range : Cause (List ℕ)
  out_of_range t = IsQuery (λ said. is_excessive said ≡ true) × (t ≡ codes "number")

  module _ (components : List (List ℕ)) where
    -- The first name of that kind is this one, with this role.
    abbrev pub unknown_name : (filters : List (List ℕ)) → Cause (List ℕ)
    unknown_name filters t =
        IsQuery (λ said. (role : Role) × (x : List ℕ)
        × (find (is_unknown components filters) (query_parts said) ≡ Some (naming role x))
        × (t ≡ codes "unknown " ++ x))

    -- The first name of that kind stands at the place.
    abbrev pub unknown_in_term : Cause (List ℕ)
    unknown_in_term t =
        IsQuery (λ said. (place : ℕ)
        × (position (is_unknown_in_term components) (query_parts said) ≡ Some place)
        × (t ≡ codes "token " ++ decimal (byte_at line place)))

-- The first one of these that applies is the error.
abbrev pub line_errors : Tables → (line : List ℕ) → List (Cause (List ℕ))
line_errors tables line =
    too_long line
    ∷ not_utf8 line
    ∷ too_deep line
    ∷ leaves_table line
    ∷ too_many_nodes line
    ∷ has_variable line
    ∷ out_of_range line
    ∷ unknown_name line tables.components tables.filters
    ∷ unknown_in_term line tables.components
    ∷ []
