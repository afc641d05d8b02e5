-- The types of a line without a `$` have no variables.
use Rattle.std.proofs.Common.{◌≡◌, false, List, ◌∷◌, ◌++◌, map, ap, sym, ◌∙◌, subst}
use Rattle.std.specs.Prelude.{Some, None}
use Rattle.std.specs.List.{list_any, AllByRecursion}
use Rattle.std.proofs.lemmas.List.{map-append}
use Rattle.std.proofs.lemmas.List.Folds.{list_any-append}
use Rattle.cls_lexer.specs.Words.{sign}
use Rattle.cls_lexer.specs.declared.token.TokenKind.TheVariants.{Bar}
use Rattle.cls_syntax.specs.ClosedTypes.{HasNoDollar}
use Rattle.cls_syntax.specs.Forms.{Form, nothing, ◌⨾◌, perhaps, names, numbers, types, anything, the_word, the_sign, a_name, a_number, a_type, a_term, Values, Part, fixed, part_word, type_parts, term_parts, types_parts, line_parts}
use Rattle.cls_syntax.specs.TypeSchemas.{is_dollar}
use Rattle.cls_syntax.specs.TypeTexts.{TypeText, TypeList, last, more, type_words}
use Rattle.cls_syntax.proofs.LineParts.{type_same}
use Rattle.cls_query.specs.QueryErrors.{list_of, line_types, query_types}
use Rattle.cls_query.specs.QueryForms.{form_of}
use Rattle.cls_query.specs.Queries.{QueryText, word_of, values_of, query_words}
use Rattle.cls_query.proofs.Searches.{neither}

abbrev HasNone : List Part → Type 0
HasNone ps = list_any is_dollar (map part_word ps) ≡ false

abbrev AreClosed : List TypeText → Type 0
AreClosed ts = AllByRecursion (λ t. HasNoDollar (type_words t)) ts

split_none : (ps qs : List Part) → HasNone (ps ++ qs) → HasNone ps × HasNone qs
split_none ps qs h =
    neither (list_any is_dollar (map part_word ps)) (list_any is_dollar (map part_word qs))
    (sym (ap (list_any is_dollar) (map-append part_word ps qs) ∙ list_any-append is_dollar (map part_word ps) (map part_word qs)) ∙ h)

closed_type : (t : TypeText) → HasNone (type_parts t) → HasNoDollar (type_words t)
closed_type t h = subst HasNoDollar (type_same t) h

closed_list : (ts : TypeList) → HasNone (types_parts ts) → AreClosed (list_of ts)
closed_list (last t) h = (closed_type t h, tt)
closed_list (more t ts) h =
    let s = split_none (type_parts t) (fixed (sign Bar) ∷ types_parts ts) h in
    (closed_type t s.0, closed_list ts s.1)

closed_line : (f : Form) (v : Values f) → HasNone (line_parts f v) → AreClosed (line_types f v)
closed_line nothing v h = tt
closed_line (the_word x ⨾ f) v h = closed_line f v h
closed_line (the_sign k ⨾ f) v h = closed_line f v (neither (is_dollar (sign k)) (list_any is_dollar (map part_word (line_parts f v))) h).1
closed_line (a_name r ⨾ f) v h = closed_line f v.1 h
closed_line (a_number l g ⨾ f) v h = closed_line f v.1 h
closed_line (a_type ⨾ f) v h = let s = split_none (type_parts v.0) (line_parts f v.1) h in (closed_type v.0 s.0, closed_line f v.1 s.1)
closed_line (a_term ⨾ f) v h = closed_line f v.1 (split_none (term_parts v.0) (line_parts f v.1) h).1
closed_line (perhaps f) None h = tt
closed_line (perhaps f) (Some v) h = closed_line f v h
closed_line (names r) xs h = tt
closed_line (numbers l g) ds h = tt
closed_line types ts h = closed_list ts h
closed_line anything ws h = tt

pub closed_query : (q : QueryText) → HasNoDollar (query_words q) → AreClosed (query_types q)
closed_query q h = closed_line (form_of (word_of q)) (values_of q) h
