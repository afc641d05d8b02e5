-- No line of which no error is said has a variable, so the table of variables stays.
use Rattle.std.proofs.Common.{◌≡◌, ℕ, true, false, List, [], ◌∷◌, ◌++◌, refl, ap, sym, ◌∙◌, subst, append-nil}
use Rattle.std.specs.Prelude.{Option, Some, None, ◌||◌, position, codes}
use Rattle.std.specs.Fmt.{decimal}
use Rattle.std.specs.List.{list_any, AllByRecursion}
use Rattle.std.proofs.lemmas.Bool.{true≢false}
use Rattle.cls_base.specs.Firsts.{First, IsSilent}
use Rattle.cls_lexer.specs.declared.token.TokenKind.TheVariants.{AtMost, Bar, Colon, Close, Comma}
use Rattle.cls_lexer.specs.Names.{with_texts}
use Rattle.cls_lexer.specs.Tokens.{byte_at}
use Rattle.cls_lexer.specs.Words as word
use Rattle.cls_lexer.specs.Words.{Word, name, number, sign, words_of}
use Rattle.cls_syntax.specs.declared.role.Role.TheVariants.{Variable, NewVariable}
use Rattle.cls_syntax.specs.ClosedTypes.{HasNoDollar}
use Rattle.cls_syntax.specs.Faults.{Says}
use Rattle.cls_syntax.specs.Forms.{Part, fixed, naming, numeral, type_parts, term_parts, terms_parts, types_parts, variables_named}
use Rattle.cls_syntax.specs.TermTexts as term
use Rattle.cls_syntax.specs.TermTexts.{TermText, TermList}
use Rattle.cls_syntax.specs.TypeSchemas.{is_dollar, name_text, variables_in}
use Rattle.cls_syntax.specs.TypeTexts.{TypeText, TypeList, type_words}
use Rattle.cls_syntax.specs.TypeTexts as types
use Rattle.cls_syntax.proofs.Dollars.{no_dollar}
use Rattle.cls_syntax.proofs.PartNames.{type_variables}
use Rattle.cls_query.specs.declared.query.Query.TheVariants.{Sub, Paths, Typed, About, Page, Filtered, Batch}
use Rattle.cls_query.specs.Queries.{Query, QueryText, Tables, tables_of, with_names, with_variables, with_query, query_of, query_words, query_parts, QueryStands}
use Rattle.cls_query.specs.QueryErrors.{query_types, list_of, line_errors}
use Rattle.cls_query.specs.ReadQueries.{ReadsQuery}
use Rattle.cls_query.proofs.ClosedTypes.{closed_query}
use Rattle.cls_query.proofs.FirstErrors.{each_silent}
use Rattle.cls_query.proofs.FormParts.{cursor_parts, split_page, split_filtered}
use Rattle.cls_query.proofs.RowParts.{number_parts}

-- words without a `$` name no variable
no_text : (w : Word) → name_text false w ≡ []
no_text word.omega = refl
no_text (name x) = refl
no_text (number n) = refl
no_text (sign s) = refl

none_in : (ws : List Word) → HasNoDollar ws → variables_in false ws ≡ []
none_in [] h = refl
none_in (w ∷ ws) h =
    (elim (is_dollar w) as (λ b. (b || list_any is_dollar ws) ≡ false → name_text false w ++ variables_in b ws ≡ []) [
      | true ↦ λ k. absurd (true≢false k)
      | false ↦ λ k. ap (λ (xs : List (List ℕ)). xs ++ variables_in false ws) (no_text w) ∙ none_in ws k
    ]) h

-- names that are collected from two lists of parts
variables_join : (ps qs : List Part) → variables_named (ps ++ qs) ≡ variables_named ps ++ variables_named qs
variables_join [] qs = refl
variables_join (fixed w ∷ ps) qs = variables_join ps qs
variables_join (naming Variable x ∷ ps) qs = ap (λ (xs : List (List ℕ)). x ∷ xs) (variables_join ps qs)
variables_join (naming NewVariable x ∷ ps) qs = ap (λ (xs : List (List ℕ)). x ∷ xs) (variables_join ps qs)
variables_join (naming _ x ∷ ps) qs = variables_join ps qs
variables_join (numeral l g d ∷ ps) qs = variables_join ps qs

none_joined : (ps : List Part) (w : Word) (qs : List Part) → variables_named ps ≡ [] → variables_named qs ≡ [] → variables_named (ps ++ fixed w ∷ qs) ≡ []
none_joined ps w qs a b = variables_join ps (fixed w ∷ qs) ∙ (λ i. a i ++ b i)

-- a type without a `$`, at the end of a line too, and a term
type_unnamed : (t : TypeText) → HasNoDollar (type_words t) → variables_named (type_parts t) ≡ []
type_unnamed t h = type_variables t ∙ none_in (type_words t) h

last_unnamed : (t : TypeText) → HasNoDollar (type_words t) → variables_named (type_parts t ++ []) ≡ []
last_unnamed t h = ap variables_named (append-nil (type_parts t)) ∙ type_unnamed t h

mutual
  term_unnamed : (e : TermText) → variables_named (term_parts e) ≡ []
  term_unnamed (term.named x) = refl
  term_unnamed (term.applied x es) = none_joined (terms_parts es) (sign Close) [] (terms_unnamed es) refl

  terms_unnamed : (es : TermList) → variables_named (terms_parts es) ≡ []
  terms_unnamed (term.last e) = term_unnamed e
  terms_unnamed (term.more e es) = none_joined (term_parts e) (sign Comma) (terms_parts es) (term_unnamed e) (terms_unnamed es)

cursor_unnamed : (after : Option TermText) → variables_named (cursor_parts after) ≡ []
cursor_unnamed None = refl
cursor_unnamed (Some e) = ap variables_named (append-nil (term_parts e)) ∙ term_unnamed e

types_unnamed : (ts : TypeList) → AllByRecursion (λ t. HasNoDollar (type_words t)) (list_of ts) → variables_named (types_parts ts) ≡ []
types_unnamed (types.last t) closed = type_unnamed t closed.0
types_unnamed (types.more t ts) closed = none_joined (type_parts t) (sign Bar) (types_parts ts) (type_unnamed t closed.0) (types_unnamed ts closed.1)

-- a query whose types have none
query_unnamed : (q : QueryText) → AllByRecursion (λ t. HasNoDollar (type_words t)) (query_types q) → variables_named (query_parts q) ≡ []
query_unnamed (Sub s t) closed = none_joined (type_parts s) (sign AtMost) (type_parts t ++ []) (type_unnamed s closed.0) (last_unnamed t closed.1.0)
query_unnamed (Paths x) closed = refl
query_unnamed (Typed e t) closed = none_joined (term_parts e) (sign Colon) (type_parts t ++ []) (term_unnamed e) (last_unnamed t closed.0)
query_unnamed (About asks t) closed = last_unnamed t closed.0
query_unnamed (Page asks l) closed =
    ap variables_named (split_page asks l)
    ∙ (variables_join (type_parts l.goal) (number_parts l.max l.take ++ cursor_parts l.after)
    ∙ (λ i. type_unnamed l.goal closed.0 i ++ cursor_unnamed l.after i))
query_unnamed (Filtered x l) closed =
    ap variables_named (split_filtered x l)
    ∙ (variables_join (type_parts l.goal) (number_parts l.max l.take ++ cursor_parts l.after)
    ∙ (λ i. type_unnamed l.goal closed.0 i ++ cursor_unnamed l.after i))
query_unnamed (Batch ts) closed = types_unnamed ts closed

-- A LINE
module _ (tables : Tables) (line : List ℕ) (silent : IsSilent (First (line_errors tables line))) where
  no_place : (o : Option ℕ) → position is_dollar (words_of line) ≡ o → position is_dollar (words_of line) ≡ None
  no_place None e = e
  no_place (Some place) e =
      absurd ((each_silent (line_errors tables line) silent).1.1.1.1.1.0 (codes "variable " ++ decimal (byte_at line place)) (place, e, refl))

  undollared : HasNoDollar (words_of line)
  undollared = no_dollar (words_of line) (no_place (position is_dollar (words_of line)) refl)

  pub none_named : (said : QueryText) → Says query_words QueryStands said (words_of line) → variables_named (query_parts said) ≡ []
  none_named said says = query_unnamed said (closed_query said (subst HasNoDollar (sym says.spelled) undollared))

-- what is read, where constructors alone are numbered
pub reads_by : (constructors variables components filters new : List (List ℕ)) (line : List ℕ) (query : Query) (said : QueryText)
    → IsSilent (First (line_errors (tables_of constructors variables components filters) line)) → Says query_words QueryStands said (words_of line)
    → query ≡ query_of (with_query (tables_of constructors variables components filters) said) said → new ≡ with_names constructors (query_parts said)
    → ReadsQuery (tables_of constructors variables components filters) line query (tables_of new variables components filters)
reads_by constructors variables components filters new line query said silent says asked names =
    let tables = tables_of constructors variables components filters in
    let stay : variables ≡ with_variables variables (query_parts said) = sym (ap (with_texts variables) (none_named tables line silent said says)) in
    record {
      faultless = silent;
      said = said;
      spelled = says;
      asked = asked;
      numbered = λ i. tables_of (names i) (stay i) components filters;
    }
