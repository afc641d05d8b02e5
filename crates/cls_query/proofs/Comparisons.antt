-- A line is a comparison without errors where both its types are built.
use Rattle.std.proofs.Common.{◌≡◌, ℕ, ◌*◌, ◌<◌, ◌≤◌, false, List, [], ◌∷◌, ◌++◌, length, refl, arith, ap, sym, ◌∙◌, subst, append-nil}
use Rattle.std.specs.Prelude.{◌||◌, codes}
use Rattle.std.specs.List.{list_any}
use Rattle.std.proofs.lemmas.List.{length-map}
use Rattle.cls_base.specs.Firsts.{First, IsSilent}
use Rattle.cls_base.specs.Limits.{max_type_nodes, max_type_depth}
use Rattle.cls_base.specs.Types.{ClosedType}
use Rattle.cls_lexer.specs.Names.{number_of}
use Rattle.cls_lexer.specs.Skipped.{IsText}
use Rattle.cls_lexer.specs.Words.{Word, name, sign, word_of, words, words_of}
use Rattle.cls_lexer.specs.declared.token.TokenKind.TheVariants.{AtMost}
use Rattle.cls_lexer.specs.declared.token.Token.{Token}
use Rattle.cls_syntax.specs.ClosedTypes.{HasNoDollar, Spells}
use Rattle.cls_syntax.specs.Depths.{most_open}
use Rattle.cls_syntax.specs.Faults.{Says}
use Rattle.cls_syntax.specs.Forms.{type_parts}
use Rattle.cls_syntax.specs.Spans as spans
use Rattle.cls_syntax.specs.TypeSchemas.{is_dollar, constructors_in, with_constructors}
use Rattle.cls_syntax.specs.TypeTexts.{TypeText, type_words}
use Rattle.cls_syntax.proofs.LineParts.{line_same, line_stands}
use Rattle.cls_syntax.proofs.PrintedTexts.{join_opens}
use Rattle.cls_syntax.proofs.ReadTypes.{none, type_open, type_opens, text_open}
use Rattle.cls_syntax.proofs.TypeSpans.{spelled_words}
use Rattle.cls_query.specs.Comparisons.{IsSmall, IsWholeClosed, AreBuilt}
use Rattle.cls_query.specs.declared.query.Query.TheVariants.{Sub}
use Rattle.cls_query.specs.Queries.{QueryText, Tables, sub, tables_of, query_words, query_parts, QueryStands, type_in, with_names}
use Rattle.cls_query.specs.QueryErrors.{line_errors}
use Rattle.cls_query.specs.QueryForms.{comparison_form}
use Rattle.cls_query.specs.ReadQueries.{ReadsQuery}
use Rattle.cls_query.proofs.FormParts.{comparison_inside, comparison_known, comparison_in_term, comparison_names}
use Rattle.cls_query.proofs.LineSteps.{all_silent, text_silent, form_silent, types_silent, values_silent}
use Rattle.cls_query.proofs.NodeBounds.{short_is_small}
use Rattle.cls_query.proofs.Numbering.{names_of_type, spelled_is, type_stays}
use Rattle.cls_query.proofs.Searches.{both_none, place_none}
use Rattle.cls_query.proofs.Variables.{reads_by}

-- no more parentheses are open in both texts than in each
flat : (s t : TypeText) → most_open 0 0 (type_words s) ≤ max_type_depth → most_open 0 0 (type_words t) ≤ max_type_depth
    → most_open 0 0 (name (codes "sub") ∷ (type_words s ++ sign AtMost ∷ type_words t)) ≤ max_type_depth
flat s t a b =
    let both = join_opens none (type_words s) (type_words t) (sign AtMost) (type_open s) (type_open t) (λ n. refl) (type_opens s) (type_opens t) 0 0 [] in
    let all = ap (most_open 0 0) (sym (append-nil (type_words s ++ sign AtMost ∷ type_words t))) ∙ both in
    let lower = text_open s in
    let upper = text_open t in
    omega (arith, all, lower, upper, a, b)

-- the comparison of both texts
abbrev compares : TypeText → TypeText → QueryText
compares s t = Sub s t

module _ (line : List ℕ) (s t : TypeText) (spells : words_of line ≡ name (codes "sub") ∷ (type_words s ++ sign AtMost ∷ type_words t)) where
  says : Says query_words QueryStands (compares s t) (words_of line)
  says = record {
    spelled = ap (λ (ws : List Word). name (codes "sub") ∷ ws) (sym (line_same comparison_form (s, (t, tt))) ∙ ap (λ (ws : List Word). type_words s ++ sign AtMost ∷ ws) (append-nil (type_words t))) ∙ sym spells;
    stands = line_stands comparison_form (s, (t, tt)) (tt, (tt, (tt, tt)));
  }

  closed : HasNoDollar (type_words s) → HasNoDollar (type_words t) → HasNoDollar (words_of line)
  closed a b = ap (list_any is_dollar) spells ∙ both_none is_dollar (type_words s) (sign AtMost ∷ type_words t) a b

  module _ (tables : Tables) (text : IsText line)
      (flat_lower : most_open 0 0 (type_words s) ≤ max_type_depth) (flat_upper : most_open 0 0 (type_words t) ≤ max_type_depth)
      (short_lower : 3 * length (type_words s) < 2 * max_type_nodes) (short_upper : 3 * length (type_words t) < 2 * max_type_nodes)
      (closed_lower : HasNoDollar (type_words s)) (closed_upper : HasNoDollar (type_words t)) where
    faultless : IsSilent (First (line_errors tables line))
    faultless =
        all_silent tables line (text_silent line text)
        (form_silent line (compares s t) (subst (λ (ws : List Word). most_open 0 0 ws ≤ max_type_depth) (sym spells) (flat s t flat_lower flat_upper)) says)
        (types_silent line (compares s t) says (λ i. short_is_small s short_lower i || (short_is_small t short_upper i || false)) (place_none is_dollar (words_of line) (closed closed_lower closed_upper)))
        (values_silent line (compares s t) says tables.components tables.filters (comparison_inside s t) (comparison_known tables.components tables.filters s t) (comparison_in_term tables.components s t))

-- the table and the query, where both types are built
module _ (old : List (List ℕ)) (ls ks : List Token) (new : List (List ℕ)) (lower upper : ClosedType)
    (built : AreBuilt old (words ls) (words ks) new lower upper) (a : IsWholeClosed (words ls)) (b : IsWholeClosed (words ks)) where
  abbrev s : TypeText
  s = spans.type_in (words ls)

  abbrev t : TypeText
  t = spans.type_in (words ks)

  spelled_lower : words ls ≡ type_words s
  spelled_lower = spelled_words (words ls) a.whole

  spelled_upper : words ks ≡ type_words t
  spelled_upper = spelled_words (words ks) b.whole

  numbered : new ≡ with_names old (query_parts (compares s t))
  numbered =
      built.numbered
      ∙ ((λ i. with_constructors (with_constructors old (spelled_lower i)) (spelled_upper i))
      ∙ (names_of_type (with_constructors old (type_words s)) t
      ∙ (ap (λ (names : List (List ℕ)). with_names names (type_parts t)) (names_of_type old s)
      ∙ sym (comparison_names old s t))))

  -- a small text that spells a type
  small_text : (ls : List Token) (r : TypeText) → IsSmall ls → words ls ≡ type_words r
      → (3 * length (type_words r) < 2 * max_type_nodes) × (most_open 0 0 (type_words r) ≤ max_type_depth)
  small_text ls r small e =
      let n = length-map ls word_of in
      let m = ap length e in
      let short = small.short in
      (omega (arith, n, m, short), subst (λ (ws : List Word). most_open 0 0 ws ≤ max_type_depth) e small.flat)

  pub reads :
      (line : List ℕ) → words_of line ≡ name (codes "sub") ∷ (words ls ++ sign AtMost ∷ words ks) → IsText line → IsSmall ls → IsSmall ks
      → (variables components filters : List (List ℕ)) → ReadsQuery (tables_of old variables components filters) line (sub lower upper) (tables_of new variables components filters)
  reads line spells text small_lower small_upper variables components filters =
      let spells_types = spells ∙ (λ i. name (codes "sub") ∷ (spelled_lower i ++ sign AtMost ∷ spelled_upper i)) in
      let in_lower = small_text ls s small_lower spelled_lower in
      let in_upper = small_text ks t small_upper spelled_upper in
      let silent =
      faultless line s t spells_types (tables_of old variables components filters) text in_lower.1 in_upper.1 in_lower.0 in_upper.0
      (subst HasNoDollar spelled_lower a.closed)
      (subst HasNoDollar spelled_upper b.closed) in
      reads_by old variables components filters new line (sub lower upper) (compares s t) silent (says line s t spells_types)
      (λ i. sub ((built.lower_is ∙ ap (λ (names : List (List ℕ)). type_in names s) numbered) i) ((built.upper_is ∙ ap (λ (names : List (List ℕ)). type_in names t) numbered) i))
      numbered

-- the lower type keeps its meaning when the names of the upper one come
pub both_built :
    (old mid new : List (List ℕ)) (us vs : List Word) (lower upper : ClosedType) → IsWholeClosed us → mid ≡ with_constructors old us → new ≡ with_constructors mid vs
    → Spells (number_of mid) (spans.type_in us) lower → Spells (number_of new) (spans.type_in vs) upper → AreBuilt old us vs new lower upper
both_built old mid new us vs lower upper a first second is_lower is_upper =
    let s = spans.type_in us in
    let names = first ∙ (ap (with_constructors old) (spelled_words us a.whole) ∙ names_of_type old s) in
    let all = second ∙ ap (λ (table : List (List ℕ)). with_constructors table vs) names in
    record {
      lower_is =
          spelled_is mid s lower is_lower
          ∙ (ap (λ (table : List (List ℕ)). type_in table s) names
          ∙ sym (ap (λ (table : List (List ℕ)). type_in table s) all ∙ type_stays old (constructors_in false vs) s));
      upper_is = spelled_is new (spans.type_in vs) upper is_upper;
      numbered = second ∙ ap (λ (table : List (List ℕ)). with_constructors table vs) first;
    }
