-- What the silence of the errors says of the query that was read.
use Rattle.std.proofs.Common.{◌≡◌, ℕ, suc, zero, ◌+◌, ◌-◌, ◌<◌, ◌≤◌, ◌^◌, Bool, true, false, cond, not, List, [], ◌∷◌, ◌++◌, length, refl, ap, sym, ◌∙◌, subst, inl, inr, arith}
use Rattle.std.specs.Prelude.{Option, Some, None, IfSome, ◌||◌, ◌↔◌, position, codes, if◌then◌else◌}
use Rattle.std.specs.List.{list_any, AllByRecursion}
use Rattle.std.specs.Option.{option_map}
use Rattle.std.specs.Str.{bytes_eq}
use Rattle.std.proofs.lemmas.Bool.{true≢false, false_from_ne_true, cases_lt}
use Rattle.std.proofs.lemmas.List.{length-map, length-append}
use Rattle.std.proofs.lemmas.List.Folds.{list_any-append}
use Rattle.cls_base.specs.Firsts.{IsSilent, First, EachCause}
use Rattle.cls_base.specs.Limits.{max_line_bytes}
use Rattle.cls_base.specs.Spines.{spine, lengths_of}
use Rattle.cls_base.specs.Terms.{Applicative, component, apply, IsTermOver, length_of}
use Rattle.cls_lexer.specs.Characters.{is_blank}
use Rattle.cls_lexer.specs.Names.{number_of}
use Rattle.cls_lexer.specs.Tokens.{token_at, located_at, tokens_from, tokens_of}
use Rattle.cls_lexer.specs.Words.{Word, said, words_of, sign}
use Rattle.cls_lexer.specs.declared.token.TokenKind.TheVariants.{Close, Comma}
use Rattle.cls_syntax.specs.declared.role.Role.TheVariants.{Component, Filter}
use Rattle.cls_syntax.specs.Faults.{Says}
use Rattle.cls_syntax.specs.Forms.{part_word}
use Rattle.cls_syntax.specs.TermTexts.{TermText, TermList, named, applied, last, more, term_words, terms_words}
use Rattle.cls_syntax.specs.TypeTexts.{TypeText}
use Rattle.cls_term.specs.TermReadings.{term_of, terms_of}
use Rattle.cls_term.specs.TokenFaults as faults
use Rattle.cls_term.specs.Weights.{length_of-spine}
use Rattle.cls_term.proofs.TermFaults.{all_known}
use Rattle.cls_query.specs.declared.query.Query.TheVariants.{Sub, Paths, Typed, About, Page, Filtered, Batch}
use Rattle.cls_query.specs.declared.word.GoalWord.TheVariants.{Verify}
use Rattle.cls_query.specs.declared.word.ListingWord.{ListingWord}
use Rattle.cls_query.specs.declared.word.ListingWord.TheVariants as listing
use Rattle.cls_query.specs.FormAnswers.{AreInRange}
use Rattle.cls_query.specs.Queries.{ListingText, Tables, Query, QueryText, query_words, query_parts, QueryStands, tables_of, listing_of, query_of, with_query, term_in}
use Rattle.cls_query.specs.QueryErrors.{is_excessive, is_absent, is_unknown_in_term, line_errors}
use Rattle.cls_query.specs.Readable.{IsPageAsked, IsReadable, IsVerify, begins_with}
use Rattle.cls_query.specs.ReadQueries.{ReadsQuery}
use Rattle.cls_query.specs.Steps.{value_errors}
use Rattle.cls_query.proofs.BatchLines.{batch_readable}
use Rattle.cls_query.proofs.CodeForms.{both_within}
use Rattle.cls_query.proofs.FirstErrors.{each_silent}
use Rattle.cls_query.proofs.FormParts.{page_outside, paths_unknown, typing_in_term, cursor_in_term, cursor_within, filtered_outside, filtered_unknown, filtered_in_term, filtered_within}
use Rattle.cls_query.proofs.RowParts.{words_of_parts}
use Rattle.cls_query.proofs.Searches.{neither, behind}

-- a name of the table has a number below the table's length
pub held_below : (table : List (List ℕ)) (x : List ℕ) → is_absent table x ≡ false → number_of table x < length table
held_below [] x h = absurd (true≢false h)
held_below (y ∷ ys) x h =
    (elim (bytes_eq x y) as (λ b. not (b || list_any (bytes_eq x) ys) ≡ false → cond (not b) (1 + number_of ys x) 0 < length (y ∷ ys)) [
      | true ↦ λ k. omega arith
      | false ↦ λ k. let l = held_below ys x k in omega (arith, l)
    ]) h

-- TERMS
module _ (components : List (List ℕ)) where
  abbrev stray : Word → Bool
  stray = faults.is_unknown components

  abbrev IsOver : Applicative → Type 0
  IsOver e = IsTermOver (length components) e

  over_spine : (f : Applicative) (es : List Applicative) → IsOver f → AllByRecursion IsOver es → IsOver (spine f es)
  over_spine f [] a h = a
  over_spine f (e ∷ es) a h = over_spine (apply f e) es (a, h.0) h.1

  -- no word of two lists with one between them is stray
  both_known : (ws : List Word) (v : Word) (vs : List Word) → list_any stray (ws ++ v ∷ vs) ≡ false → (list_any stray ws ≡ false) × (list_any stray vs ≡ false)
  both_known ws v vs h =
      let both = neither (list_any stray ws) (list_any stray (v ∷ vs)) (sym (list_any-append stray ws (v ∷ vs)) ∙ h) in
      (both.0, (neither (stray v) (list_any stray vs) both.1).1)

  mutual
    pub term_over : (e : TermText) → list_any (faults.is_unknown components) (term_words e) ≡ false → IsTermOver (length components) (term_of (number_of components) e)
    term_over (named x) h = held_below components x (neither (is_absent components x) false h).0
    term_over (applied x es) h =
        let first = neither (is_absent components x) (list_any stray (terms_words es ++ sign Close ∷ [])) h in
        over_spine (component (number_of components x)) (terms_of (number_of components) es) (held_below components x first.0) (terms_over es (both_known (terms_words es) (sign Close) [] first.1).0)

    terms_over : (es : TermList) → list_any stray (terms_words es) ≡ false → AllByRecursion IsOver (terms_of (number_of components) es)
    terms_over (last e) h = (term_over e h, tt)
    terms_over (more e es) h =
        let both = both_known (term_words e) (sign Comma) (terms_words es) h in
        (term_over e both.0, terms_over es both.1)

-- a term is no longer than its text
module _ (number : List ℕ → ℕ) where
  mutual
    pub term_short : (e : TermText) → length_of (term_of number e) ≤ length (term_words e)
    term_short (named x) = omega arith
    term_short (applied x es) =
        let a = length_of-spine (component (number x)) (terms_of number es) in
        let b = terms_short es in
        let c = length-append (terms_words es) (sign Close ∷ []) in
        omega (arith, a, b, c)

    terms_short : (es : TermList) → lengths_of (terms_of number es) ≤ length (terms_words es)
    terms_short (last e) = let a = term_short e in omega (arith, a)
    terms_short (more e es) =
        let a = term_short e in
        let b = terms_short es in
        let c = length-append (term_words e) (sign Comma ∷ terms_words es) in
        omega (arith, a, b, c)

-- a line has at most as many tokens as bytes
few_tokens : (bs : List ℕ) (at skip : ℕ) → length (tokens_from at skip bs) ≤ length bs
unfolding tokens_from
few_tokens [] at skip = omega arith
few_tokens (b ∷ bs) at (suc n) = let a = few_tokens bs (at + 1) n in omega (arith, a)
few_tokens (b ∷ bs) at zero =
    elim (is_blank b) as (λ v. length (if v then tokens_from (at + 1) 0 bs else located_at at b bs ∷ tokens_from (at + 1) ((token_at b bs).1 - 1) bs) ≤ length (b ∷ bs)) [
      | true ↦ let a = few_tokens bs (at + 1) 0 in omega (arith, a)
      | false ↦ let a = few_tokens bs (at + 1) ((token_at b bs).1 - 1) in omega (arith, a)
    ]

few_words : (line : List ℕ) → length (words_of line) ≤ length line
unfolding words_of
few_words line = let a = few_tokens line 0 0 in let b = length-map (tokens_of line) said in omega (arith, a, b)

-- a place that is nowhere
nowhere : (o : Option ℕ) → ((n : ℕ) → o ≡ Some n → ⊥) → o ≡ None
nowhere None n = refl
nowhere (Some i) n = absurd (n i refl)

unplaced : (k : ℕ) (o p : Option ℕ) → p ≡ behind k o → ((n : ℕ) → p ≡ Some n → ⊥) → o ≡ None
unplaced k None p e n = refl
unplaced k (Some i) p e n = absurd (n (k + i) e)

-- THE QUERIES
module _ (tables : Tables) (line : List ℕ) (silent : IsSilent (First (line_errors tables line))) where
  abbrev IsLine : QueryText → Type 0
  IsLine q = Says query_words QueryStands q (words_of line)

  each : EachCause IsSilent (line_errors tables line)
  each = each_silent (line_errors tables line) silent

  -- no error of the values is said, each of which comes after six others
  of_values : EachCause IsSilent (value_errors line tables.components tables.filters)
  of_values = each.1.1.1.1.1.1

  short : length line ≤ max_line_bytes
  short = elim (cases_lt max_line_bytes (length line)) [
    | inl l ↦ absurd (each.0 (codes "long") (l, refl))
    | inr g ↦ g
  ]

  in_range : (q : QueryText) → IsLine q → is_excessive q ≡ false
  in_range q says = false_from_ne_true _ (λ e. of_values.0 (codes "number") ((q, says, e), refl))

  named_known : (x : List ℕ) → IsLine (Paths x) → is_absent tables.components x ≡ false
  named_known x says = false_from_ne_true _ (λ e. of_values.1.0 _ (Paths x, says, (Component, x, paths_unknown tables.components tables.filters x e, refl)))

  filter_known : (x : List ℕ) (l : ListingText) → IsLine (Filtered x l) → is_absent tables.filters x ≡ false
  filter_known x l says = false_from_ne_true _ (λ e. of_values.1.0 _ (Filtered x l, says, (Filter, x, filtered_unknown tables.components tables.filters x l e, refl)))

  none_stray : (q : QueryText) → IsLine q → (place : ℕ) → position (is_unknown_in_term tables.components) (query_parts q) ≡ Some place → ⊥
  none_stray q says place e = of_values.1.1.0 _ (q, says, (place, e, refl))

  -- the parts of the line are at most its bytes
  few_parts : (q : QueryText) → IsLine q → length (query_parts q) ≤ length line
  few_parts q says =
      let parts = query_parts q in
      let a : length parts ≡ length (words_of line) = sym (length-map parts part_word) ∙ ap length (sym (words_of_parts q) ∙ says.spelled) in
      let b = few_words line in
      omega (arith, a, b)

  abbrev n : ℕ
  n = length tables.components

  term_readable : (e : TermText) → position (faults.is_unknown tables.components) (term_words e) ≡ None → IsTermOver n (term_in tables.components e)
  term_readable e h = term_over tables.components e (all_known tables.components (term_words e) h)

  typed_readable : (e : TermText) (t : TypeText) → IsLine (Typed e t) → IsTermOver n (term_in tables.components e)
  typed_readable e t says = term_readable e (unplaced 1 _ _ (typing_in_term tables.components e t) (none_stray (Typed e t) says))

  -- a listing, by the parts of its line
  module _ (q : QueryText) (l : ListingText) (says : IsLine q)
      (placed : (e : TermText) → l.after ≡ Some e → position (is_unknown_in_term tables.components) (query_parts q) ≡ behind (length (query_parts q) - length (term_words e)) (position (faults.is_unknown tables.components) (term_words e)))
      (within : (e : TermText) → l.after ≡ Some e → length (term_words e) ≤ length (query_parts q))
      (range : AreInRange l.max l.take) where
    cursor_readable : (e : TermText) → l.after ≡ Some e → IsTermOver n (term_in tables.components e) × (length_of (term_in tables.components e) < 2 ^ 32)
    cursor_readable e is =
        let fits = within e is in
        let parts = few_parts q says in
        let long = term_short (number_of tables.components) e in
        (term_readable e (unplaced _ _ _ (placed e is) (none_stray q says)), omega (arith, fits, parts, long, short))

    after_readable : (o : Option TermText) → l.after ≡ o → IfSome (option_map (term_in tables.components) o) (λ e. IsTermOver n e × (length_of e < 2 ^ 32))
    after_readable None is = tt
    after_readable (Some e) is = cursor_readable e is

    listing_readable : (constructors variables filters : List (List ℕ)) → IsPageAsked n (listing_of (tables_of constructors variables tables.components filters) l)
    listing_readable constructors variables filters = record {
      max = range.0.1;
      some = range.1.0;
      cursor = after_readable l.after refl;
    }

  page_readable : (word : ListingWord) (l : ListingText) → IsLine (Page word l) → (constructors variables filters : List (List ℕ)) → IsPageAsked n (listing_of (tables_of constructors variables tables.components filters) l)
  page_readable word l says =
      listing_readable (Page word l) l says (λ e is. cursor_in_term tables.components word l e is (length (query_parts (Page word l))) refl) (λ e is. cursor_within tables.components word l e is (length (query_parts (Page word l))) refl)
      (both_within l.max l.take (sym (page_outside word l) ∙ in_range (Page word l) says))

  filtered_readable : (x : List ℕ) (l : ListingText) → IsLine (Filtered x l) → (constructors variables filters : List (List ℕ)) → IsPageAsked n (listing_of (tables_of constructors variables tables.components filters) l)
  filtered_readable x l says =
      listing_readable (Filtered x l) l says (λ e is. filtered_in_term tables.components x l e is (length (query_parts (Filtered x l))) refl) (λ e is. filtered_within tables.components x l e is (length (query_parts (Filtered x l))) refl)
      (both_within l.max l.take (sym (filtered_outside x l) ∙ in_range (Filtered x l) says))

  query_readable_in : (constructors variables : List (List ℕ)) (q : QueryText) → IsLine q → IsReadable n (length tables.filters) (query_of (tables_of constructors variables tables.components tables.filters) q)
  query_readable_in constructors variables (Sub s t) says = tt
  query_readable_in constructors variables (Paths x) says = held_below tables.components x (named_known x says)
  query_readable_in constructors variables (Typed e t) says = typed_readable e t says
  query_readable_in constructors variables (About word t) says = tt
  query_readable_in constructors variables (Page word l) says = page_readable word l says constructors variables tables.filters
  query_readable_in constructors variables (Filtered x l) says = (held_below tables.filters x (filter_known x l says), filtered_readable x l says constructors variables tables.filters)
  query_readable_in constructors variables (Batch ts) says = batch_readable constructors ts (in_range (Batch ts) says)

never : {A : Type 0} → (A → ⊥) → A ↔ (false ≡ true)
never none = ((λ a. absurd (none a)), (λ h. absurd (true≢false (sym h))))

-- what asks for a verification begins with its word
verify_begins : (tables : Tables) (q : QueryText) → IsVerify (query_of tables q) ↔ (begins_with (codes "verify") (query_words q) ≡ true)
verify_begins tables (Sub s t) = never (λ a. a)
verify_begins tables (Paths x) = never (λ a. a)
verify_begins tables (Typed e t) = never (λ a. a)
verify_begins tables (About Verify t) = ((λ a. refl), (λ h. tt))
verify_begins tables (About word t) = never (λ a. a)
verify_begins tables (Page listing.List l) = never (λ a. a)
verify_begins tables (Page word l) = never (λ a. a)
verify_begins tables (Filtered x l) = never (λ a. a)
verify_begins tables (Batch ts) = never (λ a. a)

-- THE QUERY
module _ {tables : Tables} {line : List ℕ} {query : Query} {after : Tables} (r : ReadsQuery tables line query after) where
  pub query_readable : IsReadable (length tables.components) (length tables.filters) query
  query_readable =
      let new = with_query tables r.said in
      subst (IsReadable (length tables.components) (length tables.filters)) (sym r.asked) (query_readable_in tables line r.faultless new.constructors new.variables r.said r.spelled)

  pub query_verify : IsVerify query ↔ (begins_with (codes "verify") (words_of line) ≡ true)
  query_verify =
      subst (λ (q : Query). IsVerify q ↔ (begins_with (codes "verify") (words_of line) ≡ true)) (sym r.asked)
      (subst (λ (ws : List Word). IsVerify (query_of (with_query tables r.said) r.said) ↔ (begins_with (codes "verify") ws ≡ true)) r.spelled.spelled
      (verify_begins (with_query tables r.said) r.said))
