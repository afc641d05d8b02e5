-- The parts of the code's queries, and what they ask.
use Rattle.std.proofs.Common.{◌≡◌, ℕ, ◌≤◌, Bool, true, false, not, List, [], ◌∷◌, refl, ap, sym, ◌∙◌}
use Rattle.std.specs.Prelude.{Option, Some, None, IfSome, Result, Ok, ◌||◌, ◌&&◌, find, nat_le, is_none}
use Rattle.std.specs.List.{list_any}
use Rattle.std.specs.Option.{option_map, SomeIff}
use Rattle.std.proofs.lemmas.Bool.{le-leb, leb-true, true≢false}
use Rattle.std.proofs.Common.{Bor, zero, suc, arith, Contains, slice_get, ◌+◌, ◌-◌, length}
use Rattle.std.specs.Prelude.{position, is_some}
use Rattle.std.specs.Str.{bytes_eq}
use Rattle.std.proofs.lemmas.Bool.{false_from_ne_true}
use Rattle.std.proofs.lemmas.List.Folds.{list_any_at}
use Rattle.std.proofs.lemmas.Option.{slice_get_within, get_or_from_slice_get}
use Rattle.std.proofs.lemmas.Slice.Eq.{bytes_eq-Decides}
use Rattle.cls_base.specs.Limits.{max_term_size, max_page_terms}
use Rattle.cls_base.specs.Terms.{Applicative}
use Rattle.cls_base.specs.Types.{ClosedType}
use Rattle.cls_lexer.specs.Names.{number_of}
use Rattle.cls_lexer.specs.Numerals.{number_value}
use Rattle.cls_lexer.specs.Words.{Word}
use Rattle.cls_syntax.specs.Faults.{Stop}
use Rattle.cls_syntax.specs.declared.role.Role.TheVariants.{Filter}
use Rattle.cls_syntax.specs.Forms.{Part, Values, naming, numeral, type_parts}
use Rattle.cls_syntax.specs.LineReading.{line_read}
use Rattle.cls_syntax.specs.TypeSchemas.{with_constructors}
use Rattle.cls_syntax.specs.TypeTexts.{type_words}
use Rattle.cls_syntax.specs.TermTexts.{TermText, term_words}
use Rattle.cls_syntax.specs.declared.spelled_term.SpelledTerm.{SpelledTerm}
use Rattle.cls_syntax.specs.declared.spelled_type.SpelledType.{SpelledType}
use Rattle.cls_syntax.specs.SpelledTerms.{term_text}
use Rattle.cls_syntax.specs.SpelledTypes.{type_text}
use Rattle.cls_term.specs.TokenFaults as faults
use Rattle.cls_query.specs.declared.query.Query.TheVariants.{Sub, Typed, About, Page, Filtered}
use Rattle.cls_query.specs.declared.word.GoalWord.{GoalWord}
use Rattle.cls_query.specs.declared.word.ListingWord.{ListingWord}
use Rattle.cls_query.specs.declared.word.QueryWord.TheVariants as first
use Rattle.cls_query.specs.FormAnswers.{SpelledListing, SpelledQuery, listing_text, query_text, IsWithin, AreInRange, spelled_in, place_behind}
use Rattle.cls_query.specs.QueryForms.{listing_form, filtered_form}
use Rattle.cls_query.specs.QueryReading.{said_of, query_after}
use Rattle.cls_query.specs.Queries.{Listing, Query, QueryText, query_parts, with_names, tables_of, type_in, term_in, listing_of, query_of}
use Rattle.cls_query.specs.QueryErrors.{query_types, is_large, is_outside, is_excessive, is_absent, is_unknown, is_unknown_in_term}
use Rattle.cls_query.proofs.Searches.{behind}
use Rattle.cls_query.proofs.FormParts.{comparison_inside, typing_inside, goal_inside, page_outside, comparison_known, typing_known, goal_known, page_known, comparison_in_term, typing_in_term, goal_in_term, plain_in_term, cursor_in_term, cursor_within, typing_within, comparison_names, typing_names, goal_names, page_names, page_types, filtered_outside, filtered_known, filtered_unknown, filtered_plain, filtered_in_term, filtered_within, filtered_names, filtered_types, or_nothing}
use Rattle.cls_query.proofs.Numbering.{names_of_type}

-- RANGES
abbrev outside : ℕ → List ℕ → Bool
outside greatest digits = is_outside (numeral 1 greatest digits)

inside : (greatest : ℕ) (digits : List ℕ) → IsWithin greatest digits → outside greatest digits ≡ false
inside greatest digits w = λ i. not (le-leb 1 (number_value digits) w.0 i && le-leb (number_value digits) greatest w.1 i)

within : (greatest : ℕ) (digits : List ℕ) → outside greatest digits ≡ false → IsWithin greatest digits
within greatest digits e = (elim (nat_le 1 (number_value digits)) as (λ b. nat_le 1 (number_value digits) ≡ b → not (b && nat_le (number_value digits) greatest) ≡ false → IsWithin greatest digits) [
  | true ↦ λ a k. (leb-true 1 (number_value digits) a, leb-true (number_value digits) greatest (unnot (nat_le (number_value digits) greatest) k))
  | false ↦ λ a k. absurd (true≢false k)
]) refl e
  where
    unnot : (b : Bool) → not b ≡ false → b ≡ true
    unnot true k = refl
    unnot false k = absurd (true≢false k)

pub both_inside : (max take : List ℕ) → AreInRange max take → (outside max_term_size max || outside max_page_terms take) ≡ false
both_inside max take r = λ i. inside max_term_size max r.0 i || inside max_page_terms take r.1 i

pub both_within : (max take : List ℕ) → (outside max_term_size max || outside max_page_terms take) ≡ false → AreInRange max take
both_within max take e = (elim (outside max_term_size max) as (λ b. outside max_term_size max ≡ b → (b || outside max_page_terms take) ≡ false → AreInRange max take) [
  | true ↦ λ a k. absurd (true≢false k)
  | false ↦ λ a k. (within max_term_size max a, within max_page_terms take k)
]) refl e

-- the numbers are there if and only if none is outside
pub numbers_none : {A : Type 0} (o : Option A) (v : A) (max take : List ℕ) → SomeIff o (AreInRange max take) v → is_none o ≡ (outside max_term_size max || outside max_page_terms take)
numbers_none None v max take n = (elim (outside max_term_size max || outside max_page_terms take) as (λ b. (outside max_term_size max || outside max_page_terms take) ≡ b → true ≡ b) [
  | true ↦ λ e. refl
  | false ↦ λ e. absurd (n (both_within max take e))
]) refl
numbers_none (Some x) v max take s = sym (both_inside max take s.0)

-- NAMES OF COMPONENTS
pub absent_is : (table : List (List ℕ)) (x : List ℕ) → (Contains table x → ⊥) → is_absent table x ≡ true
absent_is [] x n = refl
absent_is (y ∷ ys) x n =
    let here : bytes_eq x y ≡ false = false_from_ne_true _ (λ t. n (zero, omega arith, sym ((bytes_eq-Decides x y).0 t))) in
    let others = absent_is ys x (λ c. n (suc c.0, (let l = c.1 in omega arith), c.2)) in
    (λ i. not (here i || list_any (bytes_eq x) ys)) ∙ others

pub held_is : (table : List (List ℕ)) (x : List ℕ) (n : ℕ) → slice_get table n ≡ Some x → is_absent table x ≡ false
held_is table x n h = ap not (list_any_at (bytes_eq x) table n x (slice_get_within table n x h) ((bytes_eq-Decides x _).1 (sym (get_or_from_slice_get table n x x h))))

-- TYPES
abbrev has_large : SpelledQuery → Bool
has_large q = list_any is_large (query_types (query_text q))

pub sub_large : {q : SpelledQuery} {s t : SpelledType} → q ≡ Sub s t → list_any is_large (query_types (query_text q)) ≡ (is_large (type_text s) || is_large (type_text t))
sub_large {q = q} {s = s} {t = t} e = ap has_large e ∙ ap (λ b. is_large (type_text s) || b) (or_nothing (is_large (type_text t)))

pub typed_large : {q : SpelledQuery} {e : SpelledTerm} {t : SpelledType} → q ≡ Typed e t → list_any is_large (query_types (query_text q)) ≡ is_large (type_text t)
typed_large {q = q} {e = x} {t = t} e = ap has_large e ∙ or_nothing (is_large (type_text t))

pub about_large : {q : SpelledQuery} {word : GoalWord} {t : SpelledType} → q ≡ About word t → list_any is_large (query_types (query_text q)) ≡ is_large (type_text t)
about_large {q = q} {word = word} {t = t} e = ap has_large e ∙ or_nothing (is_large (type_text t))

pub page_large : {q : SpelledQuery} {word : ListingWord} {l : SpelledListing} → q ≡ Page word l → list_any is_large (query_types (query_text q)) ≡ is_large (type_text l.goal)
page_large {q = q} {word = word} {l = l} e = ap has_large e ∙ (ap (list_any is_large) (page_types word (listing_text l)) ∙ or_nothing (is_large (type_text l.goal)))

pub filtered_large : {q : SpelledQuery} {x : Bor (List ℕ)} {l : SpelledListing} → q ≡ Filtered x l → list_any is_large (query_types (query_text q)) ≡ is_large (type_text l.goal)
filtered_large {q = q} {x = x} {l = l} e = ap has_large e ∙ (ap (list_any is_large) (filtered_types x.now (listing_text l)) ∙ or_nothing (is_large (type_text l.goal)))

-- NUMBERS
abbrev has_outside : SpelledQuery → Bool
has_outside q = is_excessive (query_text q)

pub sub_inside : {q : SpelledQuery} {s t : SpelledType} → q ≡ Sub s t → false ≡ is_excessive (query_text q)
sub_inside {q = q} {s = s} {t = t} e = sym (ap has_outside e ∙ comparison_inside (type_text s) (type_text t))

pub typed_inside : {q : SpelledQuery} {e : SpelledTerm} {t : SpelledType} → q ≡ Typed e t → false ≡ is_excessive (query_text q)
typed_inside {q = q} {e = x} {t = t} e = sym (ap has_outside e ∙ typing_inside (term_text x) (type_text t))

pub about_inside : {q : SpelledQuery} {word : GoalWord} {t : SpelledType} → q ≡ About word t → false ≡ is_excessive (query_text q)
about_inside {q = q} {word = word} {t = t} e = sym (ap has_outside e ∙ goal_inside word (type_text t))

pub page_outside_is : {q : SpelledQuery} {word : ListingWord} {l : SpelledListing} → q ≡ Page word l → is_excessive (query_text q) ≡ (outside max_term_size l.max.text.now || outside max_page_terms l.take.text.now)
page_outside_is {q = q} {word = word} {l = l} e = ap has_outside e ∙ page_outside word (listing_text l)

pub filtered_outside_is : {q : SpelledQuery} {x : Bor (List ℕ)} {l : SpelledListing} → q ≡ Filtered x l → is_excessive (query_text q) ≡ (outside max_term_size l.max.text.now || outside max_page_terms l.take.text.now)
filtered_outside_is {q = q} {x = x} {l = l} e = ap has_outside e ∙ filtered_outside x.now (listing_text l)

pub none_is : {A : Type 0} (o : Option A) (b : Bool) → is_some o ≡ not b → b ≡ is_none o
none_is None true h = refl
none_is None false h = absurd (true≢false (sym h))
none_is (Some x) true h = absurd (true≢false h)
none_is (Some x) false h = refl

-- COMPONENTS AND FILTERS
module _ (components filters : List (List ℕ)) where
  abbrev found_in : SpelledQuery → Option Part
  found_in q = find (is_unknown components filters) (query_parts (query_text q))

  pub sub_known : {q : SpelledQuery} {s t : SpelledType} → q ≡ Sub s t → find (is_unknown components filters) (query_parts (query_text q)) ≡ None
  sub_known {q = q} {s = s} {t = t} e = ap found_in e ∙ comparison_known components filters (type_text s) (type_text t)

  pub typed_known : {q : SpelledQuery} {e : SpelledTerm} {t : SpelledType} → q ≡ Typed e t → find (is_unknown components filters) (query_parts (query_text q)) ≡ None
  typed_known {q = q} {e = x} {t = t} e = ap found_in e ∙ typing_known components filters (term_text x) (type_text t)

  pub about_known : {q : SpelledQuery} {word : GoalWord} {t : SpelledType} → q ≡ About word t → find (is_unknown components filters) (query_parts (query_text q)) ≡ None
  about_known {q = q} {word = word} {t = t} e = ap found_in e ∙ goal_known components filters word (type_text t)

  pub listing_known : {q : SpelledQuery} {word : ListingWord} {l : SpelledListing} → q ≡ Page word l → find (is_unknown components filters) (query_parts (query_text q)) ≡ None
  listing_known {q = q} {word = word} {l = l} e = ap found_in e ∙ page_known components filters word (listing_text l)

  pub filter_known : {q : SpelledQuery} {x : Bor (List ℕ)} {l : SpelledListing} → q ≡ Filtered x l → is_absent filters x.now ≡ false → find (is_unknown components filters) (query_parts (query_text q)) ≡ None
  filter_known {q = q} {x = x} {l = l} e h = ap found_in e ∙ filtered_known components filters x.now (listing_text l) h

  pub filter_unknown : {q : SpelledQuery} {x : Bor (List ℕ)} {l : SpelledListing} → q ≡ Filtered x l → is_absent filters x.now ≡ true → find (is_unknown components filters) (query_parts (query_text q)) ≡ Some (naming Filter x.now)
  filter_unknown {q = q} {x = x} {l = l} e h = ap found_in e ∙ filtered_unknown components filters x.now (listing_text l) h

module _ (components : List (List ℕ)) where
  abbrev placed_in : SpelledQuery → Option ℕ
  placed_in q = position (is_unknown_in_term components) (query_parts (query_text q))

  pub sub_placed : {q : SpelledQuery} {s t : SpelledType} → q ≡ Sub s t → None ≡ position (is_unknown_in_term components) (query_parts (query_text q))
  sub_placed {q = q} {s = s} {t = t} e = sym (ap placed_in e ∙ comparison_in_term components (type_text s) (type_text t))

  pub about_placed : {q : SpelledQuery} {word : GoalWord} {t : SpelledType} → q ≡ About word t → None ≡ position (is_unknown_in_term components) (query_parts (query_text q))
  about_placed {q = q} {word = word} {t = t} e = sym (ap placed_in e ∙ goal_in_term components word (type_text t))

  pub typed_placed : {q : SpelledQuery} {e : SpelledTerm} {t : SpelledType} → q ≡ Typed e t
      → position (is_unknown_in_term components) (query_parts (query_text q)) ≡ behind 1 (position (faults.is_unknown components) (term_words (term_text e)))
  typed_placed {q = q} {e = x} {t = t} e = ap placed_in e ∙ typing_in_term components (term_text x) (type_text t)

  module _ (word : ListingWord) (l : SpelledListing) where
    pub plain_placed : l.after ≡ None → position (is_unknown_in_term components) (query_parts (query_text (Page word l))) ≡ None
    plain_placed d = plain_in_term components word (listing_text l) (ap (λ (o : Option SpelledTerm). option_map term_text o) d)

    module _ (x : SpelledTerm) (d : l.after ≡ Some x) (count : ℕ) (h : length (query_parts (query_text (Page word l))) ≡ count) where
      cursor : (listing_text l).after ≡ Some (term_text x)
      cursor = ap (λ (o : Option SpelledTerm). option_map term_text o) d

      pub cursor_placed : position (is_unknown_in_term components) (query_parts (query_text (Page word l))) ≡ behind (count - length (term_words (term_text x))) (position (faults.is_unknown components) (term_words (term_text x)))
      cursor_placed = cursor_in_term components word (listing_text l) (term_text x) cursor count h

      pub cursor_fits : length (term_words (term_text x)) ≤ count
      cursor_fits = cursor_within components word (listing_text l) (term_text x) cursor count h

    module _ (count : ℕ) (h : length (query_parts (query_text (Page word l))) ≡ count) where
      placed_by : (o : Option SpelledTerm) → l.after ≡ o → place_behind components count o ≡ position (is_unknown_in_term components) (query_parts (query_text (Page word l)))
      placed_by None d = sym (plain_placed d)
      placed_by (Some x) d = sym (cursor_placed x d count h)

      fits_by : (o : Option SpelledTerm) → l.after ≡ o → IfSome o (λ x. length (term_words (term_text x)) ≤ count)
      fits_by None d = tt
      fits_by (Some x) d = cursor_fits x d count h

  module _ {q : SpelledQuery} {word : ListingWord} {l : SpelledListing} (e : q ≡ Page word l) (count : ℕ) (h : length (query_parts (query_text q)) ≡ count) where
    counted : length (query_parts (query_text (Page word l))) ≡ count
    counted = sym (ap (λ (p : SpelledQuery). length (query_parts (query_text p))) e) ∙ h

    pub page_placed : place_behind components count l.after ≡ position (is_unknown_in_term components) (query_parts (query_text q))
    page_placed = placed_by word l count counted l.after refl ∙ sym (ap placed_in e)

    pub page_fits : IfSome l.after (λ x. length (term_words (term_text x)) ≤ count)
    page_fits = fits_by word l count counted l.after refl

  module _ (x : Bor (List ℕ)) (l : SpelledListing) where
    pub filtered_plain_placed : l.after ≡ None → position (is_unknown_in_term components) (query_parts (query_text (Filtered x l))) ≡ None
    filtered_plain_placed d = filtered_plain components x.now (listing_text l) (ap (λ (o : Option SpelledTerm). option_map term_text o) d)

    module _ (e : SpelledTerm) (d : l.after ≡ Some e) (count : ℕ) (h : length (query_parts (query_text (Filtered x l))) ≡ count) where
      filtered_cursor : (listing_text l).after ≡ Some (term_text e)
      filtered_cursor = ap (λ (o : Option SpelledTerm). option_map term_text o) d

      pub filtered_cursor_placed : position (is_unknown_in_term components) (query_parts (query_text (Filtered x l))) ≡ behind (count - length (term_words (term_text e))) (position (faults.is_unknown components) (term_words (term_text e)))
      filtered_cursor_placed = filtered_in_term components x.now (listing_text l) (term_text e) filtered_cursor count h

      filtered_cursor_fits : length (term_words (term_text e)) ≤ count
      filtered_cursor_fits = filtered_within components x.now (listing_text l) (term_text e) filtered_cursor count h

    module _ (count : ℕ) (h : length (query_parts (query_text (Filtered x l))) ≡ count) where
      filtered_placed_by : (o : Option SpelledTerm) → l.after ≡ o → place_behind components count o ≡ position (is_unknown_in_term components) (query_parts (query_text (Filtered x l)))
      filtered_placed_by None d = sym (filtered_plain_placed d)
      filtered_placed_by (Some e) d = sym (filtered_cursor_placed e d count h)

      filtered_fits_by : (o : Option SpelledTerm) → l.after ≡ o → IfSome o (λ e. length (term_words (term_text e)) ≤ count)
      filtered_fits_by None d = tt
      filtered_fits_by (Some e) d = filtered_cursor_fits e d count h

  module _ {q : SpelledQuery} {x : Bor (List ℕ)} {l : SpelledListing} (e : q ≡ Filtered x l) (count : ℕ) (h : length (query_parts (query_text q)) ≡ count) where
    filtered_counted : length (query_parts (query_text (Filtered x l))) ≡ count
    filtered_counted = sym (ap (λ (p : SpelledQuery). length (query_parts (query_text p))) e) ∙ h

    pub filtered_placed : place_behind components count l.after ≡ position (is_unknown_in_term components) (query_parts (query_text q))
    filtered_placed = filtered_placed_by x l count filtered_counted l.after refl ∙ sym (ap placed_in e)

    pub filtered_fits : IfSome l.after (λ e. length (term_words (term_text e)) ≤ count)
    filtered_fits = filtered_fits_by x l count filtered_counted l.after refl

pub typed_fits : {q : SpelledQuery} {e : SpelledTerm} {t : SpelledType} → q ≡ Typed e t → (count : ℕ) → length (query_parts (query_text q)) ≡ count → 1 + length (term_words (term_text e)) ≤ count
typed_fits {q = q} {e = x} {t = t} e count h =
    typing_within [] (term_text x) (type_text t) count (sym (ap (λ (p : SpelledQuery). length (query_parts (query_text p))) e) ∙ h)

-- NAMES AND TYPES
module _ (table : List (List ℕ)) where
  abbrev named_in : SpelledQuery → List (List ℕ)
  named_in q = with_names table (query_parts (query_text q))

  pub sub_named : {q : SpelledQuery} {s t : SpelledType} → q ≡ Sub s t → with_constructors (with_constructors table (type_words (type_text s))) (type_words (type_text t)) ≡ with_names table (query_parts (query_text q))
  sub_named {q = q} {s = s} {t = t} e =
      names_of_type (with_constructors table (type_words (type_text s))) (type_text t)
      ∙ (ap (λ (names : List (List ℕ)). with_names names (type_parts (type_text t))) (names_of_type table (type_text s))
      ∙ sym (ap named_in e ∙ comparison_names table (type_text s) (type_text t)))

  pub typed_named : {q : SpelledQuery} {e : SpelledTerm} {t : SpelledType} → q ≡ Typed e t → with_constructors table (type_words (type_text t)) ≡ with_names table (query_parts (query_text q))
  typed_named {q = q} {e = x} {t = t} e = names_of_type table (type_text t) ∙ sym (ap named_in e ∙ typing_names table (term_text x) (type_text t))

  pub about_named : {q : SpelledQuery} {word : GoalWord} {t : SpelledType} → q ≡ About word t → with_constructors table (type_words (type_text t)) ≡ with_names table (query_parts (query_text q))
  about_named {q = q} {word = word} {t = t} e = names_of_type table (type_text t) ∙ sym (ap named_in e ∙ goal_names table word (type_text t))

  pub page_named : {q : SpelledQuery} {word : ListingWord} {l : SpelledListing} → q ≡ Page word l → with_constructors table (type_words (type_text l.goal)) ≡ with_names table (query_parts (query_text q))
  page_named {q = q} {word = word} {l = l} e = names_of_type table (type_text l.goal) ∙ sym (ap named_in e ∙ page_names table word (listing_text l))

  pub filtered_named : {q : SpelledQuery} {x : Bor (List ℕ)} {l : SpelledListing} → q ≡ Filtered x l → with_constructors table (type_words (type_text l.goal)) ≡ with_names table (query_parts (query_text q))
  filtered_named {q = q} {x = x} {l = l} e = names_of_type table (type_text l.goal) ∙ sym (ap named_in e ∙ filtered_names table x.now (listing_text l))

-- WHAT IS ASKED
module _ (constructors components filters : List (List ℕ)) where
  abbrev asked_in : SpelledQuery → Query
  asked_in q = query_of (tables_of constructors [] components filters) (query_text q)

  pub typed_means : {q : SpelledQuery} {e : SpelledTerm} {t : SpelledType} → q ≡ Typed e t → (term : Applicative) (type : ClosedType)
      → term ≡ spelled_in components e → type ≡ type_in constructors (type_text t) → Path Query (Typed term type) (query_of (tables_of constructors [] components filters) (query_text q))
  typed_means {q = q} {e = x} {t = t} e term type a b =
      let asks : Applicative → ClosedType → Query = λ u s. Typed u s in
      (λ i. asks (a i) (b i)) ∙ sym (ap asked_in e)

  pub about_means : {q : SpelledQuery} {word : GoalWord} {t : SpelledType} → q ≡ About word t → (type : ClosedType)
      → type ≡ type_in constructors (type_text t) → Path Query (About word type) (query_of (tables_of constructors [] components filters) (query_text q))
  about_means {q = q} {word = word} {t = t} e type b =
      let asks : ClosedType → Query = λ s. About word s in
      ap asks b ∙ sym (ap asked_in e)

  pub page_means : {q : SpelledQuery} {word : ListingWord} {l : SpelledListing} → q ≡ Page word l → (page : Listing)
      → page ≡ listing_of (tables_of constructors [] components filters) (listing_text l) → Path Query (Page word page) (query_of (tables_of constructors [] components filters) (query_text q))
  page_means {q = q} {word = word} {l = l} e page b =
      let asks : Listing → Query = λ p. Page word p in
      ap asks b ∙ sym (ap asked_in e)

  pub filtered_means : {q : SpelledQuery} {x : Bor (List ℕ)} {l : SpelledListing} → q ≡ Filtered x l → (filter : ℕ) (page : Listing) → filter ≡ number_of filters x.now
      → page ≡ listing_of (tables_of constructors [] components filters) (listing_text l) → Path Query (Filtered filter page) (query_of (tables_of constructors [] components filters) (query_text q))
  filtered_means {q = q} {x = x} {l = l} e filter page a b =
      let asks : ℕ → Listing → Query = λ f p. Filtered f p in
      (λ i. asks (a i) (b i)) ∙ sym (ap asked_in e)

-- a cursor means what its text does
pub cursor_means : (components : List (List ℕ)) (o : Option SpelledTerm) → option_map (spelled_in components) o ≡ option_map (term_in components) (option_map term_text o)
cursor_means components None = refl
cursor_means components (Some e) = refl

-- a listing that was read
ends_alone : (o : Option SpelledTerm) → option_map (λ (a : TermText × Unit {0}). a.0) (option_map (λ e. (term_text e, tt)) o) ≡ option_map term_text o
ends_alone None = refl
ends_alone (Some e) = refl

pub page_read : (word : ListingWord) (l : SpelledListing) (ws : List Word)
    → line_read listing_form ws ≡ Ok (type_text l.goal, (l.max.text.now, (l.take.text.now, option_map (λ e. (term_text e, tt)) l.after)))
    → query_after (first.Page word) ws ≡ Ok (query_text (Page word l))
page_read word l ws e =
    let page : Option TermText → QueryText = λ o. Page word (record { goal = type_text l.goal; max = l.max.text.now; take = l.take.text.now; after = o }) in
    ap (λ (r : Result (Values listing_form) Stop). said_of (first.Page word) r) e ∙ ap (λ (o : Option TermText). Ok (page o)) (ends_alone l.after)

pub filtered_read : (x : Bor (List ℕ)) (l : SpelledListing) (ws : List Word)
    → line_read filtered_form ws ≡ Ok (x.now, (type_text l.goal, (l.max.text.now, (l.take.text.now, option_map (λ e. (term_text e, tt)) l.after))))
    → query_after first.Filtered ws ≡ Ok (query_text (Filtered x l))
filtered_read x l ws e =
    let page : Option TermText → QueryText = λ o. Filtered x.now (record { goal = type_text l.goal; max = l.max.text.now; take = l.take.text.now; after = o }) in
    ap (λ (r : Result (Values filtered_form) Stop). said_of first.Filtered r) e ∙ ap (λ (o : Option TermText). Ok (page o)) (ends_alone l.after)
