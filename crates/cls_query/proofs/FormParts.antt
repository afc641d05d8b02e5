-- The parts and types of each query.
use Rattle.std.proofs.lemmas.List.Folds.{list_any-append}
use Rattle.cls_base.specs.Limits.{max_term_size, max_page_terms}
use Rattle.cls_lexer.specs.Names.{with_texts}
use Rattle.cls_lexer.specs.declared.token.TokenKind.TheVariants.{AtMost, Colon}
use Rattle.std.proofs.Common.{◌≡◌, ℕ, ◌+◌, ◌-◌, ◌≤◌, cond, Bool, true, false, List, [], ◌∷◌, ◌++◌, length, refl, ap, sym, ◌∙◌, arith, append_assoc, append-nil}
use Rattle.std.specs.Prelude.{Option, Some, None, ◌||◌, position, find, codes}
use Rattle.std.specs.List.{list_any}
use Rattle.std.specs.Option.{option_map}
use Rattle.std.proofs.lemmas.List.{length-map, length-append}
use Rattle.cls_lexer.specs.Words.{Word, name, sign}
use Rattle.cls_syntax.specs.declared.role.Role.TheVariants.{Component, Filter}
use Rattle.cls_syntax.specs.TypeTexts.{TypeText}
use Rattle.cls_syntax.specs.TermTexts.{TermText, term_words}
use Rattle.cls_syntax.specs.Forms.{perhaps, Part, fixed, naming, numeral, part_word, type_parts, term_parts, line_parts, constructors_named}
use Rattle.cls_syntax.proofs.LineParts.{term_same}
use Rattle.cls_term.specs.TokenFaults as faults
use Rattle.cls_query.specs.declared.query.Query.TheVariants.{Sub, Paths, Typed, About, Page, Filtered}
use Rattle.cls_query.specs.declared.word.GoalWord.{GoalWord}
use Rattle.cls_query.specs.declared.word.ListingWord.{ListingWord}
use Rattle.cls_query.specs.QueryForms.{listing_word_text, cursor_form, listing_form}
use Rattle.cls_query.specs.Queries.{ListingText, listing_values, query_parts, with_names}
use Rattle.cls_query.specs.QueryErrors.{query_types, line_types, is_outside, is_absent, is_unknown, is_unknown_in_term}
use Rattle.cls_query.proofs.Searches.{behind, both_none, find_none, place_none, place_within}
use Rattle.cls_query.proofs.PartSearches.{joined_none, type_none, unknown_in_words}
use Rattle.cls_query.proofs.RowParts.{comparison_none, goal_none, typing_none, listing_none, only_term, number_parts}
use Rattle.cls_query.proofs.Numbering.{named_both, term_names, texts_both}

-- TYPES
cursor_types : (after : Option TermText) → line_types (perhaps cursor_form) (option_map (λ e. (e, tt)) after) ≡ []
cursor_types None = refl
cursor_types (Some e) = refl

pub page_types : (word : ListingWord) (l : ListingText) → query_types (Page word l) ≡ l.goal ∷ []
page_types word l = ap (λ (ts : List TypeText). l.goal ∷ ts) (cursor_types l.after)

pub filtered_types : (x : List ℕ) (l : ListingText) → query_types (Filtered x l) ≡ l.goal ∷ []
filtered_types x l = ap (λ (ts : List TypeText). l.goal ∷ ts) (cursor_types l.after)

-- A LISTING'S PARTS, its first word, type and numbers apart from what stands behind them
abbrev pub cursor_parts : Option TermText → List Part
cursor_parts None = []
cursor_parts (Some e) = fixed (name (codes "after")) ∷ (term_parts e ++ [])

split_cursor : (after : Option TermText) → line_parts (perhaps cursor_form) (option_map (λ e. (e, tt)) after) ≡ cursor_parts after
split_cursor None = refl
split_cursor (Some e) = refl

abbrev pub page_with : ListingWord → ListingText → List Part → List Part
page_with word l rest = fixed (name (listing_word_text word)) ∷ (type_parts l.goal ++ (number_parts l.max l.take ++ rest))

pub split_page : (word : ListingWord) (l : ListingText) → query_parts (Page word l) ≡ page_with word l (cursor_parts l.after)
split_page word l = ap (page_with word l) (split_cursor l.after)

abbrev pub filtered_with : List ℕ → ListingText → List Part → List Part
filtered_with x l rest = fixed (name (codes "filtered")) ∷ naming Filter x ∷ (type_parts l.goal ++ (number_parts l.max l.take ++ rest))

pub split_filtered : (x : List ℕ) (l : ListingText) → query_parts (Filtered x l) ≡ filtered_with x l (cursor_parts l.after)
split_filtered x l = ap (filtered_with x l) (split_cursor l.after)

-- NUMBERS
pub comparison_inside : (s t : TypeText) → list_any is_outside (query_parts (Sub s t)) ≡ false
comparison_inside s t = comparison_none is_outside (λ w. refl) (λ x. refl) (λ x. refl) (s, (t, tt))

pub typing_inside : (e : TermText) (t : TypeText) → list_any is_outside (query_parts (Typed e t)) ≡ false
typing_inside e t = typing_none is_outside (λ w. refl) (λ x. refl) (λ x. refl) (λ x. refl) (e, (t, tt))

pub goal_inside : (word : GoalWord) (t : TypeText) → list_any is_outside (query_parts (About word t)) ≡ false
goal_inside word t = goal_none is_outside (λ w. refl) (λ x. refl) (λ x. refl) (t, tt)

pub or_nothing : (b : Bool) → (b || false) ≡ b
or_nothing true = refl
or_nothing false = refl

cursor_inside : (after : Option TermText) → list_any is_outside (cursor_parts after) ≡ false
cursor_inside None = refl
cursor_inside (Some e) = only_term is_outside (λ w. refl) (λ x. refl) (λ x. refl) (λ x. refl) e

-- a listing is outside if and only if one of its numbers is
pub page_outside : (word : ListingWord) (l : ListingText) → list_any is_outside (query_parts (Page word l)) ≡ (is_outside (numeral 1 max_term_size l.max) || is_outside (numeral 1 max_page_terms l.take))
page_outside word l =
    let a = is_outside (numeral 1 max_term_size l.max) in
    let b = is_outside (numeral 1 max_page_terms l.take) in
    let rest = number_parts l.max l.take ++ cursor_parts l.after in
    ap (list_any is_outside) (split_page word l)
    ∙ (list_any-append is_outside (type_parts l.goal) rest
    ∙ (ap (λ c. c || list_any is_outside rest) (type_none is_outside (λ w. refl) (λ x. refl) (λ x. refl) l.goal)
    ∙ (ap (λ c. a || (b || c)) (cursor_inside l.after) ∙ ap (λ c. a || c) (or_nothing b))))

pub filtered_outside : (x : List ℕ) (l : ListingText) → list_any is_outside (query_parts (Filtered x l)) ≡ (is_outside (numeral 1 max_term_size l.max) || is_outside (numeral 1 max_page_terms l.take))
filtered_outside x l =
    let a = is_outside (numeral 1 max_term_size l.max) in
    let b = is_outside (numeral 1 max_page_terms l.take) in
    let rest = number_parts l.max l.take ++ cursor_parts l.after in
    ap (list_any is_outside) (split_filtered x l)
    ∙ (list_any-append is_outside (type_parts l.goal) rest
    ∙ (ap (λ c. c || list_any is_outside rest) (type_none is_outside (λ w. refl) (λ x. refl) (λ x. refl) l.goal)
    ∙ (ap (λ c. a || (b || c)) (cursor_inside l.after) ∙ ap (λ c. a || c) (or_nothing b))))

-- COMPONENTS OUTSIDE OF TERMS, AND FILTERS
module _ (components filters : List (List ℕ)) where
  abbrev unknown : Part → Bool
  unknown = is_unknown components filters

  pub comparison_known : (s t : TypeText) → find (is_unknown components filters) (query_parts (Sub s t)) ≡ None
  comparison_known s t = find_none (is_unknown components filters) (query_parts (Sub s t)) (comparison_none (is_unknown components filters) (λ w. refl) (λ x. refl) (λ x. refl) (s, (t, tt)))

  pub typing_known : (e : TermText) (t : TypeText) → find (is_unknown components filters) (query_parts (Typed e t)) ≡ None
  typing_known e t = find_none (is_unknown components filters) (query_parts (Typed e t)) (typing_none (is_unknown components filters) (λ w. refl) (λ x. refl) (λ x. refl) (λ x. refl) (e, (t, tt)))

  pub goal_known : (word : GoalWord) (t : TypeText) → find (is_unknown components filters) (query_parts (About word t)) ≡ None
  goal_known word t = find_none (is_unknown components filters) (query_parts (About word t)) (goal_none (is_unknown components filters) (λ w. refl) (λ x. refl) (λ x. refl) (t, tt))

  pub page_known : (word : ListingWord) (l : ListingText) → find (is_unknown components filters) (query_parts (Page word l)) ≡ None
  page_known word l =
      find_none (is_unknown components filters) (query_parts (Page word l))
      (listing_none (is_unknown components filters) (λ w. refl) (λ x. refl) (λ x. refl) (λ l g d. refl) (λ x. refl) l.goal l.max l.take l.after)

  pub paths_unknown : (x : List ℕ) → is_absent components x ≡ true → find (is_unknown components filters) (query_parts (Paths x)) ≡ Some (naming Component x)
  paths_unknown x h = ap (λ b. cond b (Some (naming Component x)) None) h

  pub paths_known : (x : List ℕ) → is_absent components x ≡ false → find (is_unknown components filters) (query_parts (Paths x)) ≡ None
  paths_known x h = ap (λ b. cond b (Some (naming Component x)) None) h

  pub filtered_unknown : (x : List ℕ) (l : ListingText) → is_absent filters x ≡ true → find (is_unknown components filters) (query_parts (Filtered x l)) ≡ Some (naming Filter x)
  filtered_unknown x l h = ap (λ b. cond b (Some (naming Filter x)) (find unknown (line_parts listing_form (listing_values l)))) h

  pub filtered_known : (x : List ℕ) (l : ListingText) → is_absent filters x ≡ false → find (is_unknown components filters) (query_parts (Filtered x l)) ≡ None
  filtered_known x l h =
      find_none unknown (query_parts (Filtered x l))
      (λ i. h i || listing_none unknown (λ w. refl) (λ y. refl) (λ y. refl) (λ m g d. refl) (λ y. refl) l.goal l.max l.take l.after i)

-- COMPONENTS IN TERMS
module _ (components : List (List ℕ)) where
  abbrev stray : Part → Bool
  stray = is_unknown_in_term components

  abbrev word_stray : Word → Bool
  word_stray = faults.is_unknown components

  pub comparison_in_term : (s t : TypeText) → position (is_unknown_in_term components) (query_parts (Sub s t)) ≡ None
  comparison_in_term s t = place_none stray (query_parts (Sub s t)) (comparison_none stray (λ w. refl) (λ x. refl) (λ x. refl) (s, (t, tt)))

  pub goal_in_term : (word : GoalWord) (t : TypeText) → position (is_unknown_in_term components) (query_parts (About word t)) ≡ None
  goal_in_term word t = place_none stray (query_parts (About word t)) (goal_none stray (λ w. refl) (λ x. refl) (λ x. refl) (t, tt))

  pub typing_in_term : (e : TermText) (t : TypeText) → position (is_unknown_in_term components) (query_parts (Typed e t)) ≡ behind 1 (position word_stray (term_words e))
  typing_in_term e t =
      place_within stray (fixed (name (codes "typed")) ∷ []) (term_parts e) (fixed (sign Colon) ∷ (type_parts t ++ [])) refl
      (joined_none stray (λ w. refl) [] (sign Colon) (type_parts t ++ []) refl (goal_none stray (λ w. refl) (λ x. refl) (λ x. refl) (t, tt)))
      ∙ ap (behind 1) (unknown_in_words components e)

  count_words : (e : TermText) → length (term_parts e) ≡ length (term_words e)
  count_words e = sym (length-map (term_parts e) part_word) ∙ ap length (term_same e)

  -- a listing behind some parts, none of which is stray
  module _ (front : List Part) (plain : list_any stray front ≡ false) (l : ListingText) where
    abbrev listed : List Part → List Part
    listed rest = front ++ (type_parts l.goal ++ (number_parts l.max l.take ++ rest))

    -- the parts in front of the term
    abbrev before_term : List Part
    before_term = listed (fixed (name (codes "after")) ∷ [])

    no_stray_before : list_any stray before_term ≡ false
    no_stray_before =
        both_none stray front (type_parts l.goal ++ (number_parts l.max l.take ++ fixed (name (codes "after")) ∷ [])) plain
        (both_none stray (type_parts l.goal) (number_parts l.max l.take ++ fixed (name (codes "after")) ∷ []) (type_none stray (λ w. refl) (λ x. refl) (λ x. refl) l.goal) refl)

    no_stray_alone : list_any stray (listed []) ≡ false
    no_stray_alone =
        both_none stray front (type_parts l.goal ++ (number_parts l.max l.take ++ [])) plain
        (both_none stray (type_parts l.goal) (number_parts l.max l.take ++ []) (type_none stray (λ w. refl) (λ x. refl) (λ x. refl) l.goal) refl)

    module _ (parts : List Part) (split : parts ≡ listed (cursor_parts l.after)) where
      plain_of : l.after ≡ None → position stray parts ≡ None
      plain_of none = ap (position stray) (split ∙ ap (λ (o : Option TermText). listed (cursor_parts o)) none) ∙ place_none stray (listed []) no_stray_alone

      module _ (e : TermText) (is : l.after ≡ Some e) where
        split_before : parts ≡ before_term ++ (term_parts e ++ [])
        split_before =
            let numbers = number_parts l.max l.take ++ fixed (name (codes "after")) ∷ [] in
            split
            ∙ (ap (λ (o : Option TermText). listed (cursor_parts o)) is
            ∙ (ap (λ (ps : List Part). front ++ ps) (sym (append_assoc (type_parts l.goal) numbers (term_parts e ++ [])))
            ∙ sym (append_assoc front (type_parts l.goal ++ numbers) (term_parts e ++ []))))

        count_before : length parts ≡ length before_term + length (term_words e)
        count_before =
            ap length split_before
            ∙ (length-append before_term (term_parts e ++ [])
            ∙ ap (λ n. length before_term + n) (ap length (append-nil (term_parts e)) ∙ count_words e))

        -- the place in a line of so many parts
        place_of : (count : ℕ) → length parts ≡ count → position stray parts ≡ behind (count - length (term_words e)) (position word_stray (term_words e))
        place_of count h =
            let counted = count_before in
            let place : length before_term ≡ count - length (term_words e) = omega (arith, counted, h) in
            ap (position stray) split_before
            ∙ (place_within stray before_term (term_parts e) [] no_stray_before refl
            ∙ (λ i. behind (place i) (unknown_in_words components e i)))

        -- the term is no longer than the line
        within_of : (count : ℕ) → length parts ≡ count → length (term_words e) ≤ count
        within_of count h = let counted = count_before in omega (arith, counted, h)

  abbrev word_front : ListingWord → List Part
  word_front word = fixed (name (listing_word_text word)) ∷ []

  abbrev filter_front : List ℕ → List Part
  filter_front x = fixed (name (codes "filtered")) ∷ naming Filter x ∷ []

  module _ (word : ListingWord) (l : ListingText) where
    pub plain_in_term : l.after ≡ None → position (is_unknown_in_term components) (query_parts (Page word l)) ≡ None
    plain_in_term none = plain_of (word_front word) refl l (query_parts (Page word l)) (split_page word l) none

    module _ (e : TermText) (is : l.after ≡ Some e) where
      pub cursor_in_term : (count : ℕ) → length (query_parts (Page word l)) ≡ count
          → position (is_unknown_in_term components) (query_parts (Page word l)) ≡ behind (count - length (term_words e)) (position word_stray (term_words e))
      cursor_in_term count h = place_of (word_front word) refl l (query_parts (Page word l)) (split_page word l) e is count h

      pub cursor_within : (count : ℕ) → length (query_parts (Page word l)) ≡ count → length (term_words e) ≤ count
      cursor_within count h = within_of (word_front word) refl l (query_parts (Page word l)) (split_page word l) e is count h

  module _ (x : List ℕ) (l : ListingText) where
    pub filtered_plain : l.after ≡ None → position (is_unknown_in_term components) (query_parts (Filtered x l)) ≡ None
    filtered_plain none = plain_of (filter_front x) refl l (query_parts (Filtered x l)) (split_filtered x l) none

    module _ (e : TermText) (is : l.after ≡ Some e) where
      pub filtered_in_term : (count : ℕ) → length (query_parts (Filtered x l)) ≡ count
          → position (is_unknown_in_term components) (query_parts (Filtered x l)) ≡ behind (count - length (term_words e)) (position word_stray (term_words e))
      filtered_in_term count h = place_of (filter_front x) refl l (query_parts (Filtered x l)) (split_filtered x l) e is count h

      pub filtered_within : (count : ℕ) → length (query_parts (Filtered x l)) ≡ count → length (term_words e) ≤ count
      filtered_within count h = within_of (filter_front x) refl l (query_parts (Filtered x l)) (split_filtered x l) e is count h

  pub typing_within : (e : TermText) (t : TypeText) (count : ℕ) → length (query_parts (Typed e t)) ≡ count → 1 + length (term_words e) ≤ count
  typing_within e t count h =
      let a = length-append (term_parts e) (fixed (sign Colon) ∷ (type_parts t ++ [])) in
      let b = count_words e in
      omega (arith, a, b, h)

-- NAMES
pub comparison_names : (table : List (List ℕ)) (s t : TypeText) → with_names table (query_parts (Sub s t)) ≡ with_names (with_names table (type_parts s)) (type_parts t)
comparison_names table s t =
    ap (with_texts table) (named_both (type_parts s) (fixed (sign AtMost) ∷ (type_parts t ++ [])))
    ∙ (texts_both table (constructors_named (type_parts s)) (constructors_named (type_parts t ++ []))
    ∙ ap (λ (ps : List Part). with_names (with_names table (type_parts s)) ps) (append-nil (type_parts t)))

pub typing_names : (table : List (List ℕ)) (e : TermText) (t : TypeText) → with_names table (query_parts (Typed e t)) ≡ with_names table (type_parts t)
typing_names table e t =
    ap (with_texts table) (named_both (term_parts e) (fixed (sign Colon) ∷ (type_parts t ++ [])) ∙ (λ i. term_names e i ++ constructors_named (append-nil (type_parts t) i)))

pub goal_names : (table : List (List ℕ)) (word : GoalWord) (t : TypeText) → with_names table (query_parts (About word t)) ≡ with_names table (type_parts t)
goal_names table word t = ap (λ (ps : List Part). with_names table ps) (append-nil (type_parts t))

cursor_names : (after : Option TermText) → constructors_named (cursor_parts after) ≡ []
cursor_names None = refl
cursor_names (Some e) = ap constructors_named (append-nil (term_parts e)) ∙ term_names e

pub page_names : (table : List (List ℕ)) (word : ListingWord) (l : ListingText) → with_names table (query_parts (Page word l)) ≡ with_names table (type_parts l.goal)
page_names table word l =
    ap (with_names table) (split_page word l)
    ∙ ap (with_texts table) (named_both (type_parts l.goal) (number_parts l.max l.take ++ cursor_parts l.after) ∙ (ap (λ (xs : List (List ℕ)). constructors_named (type_parts l.goal) ++ xs) (cursor_names l.after) ∙ append-nil (constructors_named (type_parts l.goal))))

pub filtered_names : (table : List (List ℕ)) (x : List ℕ) (l : ListingText) → with_names table (query_parts (Filtered x l)) ≡ with_names table (type_parts l.goal)
filtered_names table x l =
    ap (with_names table) (split_filtered x l)
    ∙ ap (with_texts table) (named_both (type_parts l.goal) (number_parts l.max l.take ++ cursor_parts l.after) ∙ (ap (λ (xs : List (List ℕ)). constructors_named (type_parts l.goal) ++ xs) (cursor_names l.after) ∙ append-nil (constructors_named (type_parts l.goal))))
