-- The tests of a line one after another, and what each has found.
use Rattle.std.proofs.Common.{◌≡◌, ℕ, ◌-◌, ◌<◌, ◌≤◌, Bool, true, false, List, ◌++◌, length, refl, sym, ◌∙◌, inl, inr, arith}
use Rattle.std.specs.Prelude.{Option, Some, None, IfSome, IsUtf8, ◌&&◌, position, find, codes}
use Rattle.std.specs.Fmt.{decimal}
use Rattle.std.specs.List.{list_any}
use Rattle.std.proofs.lemmas.Bool.{true≢false}
use Rattle.cls_base.specs.Firsts.{Cause, First, IsSilent}
use Rattle.cls_base.specs.Limits.{max_line_bytes, max_type_depth}
use Rattle.cls_lexer.specs.Skipped.{IsText}
use Rattle.cls_lexer.specs.Tokens.{byte_at, tokens_of}
use Rattle.cls_lexer.specs.Words.{Word, words_of}
use Rattle.cls_syntax.specs.declared.role.Role.{Role}
use Rattle.cls_syntax.specs.Depths.{most_open}
use Rattle.cls_syntax.specs.Faults.{Says, stop}
use Rattle.cls_syntax.specs.Forms.{naming}
use Rattle.cls_syntax.specs.Sorts.{begins_reserved}
use Rattle.cls_syntax.specs.SyntaxFaults.{IsFlat}
use Rattle.cls_syntax.specs.TypeSchemas.{is_dollar}
use Rattle.cls_syntax.proofs.TypeFaults.{stops_at}
use Rattle.std.specs.Prelude.{Err}
use Rattle.cls_query.specs.QueryReading.{query_read}
use Rattle.cls_query.specs.Queries.{QueryText, Tables, query_words, query_parts, QueryStands}
use Rattle.cls_query.specs.QueryErrors.{query_types, is_large, is_excessive, is_unknown, is_unknown_in_term, place_words, too_deep, too_many_nodes, has_variable, out_of_range, unknown_name, unknown_in_term, line_errors}
use Rattle.cls_query.specs.Steps.{text_errors, spelling_errors, type_errors, value_errors}
use Rattle.cls_query.proofs.FirstErrors.{first_front, first_later, silent_both}
use Rattle.cls_query.proofs.Searches.{nothing_found}
use Rattle.cls_query.proofs.QueryLines.{holds_of, stays_silent, stop_leaves}

-- THE STEPS
module _ (tables : Tables) (line : List ℕ) where
  abbrev of_values : List (Cause (List ℕ))
  of_values = value_errors line tables.components tables.filters

  abbrev of_types : List (Cause (List ℕ))
  of_types = type_errors line ++ of_values

  abbrev of_spelling : List (Cause (List ℕ))
  of_spelling = spelling_errors line ++ of_types

  pub by_spelling : IsSilent (First (text_errors line)) → (o : Option (List ℕ)) → IfSome o (λ w. First (spelling_errors line) w) → IfSome o (λ w. First (line_errors tables line) w)
  by_spelling n None h = h
  by_spelling n (Some w) h = first_later (text_errors line) of_spelling w n (first_front (spelling_errors line) of_types w h)

  pub by_types : IsSilent (First (text_errors line)) → IsSilent (First (spelling_errors line)) → (o : Option (List ℕ)) → IfSome o (λ w. First (type_errors line) w) → IfSome o (λ w. First (line_errors tables line) w)
  by_types n m None h = h
  by_types n m (Some w) h = first_later (text_errors line) of_spelling w n (first_later (spelling_errors line) of_types w m (first_front (type_errors line) of_values w h))

  pub by_values : IsSilent (First (text_errors line)) → IsSilent (First (spelling_errors line)) → IsSilent (First (type_errors line)) → (o : Option (List ℕ)) → IfSome o (λ w. First (value_errors line tables.components tables.filters) w) → IfSome o (λ w. First (line_errors tables line) w)
  by_values n m k None h = h
  by_values n m k (Some w) h = first_later (text_errors line) of_spelling w n (first_later (spelling_errors line) of_types w m (first_later (type_errors line) of_values w k h))

  pub all_silent : IsSilent (First (text_errors line)) → IsSilent (First (spelling_errors line)) → IsSilent (First (type_errors line)) → IsSilent (First (value_errors line tables.components tables.filters)) → IsSilent (First (line_errors tables line))
  all_silent n m k v = silent_both (text_errors line) of_spelling n (silent_both (spelling_errors line) of_types m (silent_both (type_errors line) of_values k v))

-- THE TEXT
pub long_said : (line : List ℕ) → max_line_bytes < length line → First (text_errors line) (codes "long")
long_said line l = inl (l, refl)

pub utf8_said : (line : List ℕ) → length line ≤ max_line_bytes → (IsUtf8 line → ⊥) → First (text_errors line) (codes "utf8")
utf8_said line l n = inr ((λ t h. let l' = h.0 in omega (arith, l, l')), inl (n, refl))

pub text_silent : (line : List ℕ) → IsText line → IsSilent (First (text_errors line))
text_silent line is t h = elim h [
  | inl a ↦ (let l = is.0 in let l' = a.0 in omega (arith, l, l'))
  | inr a ↦ elim a.1 [ inl b ↦ b.0 is.1 | inr b ↦ b.1 ]
]

-- THE SPELLING
module _ (line : List ℕ) where
  pub deep_said : max_type_depth < most_open 0 0 (words_of line) → First (spelling_errors line) (codes "deep")
  deep_said l = inl (l, refl)

  not_deep : IsFlat line → IsSilent (too_deep line)
  not_deep flat t h = let l = h.0 in omega (arith, flat, l)

  pub place_said : (rest : List Word) (wants : Bool) → IsFlat line → query_read (words_of line) ≡ Err (stop rest wants)
      → First (spelling_errors line) (place_words (wants && begins_reserved rest) (byte_at line (length (tokens_of line) - length rest)))
  place_said rest wants flat e =
      let leaves = stops_at query_words QueryStands line rest wants (stop_leaves (words_of line) rest wants e) in
      inr (not_deep flat, inl (byte_at line (length (tokens_of line) - length rest), wants && begins_reserved rest, leaves, refl))

  pub form_silent : (said : QueryText) → IsFlat line → Says query_words QueryStands said (words_of line) → IsSilent (First (spelling_errors line))
  form_silent said flat says t h = elim h [
    | inl a ↦ not_deep flat t a
    | inr a ↦ elim a.1 [ inl b ↦ stays_silent line said says t b | inr b ↦ b.1 ]
  ]

-- THE TYPES AND THE VALUES
module _ (line : List ℕ) (said : QueryText) (says : Says query_words QueryStands said (words_of line)) where
  pub nodes_said : list_any is_large (query_types said) ≡ true → First (type_errors line) (codes "nodes")
  nodes_said e = inl ((said, says, e), refl)

  few_nodes : list_any is_large (query_types said) ≡ false → IsSilent (too_many_nodes line)
  few_nodes e t h = true≢false (sym (holds_of line said says (λ v. list_any is_large (query_types v) ≡ true) h.0) ∙ e)

  pub variable_said : list_any is_large (query_types said) ≡ false → (place : ℕ) → position is_dollar (words_of line) ≡ Some place → First (type_errors line) (codes "variable " ++ decimal (byte_at line place))
  variable_said e place p = inr (few_nodes e, inl (place, p, refl))

  no_variable : position is_dollar (words_of line) ≡ None → IsSilent (has_variable line)
  no_variable p t h = nothing_found h.0 (sym p ∙ h.1)

  pub types_silent : list_any is_large (query_types said) ≡ false → position is_dollar (words_of line) ≡ None → IsSilent (First (type_errors line))
  types_silent e p t h = elim h [
    | inl a ↦ few_nodes e t a
    | inr a ↦ elim a.1 [ inl b ↦ no_variable p t b | inr b ↦ b.1 ]
  ]

  module _ (components filters : List (List ℕ)) where
    pub range_said : is_excessive said ≡ true → First (value_errors line components filters) (codes "number")
    range_said e = inl ((said, says, e), refl)

    in_range : is_excessive said ≡ false → IsSilent (out_of_range line)
    in_range e t h = true≢false (sym (holds_of line said says (λ v. is_excessive v ≡ true) h.0) ∙ e)

    pub unknown_said : is_excessive said ≡ false → (role : Role) (x : List ℕ) → find (is_unknown components filters) (query_parts said) ≡ Some (naming role x) → First (value_errors line components filters) (codes "unknown " ++ x)
    unknown_said e role x f = inr (in_range e, inl (said, says, (role, x, f, refl)))

    known : find (is_unknown components filters) (query_parts said) ≡ None → IsSilent (unknown_name line components filters)
    known f t h =
        let q = holds_of line said says (λ v. (role : Role) × (x : List ℕ) × (find (is_unknown components filters) (query_parts v) ≡ Some (naming role x)) × (t ≡ codes "unknown " ++ x)) h in
        nothing_found (naming q.0 q.1) (sym f ∙ q.2)

    pub term_said : is_excessive said ≡ false → find (is_unknown components filters) (query_parts said) ≡ None → (place : ℕ)
        → position (is_unknown_in_term components) (query_parts said) ≡ Some place → First (value_errors line components filters) (codes "token " ++ decimal (byte_at line place))
    term_said e f place p = inr (in_range e, inr (known f, inl (said, says, (place, p, refl))))

    known_in_term : position (is_unknown_in_term components) (query_parts said) ≡ None → IsSilent (unknown_in_term line components)
    known_in_term p t h =
        let q = holds_of line said says (λ v. (place : ℕ) × (position (is_unknown_in_term components) (query_parts v) ≡ Some place) × (t ≡ codes "token " ++ decimal (byte_at line place))) h in
        nothing_found q.0 (sym p ∙ q.1)

    pub values_silent : is_excessive said ≡ false → find (is_unknown components filters) (query_parts said) ≡ None
        → position (is_unknown_in_term components) (query_parts said) ≡ None → IsSilent (First (value_errors line components filters))
    values_silent e f p t h = elim h [
      | inl a ↦ in_range e t a
      | inr a ↦ elim a.1 [ inl b ↦ known f t b | inr b ↦ elim b.1 [ inl d ↦ known_in_term p t d | inr d ↦ d.1 ] ]
    ]
