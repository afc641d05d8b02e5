-- The tests of the line of a change one after another, and what each has found.
use Rattle.std.proofs.Common.{◌≡◌, ℕ, ◌-◌, ◌<◌, ◌≤◌, Bool, true, false, List, [], ◌++◌, length, refl, sym, ap, ◌∙◌, subst, inl, inr, arith}
use Rattle.std.specs.Prelude.{Option, Some, None, IfSome, ◌&&◌, IsTrue, ◌↔◌, codes, Err}
use Rattle.std.proofs.lemmas.Bool.{cases_lt, true≢false}
use Rattle.cls_base.specs.Firsts.{Cause, First, IsSilent}
use Rattle.cls_base.specs.Limits.{max_type_depth, max_type_nodes}
use Rattle.cls_lexer.specs.Tokens.{byte_at, tokens_of}
use Rattle.cls_lexer.specs.Words.{Word, words_of}
use Rattle.cls_syntax.specs.Depths.{most_open}
use Rattle.cls_syntax.specs.Faults.{stop}
use Rattle.cls_syntax.specs.LineGrammars.{grammar_read}
use Rattle.cls_syntax.specs.Sorts.{begins_reserved}
use Rattle.cls_syntax.specs.SyntaxFaults.{IsFlat}
use Rattle.cls_syntax.specs.TypeTexts.{TypeText, type_nodes}
use Rattle.cls_query.specs.declared.change.Change.TheVariants.{Add, Remove}
use Rattle.cls_query.specs.Changes.{ChangeText, change_rows, WordsSay}
use Rattle.cls_query.specs.ChangeErrors.{HasLargeType, IsChange, large_type, unknown_component, duplicate_component, change_errors}
use Rattle.cls_query.specs.ChangeSteps.{spelling_errors, naming_errors}
use Rattle.cls_query.specs.QueryErrors.{is_absent, place_words, too_deep}
use Rattle.cls_query.specs.Steps.{text_errors}
use Rattle.cls_query.proofs.ChangeLines.{said_one, stays, stopped}
use Rattle.cls_query.proofs.FirstErrors.{first_front, first_later, silent_both}

-- THE STEPS
module _ (components : List (List ℕ)) (line : List ℕ) where
  abbrev of_names : List (Cause (List ℕ))
  of_names = naming_errors line components

  abbrev of_spelling : List (Cause (List ℕ))
  of_spelling = spelling_errors line ++ of_names

  pub by_spelling : IsSilent (First (text_errors line)) → (o : Option (List ℕ)) → IfSome o (λ w. First (spelling_errors line) w) → IfSome o (λ w. First (change_errors components line) w)
  by_spelling n None h = h
  by_spelling n (Some w) h = first_later (text_errors line) of_spelling w n (first_front (spelling_errors line) of_names w h)

  pub by_names : IsSilent (First (text_errors line)) → IsSilent (First (spelling_errors line)) → (o : Option (List ℕ)) → IfSome o (λ w. First of_names w) → IfSome o (λ w. First (change_errors components line) w)
  by_names n m None h = h
  by_names n m (Some w) h = first_later (text_errors line) of_spelling w n (first_later (spelling_errors line) of_names w m h)

  pub all_silent : IsSilent (First (text_errors line)) → IsSilent (First (spelling_errors line)) → IsSilent (First of_names) → IsSilent (First (change_errors components line))
  all_silent n m k = silent_both (text_errors line) of_spelling n (silent_both (spelling_errors line) of_names m k)

-- THE SPELLING
module _ (line : List ℕ) where
  pub deep_said : max_type_depth < most_open 0 0 (words_of line) → First (spelling_errors line) (codes "deep")
  deep_said l = inl (l, refl)

  not_deep : IsFlat line → IsSilent (too_deep line)
  not_deep flat t h = let l = h.0 in omega (arith, flat, l)

  pub place_said : (rest : List Word) (wants : Bool) → IsFlat line → grammar_read change_rows (words_of line) ≡ Err (stop rest wants)
      → First (spelling_errors line) (place_words (wants && begins_reserved rest) (byte_at line (length (tokens_of line) - length rest)))
  place_said rest wants flat e = inr (not_deep flat, inl (stopped line rest wants e))

  pub form_silent : (said : ChangeText) → IsFlat line → WordsSay said (words_of line) → IsSilent (First (spelling_errors line))
  form_silent said flat says t h = elim h [
    | inl a ↦ not_deep flat t a
    | inr a ↦ elim a.1 [ inl b ↦ stays line said says t b | inr b ↦ b.1 ]
  ]

-- THE NAMES
abbrev IsAddition : ChangeText → Type 0
IsAddition (Add x t) = Unit {0}
IsAddition (Remove x) = ⊥

abbrev IsRemoval : ChangeText → Type 0
IsRemoval (Add x t) = ⊥
IsRemoval (Remove x) = Unit {0}

abbrev pub added_name : ChangeText → List ℕ
added_name (Add x t) = x
added_name (Remove x) = []

abbrev pub removed_name : ChangeText → List ℕ
removed_name (Add x t) = []
removed_name (Remove x) = x

-- the words say nothing else
module _ (line : List ℕ) (said : ChangeText) (says : WordsSay said (words_of line)) where
  same : (other : ChangeText) → WordsSay other (words_of line) → other ≡ said
  same other h = said_one (words_of line) other said h says

  holds : (P : ChangeText → Type 0) → IsChange line P → P said
  holds P h = subst P (same h.0 h.1) h.2

-- a test whether a number is within its limit
pub over : (b : Bool) (n most : ℕ) → (IsTrue b ↔ (n ≤ most)) → b ≡ false → most < n
over b n most h e = elim (cases_lt most n) [ inl l ↦ l | inr g ↦ absurd (true≢false (sym (h.1 g) ∙ e)) ]

-- a new component
module _ (line : List ℕ) (components : List (List ℕ)) (x : List ℕ) (t : TypeText) (says : WordsSay (Add x t) (words_of line)) where
  pub nodes_said : max_type_nodes < type_nodes t → First (naming_errors line components) (codes "nodes")
  nodes_said l = inl ((Add x t, says, l), refl)

  few : type_nodes t ≤ max_type_nodes → IsSilent (large_type line)
  few l w h = let m : max_type_nodes < type_nodes t = holds line (Add x t) says HasLargeType h.0 in omega (arith, l, m)

  none_unknown : IsSilent (unknown_component line components)
  none_unknown w h = subst IsRemoval (same line (Add x t) says (Remove h.0) h.1) tt

  pub duplicate_said : type_nodes t ≤ max_type_nodes → is_absent components x ≡ false → First (naming_errors line components) (codes "duplicate " ++ x)
  duplicate_said l e = inr (few l, inr (none_unknown, inl (x, t, says, e, refl)))

  fresh : is_absent components x ≡ true → IsSilent (duplicate_component line components)
  fresh e w h =
      let is : h.0 ≡ x = ap added_name (same line (Add x t) says (Add h.0 h.1) h.2) in
      true≢false (sym e ∙ (ap (is_absent components) (sym is) ∙ h.3))

  pub addition_silent : type_nodes t ≤ max_type_nodes → is_absent components x ≡ true → IsSilent (First (naming_errors line components))
  addition_silent l e w h = elim h [
    | inl a ↦ few l w a
    | inr a ↦ elim a.1 [ inl b ↦ none_unknown w b | inr b ↦ elim b.1 [ inl d ↦ fresh e w d | inr d ↦ d.1 ] ]
  ]

-- a component that is taken out
module _ (line : List ℕ) (components : List (List ℕ)) (x : List ℕ) (says : WordsSay (Remove x) (words_of line)) where
  none_large : IsSilent (large_type line)
  none_large w h = holds line (Remove x) says HasLargeType h.0

  pub unknown_said : is_absent components x ≡ true → First (naming_errors line components) (codes "unknown " ++ x)
  unknown_said e = inr (none_large, inl (x, says, e, refl))

  known : is_absent components x ≡ false → IsSilent (unknown_component line components)
  known e w h =
      let is : h.0 ≡ x = ap removed_name (same line (Remove x) says (Remove h.0) h.1) in
      true≢false (sym h.2 ∙ (ap (is_absent components) is ∙ e))

  none_added : IsSilent (duplicate_component line components)
  none_added w h = subst IsAddition (same line (Remove x) says (Add h.0 h.1) h.2) tt

  pub removal_silent : is_absent components x ≡ false → IsSilent (First (naming_errors line components))
  removal_silent e w h = elim h [
    | inl a ↦ none_large w a
    | inr a ↦ elim a.1 [ inl b ↦ known e w b | inr b ↦ elim b.1 [ inl d ↦ none_added w d | inr d ↦ d.1 ] ]
  ]
