-- What is wrong with what a line says, form by form.
use Rattle.cls_base.specs.Limits.{max_type_nodes, max_cost, max_states}
use Rattle.std.proofs.Common.{◌≡◌, ℕ, ◌-◌, ◌≤◌, ◌<◌, List, [], ◌∷◌, ◌++◌, length, map, refl, sym, ap, ◌∙◌, arith, inl, inr, Contains}
use Rattle.std.specs.Prelude.{◌≢◌, codes, Option, Some, None, position}
use Rattle.std.specs.Fmt.{decimal}
use Rattle.cls_assemble.specs.declared.fault.TemplateFault.{TemplateFault}
use Rattle.cls_assemble.specs.declared.piece.Piece.{Piece}
use Rattle.cls_assemble.specs.Faults.{IsFaultOf}
use Rattle.cls_assemble.specs.Spelling.{IsTemplate}
use Rattle.cls_assemble.proofs.Readings.{templates_have_no_fault}
use Rattle.cls_base.specs.Firsts.{IsSilent, First}
use Rattle.cls_kind.specs.Kinds.{kind_of}
use Rattle.cls_lexer.specs.Names.{number_of}
use Rattle.cls_lexer.specs.Numerals.{number_value}
use Rattle.cls_lexer.specs.Tokens.{byte_at}
use Rattle.cls_lexer.specs.Words.{Word, words_of}
use Rattle.cls_syntax.specs.TypeLists.{types_nodes}
use Rattle.cls_syntax.specs.TypeSchemas.{is_dollar}
use Rattle.cls_syntax.specs.TypeTexts.{TypeText, TypeList, type_nodes}
use Rattle.cls_repo.specs.Declarations.{template_text, filter_of, states_after}
use Rattle.cls_repo.specs.Directives.{Directive, sub, kind, comp, text, end, cost, variance, filter, leaf, app, other}
use Rattle.cls_repo.specs.Drafts.{Draft}
use Rattle.cls_repo.specs.LineFaults.{nodes_in, too_many_nodes, duplicate_component, duplicate_kind, empty_kind, kind_variable, unknown_component, bad_template, template_words, cost_out_of_range, duplicate_variance, unknown_filter, duplicate_filter, is_unknown_filter, too_many_states, directive_faults}
use Rattle.cls_repo.specs.Written.{own_faults}
use Rattle.cls_repo.proofs.Causes.{each_silent}

-- a cause that nothing makes apply
never : (words : List ℕ) → ⊥ → ⊥
never words h = h

no_nodes : (said : Directive) → nodes_in said ≤ max_type_nodes → IsSilent (too_many_nodes said)
no_nodes said few words h = let many = h.0 in absurd (omega arith)

module _ (d : Draft) (line : List ℕ) where
  abbrev Says : Directive → List ℕ → Type 0
  Says said words = First (directive_faults d line said) words

  abbrev IsRight : Directive → Type 0
  IsRight said = IsSilent (First (directive_faults d line said))

  all_silent : (said : Directive) → IsSilent (too_many_nodes said) → IsSilent (duplicate_component d said) → IsSilent (duplicate_kind d said) → IsSilent (empty_kind said) → IsSilent (kind_variable line said)
      → IsSilent (unknown_component d said) → IsSilent (bad_template line said) → IsSilent (cost_out_of_range said) → IsSilent (duplicate_variance d said)
      → IsSilent (unknown_filter d said) → IsSilent (duplicate_filter d said) → IsSilent (too_many_states d said) → IsRight said
  all_silent said a b c e f g h i j k l m =
      each_silent (directive_faults d line said) (a, (b, (c, (e, (f, (g, (h, (i, (j, (k, (l, (m, tt))))))))))))

  few_states : (said : Directive) → length (states_after d said) ≤ max_states → IsSilent (too_many_states d said)
  few_states said few words h = let many = h.2 in absurd (omega (arith, few, many))

  pub unknown_own_first : (said : Directive) (f words : List ℕ) → (Contains d.filter_names f → ⊥) → words ≡ codes "unknown-filter " ++ f → First (own_faults d said f) words
  unknown_own_first said f words none e = inl (none, e)

  -- where the filter is declared, and has few states
  pub own_silent : (said : Directive) (f : List ℕ) → Contains d.filter_names f → length (states_after d said) ≤ max_states → IsSilent (First (own_faults d said f))
  own_silent said f held few words (inl h) = h.0 held
  own_silent said f held few words (inr h) = each_silent (too_many_states d said ∷ []) (few_states said few, tt) words h.1

  -- a line of no filter
  no_filter : (said : Directive) → filter_of said ≡ None → IsSilent (too_many_states d said)
  no_filter said e words h = let k : None ≡ Some h.0 = sym e ∙ h.1 in absurd (cc)

  -- too many nodes
  pub nodes_first : (said : Directive) → max_type_nodes < nodes_in said → Says said (codes "nodes")
  nodes_first said many = inl (many, refl)

  pub sub_right : (a b : List ℕ) → IsRight (sub a b)
  sub_right a b = all_silent (sub a b) (no_nodes (sub a b) (omega arith)) never never never never never never never never never never (no_filter (sub a b) refl)

  pub end_right : IsRight end
  end_right = all_silent end (no_nodes end (omega arith)) never never never never never never never never never never (no_filter end refl)

  -- a component
  pub component_first : (x : List ℕ) (t : TypeText) (words : List ℕ) → type_nodes t ≤ max_type_nodes → Contains d.component_names x → words ≡ codes "duplicate-component " ++ x → Says (comp x t) words
  component_first x t words few held e = inr (no_nodes (comp x t) few, inl (held, e))

  pub component_right : (x : List ℕ) (t : TypeText) → type_nodes t ≤ max_type_nodes → (Contains d.component_names x → ⊥) → IsRight (comp x t)
  component_right x t few new = all_silent (comp x t) (no_nodes (comp x t) few) (λ words h. new h.0) never never never never never never never never never (no_filter (comp x t) refl)

  -- a kind
  pub kind_first : (x : List ℕ) (ts : Option TypeList) (words : List ℕ) → nodes_in (kind x ts) ≤ max_type_nodes → kind_of d.kinds (number_of d.variables x) ≢ [] → words ≡ codes "duplicate-kind " ++ x → Says (kind x ts) words
  kind_first x ts words few held e = inr (no_nodes (kind x ts) few, inr (never, inl (held, e)))

  pub empty_first : (x words : List ℕ) → kind_of d.kinds (number_of d.variables x) ≡ [] → words ≡ codes "empty-kind " ++ x → Says (kind x None) words
  empty_first x words new e = inr (no_nodes (kind x None) (omega arith), inr (never, inr (λ us h. h.0 new, inl e)))

  pub variable_first : (x : List ℕ) (ts : TypeList) (place : ℕ) (words : List ℕ) → types_nodes ts ≤ max_type_nodes → kind_of d.kinds (number_of d.variables x) ≡ [] → position is_dollar (words_of line) ≡ Some place
      → words ≡ codes "kind-variable " ++ decimal (byte_at line place) → Says (kind x (Some ts)) words
  variable_first x ts place words few new p e = inr (no_nodes (kind x (Some ts)) few, inr (never, inr (λ us h. h.0 new, inr (never, inl (place, p, e)))))

  pub kind_right : (x : List ℕ) (ts : TypeList) → types_nodes ts ≤ max_type_nodes → kind_of d.kinds (number_of d.variables x) ≡ [] → position is_dollar (words_of line) ≡ None → IsRight (kind x (Some ts))
  kind_right x ts few new none = all_silent (kind x (Some ts)) (no_nodes (kind x (Some ts)) few) never (λ us h. h.0 new) never (λ us h. let e = sym none ∙ h.1 in absurd (cc)) never never never never never never (no_filter (kind x (Some ts)) refl)

  -- a template
  pub unknown_text_first : (x : List ℕ) (ws : List Word) (words : List ℕ) → (Contains d.component_names x → ⊥) → words ≡ codes "unknown-component " ++ x → Says (text x ws) words
  unknown_text_first x ws words none e = inr (no_nodes (text x ws) (omega arith), inr (never, inr (never, inr (never, inr (never, inl (none, e))))))

  pub template_first : (x : List ℕ) (ws : List Word) (fault : TemplateFault) (words : List ℕ) → Contains d.component_names x → IsFaultOf (template_text line) fault
      → template_words (length line - length (template_text line)) fault ≡ Some words → Says (text x ws) words
  template_first x ws fault words held is e = inr (no_nodes (text x ws) (omega arith), inr (never, inr (never, inr (never, inr (never, inr (λ us h. h.0 held, inl (fault, is, e)))))))

  pub text_right : (x : List ℕ) (ws : List Word) (pieces : List Piece) → Contains d.component_names x → IsTemplate (template_text line) pieces → IsRight (text x ws)
  text_right x ws pieces held is = all_silent (text x ws) (no_nodes (text x ws) (omega arith)) never never never never (λ us h. h.0 held)
      (λ us h. let none = templates_have_no_fault (template_text line) pieces h.0 is h.1 in let e : None ≡ Some us = sym (ap (template_words (length line - length (template_text line))) none) ∙ h.2 in absurd (cc)) never never never never (no_filter (text x ws) refl)

  -- a cost
  pub unknown_cost_first : (x digits words : List ℕ) → (Contains d.component_names x → ⊥) → words ≡ codes "unknown-component " ++ x → Says (cost x digits) words
  unknown_cost_first x digits words none e = inr (no_nodes (cost x digits) (omega arith), inr (never, inr (never, inr (never, inr (never, inl (none, e))))))

  pub cost_first : (x digits words : List ℕ) → Contains d.component_names x → (1 ≤ number_value digits → number_value digits ≤ max_cost → ⊥) → words ≡ codes "cost " ++ x → Says (cost x digits) words
  cost_first x digits words held out e = inr (no_nodes (cost x digits) (omega arith), inr (never, inr (never, inr (never, inr (never, inr (λ us h. h.0 held, inr (never, inl (out, e))))))))

  pub cost_right : (x digits : List ℕ) → Contains d.component_names x → 1 ≤ number_value digits → number_value digits ≤ max_cost → IsRight (cost x digits)
  cost_right x digits held least most = all_silent (cost x digits) (no_nodes (cost x digits) (omega arith)) never never never never (λ us h. h.0 held) never (λ us h. h.0 least most) never never never (no_filter (cost x digits) refl)

  -- a variance
  pub variance_first : (c word words : List ℕ) → Contains (map (λ v. v.0) d.variances) (number_of d.names c) → words ≡ codes "duplicate-variance " ++ c → Says (variance c word) words
  variance_first c word words held e = inr (no_nodes (variance c word) (omega arith), inr (never, inr (never, inr (never, inr (never, inr (never, inr (never, inr (never, inl (held, e)))))))))

  pub variance_right : (c word : List ℕ) → (Contains (map (λ v. v.0) d.variances) (number_of d.names c) → ⊥) → IsRight (variance c word)
  variance_right c word new = all_silent (variance c word) (no_nodes (variance c word) (omega arith)) never never never never never never never (λ us h. new h.0) never never (no_filter (variance c word) refl)

  -- What is wrong with a line of a filter, where all causes in front are silent: the filter isn't declared, or has too many states.
  own_first : (said : Directive) (f : List ℕ) → IsSilent (duplicate_filter d said) → (words : List ℕ) → First (own_faults d said f) words
      → First (is_unknown_filter d f ∷ duplicate_filter d said ∷ too_many_states d said ∷ []) words
  own_first said f new words (inl h) = inl h
  own_first said f new words (inr h) = inr (h.0, inr (new, h.1))

  own_last : (said : Directive) (f : List ℕ) → IsSilent (First (own_faults d said f)) → IsSilent (too_many_states d said)
  own_last said f s words h = s words (inr ((λ us k. s us (inl k)), inl h))

  -- a filter
  pub filter_first : (f q : List ℕ) (qs : List (List ℕ)) (words : List ℕ) → Contains d.filter_names f → words ≡ codes "duplicate-filter " ++ f → Says (filter f q qs) words
  filter_first f q qs words held e =
      inr (no_nodes (filter f q qs) (omega arith), inr (never, inr (never, inr (never, inr (never, inr (never, inr (never, inr (never, inr (never, inr (never, inl (held, e)))))))))))

  pub filter_full : (f q : List ℕ) (qs : List (List ℕ)) (words : List ℕ) → (Contains d.filter_names f → ⊥) → too_many_states d (filter f q qs) words → Says (filter f q qs) words
  filter_full f q qs words new h =
      inr (no_nodes (filter f q qs) (omega arith), inr (never, inr (never, inr (never, inr (never, inr (never, inr (never, inr (never, inr (never, inr (never, inr (λ us k. new k.0, inl h)))))))))))

  pub filter_right : (f q : List ℕ) (qs : List (List ℕ)) → (Contains d.filter_names f → ⊥) → length (states_after d (filter f q qs)) ≤ max_states → IsRight (filter f q qs)
  filter_right f q qs new few =
      all_silent (filter f q qs) (no_nodes (filter f q qs) (omega arith)) never never never never never never never never never (λ us k. new k.0) (few_states (filter f q qs) few)

  -- a line of a filter
  module _ (f x q : List ℕ) where
    pub unknown_leaf_first : (words : List ℕ) → (Contains d.component_names x → ⊥) → words ≡ codes "unknown-component " ++ x → Says (leaf f x q) words
    unknown_leaf_first words none e = inr (no_nodes (leaf f x q) (omega arith), inr (never, inr (never, inr (never, inr (never, inl (none, e))))))

    pub leaf_first : (words : List ℕ) → Contains d.component_names x → First (own_faults d (leaf f x q) f) words → Says (leaf f x q) words
    leaf_first words held h =
        inr (no_nodes (leaf f x q) (omega arith), inr (never, inr (never, inr (never, inr (never, inr (λ us k. k.0 held, inr (never, inr (never, inr (never, own_first (leaf f x q) f never words h)))))))))

    pub leaf_right : Contains d.component_names x → IsSilent (First (own_faults d (leaf f x q) f)) → IsRight (leaf f x q)
    leaf_right held s =
        all_silent (leaf f x q) (no_nodes (leaf f x q) (omega arith)) never never never never (λ us k. k.0 held) never never never (λ us k. s us (inl k)) never (own_last (leaf f x q) f s)

  pub app_first : (f p q r words : List ℕ) → First (own_faults d (app f p q r) f) words → Says (app f p q r) words
  app_first f p q r words h =
      inr (no_nodes (app f p q r) (omega arith), inr (never, inr (never, inr (never, inr (never, inr (never, inr (never, inr (never, inr (never, own_first (app f p q r) f never words h)))))))))

  pub app_right : (f p q r : List ℕ) → IsSilent (First (own_faults d (app f p q r) f)) → IsRight (app f p q r)
  app_right f p q r s =
      all_silent (app f p q r) (no_nodes (app f p q r) (omega arith)) never never never never never never never never (λ us k. s us (inl k)) never (own_last (app f p q r) f s)

  pub other_first : (f q words : List ℕ) → First (own_faults d (other f q) f) words → Says (other f q) words
  other_first f q words h =
      inr (no_nodes (other f q) (omega arith), inr (never, inr (never, inr (never, inr (never, inr (never, inr (never, inr (never, inr (never, own_first (other f q) f never words h)))))))))

  pub other_right : (f q : List ℕ) → IsSilent (First (own_faults d (other f q) f)) → IsRight (other f q)
  other_right f q s =
      all_silent (other f q) (no_nodes (other f q) (omega arith)) never never never never never never never never (λ us k. s us (inl k)) never (own_last (other f q) f s)
