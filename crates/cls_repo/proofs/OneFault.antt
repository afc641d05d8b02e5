-- No two faults are said of a line.
use Rattle.std.proofs.Common.{◌≡◌, ℕ, ◌<◌, ◌-◌, ◌++◌, false, List, length, sym, ap, ◌∙◌, subst, IsUtf8}
use Rattle.std.specs.Prelude.{codes, Option, Some, None}
use Rattle.std.specs.Fmt.{decimal}
use Rattle.cls_assemble.specs.declared.fault.TemplateFault.{TemplateFault}
use Rattle.cls_assemble.specs.declared.fault.TemplateFault.TheVariants as faults
use Rattle.cls_assemble.proofs.Readings.{faults_are_unique}
use Rattle.cls_base.specs.Firsts.{First, IsDetermined}
use Rattle.cls_base.specs.Limits.{max_line_bytes, max_type_nodes}
use Rattle.cls_base.proofs.Firsts.{first-determined}
use Rattle.cls_lexer.specs.Tokens.{byte_at}
use Rattle.cls_lexer.specs.Words.{words_of}
use Rattle.cls_syntax.specs.LineGrammars.{row_words, RowStands}
use Rattle.cls_syntax.proofs.OnePlace.{one_byte}
use Rattle.cls_repo.specs.Declarations.{template_text}
use Rattle.cls_repo.specs.Directives.{Directive, kind, comp, text, cost, variance, filter, leaf, app, other, repository_rows, begins_directive}
use Rattle.cls_repo.specs.Drafts.{Draft}
use Rattle.cls_repo.specs.LineFaults.{too_deep, spelling_words, misspelled, nodes_in, duplicate_component, duplicate_kind, empty_kind, kind_variable, unknown_component, bad_template, template_words, cost_out_of_range, duplicate_variance, unknown_filter, duplicate_filter, too_many_states, directive_faults, wrong_directive, line_faults}
use Rattle.cls_repo.proofs.Lines.{said_one}

pub said_alone : {T : Type 0} (A : Type 0) (c : T) → IsDetermined (λ t. A × (t ≡ c))
said_alone A c t u p q = p.1 ∙ sym q.1

abbrev some_or : {A : Type 0} → A → Option A → A
some_or d None = d
some_or d (Some x) = x

pub some_one : {A : Type 0} {x y : A} → ◌≡◌ {A = Option A} (Some x) (Some y) → x ≡ y
some_one {x = x} e = ap (some_or x) e

pub none_some : {A : Type 0} (x : A) → ◌≡◌ {A = Option A} None (Some x) → ⊥
none_some x e = cc

module _ (d : Draft) (line : List ℕ) where
  component_one : (said : Directive) → IsDetermined (duplicate_component d said)
  component_one (comp x t) words second p q = p.1 ∙ sym q.1
  component_one _ words second p q = absurd p

  kind_one : (said : Directive) → IsDetermined (duplicate_kind d said)
  kind_one (kind x ts) words second p q = p.1 ∙ sym q.1
  kind_one _ words second p q = absurd p

  empty_one : (said : Directive) → IsDetermined (empty_kind said)
  empty_one (kind x None) words second p q = p ∙ sym q
  empty_one (kind x (Some ts)) words second p q = absurd p
  empty_one _ words second p q = absurd p

  variable_one : (said : Directive) → IsDetermined (kind_variable line said)
  variable_one (kind x ts) words second p q = p.2 ∙ (ap (λ n. codes "kind-variable " ++ decimal (byte_at line n)) (some_one (sym p.1 ∙ q.1)) ∙ sym q.2)
  variable_one _ words second p q = absurd p

  unknown_one : (said : Directive) → IsDetermined (unknown_component d said)
  unknown_one (text x ws) words second p q = p.1 ∙ sym q.1
  unknown_one (cost x digits) words second p q = p.1 ∙ sym q.1
  unknown_one (leaf f x state) words second p q = p.1 ∙ sym q.1
  unknown_one _ words second p q = absurd p

  -- a fault of a template with words isn't out of memory
  has_words : (start : ℕ) (fault : TemplateFault) (words : List ℕ) → template_words start fault ≡ Some words → fault ≡ faults.OutOfMemory → ⊥
  has_words start fault words e f = none_some words (sym (ap (template_words start) f) ∙ e)

  template_one : (said : Directive) → IsDetermined (bad_template line said)
  template_one (text x ws) words second p q =
      let start = length line - length (template_text line) in
      let same = faults_are_unique (template_text line) p.0 q.0 (has_words start p.0 words p.2) (has_words start q.0 second q.2) p.1 q.1 in
      some_one (sym p.2 ∙ (ap (template_words start) same ∙ q.2))
  template_one _ words second p q = absurd p

  cost_one : (said : Directive) → IsDetermined (cost_out_of_range said)
  cost_one (cost x digits) words second p q = p.1 ∙ sym q.1
  cost_one _ words second p q = absurd p

  variance_one : (said : Directive) → IsDetermined (duplicate_variance d said)
  variance_one (variance c word) words second p q = p.1 ∙ sym q.1
  variance_one _ words second p q = absurd p

  unknown_filter_one : (said : Directive) → IsDetermined (unknown_filter d said)
  unknown_filter_one (leaf f x state) words others p q = p.1 ∙ sym q.1
  unknown_filter_one (app f left right state) words others p q = p.1 ∙ sym q.1
  unknown_filter_one (other f state) words others p q = p.1 ∙ sym q.1
  unknown_filter_one _ words others p q = absurd p

  duplicate_filter_one : (said : Directive) → IsDetermined (duplicate_filter d said)
  duplicate_filter_one (filter f state states) words others p q = p.1 ∙ sym q.1
  duplicate_filter_one _ words others p q = absurd p

  states_one : (said : Directive) → IsDetermined (too_many_states d said)
  states_one said words others p q = p.3 ∙ (ap (λ f. codes "states " ++ f) (some_one (sym p.1 ∙ q.1)) ∙ sym q.3)

  -- no two faults are said of what a line says
  directive_one : (said : Directive) → IsDetermined (First (directive_faults d line said))
  directive_one said =
      first-determined (directive_faults d line said)
      (said_alone (max_type_nodes < nodes_in said) (codes "nodes"), (component_one said, (kind_one said, (empty_one said, (variable_one said, (unknown_one said, (template_one said, (cost_one said, (variance_one said, (unknown_filter_one said, (duplicate_filter_one said, (states_one said, tt))))))))))))

  deep_one : IsDetermined (too_deep line)
  deep_one words second p q = p.2 ∙ sym q.2

  place_one : IsDetermined (misspelled line)
  place_one words second p q =
      let one = one_byte (row_words repository_rows) (RowStands repository_rows) line p.0 q.0 p.1 q.1 p.2 q.2 in
      p.3 ∙ ((λ i. spelling_words (one.bytes i) (one.flags i)) ∙ sym q.3)

  wrong_one : IsDetermined (wrong_directive d line)
  wrong_one words second p q =
      directive_one p.0 words second p.2 (subst (λ (said : Directive). First (directive_faults d line said) second) (said_one (words_of line) q.0 p.0 q.1.says p.1.says) q.2)

  pub fault_one : IsDetermined (First (line_faults d line))
  fault_one =
      first-determined (line_faults d line)
      (said_alone (max_line_bytes < length line) (codes "long"), (said_alone (IsUtf8 line → ⊥) (codes "utf8"), (said_alone (begins_directive (words_of line) ≡ false) (codes "directive"), (deep_one, (place_one, (wrong_one, tt))))))
