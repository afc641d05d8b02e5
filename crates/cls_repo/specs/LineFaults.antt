-- The faults of a line of a repository, in the order in which they are tested. Each is a cause, which says its words.
use Rattle.cls_base.specs.Limits.{max_line_bytes, max_type_depth, max_type_nodes, max_cost, max_states}
use Rattle.std.specs.Prelude.{ℕ, ◌≡◌, ◌≢◌, ◌≤◌, ◌<◌, ◌+◌, ◌-◌, Bool, false, List, [], ◌∷◌, ◌++◌, length, map, codes, Contains, IsUtf8, Option, Some, None, position, if◌then◌else◌}
use Rattle.std.specs.Fmt.{decimal}
use Rattle.cls_base.specs.Firsts.{Cause, First}
use Rattle.cls_kind.specs.Kinds.{kind_of}
use Rattle.cls_lexer.specs.Names.{number_of}
use Rattle.cls_lexer.specs.Numerals.{number_value}
use Rattle.cls_lexer.specs.Tokens.{byte_at}
use Rattle.cls_lexer.specs.Words.{words_of}
use Rattle.cls_syntax.specs.Depths.{most_open}
use Rattle.cls_syntax.specs.LineGrammars.{row_words, RowStands}
use Rattle.cls_syntax.specs.SyntaxFaults.{LeavesAt}
use Rattle.cls_syntax.specs.TypeLists.{types_nodes}
use Rattle.cls_syntax.specs.TypeSchemas.{is_dollar}
use Rattle.cls_syntax.specs.TypeTexts.{type_nodes}
use Rattle.cls_assemble.specs.declared.fault.TemplateFault.{TemplateFault}
use Rattle.cls_assemble.specs.declared.fault.TemplateFault.TheVariants.{BadHole, HoleZero, HoleOver16, OutOfMemory}
use Rattle.cls_assemble.specs.Faults.{IsFaultOf}
use Rattle.cls_repo.specs.Directives.{Directive, kind, comp, text, cost, variance, filter, leaf, app, other, repository_rows, begins_word, begins_directive, LineSays}
use Rattle.cls_repo.specs.Drafts.{Draft}
use Rattle.cls_repo.specs.Declarations.{template_text, filter_of, states_after}

-- A fault of a line, said in its words.
abbrev pub Fault : Type 1
Fault = Cause (List ℕ)

-- The line has too many bytes.
abbrev pub too_long : List ℕ → Fault
too_long line words = (max_line_bytes < length line) × (words ≡ codes "long")

-- The line isn't UTF-8.
abbrev pub not_utf8 : List ℕ → Fault
not_utf8 line words = (IsUtf8 line → ⊥) × (words ≡ codes "utf8")

-- No line of a repository begins with the first word.
abbrev pub unknown_directive : List ℕ → Fault
unknown_directive line words = (begins_directive (words_of line) ≡ false) × (words ≡ codes "directive")

-- Too many parentheses are open at once. Those of a `text` line don't count.
abbrev pub too_deep : List ℕ → Fault
too_deep line words =
    (begins_word (codes "text") (words_of line) ≡ false)
    × (max_type_depth < most_open 0 0 (words_of line))
    × (words ≡ codes "deep")

-- The line leaves the table at this byte. `reserved` says that `omega` stands there and a name could.
abbrev pub spelling_words : ℕ → (reserved : Bool) → List ℕ
spelling_words byte reserved = (if reserved then codes "reserved " else codes "syntax ") ++ decimal byte

abbrev pub misspelled : List ℕ → Fault
misspelled line words =
    (byte : ℕ) × (reserved : Bool)
    × LeavesAt (row_words repository_rows) (RowStands repository_rows) line byte reserved
    × (words ≡ spelling_words byte reserved)

-- The nodes of the largest type of the line.
abbrev pub nodes_in : Directive → ℕ
nodes_in (kind x (Some ts)) = types_nodes ts
nodes_in (comp x t) = type_nodes t
nodes_in _ = 0

abbrev pub too_many_nodes : Directive → Fault
too_many_nodes said words = (max_type_nodes < nodes_in said) × (words ≡ codes "nodes")

-- A `comp` line names a component that is declared.
abbrev pub duplicate_component : Draft → Directive → Fault
duplicate_component d (comp x t) words = Contains d.component_names x × (words ≡ codes "duplicate-component " ++ x)
duplicate_component d _ words = ⊥

-- A `kind` line names a variable that has a kind.
abbrev pub duplicate_kind : Draft → Directive → Fault
duplicate_kind d (kind x ts) words =
    (kind_of d.kinds (number_of d.variables x) ≢ []) × (words ≡ codes "duplicate-kind " ++ x)
duplicate_kind d _ words = ⊥

-- Nothing stands behind the sign of a `kind` line.
abbrev pub empty_kind : Directive → Fault
empty_kind (kind x None) words = words ≡ codes "empty-kind " ++ x
empty_kind _ words = ⊥

-- A `$` stands in a `kind` line, the first one at this place among its words.
abbrev pub kind_variable : List ℕ → Directive → Fault
kind_variable line (kind x ts) words =
    (place : ℕ) × (position is_dollar (words_of line) ≡ Some place)
    × (words ≡ codes "kind-variable " ++ decimal (byte_at line place))
kind_variable line _ words = ⊥

-- A `text`, a `cost` or a `leaf` line names a component that isn't declared.
abbrev pub is_unknown : Draft → List ℕ → Fault
is_unknown d x words = (Contains d.component_names x → ⊥) × (words ≡ codes "unknown-component " ++ x)

abbrev pub unknown_component : Draft → Directive → Fault
unknown_component d (text x ws) words = is_unknown d x words
unknown_component d (cost x digits) words = is_unknown d x words
unknown_component d (leaf f x q) words = is_unknown d x words
unknown_component d _ words = ⊥

-- The words of a fault of a template, in front of which stand so many bytes of the line. Out of memory has none.
abbrev pub template_words : ℕ → TemplateFault → Option (List ℕ)
template_words start (BadHole byte) = Some (codes "hole " ++ decimal (start + byte))
template_words start (HoleZero byte) = Some (codes "hole-zero " ++ decimal (start + byte))
template_words start (HoleOver16 byte) = Some (codes "hole-over " ++ decimal (start + byte))
template_words start OutOfMemory = None

-- The text of a `text` line is no template.
abbrev pub bad_template : List ℕ → Directive → Fault
bad_template line (text x ws) words =
    (fault : TemplateFault) × IsFaultOf (template_text line) fault
    × (template_words (length line - length (template_text line)) fault ≡ Some words)
bad_template line _ words = ⊥

-- The number of a `cost` line is out of its range.
abbrev pub cost_out_of_range : Directive → Fault
cost_out_of_range (cost x digits) words =
    (1 ≤ number_value digits → number_value digits ≤ max_cost → ⊥) × (words ≡ codes "cost " ++ x)
cost_out_of_range _ words = ⊥

-- A `variance` line names a constructor that has a variance.
abbrev pub duplicate_variance : Draft → Directive → Fault
duplicate_variance d (variance c word) words =
    Contains (map (λ v. v.0) d.variances) (number_of d.names c) × (words ≡ codes "duplicate-variance " ++ c)
duplicate_variance d _ words = ⊥

-- A `leaf`, an `app` or an `other` line names a filter that isn't declared.
abbrev pub is_unknown_filter : Draft → List ℕ → Fault
is_unknown_filter d f words = (Contains d.filter_names f → ⊥) × (words ≡ codes "unknown-filter " ++ f)

abbrev pub unknown_filter : Draft → Directive → Fault
unknown_filter d (leaf f x q) words = is_unknown_filter d f words
unknown_filter d (app f p q r) words = is_unknown_filter d f words
unknown_filter d (other f q) words = is_unknown_filter d f words
unknown_filter d _ words = ⊥

-- A `filter` line names a filter that is declared.
abbrev pub duplicate_filter : Draft → Directive → Fault
duplicate_filter d (filter f q qs) words = Contains d.filter_names f × (words ≡ codes "duplicate-filter " ++ f)
duplicate_filter d _ words = ⊥

-- The filter would have too many states after the line.
abbrev pub too_many_states : Draft → Directive → Fault
too_many_states d said words =
    (f : List ℕ) × (filter_of said ≡ Some f) × (max_states < length (states_after d said)) × (words ≡ codes "states " ++ f)

-- What is wrong with what the line says, after what is declared so far.
abbrev pub directive_faults : Draft → List ℕ → Directive → List Fault
directive_faults d line said =
    too_many_nodes said
    ∷ duplicate_component d said
    ∷ duplicate_kind d said
    ∷ empty_kind said
    ∷ kind_variable line said
    ∷ unknown_component d said
    ∷ bad_template line said
    ∷ cost_out_of_range said
    ∷ duplicate_variance d said
    ∷ unknown_filter d said
    ∷ duplicate_filter d said
    ∷ too_many_states d said
    ∷ []

-- What the line says is wrong.
abbrev pub wrong_directive : Draft → List ℕ → Fault
wrong_directive d line words = (said : Directive) × LineSays line said × First (directive_faults d line said) words

-- What is wrong with the line.
abbrev pub line_faults : Draft → List ℕ → List Fault
line_faults d line =
    too_long line
    ∷ not_utf8 line
    ∷ unknown_directive line
    ∷ too_deep line
    ∷ misspelled line
    ∷ wrong_directive d line
    ∷ []
