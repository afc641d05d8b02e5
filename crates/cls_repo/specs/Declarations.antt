-- What a line of a repository declares.
use Rattle.std.specs.Prelude.{ℕ, ◌≡◌, ◌==◌, ◌||◌, not, zero, suc, List, [], ◌∷◌, ◌++◌, map, drop, codes, filter as filtered_by, if◌then◌else◌, Option, Some, None, slice_get, slice_index_or}
use Rattle.std.specs.Option.{option_map_or}
use Rattle.std.specs.Str.{bytes_eq}
use Rattle.cls_base.specs.Types.{ClosedType}
use Rattle.cls_base.specs.Taxonomies.{Variance, contravariant, invariant}
use Rattle.cls_lexer.specs.Names.{number_of, with_texts}
use Rattle.cls_lexer.specs.Numerals.{number_value}
use Rattle.cls_lexer.specs.Tokens.{tokens_of, end_of}
use Rattle.cls_syntax.specs.ClosedTypes.{AreSpelled}
use Rattle.cls_syntax.specs.Forms.{constructors_named, variables_named}
use Rattle.cls_syntax.specs.TypeSchemas.{type_schema}
use Rattle.cls_syntax.specs.TypeTexts.{TypeText, TypeList}
use Rattle.cls_assemble.specs.declared.piece.Piece.{Piece}
use Rattle.cls_assemble.specs.declared.piece.Piece.TheVariants.{Byte}
use Rattle.cls_assemble.specs.Spelling.{IsTemplate}
use Rattle.cls_filter.specs.Automata.{Automaton}
use Rattle.cls_filter.specs.Lines.{no_lines, with_accepting, with_leaf, with_app, with_other}
use Rattle.cls_syntax.specs.Roles.{is_set_aside}
use Rattle.cls_repo.specs.Directives.{Directive, sub, kind, comp, text, end, cost, variance, filter, leaf, app, other, parts_of}
use Rattle.cls_repo.specs.Drafts.{Component, Draft, DraftFilter}

-- One space or tab in front is left out.
abbrev pub without_blank : List ℕ → List ℕ
without_blank [] = []
without_blank (b ∷ bs) = if (b == 32) || (b == 9) then bs else b ∷ bs

-- The text of a template: what stands behind the third token of its line, without one space or tab directly behind it.
abbrev pub template_text : List ℕ → List ℕ
template_text line = without_blank (option_map_or (λ token. drop (end_of token) line) (slice_get (tokens_of line) 2) [])

-- `contra` or `inv`
abbrev pub variance_named : List ℕ → Variance
variance_named word = if bytes_eq word (codes "contra") then contravariant else invariant

-- The list with another element at this place, made from the one that stands there.
abbrev pub changed_at : {A : Type 0} → ℕ → (A → A) → List A → List A
changed_at i change [] = []
changed_at zero change (x ∷ xs) = change x ∷ xs
changed_at (suc i) change (x ∷ xs) = x ∷ changed_at i change xs

-- The tables after a line: its names in the order of its words, each at its first occurrence, a new one last.
abbrev pub with_names : Draft → Directive → Draft
with_names d said = record d {
  names = with_texts d.names (constructors_named (parts_of said));
  variables = with_texts d.variables (variables_named (parts_of said));
}

-- The types that the texts spell, none where there is no text.
abbrev pub AreChoices : (List ℕ → ℕ) → Option TypeList → List ClosedType → Type 0
AreChoices number None types = types ≡ []
AreChoices number (Some ts) types = AreSpelled number ts types

-- The draft with a pair of constructors, the first below the second.
abbrev pub with_pair : Draft → (lower upper : List ℕ) → Draft
with_pair d a b = record d { pairs = d.pairs ++ (number_of d.names a, number_of d.names b) ∷ [] }

-- with the kind of a variable
abbrev pub with_kind : Draft → (variable : List ℕ) → List ClosedType → Draft
with_kind d x types = record d { kinds = d.kinds ++ (number_of d.variables x, types) ∷ [] }

-- with a component, declared at the line n, whose template is its name and whose cost is 1
abbrev pub with_component : Draft → (n : ℕ) → (component : List ℕ) → TypeText → Draft
with_component d n x t = record d {
  component_names = d.component_names ++ x ∷ [];
  components = d.components ++ record {
    schema = type_schema (number_of d.names) (number_of d.variables) t;
    line = n;
    template = map Byte x;
    cost = 1;
  } ∷ [];
}

-- with another template of the component
abbrev pub with_template : Draft → (component : List ℕ) → List Piece → Draft
with_template d x pieces =
    let change = λ (c : Component). record c { template = pieces } in
    record d { components = changed_at (number_of d.component_names x) change d.components }

-- with another cost of the component
abbrev pub with_cost : Draft → (component : List ℕ) → ℕ → Draft
with_cost d x n =
    let change = λ (c : Component). record c { cost = n } in
    record d { components = changed_at (number_of d.component_names x) change d.components }

-- with the variance of a constructor
abbrev pub with_variance : Draft → (constructor word : List ℕ) → Draft
with_variance d c word = record d { variances = d.variances ++ (number_of d.names c, variance_named word) ∷ [] }

-- The filter that the line names, if it names one.
abbrev pub filter_of : Directive → Option (List ℕ)
filter_of (filter f q qs) = Some f
filter_of (leaf f x q) = Some f
filter_of (app f p q r) = Some f
filter_of (other f q) = Some f
filter_of _ = None

-- Those that are names of states: neither `none` nor `_`.
abbrev pub state_names : List (List ℕ) → List (List ℕ)
state_names xs = filtered_by (λ x. not (is_set_aside x)) xs

-- The states that the line names, in the order of its words.
abbrev pub states_named : Directive → List (List ℕ)
states_named (filter f q qs) = q ∷ qs
states_named (leaf f x q) = state_names (q ∷ [])
states_named (app f p q r) = state_names (p ∷ q ∷ r ∷ [])
states_named (other f q) = q ∷ []
states_named _ = []

-- The number of the state, or none where the word stands for none or for every one.
abbrev pub state_number : List (List ℕ) → List ℕ → Option ℕ
state_number states x = if is_set_aside x then None else Some (number_of states x)

-- the filter of no lines, and that of a name
abbrev pub no_filter : DraftFilter
no_filter = record { states = []; automaton = no_lines }

abbrev pub filter_at : Draft → List ℕ → DraftFilter
filter_at d f = slice_index_or d.filters (number_of d.filter_names f) no_filter

-- The states of the filter after the line. They are numbered by first occurrence in the lines of the filter.
abbrev pub states_after : Draft → Directive → List (List ℕ)
states_after d said = with_texts (option_map_or (λ f. (filter_at d f).states) (filter_of said) []) (states_named said)

-- each of these states is accepting
abbrev pub with_all_accepting : Automaton → List ℕ → Automaton
with_all_accepting a [] = a
with_all_accepting a (q ∷ qs) = with_all_accepting (with_accepting a q) qs

-- What a line makes of the automaton of its filter, whose states have these names, and of the components.
abbrev pub with_line : (components states : List (List ℕ)) → Directive → Automaton → Automaton
with_line components states (filter f q qs) a = with_all_accepting a (map (number_of states) (q ∷ qs))
with_line components states (leaf f x q) a = with_leaf a (number_of components x) (state_number states q)
with_line components states (app f p q r) a = with_app a (state_number states p) (state_number states q) (state_number states r)
with_line components states (other f q) a = with_other a (number_of states q)
with_line components states _ a = a

-- What the line makes of its filter. A state has a number before the line that names it first speaks of it.
abbrev pub with_own_line : (components : List (List ℕ)) → Directive → DraftFilter → DraftFilter
with_own_line components said g =
    let states = with_texts g.states (states_named said) in
    record { states = states; automaton = with_line components states said g.automaton }

-- with a filter, which has one line
abbrev pub with_filter : Draft → Directive → (filter : List ℕ) → Draft
with_filter d said f = record d {
  filter_names = d.filter_names ++ f ∷ [];
  filters = d.filters ++ with_own_line d.component_names said no_filter ∷ [];
}

-- with one more line of a filter
abbrev pub with_filter_line : Draft → Directive → (filter : List ℕ) → Draft
with_filter_line d said f =
    record d { filters = changed_at (number_of d.filter_names f) (with_own_line d.component_names said) d.filters }

-- The draft after the line of this number, which says this. A later template or cost takes the place of an earlier one.
abbrev pub Declares : Draft → (n : ℕ) → (line : List ℕ) → Directive → Draft → Type 0
Declares d n line (sub a b) new = new ≡ with_pair (with_names d (sub a b)) a b
Declares d n line (kind x ts) new =
    let named = with_names d (kind x ts) in
    (types : List ClosedType) × AreChoices (number_of named.names) ts types × (new ≡ with_kind named x types)
Declares d n line (comp x t) new = new ≡ with_component (with_names d (comp x t)) n x t
Declares d n line (text x ws) new =
    (pieces : List Piece) × IsTemplate (template_text line) pieces × (new ≡ with_template d x pieces)
Declares d n line end new = new ≡ d
Declares d n line (cost x digits) new = new ≡ with_cost d x (number_value digits)
Declares d n line (variance c word) new = new ≡ with_variance (with_names d (variance c word)) c word
Declares d n line (filter f q qs) new = new ≡ with_filter d (filter f q qs) f
Declares d n line (leaf f x q) new = new ≡ with_filter_line d (leaf f x q) f
Declares d n line (app f p q r) new = new ≡ with_filter_line d (app f p q r) f
Declares d n line (other f q) new = new ≡ with_filter_line d (other f q) f
