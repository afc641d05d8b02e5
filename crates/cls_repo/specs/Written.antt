-- internal: what the code's values say, and what its parts do with a line
use Rattle.std.specs.Prelude.{ℕ, ◌≡◌, ◌<◌, ◌≤◌, Bool, false, List, [], ◌∷◌, ◌++◌, length, map, codes, Option, Some, None, Contains}
use Rattle.std.specs.List.{AllByRecursion}
use Rattle.std.specs.Option.{option_map}
use Rattle.cls_base.specs.Firsts.{IsSilent, First}
use Rattle.cls_base.specs.Limits.{max_states}
use Rattle.cls_base.specs.Schemas.{schema_of}
use Rattle.cls_base.specs.Types.{ClosedType}
use Rattle.cls_lexer.specs.Names.{number_of, with_texts}
use Rattle.cls_lexer.specs.Skipped.{IsSkipped}
use Rattle.cls_lexer.specs.Words.{words}
use Rattle.cls_syntax.specs.TokenTexts.{texts}
use Rattle.cls_syntax.specs.ClosedTypes.{AreSpelled}
use Rattle.cls_syntax.specs.SpelledTypes.{type_text, types_text}
use Rattle.cls_syntax.specs.TypeTexts.{TypeList}
use Rattle.cls_taxon.specs.declared.fault.TaxonFault.{TaxonFault}
use Rattle.cls_taxon.specs.declared.fault.TaxonFault.TheVariants.{Cycle, Mix, OutOfMemory}
use Rattle.cls_taxon.specs.Faults.{IsFaultOf}
use Rattle.cls_taxon.specs.PairGraphs.{pair_of}
use Rattle.cls_taxon.specs.Variances.{entry_of}
use Rattle.cls_repo.specs.declared.directive.Directive as code
use Rattle.cls_repo.specs.declared.directive.Directive.TheVariants.{Sub, Kind, Comp, Text, End, Cost, Variance, Filter, Leaf, App, Other}
use Rattle.cls_repo.specs.declared.draft.Component as code_component
use Rattle.cls_repo.specs.declared.draft_filter.DraftFilter as code_filter
use Rattle.cls_repo.specs.declared.draft.Draft as code_draft
use Rattle.cls_repo.specs.declared.repository.Columns as code_columns
use Rattle.cls_repo.specs.Directives.{Directive, sub, kind, comp, text, end, cost, variance, filter, leaf, app, other, LineSays, is_end}
use Rattle.cls_repo.specs.Drafts.{Component, Draft, DraftFilter}
use Rattle.cls_repo.specs.Declarations.{with_names, with_kind, with_filter, with_filter_line, states_named, states_after, Declares}
use Rattle.cls_repo.specs.EndFaults.{declared_in, name_at}
use Rattle.cls_repo.specs.LineFaults.{Fault, unknown_directive, too_deep, misspelled, is_unknown_filter, too_many_states, directive_faults, line_faults}

-- what the directive says
abbrev pub directive_of : code.Directive → Directive
directive_of (Sub a b) = sub a.now b.now
directive_of (Kind x types) = kind x.now (option_map types_text types)
directive_of (Comp x type) = comp x.now (type_text type)
directive_of (Text x tokens) = text x.now (words tokens.now)
directive_of End = end
directive_of (Cost x digits) = cost x.now digits.text.now
directive_of (Variance c word) = variance c.now word.now
directive_of (Filter f q states) = filter f.now q.now (texts states.now)
directive_of (Leaf f x q) = leaf f.now x.now q.now
directive_of (App f p q r) = app f.now p.now q.now r.now
directive_of (Other f q) = other f.now q.now

abbrev pub component_of : code_component.Component → Component
component_of c = record { schema = schema_of c.schema; line = c.line; template = c.template; cost = c.cost }

abbrev pub filter_seen : code_filter.DraftFilter → DraftFilter
filter_seen f = record { states = f.states; automaton = f.filter }

-- the draft that the fields hold
abbrev pub draft_of : code_draft.Draft → Draft
draft_of d = record {
  names = d.names;
  variables = d.variables;
  component_names = d.component_names;
  components = map component_of d.components.items;
  pairs = map pair_of d.pairs.items;
  variances = map entry_of d.variances.entries;
  kinds = d.kinds;
  filter_names = d.filter_names;
  filters = map filter_seen d.filters.items;
}

-- the kind of the variable is put in, after the names of its line
pub record PutsKind (old : code_draft.Draft) (x : List ℕ) (ts : TypeList) (new : code_draft.Draft) : Type 0 where
  pub types : List ClosedType
  pub spelled : AreSpelled (number_of (with_names (draft_of old) (kind x (Some ts))).names) ts types
  pub put : draft_of new ≡ with_kind (with_names (draft_of old) (kind x (Some ts))) x types

-- nothing differs but the tables of names and variables
abbrev pub IsBesideTables : code_draft.Draft → code_draft.Draft → Type 0
IsBesideTables old new = draft_of new ≡ record (draft_of old) { names = new.names; variables = new.variables }

-- the faults of a line's words: no line of the table is spelled so
abbrev pub spelling_faults : List ℕ → List Fault
spelling_faults line = unknown_directive line ∷ too_deep line ∷ misspelled line ∷ []

-- A line without a fault in what it says declares that.
pub record TakesDirective (old : Draft) (n : ℕ) (line : List ℕ) (said : Directive) (new : Draft) : Type 0 where
  pub declared : Declares old n line said new
  pub silent : IsSilent (First (directive_faults old line said))

-- The line of number n is taken, as a skipped one or with what it declares; `ended` says that it is the line `end`.
pub data TakesLine (old : Draft) (n : ℕ) (line : List ℕ) (new : Draft) (ended : Bool) : Type 0 where
  skipped : IsSkipped line → new ≡ old → ended ≡ false → TakesLine old n line new ended
  declares :
      (said : Directive) → LineSays line said → IsSilent (First (line_faults old line)) → Declares old n line said new
      → ended ≡ is_end said → TakesLine old n line new ended

-- The line isn't skipped, and these are the words of its first fault.
pub record RefusesLine (old : Draft) (line words : List ℕ) : Type 0 where
  pub unskipped : IsSkipped line → ⊥
  pub first : First (line_faults old line) words

-- The parts of the components, one list for each.
pub record AreColumns (components : List Component) (columns : code_columns.Columns) : Type 0 where
  pub schemas : map schema_of columns.schemas.items ≡ map (λ c. c.schema) components
  pub lines : columns.lines.items ≡ map (λ c. c.line) components
  pub templates : columns.templates.items ≡ map (λ c. c.template) components
  pub costs : columns.costs.items ≡ map (λ c. c.cost) components

-- The filter of these states would have too many after the line.
abbrev pub is_full : List (List ℕ) → Directive → (filter : List ℕ) → Fault
is_full states said f words = (max_states < length (with_texts states (states_named said))) × (words ≡ codes "states " ++ f)

-- Each of these states has a number below the limit.
abbrev pub AreBelowLimit : (states : List (List ℕ)) → List (List ℕ) → Type 0
AreBelowLimit states xs = AllByRecursion (λ x. number_of states x < max_states) xs

-- The filter is put in, and has no more states than are allowed.
pub record TakesFilter (old : Draft) (said : Directive) (f : List ℕ) (new : Draft) : Type 0 where
  pub put : new ≡ with_filter old said f
  pub few : length (with_texts [] (states_named said)) ≤ max_states

-- A line of a filter that is declared is taken, and the filter has no more states than are allowed.
pub record TakesFilterLine (old : Draft) (said : Directive) (f : List ℕ) (new : Draft) : Type 0 where
  pub held : Contains old.filter_names f
  pub put : new ≡ with_filter_line old said f
  pub few : length (states_after old said) ≤ max_states

-- what can be wrong with a line of a filter that is to be declared, after all other causes
abbrev pub own_faults : Draft → Directive → (filter : List ℕ) → List Fault
own_faults d said f = is_unknown_filter d f ∷ too_many_states d said ∷ []

-- the words of a fault of an order of names; out of memory has none
abbrev pub order_words : List (List ℕ) → TaxonFault → Option (List ℕ)
order_words names (Cycle a) = Some (codes "cycle " ++ name_at names a.0)
order_words names (Mix a) = Some (codes "variance-mix " ++ name_at names a.0)
order_words names OutOfMemory = None

-- the declared order has a fault with these words
pub record IsOrderFault (d : Draft) (words : List ℕ) : Type 0 where
  pub fault : TaxonFault
  pub is : IsFaultOf (declared_in d) fault
  pub said : order_words d.names fault ≡ Some words
