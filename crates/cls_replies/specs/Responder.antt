-- What the lines after a repository are answered by.
use Rattle.std.specs.Prelude.{ℕ, ◌≡◌, List, [], ◌∷◌, length, map, slice_index_or}
use Rattle.cls_assemble.specs.declared.piece.Piece.{Piece}
use Rattle.cls_base.specs.Types.{ClosedType}
use Rattle.cls_filter.specs.Automata.{Automaton}
use Rattle.cls_filter.specs.Lines.{no_lines}
use Rattle.cls_library.specs.Refusals.{IsLibraryOf}
use Rattle.cls_query.specs.Queries.{Tables, tables_of}
use Rattle.cls_repo.specs.Drafts.{Draft}
use Rattle.cls_repo.specs.EndFaults.{declared_in, schemas_in}
use Rattle.cls_engine.specs.declared.options.Options.{Options}
use Rattle.cls_engine.specs.Engines.{EngineSeen}
use Rattle.cls_replies.specs.LineKinds.{Opens}

-- What the repository is: the names of constructors and of variables so far, the names of components, the kinds of
-- variables, the templates of components, the names of filters, the filters by number, and the engine. And the lines of a
-- query whose certificate hasn't ended, none if there is no such query.
pub record Responder : Type 0 where
  pub names : List (List ℕ)
  pub variables : List (List ℕ)
  pub components : List (List ℕ)
  pub kinds : List (ℕ × List ClosedType)
  pub templates : List (List Piece)
  pub filter_names : List (List ℕ)
  pub filters : List Automaton
  pub engine : EngineSeen
  pub held : List (List ℕ)

-- the numbers of names, as a query finds them
abbrev pub tables_in : Responder → Tables
tables_in s = tables_of s.names s.variables s.components s.filter_names

-- the same with the constructors and the variables of the tables, or with these constructors
abbrev pub with_tables : Responder → Tables → Responder
with_tables s tables = record s { names = tables.constructors; variables = tables.variables }

abbrev pub with_names : Responder → List (List ℕ) → Responder
with_names s names = record s { names = names }

abbrev pub holding : Responder → List (List ℕ) → Responder
holding s lines = record s { held = lines }

abbrev pub responder_of :
    (names variables components : List (List ℕ)) → (kinds : List (ℕ × List ClosedType)) → (templates : List (List Piece))
    → (filter_names : List (List ℕ)) → (filters : List Automaton) → EngineSeen → (held : List (List ℕ)) → Responder
responder_of names variables components kinds templates filter_names filters engine held = record {
  names = names;
  variables = variables;
  components = components;
  kinds = kinds;
  templates = templates;
  filter_names = filter_names;
  filters = filters;
  engine = engine;
  held = held;
}

-- the filter of the number
abbrev pub filter_in : Responder → ℕ → Automaton
filter_in s f = slice_index_or s.filters f no_lines

-- The lines are none, or the first of them opens a certificate.
abbrev pub AreHeld : List (List ℕ) → Type 0
AreHeld [] = Unit {0}
AreHeld (first ∷ inside) = Opens first

-- Each component has a name, a template and a type. Each filter has a name.
pub record IsResponder (s : Responder) : Type 0 where
  pub named : length s.components ≡ length s.engine.library.components
  pub written : length s.templates ≡ length s.engine.library.components
  pub filtered : length s.filter_names ≡ length s.filters
  pub opened : AreHeld s.held

-- The repository was read, and no line after it.
pub record Serves (o : Options) (d : Draft) (s : Responder) : Type 0 where
  pub same_names : s.names ≡ d.names
  pub same_variables : s.variables ≡ d.variables
  pub same_components : s.components ≡ d.component_names
  pub same_kinds : s.kinds ≡ d.kinds
  pub templates_are : s.templates ≡ map (λ c. c.template) d.components
  pub same_filter_names : s.filter_names ≡ d.filter_names
  pub filters_are : s.filters ≡ map (λ f. f.automaton) d.filters
  pub library_is : IsLibraryOf (declared_in d) d.kinds (schemas_in d) s.engine.library
  pub costs_are : s.engine.costs ≡ map (λ c. c.cost) d.components
  pub options_are : s.engine.options ≡ o
  pub none_held : s.held ≡ []
