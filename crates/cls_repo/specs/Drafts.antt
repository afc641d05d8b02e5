-- What the lines of a repository have declared so far.
use Rattle.std.specs.Prelude.{ℕ, List, []}
use Rattle.cls_base.specs.Schemas.{OpenType}
use Rattle.cls_base.specs.Taxonomies.{Variance}
use Rattle.cls_base.specs.Types.{ClosedType}
use Rattle.cls_assemble.specs.declared.piece.Piece.{Piece}
use Rattle.cls_filter.specs.Automata.{Automaton}

-- What is declared of a component beside its name.
pub record Component : Type 0 where
  pub schema : OpenType
  -- the number of the line that declares it, from 1
  pub line : ℕ
  pub template : List Piece
  pub cost : ℕ

-- A filter, and the names of its states by their numbers.
pub record DraftFilter : Type 0 where
  pub states : List (List ℕ)
  pub automaton : Automaton

-- The tables have constructors, variables, components and filters by their numbers. Pairs, variances and kinds name constructors
-- and variables by number.
pub record Draft : Type 0 where
  pub names : List (List ℕ)
  pub variables : List (List ℕ)
  pub component_names : List (List ℕ)
  pub components : List Component
  pub pairs : List (ℕ × ℕ)
  pub variances : List (ℕ × Variance)
  pub kinds : List (ℕ × List ClosedType)
  pub filter_names : List (List ℕ)
  pub filters : List DraftFilter

-- the draft of no lines
abbrev pub no_draft : Draft
no_draft = record {
  names = [];
  variables = [];
  component_names = [];
  components = [];
  pairs = [];
  variances = [];
  kinds = [];
  filter_names = [];
  filters = [];
}
