-- What holds of each draft and of each repository.
use Rattle.std.specs.Prelude.{ℕ, ◌≡◌, ◌≤◌, length}
use Rattle.std.specs.List.{AllByRecursion}
use Rattle.cls_repo.specs.declared.repository.Repository.{Repository}
use Rattle.cls_filter.specs.States.{IsAutomaton}
use Rattle.cls_repo.specs.Drafts.{Component, Draft, DraftFilter}

-- the cost is at least 1
abbrev pub IsCost : ℕ → Type 0
IsCost n = 1 ≤ n

-- Each component of the draft has a name, and a cost. Each filter has a name, and the numbers of its states are below their
-- limit.
pub record IsSound (d : Draft) : Type 0 where
  pub named : length d.component_names ≡ length d.components
  pub costly : AllByRecursion (λ (c : Component). IsCost c.cost) d.components
  pub filtered : length d.filter_names ≡ length d.filters
  pub small : AllByRecursion (λ (f : DraftFilter). IsAutomaton f.automaton) d.filters

-- Each component of the library has a name, a template and a cost. Each filter has a name.
pub record IsWhole (r : Repository) : Type 0 where
  pub named : length r.components ≡ length r.library.components
  pub written : length r.templates ≡ length r.library.components
  pub costly : AllByRecursion IsCost r.costs
  pub filtered : length r.filter_names ≡ length r.filters
