-- Repositories, as the code keeps them.
use Rattle.std.specs.Prelude.{ℕ, ◌≡◌, List, map}
use Rattle.cls_base.specs.Firsts.{IsSilent, First}
use Rattle.cls_library.specs.Refusals.{IsLibraryOf}
use Rattle.cls_repo.specs.declared.repository.Repository.{Repository}
use Rattle.cls_repo.specs.Drafts.{Draft}
use Rattle.cls_repo.specs.EndFaults.{declared_in, schemas_in}
use Rattle.cls_repo.specs.Readings.{Reading, no_reading, TakesAll, closing_faults}

-- The repository keeps what was declared. Templates and costs are those of the components by number, automata those of the
-- filters by number.
pub record IsRepositoryOf (d : Draft) (r : Repository) : Type 0 where
  pub same_names : r.names ≡ d.names
  pub same_variables : r.variables ≡ d.variables
  pub same_components : r.components ≡ d.component_names
  pub library_is : IsLibraryOf (declared_in d) d.kinds (schemas_in d) r.library
  pub templates_are : r.templates ≡ map (λ c. c.template) d.components
  pub costs_are : r.costs ≡ map (λ c. c.cost) d.components
  pub same_kinds : r.kinds ≡ d.kinds
  pub same_filter_names : r.filter_names ≡ d.filter_names
  pub filters_are : r.filters ≡ map (λ f. f.automaton) d.filters

-- The repository is read from the lines up to `end`, which have no fault.
pub record IsReadFrom (lines : List (List ℕ)) (r : Repository) : Type 0 where
  pub reading : Reading
  pub taken : TakesAll no_reading lines reading
  pub silent : IsSilent (First (closing_faults reading))
  pub keeps : IsRepositoryOf reading.draft r
