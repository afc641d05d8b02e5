-- What is true of all lines of repositories, as statements.
use Rattle.std.specs.Prelude.{ℕ, ◌≡◌, List}
use Rattle.cls_base.specs.Firsts.{IsDetermined}
use Rattle.cls_repo.specs.Directives.{Directive, LineSays}
use Rattle.cls_repo.specs.Readings.{Reading, no_reading, TakesAll, FirstFault}
use Rattle.cls_repo.specs.Repositories.{IsReadFrom}
use Rattle.cls_repo.specs.declared.repository.Repository.{Repository}

-- A line says one thing at most.
abbrev pub LinesSayOneThing : Type 0
LinesSayOneThing = (line : List ℕ) (said other : Directive) → LineSays line said → LineSays line other → said ≡ other

-- Lines that are taken in turn are taken in one way.
abbrev pub ReadingsAreDetermined : Type 0
ReadingsAreDetermined =
    (old : Reading) (lines : List (List ℕ)) (new other : Reading)
    → TakesAll old lines new → TakesAll old lines other → new ≡ other

-- Of lines no two first faults are said.
abbrev pub FaultsAreDetermined : Type 0
FaultsAreDetermined = (old : Reading) (lines : List (List ℕ)) → IsDetermined (FirstFault old lines)

-- Lines that are a repository have no first fault.
abbrev pub RepositoriesHaveNoFault : Type 0
RepositoriesHaveNoFault =
    (lines : List (List ℕ)) (repository : Repository) (said : ℕ × List ℕ)
    → IsReadFrom lines repository → FirstFault no_reading lines said → ⊥
