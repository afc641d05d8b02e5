use Rattle.std.proofs.Common.{◌≡◌, ◌++◌, map}
use Rattle.cls_taxon.specs.Variances.{declared_of, entry_of}
use Rattle.cls_repo.proofs.repository.variances.Given as goal

abbrev pub invariant-loop-name : goal.invariant-loop-name
invariant-loop-name l = map declared_of l.variances.items ++ map entry_of l.name-iterator ≡ map entry_of l.draft.variances.entries
