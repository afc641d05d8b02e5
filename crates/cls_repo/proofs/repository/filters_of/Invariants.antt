use Rattle.std.proofs.Common.{◌≡◌, ◌++◌, map}
use Rattle.cls_repo.specs.Written.{filter_seen}
use Rattle.cls_repo.proofs.repository.filters_of.Given as goal

abbrev pub invariant-loop-own : goal.invariant-loop-own
invariant-loop-own l = map (λ f. f.automaton) (map filter_seen l.fn.filters.items) ≡ l.made.items ++ map (λ f. f.automaton) (map filter_seen l.own-iterator.rest.items)
