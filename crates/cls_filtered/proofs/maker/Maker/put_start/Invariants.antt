use Rattle.std.proofs.Common.{map}
use Rattle.std.specs.Prelude.{filter}
use Rattle.std.specs.List.{flat_map}
use Rattle.cls_filter.specs.Automata.{is_accepting}
use Rattle.cls_filtered.specs.Filtered.{below, rules_to}
use Rattle.cls_filtered.specs.StepBooks.{step_rule}
use Rattle.cls_filtered.specs.Makings.{IsMade}
use Rattle.cls_filtered.proofs.maker.Maker.put_start.Given as goal

abbrev pub invariant-loop-state : goal.invariant-loop-state
invariant-loop-state l =
    IsMade (flat_map (rules_to l.filter l.self.kept (map step_rule l.steps)) (filter (is_accepting l.filter) (below l.state))) l.initial.making l.making
