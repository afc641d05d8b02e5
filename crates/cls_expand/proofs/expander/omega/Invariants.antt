use Rattle.std.proofs.Common.{◌≡◌}
use Rattle.std.specs.Prelude.{map}
use Rattle.cls_expand.specs.Answers.{rule_of}
use Rattle.cls_library.specs.Rules.{heads, numbers_from}
use Rattle.cls_expand.proofs.expander.omega.Given as goal

abbrev pub invariant-loop-component : goal.invariant-loop-component
invariant-loop-component l = map rule_of l.rules ≡ heads (numbers_from 0 l.component)
