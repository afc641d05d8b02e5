use Rattle.std.proofs.Common.{◌≡◌}
use Rattle.cls_base.specs.Books.{heads}
use Rattle.cls_base.proofs.omega_book.head_rules.Given as goal

abbrev pub invariant-loop-component : goal.invariant-loop-component
invariant-loop-component l = l.rules ≡ heads l.component
