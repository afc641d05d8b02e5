use Rattle.std.proofs.Common.{ℕ, ◌≡◌, ◌<◌, Some}
use Rattle.std.specs.Prelude.{slice_get}
use Rattle.cls_base.specs.declared.rule.Rule.{Rule}
use Rattle.cls_cert.specs.Building.{HasLess}
use Rattle.cls_cert.proofs.choosing.first_rule.Given as goal

abbrev pub invariant-loop-place : goal.invariant-loop-place
invariant-loop-place l = (j : ℕ) (r : Rule ℕ) → j < l.place → slice_get l.rules j ≡ Some r → HasLess l.ranks l.rank r → ⊥
