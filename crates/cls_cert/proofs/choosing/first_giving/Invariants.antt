use Rattle.std.proofs.Common.{ℕ, ◌≡◌, ◌<◌, List, Some}
use Rattle.std.specs.Prelude.{slice_get}
use Rattle.cls_cert.specs.Building.{GivesRule}
use Rattle.cls_cert.specs.Conditions.{forms_of}
use Rattle.cls_cert.proofs.choosing.first_giving.Given as goal

abbrev pub invariant-loop-i : goal.invariant-loop-i
invariant-loop-i l = (j : ℕ) (s : List ℕ) → j < l.i → slice_get l.covers j ≡ Some s → GivesRule l.lib (forms_of l.grammar) l.x l.args s → ⊥
