use Rattle.std.proofs.Common.{◌+◌, ◌^◌, ◌<◌, List, Bool, subst}
use Rattle.cls_filtered.specs.Filtered.{count_true}
use Rattle.cls_filtered.specs.Makings.{AreNodes}
use Rattle.cls_filtered.proofs.kept.Kept.new.Goals as goal

pub invariant_of-result : goal.invariant_of-result
invariant_of-result c = subst (λ (fs : List Bool). AreNodes fs c.in_ok-numbers.numbers.items) c.as_slice.ensures.value c.in_ok-numbers.ensures.numbers

pub returns-clause-few : goal.returns-clause-few
returns-clause-few c = subst (λ (fs : List Bool). count_true fs + 1 < 2 ^ 32) c.as_slice.ensures.value c.in_ok-numbers.ensures.few
