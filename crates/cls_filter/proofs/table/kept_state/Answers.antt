use Rattle.std.proofs.Common.{◌<◌, Option, ℕ, subst, arith}
use Rattle.cls_filter.specs.States.{IsState}
use Rattle.cls_filter.proofs.table.kept_state.Goals as goal

pub overflow_cast-result : goal.overflow_cast-result
overflow_cast-result c =
    let small : c.in-Some.state < 16 = subst (λ (s : Option ℕ). IsState s) c.in-Some.is c.requires in
    omega (arith, small)
