use Rattle.std.proofs.Common.{sym, subst}
use Rattle.std.specs.Prelude.{Contains}
use Rattle.cls_path.proofs.clear.low_path.Goals as goal

pub returns : goal.returns
returns g c = subst (λ x. Contains c.args.paths.now x) (sym c.in_ok-path.ensures) (c.loop-i.low, c.loop-i.invariant, sym c.index-paths-low.is)
