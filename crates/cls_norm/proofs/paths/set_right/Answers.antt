use Rattle.std.proofs.Common.{arith, ◌∙◌}
use Rattle.cls_path.specs.Paths.{right}
use Rattle.cls_norm.proofs.Changes.{changed-none, changed-more, changed-all}
use Rattle.cls_norm.proofs.paths.set_right.Goals as goal

pub loop-place-init : goal.loop-place-init
loop-place-init c = changed-none right c.args.start c.args.paths.now.items

pub loop-place-preserved : goal.loop-place-preserved
loop-place-preserved c = changed-more right c.args.start c.loop-place.place c.args.paths.now.items c.loop-place.paths.items c.index_mut.result.now c.replace-path.result c.replace-path.new.dest c.in_ok-paths.field-0 c.loop-place.invariant (omega arith) (omega arith) c.index_mut.ensures.value c.replace-path.ensures.value c.in_ok-paths.ensures

pub returns : goal.returns
returns c = c.loop-place.invariant ∙ changed-all right c.args.start c.loop-place.place c.args.paths.now.items (omega arith) (omega arith)
