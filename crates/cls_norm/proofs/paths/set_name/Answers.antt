use Rattle.std.proofs.Common.{arith, ◌∙◌}
use Rattle.cls_path.specs.Paths.{atom, inside}
use Rattle.cls_norm.proofs.Changes.{changed-none, changed-more, changed-or_else}
use Rattle.cls_norm.proofs.paths.set_name.Goals as goal

pub loop-place-init : goal.loop-place-init
loop-place-init c = changed-none (inside c.args.name.0) c.args.start c.args.paths.now.items

pub loop-place-preserved : goal.loop-place-preserved
loop-place-preserved c = changed-more (inside c.args.name.0) c.args.start c.loop-place.place c.args.paths.now.items c.loop-place.paths.items c.index_mut.result.now c.replace-path.result c.replace-path.new.dest c.in_ok-paths.field-0 c.loop-place.invariant (omega arith) (omega arith) c.index_mut.ensures.value c.replace-path.ensures.value c.in_ok-paths.ensures

pub returns : goal.returns
returns c = c.loop-place.invariant ∙ changed-or_else (inside c.args.name.0) (atom c.args.name.0) c.args.start c.loop-place.place c.args.paths.now.items (omega arith) (omega arith)
