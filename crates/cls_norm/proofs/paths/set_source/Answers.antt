use Rattle.std.proofs.Common.{◌≡◌, ◌+◌, ◌-◌, arith, ◌∙◌, ap}
use Rattle.cls_path.specs.Paths.{function, listed}
use Rattle.cls_norm.proofs.Changes.{changed-none, changed-more, changed-all}
use Rattle.cls_norm.proofs.paths.set_source.Goals as goal

pub loop-place-init : goal.loop-place-init
loop-place-init c = changed-none (function (listed c.args.source)) c.args.start c.args.paths.now.items

pub loop-place-preserved : goal.loop-place-preserved
loop-place-preserved c = changed-more (function (listed c.args.source)) c.args.start c.loop-place.place c.args.paths.now.items c.loop-place.paths.items c.index_mut.result.now c.replace-path.result c.replace-path.new.dest c.in_ok-paths.field-0 c.loop-place.invariant (omega arith) (omega arith) c.index_mut.ensures.value c.replace-path.ensures.value (c.in_ok-paths.ensures ∙ ap (λ s. function (listed s) c.replace-path.result) c.in_ok-copy.ensures)

pub returns : goal.returns
returns c =
    let last = c.len-last.result - 1 in
    let e : c.loop-place.place ≡ last = omega arith in
    let h = rw e at c.loop-place.invariant in
    changed-more (function (listed c.args.source)) c.args.start last c.args.paths.now.items c.loop-place.paths.items c.index_mut-2.result.now c.replace-path-2.result c.replace-path-2.new.dest c.in_ok-paths-2.field-0 h (omega arith) (omega arith) c.index_mut-2.ensures.value c.replace-path-2.ensures.value c.in_ok-paths-2.ensures
    ∙ changed-all (function (listed c.args.source)) c.args.start (last + 1) c.args.paths.now.items (omega arith) (omega arith)
