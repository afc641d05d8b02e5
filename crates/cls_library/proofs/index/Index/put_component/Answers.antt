use Rattle.std.proofs.Common.{◌≡◌, ◌+◌, ◌<◌, get_or, ap, ◌∙◌, arith}
use Rattle.std.proofs.lemmas.List.{get_or_default}
use Rattle.cls_library.specs.Arrows.{arity_of}
use Rattle.cls_library.specs.Index.{spot_at, paths_in}
use Rattle.cls_library.specs.Libraries.{Component, no_component}
use Rattle.cls_library.proofs.Indexing.{entries-same, same-component_end}
use Rattle.cls_library.proofs.index.Index.put_component.Goals as goal

pub returns : goal.returns
returns c =
    let cs = c.args.components.now in
    let x = c.args.x in
    let n = c.loop-count.count in
    let is : c.index-components-x.result ≡ get_or cs x no_component = c.index-components-x.is ∙ get_or_default cs x c.index-components-x.result no_component c.requires.declared in
    let arity : c.arity-arity.result ≡ arity_of (paths_in cs x) = c.arity-arity.ensures ∙ ap (λ (d : Component). arity_of d.paths) is in
    let end = c.loop-count-test.false in
    let all : arity_of (paths_in cs x) < n = omega arith in
    entries-same cs (spot_at x n 0) (spot_at (x + 1) 0 0) (same-component_end cs x n all) c.loop-count.self c.loop-count.invariant
