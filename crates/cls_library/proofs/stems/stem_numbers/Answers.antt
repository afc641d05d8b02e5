use Rattle.std.proofs.Common.{◌≡◌, List, [], ◌∷◌, ◌++◌, get_or, sym, ap, ◌∙◌}
use Rattle.std.proofs.lemmas.List.{map_more, take_all}
use Rattle.cls_path.specs.Paths.{TypePath}
use Rattle.cls_library.specs.Stems.{numbers_of, stem_number}
use Rattle.cls_library.proofs.stems.stem_numbers.Goals as goal

pub loop-path-preserved : goal.loop-path-preserved
loop-path-preserved c =
    let number = stem_number c.args.count c.args.depth in
    let ps = c.args.paths.now in
    let i = c.loop-path.path-index in
    let p = c.path-item.result in
    let is : c.stem_number.result ≡ number (get_or ps i p) = c.stem_number.ensures.number ∙ ap number c.path-item.is in
    c.in_ok-push.ensures.items ∙ ((λ j. c.loop-path.invariant j ++ is j ∷ []) ∙ sym (map_more number ps i p c.loop-path-test.true))

pub returns : goal.returns
returns c = c.loop-path.invariant ∙ ap (λ (ps : List TypePath). numbers_of c.args.count c.args.depth ps) (take_all c.loop-path.path-index c.args.paths.now c.loop-path-test.false)
