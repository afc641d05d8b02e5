use Rattle.std.proofs.Common.{ap, sym, ◌∙◌}
use Rattle.std.specs.Prelude.{map}
use Rattle.cls_path.specs.Paths.{listed}
use Rattle.cls_cert.specs.Conditions.{forms_of}
use Rattle.cls_cert.proofs.ChoiceLaws.{gives_exactly}
use Rattle.cls_cert.proofs.choosing.gives.Goals as goal

pub returns : goal.returns
returns c =
    let e = gives_exactly c.args.lib.now (forms_of c.args.grammar.now) c.args.x c.args.args.now c.args.cover.now (map listed c.arguments.new.args.items) c.in_ok-arguments.ensures in
    let same = ap (map listed) c.as_slice.ensures.value in
    ((λ t. e.0 (sym same ∙ c.are_goals.ensures.0 t)), (λ g. c.are_goals.ensures.1 (same ∙ e.1 g)))
