use Rattle.cls_core.proofs.Grammar.{canonical-closure}
use Rattle.cls_grammar.proofs.Meaning.{node-language}
use Rattle.cls_grammar.proofs.laws.languages_are_typings.Goals as goal

pub returns : goal.returns
returns g c = λ tag start rows ready canonical narrow.
    let eq = g.E.Goal.PartialEq.eq in
    let is_answer = g.E.Expand.answers tag in
    let closure = canonical-closure eq is_answer start (g.met.E.Expand.one_answer tag) rows canonical in
    node-language eq g.met.E.Goal.Key.exact g.met.E.Goal.Eq.laws.refl (g.E.TypedExpand.has tag) is_answer (g.E.Expand.ready tag) (g.met.E.TypedExpand.rules tag) (g.met.E.Expand.arguments_ready tag) start ready rows closure narrow
