use Rattle.cls_core.specs.Rows.{filed_rows}
use Rattle.cls_core.specs.Renumbering.{renumbered}
use Rattle.cls_core.specs.Closure.{IsClosure}
use Rattle.cls_core.proofs.Closure.{replay-sound, complete-closure}
use Rattle.cls_core.proofs.Renumbering.{renumbered-canonical}
use Rattle.cls_core.proofs.Grammar.{canonical-closure, closure-grammar}
use Rattle.cls_core.proofs.laws.complete_histories_make_grammars.Goals as goal

pub returns : goal.returns
returns g c = λ tag start es t h.
    let eq = g.E.Goal.PartialEq.eq in
    let exact = g.met.E.Goal.Key.exact in
    let reflexive = g.met.E.Goal.Eq.laws.refl in
    let is_answer = g.E.Expand.answers tag in
    let unique = g.met.E.Expand.one_answer tag in
    let rows = filed_rows t.goals t.states in
    let closure : IsClosure eq is_answer start rows = complete-closure eq exact reflexive is_answer start unique t (replay-sound eq exact reflexive is_answer start es t h.0) h.1 in
    let canonical = renumbered-canonical eq exact reflexive is_answer start rows closure in (
      closure-grammar eq is_answer start unique exact reflexive rows closure,
      closure-grammar eq is_answer start unique exact reflexive (renumbered rows) (canonical-closure eq is_answer start unique (renumbered rows) canonical),
    )
