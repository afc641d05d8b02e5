use Rattle.std.proofs.Common.{◌≡◌, ◌∙◌, ℕ, Some, slice_index_or, ap}
use Rattle.std.proofs.lemmas.Result.{IfOk-weaker}
use Rattle.cls_core.specs.Arguments.{map_answer}
use Rattle.cls_core.proofs.FiledRows.{filed-is}
use Rattle.cls_callers.specs.declared.goal.AskGoal.TheVariants.{Of}
use Rattle.cls_callers.proofs.Wrapped.{alone-within, alone-filed, alone-answer}
use Rattle.cls_callers.proofs.wrapping.asked_answer.Goals as goal

pub state-requires : goal.state-requires
state-requires g c =
    alone-within g.G.PartialEq.eq g.met.G.Key.exact g.met.G.Eq.laws.refl c.args.goal.now c.args.answer c.in_ok-core.core.rows c.in_ok-core.ensures

pub unreachable-requires : goal.unreachable-requires
unreachable-requires g c =
    filed-is c.state.result.now
    (alone-filed g.G.PartialEq.eq g.met.G.Key.exact g.met.G.Eq.laws.refl c.args.goal.now c.args.answer c.in_ok-core.core.rows c.in_ok-core.ensures c.state.result.now c.state.ensures)
    c.in_default.not-Filed

pub returns : goal.returns
returns g c =
    let numbers = c.in-Filed.numbers in
    let named = λ (k : ℕ). Of (slice_index_or c.in_ok-core.core.rows.goals k c.args.goal.now) in
    let same = alone-answer g.G.PartialEq.eq g.met.G.Key.exact g.met.G.Eq.laws.refl c.args.goal.now c.args.answer c.in_ok-core.core.rows c.in_ok-core.ensures numbers (c.state.ensures ∙ ap Some c.in-Filed.is) in
    IfOk-weaker c.name_answer.result (λ a. a ≡ map_answer named numbers) (λ a. a ≡ map_answer Of c.args.answer) (λ a h. h ∙ same) c.name_answer.ensures
