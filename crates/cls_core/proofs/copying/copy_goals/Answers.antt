use Rattle.std.proofs.Common.{ap, arith, length, ◌∙◌, []}
use Rattle.std.proofs.lemmas.List.{take_all}
use Rattle.indexmap.specs.IndexSet.{insert_all}
use Rattle.indexmap.proofs.SetLemmas.{set_all_distinct}
use Rattle.cls_core.proofs.copying.copy_goals.Goals as goal

pub returns : goal.returns
returns g c =
    let eq = g.G.PartialEq.eq in
    let keys = c.args.goals.now.keys in
    c.loop-goal.invariant ∙ (ap (insert_all eq []) (take_all c.loop-goal.goal-index keys (omega (arith, ap length c.as_slice-goal-items.ensures.keys))) ∙ set_all_distinct g.met.G.Eq.laws [] keys c.len.ensures.unique)
