use Rattle.std.proofs.Common.{ℕ, List, ap, subst, length, ◌∙◌}
use Rattle.cls_core.proofs.Insertion.{numbers-count}
use Rattle.cls_core.specs.Closure.{goals_of}
use Rattle.cls_expand.proofs.Adding.{goals-count}
use Rattle.cls_live.specs.Parts.{same}
use Rattle.cls_live.specs.Updates.{AreUpdates}
use Rattle.cls_live.proofs.updates.Update.of.Goals as goal

pub parts_of-requires : goal.parts_of-requires
parts_of-requires c =
    ap (λ (ns : List ℕ). length ns) (c.as_slice.ensures.value ∙ c.in_ok-numbers.ensures.numbers)
    ∙ (numbers-count same c.args.goals.now.keys (goals_of c.args.rows.now) ∙ goals-count c.args.rows.now)

pub returns-clause-parts : goal.returns-clause-parts
returns-clause-parts c =
    subst (λ (ns : List ℕ). AreUpdates c.args.live.now c.args.next c.args.known.now c.args.rows.now ns (length c.args.rows.now) c.in_ok-parts.parts.items)
    (c.as_slice.ensures.value ∙ c.in_ok-numbers.ensures.numbers) c.in_ok-parts.ensures
