use Rattle.std.proofs.Common.{arith, ap}
use Rattle.indexmap.specs.IndexSet.{insert_all}
use Rattle.cls_core.specs.Closure.{goals_of}
use Rattle.cls_expand.specs.Memos.{rules_together}
use Rattle.cls_expand.proofs.Adding.{goals-count}
use Rattle.cls_expand.proofs.Keeping.{all-at-most, placed-at-most}
use Rattle.cls_expand.proofs.store.Store.keep.Goals as goal

pub of-requires : goal.of-requires
of-requires g c =
    let b = all-at-most g.E.Goal.PartialEq.eq c.self.inside.goals.keys (goals_of c.args.rows) in
    record { room = omega (arith, goals-count c.args.rows, c.requires.fit.0, c.self.invariant.room.0) }

pub has_room-requires : goal.has_room-requires
has_room-requires g c =
    let b = placed-at-most g.E.Goal.PartialEq.eq (insert_all g.E.Goal.PartialEq.eq c.self.inside.goals.keys (goals_of c.args.rows)) c.self.inside.goals.keys c.args.rows in
    omega (arith, ap rules_together c.in_ok-more.ensures.answers, c.requires.fit.1)

pub add-requires-clause-complete : goal.add-requires-clause-complete
add-requires-clause-complete g c = c.requires.complete

pub replace-requires-clause-complete : goal.replace-requires-clause-complete
replace-requires-clause-complete g c = c.requires.complete

pub replace-requires-clause-fit : goal.replace-requires-clause-fit
replace-requires-clause-fit g c = c.requires.fit
