use Rattle.std.proofs.Common.{sym, subst}
use Rattle.std.specs.Prelude.{Contains}
use Rattle.cls_core.specs.Closure.{goals_of}
use Rattle.cls_core.proofs.Members.{all-contains}
use Rattle.cls_expand.specs.Memos.{StoreSeen, IsStore}
use Rattle.cls_expand.proofs.Keeping.{together-store, added-is}
use Rattle.cls_expand.proofs.store.Store.add.Goals as goal

pub invariant_of-self-in-Ok : goal.invariant_of-self-in-Ok
invariant_of-self-in-Ok g c =
    let i = c.self.inside in
    let eq = g.E.Goal.PartialEq.eq in
    let s = c.args.self.now in
    let sound = subst (λ (s : StoreSeen g.row.E-Tag.Denot g.row.E-Goal.Denot). IsStore eq g.E.Expand.answers s) c.self.view_is c.self.invariant in
    let is = added-is eq g.met.E.Goal.Key.exact g.met.E.Goal.Eq.laws.refl g.E.Expand.answers s c.args.rows.now (g.E.Expand.tag i.by.value) i.goals.keys c.append-2.new.self.keys c.args.more.goals.keys i.answers.items c.append.new.self.items c.args.more.answers.items c.self.view_is c.in-Ok.ensures.keys c.in_ok-append.ensures.items c.requires.goals c.requires.answers in
    subst (λ (s : StoreSeen g.row.E-Tag.Denot g.row.E-Goal.Denot). IsStore eq g.E.Expand.answers s) (sym is) (together-store eq g.met.E.Goal.Key.exact g.met.E.Goal.Eq.laws.refl g.E.Expand.answers s c.args.rows.now sound c.requires.complete c.requires.room)

pub returns-clause-ok : goal.returns-clause-ok
returns-clause-ok g c =
    let i = c.self.inside in
    added-is g.E.Goal.PartialEq.eq g.met.E.Goal.Key.exact g.met.E.Goal.Eq.laws.refl g.E.Expand.answers c.args.self.now c.args.rows.now (g.E.Expand.tag i.by.value) i.goals.keys c.append-2.new.self.keys c.args.more.goals.keys i.answers.items c.append.new.self.items c.args.more.answers.items c.self.view_is c.in-Ok.ensures.keys c.in_ok-append.ensures.items c.requires.goals c.requires.answers

pub returns-clause-held : goal.returns-clause-held
returns-clause-held g c =
    let i = c.self.inside in
    let eq = g.E.Goal.PartialEq.eq in
    let is = added-is eq g.met.E.Goal.Key.exact g.met.E.Goal.Eq.laws.refl g.E.Expand.answers c.args.self.now c.args.rows.now (g.E.Expand.tag i.by.value) i.goals.keys c.append-2.new.self.keys c.args.more.goals.keys i.answers.items c.append.new.self.items c.args.more.answers.items c.self.view_is c.in-Ok.ensures.keys c.in_ok-append.ensures.items c.requires.goals c.requires.answers in
    λ x m. subst (λ (s : StoreSeen g.row.E-Tag.Denot g.row.E-Goal.Denot). Contains s.goals x) (sym is) (all-contains eq g.met.E.Goal.Key.exact g.met.E.Goal.Eq.laws.refl c.args.self.now.goals (goals_of c.args.rows.now) x m)
