use Rattle.std.proofs.Common.{sym, ap, subst}
use Rattle.cls_expand.specs.Memos.{StoreSeen, IsStore}
use Rattle.cls_expand.proofs.Keeping.{alone-store, alone-is}
use Rattle.cls_expand.proofs.store.Store.replace.Goals as goal

pub invariant_of-self : goal.invariant_of-self
invariant_of-self g c =
    let i = c.self.inside in
    let is = alone-is c.args.self.now c.args.rows (g.E.Expand.tag i.by.value) c.in_ok-goals.goals.keys c.in_ok-goals.answers.items (ap (λ (s : StoreSeen g.row.E-Tag.Denot g.row.E-Goal.Denot). s.tag) c.self.view_is) c.in_ok-goals.ensures.goals c.in_ok-goals.ensures.answers in
    subst (λ (s : StoreSeen g.row.E-Tag.Denot g.row.E-Goal.Denot). IsStore g.E.Goal.PartialEq.eq g.E.Expand.answers s) (sym is) (alone-store g.E.Goal.PartialEq.eq g.met.E.Goal.Key.exact g.met.E.Goal.Eq.laws.refl g.E.Expand.answers c.args.self.now c.args.rows c.requires.complete c.requires.fit)
