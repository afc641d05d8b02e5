use Rattle.std.proofs.Common.{ℕ, ◌<◌, sym, ap, ◌∙◌, subst}
use Rattle.cls_base.specs.Limits.{max_states}
use Rattle.cls_filter.specs.Lines.{with_other}
use Rattle.cls_repo.proofs.states.put_line.Goals as goal

pub accept_each-requires : goal.accept_each-requires
accept_each-requires c = rw c.in-Filter.is at c.requires

pub put_leaf-requires : goal.put_leaf-requires
put_leaf-requires c = rw c.in-Leaf.is at c.requires

pub put_app-requires : goal.put_app-requires
put_app-requires c = rw c.in-App.is at c.requires

pub other-requires : goal.other-requires
other-requires c = subst (λ (n : ℕ). n < max_states) (sym c.number.ensures) (rw c.in-Other.is at c.requires).0

pub returns-in-Filter-clause-put : goal.returns-in-Filter-clause-put
returns-in-Filter-clause-put c = rw c.in-Filter.is c.accept_each.ensures

pub returns-in-Leaf-clause-put : goal.returns-in-Leaf-clause-put
returns-in-Leaf-clause-put c = rw c.in-Leaf.is c.put_leaf.ensures.put

pub returns-in-App-clause-put : goal.returns-in-App-clause-put
returns-in-App-clause-put c = rw c.in-App.is c.put_app.ensures

pub returns-in-Other-clause-put : goal.returns-in-Other-clause-put
returns-in-Other-clause-put c = rw c.in-Other.is (c.other.ensures ∙ ap (with_other c.args.filter.now) c.number.ensures)
