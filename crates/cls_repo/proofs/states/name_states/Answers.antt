use Rattle.cls_repo.proofs.states.name_states.Goals as goal

pub returns-in-Filter-clause-named : goal.returns-in-Filter-clause-named
returns-in-Filter-clause-named c = rw c.in-Filter.is c.name_accepting.ensures.named

pub returns-in-Leaf-clause-named : goal.returns-in-Leaf-clause-named
returns-in-Leaf-clause-named c = rw c.in-Leaf.is c.name_state.ensures.named

pub returns-in-App-clause-named : goal.returns-in-App-clause-named
returns-in-App-clause-named c = rw c.in-App.is c.name_three.ensures.named
