use Rattle.cls_lexer.specs.Words.{words}
use Rattle.cls_repo.proofs.declaration.declare.Goals as goal

pub returns-in-Kind-clause-fault : goal.returns-in-Kind-clause-fault
returns-in-Kind-clause-fault c = rw c.in-Kind.is c.declare_choices.ensures.fault

pub returns-in-Text-clause-fault : goal.returns-in-Text-clause-fault
returns-in-Text-clause-fault c = rw c.in-Text.is (c.declare_template.ensures.fault (words c.in-Text.field-1.now))

pub returns-in-Cost-clause-fault : goal.returns-in-Cost-clause-fault
returns-in-Cost-clause-fault c = rw c.in-Cost.is c.declare_cost.ensures.fault

pub returns-in-Filter-clause-fault : goal.returns-in-Filter-clause-fault
returns-in-Filter-clause-fault c = rw c.in-Filter.is c.declare_filter.ensures.fault

pub returns-in-Comp-clause-fault : goal.returns-in-Comp-clause-fault
returns-in-Comp-clause-fault c = rw c.in-Comp.is c.declare_component.ensures.fault

pub returns-in-Variance-clause-fault : goal.returns-in-Variance-clause-fault
returns-in-Variance-clause-fault c = rw c.in-Variance.is c.declare_variance.ensures.fault

pub returns-in-Leaf-clause-fault : goal.returns-in-Leaf-clause-fault
returns-in-Leaf-clause-fault c = rw c.in-Leaf.is c.declare_leaf.ensures.fault

pub returns-in-App-clause-fault : goal.returns-in-App-clause-fault
returns-in-App-clause-fault c = rw c.in-App.is c.declare_app.ensures.fault

pub returns-in-Other-clause-fault : goal.returns-in-Other-clause-fault
returns-in-Other-clause-fault c = rw c.in-Other.is c.declare_other.ensures.fault
