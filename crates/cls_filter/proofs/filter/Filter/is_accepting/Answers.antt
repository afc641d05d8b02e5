use Rattle.std.proofs.Common.{subst}
use Rattle.cls_filter.specs.Automata.{Automaton}
use Rattle.cls_filter.specs.States.{IsAutomaton}
use Rattle.cls_filter.proofs.filter.Filter.is_accepting.Goals as goal

pub returns-clause-automaton : goal.returns-clause-automaton
returns-clause-automaton c = subst (λ (a : Automaton). IsAutomaton a) c.self.view_is c.self.invariant
