-- What a filtered rule book generates, and that there is one.
use Rattle.std.specs.Prelude.{◌≡◌, ◌↔◌, ℕ, List}
use Rattle.cls_base.specs.Terms.{Applicative}
use Rattle.cls_base.specs.declared.rule.Rule.{Rule}
use Rattle.cls_base.specs.Languages.{IsGenerated}
use Rattle.cls_filter.specs.Automata.{Automaton, Accepts}
use Rattle.cls_filter.specs.States.{IsAutomaton}
use Rattle.cls_filtered.specs.Filtered.{IsRuleBook, IsFiltered}

-- Node 0 generates exactly the terms that node 0 of the book generates and the automaton accepts.
abbrev pub FilteredBooksGenerate : Type 0
FilteredBooksGenerate =
    (book : List (List (Rule ℕ))) (a : Automaton) (filtered : List (List (Rule ℕ)))
    → IsRuleBook book → IsAutomaton a → IsFiltered book a filtered
    → (e : Applicative) → IsGenerated filtered 0 e ↔ (IsGenerated book 0 e × Accepts a e)

abbrev pub FilteredBooksAreOne : Type 0
FilteredBooksAreOne =
    (book : List (List (Rule ℕ))) (a : Automaton) (filtered others : List (List (Rule ℕ)))
    → IsFiltered book a filtered → IsFiltered book a others → filtered ≡ others
