-- What the expander of the tests means: a heap of a size.
use Rattle.std.specs.Prelude.{◌≡◌, ◌<◌, ◌+◌, ◌*◌, ℕ, Bool, true, false, List, [], ◌∷◌, All, nat_lt}
use Rattle.std.proofs.Common.{arith, zero, suc, refl, sym, subst, ◌∙◌}
use Rattle.std.proofs.lemmas.Bool.Decides.{nat_tests}
use Rattle.cls_core.specs.Arguments.{arguments_of, HasUniqueAnswers, ArgumentsAreReady}
use Rattle.cls_base.specs.declared.rule.Rule.TheVariants.{Head}
use Rattle.cls_core.specs.declared.answer.Answer.{Answer}
use Rattle.cls_core.specs.declared.answer.Answer.TheVariants.{Rules}
use Rattle.cls_machine_tests.specs.Nodes.{node}
use Rattle.cls_machine_tests.specs.declared.heap.Node.{Node}

abbrev pub below : ℕ → Node → Bool → List Node
below size g true = node (2 * g.id + 1) ∷ node (2 * g.id + 2) ∷ []
below size g false = []

abbrev pub heap_answer : ℕ → Node → Answer Node
heap_answer size g = Rules (Head g.id (below size g (nat_lt (2 * g.id + 2) size)) ∷ [])

abbrev pub IsHeapAnswer : ℕ → Node → Answer Node → Type 0
IsHeapAnswer size g a = a ≡ heap_answer size g

abbrev pub IsInHeap : ℕ → Node → Type 0
IsInHeap size g = (g.id < size) × (size < 100000)

pub one_heap_answer : (size : ℕ) → HasUniqueAnswers (IsHeapAnswer size)
one_heap_answer size g a b first second = first ∙ sym second

in_heap : (size : ℕ) (g : Node) → IsInHeap size g → (b : Bool) → nat_lt (2 * g.id + 2) size ≡ b
    → All (IsInHeap size) (arguments_of (Rules (Head g.id (below size g b) ∷ [])))
in_heap size g h true e zero d k = (grind (arith, nat_tests), h.1)
in_heap size g h true e (suc zero) d k = (grind (arith, nat_tests), h.1)
in_heap size g h true e (suc (suc i)) d k = absurd (omega arith)
in_heap size g h false e i d k = absurd (omega arith)

pub arguments_in_heap : (size : ℕ) → ArgumentsAreReady (IsInHeap size) (IsHeapAnswer size)
arguments_in_heap size g a h is =
    let all = in_heap size g h (nat_lt (2 * g.id + 2) size) refl in
    subst (λ (x : Answer Node). All (IsInHeap size) (arguments_of x)) (sym is) all
