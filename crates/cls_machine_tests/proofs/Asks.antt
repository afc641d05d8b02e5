-- Goals of a heap that are asked together.
use Rattle.std.specs.Prelude.{◌≡◌, ℕ, List, [], ◌∷◌, All}
use Rattle.std.proofs.Common.{arith, zero, suc, sym, subst}
use Rattle.cls_callers.specs.Asking.{AreAsked}
use Rattle.cls_machine_tests.specs.Heaps.{IsInHeap}
use Rattle.cls_machine_tests.specs.declared.heap.Node.{Node}

one-in : (size : ℕ) (g : Node) → IsInHeap size g → All (IsInHeap size) (g ∷ [])
one-in size g h zero d k = h
one-in size g h (suc i) d k = absurd (omega arith)

two-in : (size : ℕ) (g h : Node) → IsInHeap size g → IsInHeap size h → All (IsInHeap size) (g ∷ h ∷ [])
two-in size g h a b zero d k = a
two-in size g h a b (suc zero) d k = b
two-in size g h a b (suc (suc i)) d k = absurd (omega arith)

pub one-asked : (size : ℕ) (goals : List Node) (g : Node) → goals ≡ g ∷ [] → IsInHeap size g
    → AreAsked IsInHeap (record { by = size; goals = goals })
one-asked size goals g is h =
    subst (λ (l : List Node). AreAsked IsInHeap (record { by = size; goals = l })) (sym is)
    (record { some = omega arith; few = omega arith; all_ready = one-in size g h })

pub two-asked : (size : ℕ) (goals : List Node) (g h : Node) → goals ≡ g ∷ h ∷ [] → IsInHeap size g → IsInHeap size h
    → AreAsked IsInHeap (record { by = size; goals = goals })
two-asked size goals g h is a b =
    subst (λ (l : List Node). AreAsked IsInHeap (record { by = size; goals = l })) (sym is)
    (record { some = omega arith; few = omega arith; all_ready = two-in size g h a b })
