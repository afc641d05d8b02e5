-- The order of lists inside paths is that of the lists, also to a bare name, and if one list has ended, the lengths decide.
use Rattle.std.proofs.Common.{◌≡◌, refl, sym, ◌∙◌, ap, false, List, [], ◌∷◌, ℕ, zero, suc, ◌<◌, ◌≤◌, length, get_or, drop, arith, inl, inr}
use Rattle.std.specs.Prelude.{◌⊎◌}
use Rattle.std.proofs.lemmas.Bool.Decides.{nat_tests}
use Rattle.std.specs.Ordering.{ordering_then, ordering_reverse, is_ne, nat_cmp}
use Rattle.std.specs.declared.cmp.Ordering.{Ordering}
use Rattle.std.specs.declared.cmp.Ordering.TheVariants.{Less, Equal, Greater}
use Rattle.cls_path.specs.Paths.{TypePath, atom, none, more, listed}
use Rattle.cls_path.specs.PathOrder.{path_order, paths_order, list_order}
use Rattle.cls_path.specs.OrderLaws.{list_order_total}

pub paths_order-listed : (m n : List TypePath) → paths_order (listed m) (listed n) ≡ list_order m n
paths_order-listed [] [] = refl
paths_order-listed [] (q ∷ n) = refl
paths_order-listed (p ∷ m) [] = refl
paths_order-listed (p ∷ m) (q ∷ n) = ap (λ o. ordering_then (path_order p q) o) (paths_order-listed m n)

pub name_first :
    (c : ℕ) (n : List TypePath)
    → paths_order (more (atom c) none) (listed n) ≡ ordering_reverse (list_order n (atom c ∷ []))
name_first c n = paths_order-listed (atom c ∷ []) n ∙ list_order_total.antisymm (atom c ∷ []) n

pub tied : (o : Ordering) → is_ne o ≡ false → o ≡ Equal
tied Less h = cc
tied Equal h = refl
tied Greater h = cc

-- the order to a list of one name, if the first path is that name
pub only_name :
    (c : ℕ) (p : TypePath) (n : List TypePath)
    → 0 < length n → p ≡ get_or n 0 p → path_order p (atom c) ≡ Equal → list_order n (atom c ∷ []) ≡ nat_cmp (length n) 1
only_name c p [] h e o = absurd (omega arith)
only_name c p (q ∷ []) h e o = ap (λ r. ordering_then (path_order r (atom c)) Equal) (sym e) ∙ ap (λ r. ordering_then r Equal) o
only_name c p (q ∷ r ∷ n) h e o =
    ap (λ r. ordering_then (path_order r (atom c)) Greater) (sym e) ∙ ap (λ r. ordering_then r Greater) o ∙ sym (longer (length n))
  where
    longer : (k : ℕ) → nat_cmp (suc (suc k)) 1 ≡ Greater
    longer k = grind (arith, nat_tests)

nat_cmp-suc : (m n : ℕ) → nat_cmp (suc m) (suc n) ≡ nat_cmp m n
nat_cmp-suc m n = grind (arith, nat_tests)

pub exhausted :
    (i : ℕ) (xs ys : List TypePath) → i ≤ length xs → i ≤ length ys → (length xs ≤ i) ⊎ (length ys ≤ i)
    → list_order (drop i xs) (drop i ys) ≡ nat_cmp (length xs) (length ys)
exhausted zero [] [] p q h = refl
exhausted zero [] (y ∷ ys) p q h = grind (arith, nat_tests)
exhausted zero (x ∷ xs) [] p q h = grind (arith, nat_tests)
exhausted zero (x ∷ xs) (y ∷ ys) p q (inl h) = absurd (omega arith)
exhausted zero (x ∷ xs) (y ∷ ys) p q (inr h) = absurd (omega arith)
exhausted (suc i) [] ys p q h = absurd (omega arith)
exhausted (suc i) (x ∷ xs) [] p q h = absurd (omega arith)
exhausted (suc i) (x ∷ xs) (y ∷ ys) p q (inl h) = exhausted i xs ys (omega arith) (omega arith) (inl (omega arith)) ∙ sym (nat_cmp-suc (length xs) (length ys))
exhausted (suc i) (x ∷ xs) (y ∷ ys) p q (inr h) = exhausted i xs ys (omega arith) (omega arith) (inr (omega arith)) ∙ sym (nat_cmp-suc (length xs) (length ys))
