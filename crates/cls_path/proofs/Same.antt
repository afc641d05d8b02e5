-- When two lists of paths are equal: if they are of one length and no two paths at one place differ.
use Rattle.std.proofs.Common.{◌≡◌, refl, sym, ◌∙◌, ap, ℕ, suc, ◌<◌, ◌≤◌, true, false, List, ◌∷◌, length, get_or, drop}
use Rattle.std.proofs.Math.Seq.{drop-cons}
use Rattle.std.proofs.lemmas.List.{drop_all}
use Rattle.std.proofs.lemmas.Bool.{false_from_ne_true}
use Rattle.std.specs.declared.cmp.Ordering.{Ordering}
use Rattle.std.specs.declared.cmp.Ordering.TheVariants.{Less, Equal, Greater}
use Rattle.std.specs.Ordering.{ordering_then, is_eq, is_ne}
use Rattle.cls_path.specs.Paths.{TypePath}
use Rattle.cls_path.specs.PathOrder.{path_order, list_order}
use Rattle.cls_path.specs.OrderLaws.{list_same}

pub other_lengths : (m n : List TypePath) → (length m ≡ length n → ⊥) → false ≡ is_eq (list_order m n)
other_lengths m n h = sym (false_from_ne_true (is_eq (list_order m n)) (λ e. h (ap length (list_same m n e))))

decided : (o p : Ordering) → is_ne o ≡ true → false ≡ is_eq (ordering_then o p)
decided Less p h = refl
decided Equal p h = cc
decided Greater p h = refl

pub other_paths :
    (i : ℕ) (m n : List TypePath) (p q : TypePath)
    → i < length m → i < length n → p ≡ get_or m i p → q ≡ get_or n i q
    → is_ne (path_order p q) ≡ true → list_order m n ≡ list_order (drop i m) (drop i n) → false ≡ is_eq (list_order m n)
other_paths i m n p q h k e f o r =
    let first : drop i m ≡ p ∷ drop (suc i) m = drop-cons m i p h ∙ ap (λ x. x ∷ drop (suc i) m) (sym e) in
    let second : drop i n ≡ q ∷ drop (suc i) n = drop-cons n i q k ∙ ap (λ x. x ∷ drop (suc i) n) (sym f) in
    decided (path_order p q) (list_order (drop (suc i) m) (drop (suc i) n)) o
    ∙ ap is_eq (sym (r ∙ λ j. list_order (first j) (second j)))

pub all_paths :
    (i : ℕ) (m n : List TypePath)
    → length m ≤ i → length n ≤ i → list_order m n ≡ list_order (drop i m) (drop i n) → true ≡ is_eq (list_order m n)
all_paths i m n h k r = ap is_eq (sym (r ∙ λ j. list_order (drop_all i m h j) (drop_all i n k j)))
