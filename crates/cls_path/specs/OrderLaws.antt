-- internal: the order of paths is total, since it is the order of lists of numbers. Kept here since the laws of an `impl`
-- are cited from specs/.
use Rattle.std.proofs.Common.{◌≡◌, refl, sym, ◌∙◌, ap, ℕ, true, List, [], ◌∷◌}
use Rattle.std.specs.declared.cmp.Ordering.{Ordering}
use Rattle.std.specs.declared.cmp.Ordering.TheVariants.{Less, Equal, Greater}
use Rattle.std.specs.Ordering.{nat_cmp, ordering_then, ordering_reverse, eq_by_cmp, is_eq}
use Rattle.std.specs.Cmp.{IsTotalOrder, IsEquivalence, eq_by_cmp_equiv}
use Rattle.std.specs.Cmp.Lexicographic.{slice_cmp, nat_list_cmp_total, lists_total}
use Rattle.std.specs.FinMap.{nat_cmp-IsAntisymmetric, slice_cmp-IsAntisymmetric}
use Rattle.cls_path.specs.Paths.{TypePath, atom, inside, unit, left, right, function, sealed, Paths, none, more}
use Rattle.cls_path.specs.PathOrder.{path_order, paths_order, list_order}

abbrev mutual
  -- the numbers of a path, before others
  digits : TypePath → List ℕ → List ℕ
  digits (atom c) x = 1 ∷ c ∷ x
  digits (inside c p) x = 2 ∷ c ∷ digits p x
  digits unit x = 3 ∷ x
  digits (left p) x = 4 ∷ digits p x
  digits (right p) x = 5 ∷ digits p x
  digits (function n p) x = 6 ∷ all_digits n (digits p x)
  digits (sealed c n) x = 7 ∷ c ∷ all_digits n x

  -- those of a list, with an end that stands before any path
  all_digits : Paths → List ℕ → List ℕ
  all_digits none x = 0 ∷ x
  all_digits (more p n) x = digits p (all_digits n x)

then_assoc : (p q r : Ordering) → ordering_then (ordering_then p q) r ≡ ordering_then p (ordering_then q r)
then_assoc Less q r = refl
then_assoc Equal q r = refl
then_assoc Greater q r = refl

then_none : (p : Ordering) → ordering_then p Equal ≡ p
then_none Less = refl
then_none Equal = refl
then_none Greater = refl

end_first : (x y : List ℕ) (p : TypePath) → slice_cmp nat_cmp (0 ∷ x) (digits p y) ≡ Less
end_first x y (atom c) = refl
end_first x y (inside c p) = refl
end_first x y unit = refl
end_first x y (left p) = refl
end_first x y (right p) = refl
end_first x y (function n p) = refl
end_first x y (sealed c n) = refl

end_last : (x y : List ℕ) (p : TypePath) → slice_cmp nat_cmp (digits p y) (0 ∷ x) ≡ Greater
end_last x y (atom c) = refl
end_last x y (inside c p) = refl
end_last x y unit = refl
end_last x y (left p) = refl
end_last x y (right p) = refl
end_last x y (function n p) = refl
end_last x y (sealed c n) = refl

mutual
  digits_order :
      (p q : TypePath) (x y : List ℕ)
      → slice_cmp nat_cmp (digits p x) (digits q y) ≡ ordering_then (path_order p q) (slice_cmp nat_cmp x y)
  digits_order (atom c) (atom d) x y = refl
  digits_order (inside c p) (inside d q) x y =
      ap (ordering_then (nat_cmp c d)) (digits_order p q x y) ∙ sym (then_assoc (nat_cmp c d) (path_order p q) (slice_cmp nat_cmp x y))
  digits_order unit unit x y = refl
  digits_order (left p) (left q) x y = digits_order p q x y
  digits_order (right p) (right q) x y = digits_order p q x y
  digits_order (function n p) (function m q) x y =
      all_digits_order n m (digits p x) (digits q y) ∙ ap (ordering_then (paths_order n m)) (digits_order p q x y)
      ∙ sym (then_assoc (paths_order n m) (path_order p q) (slice_cmp nat_cmp x y))
  digits_order (sealed c n) (sealed d m) x y =
      ap (ordering_then (nat_cmp c d)) (all_digits_order n m x y) ∙ sym (then_assoc (nat_cmp c d) (paths_order n m) (slice_cmp nat_cmp x y))
  digits_order _ _ x y = refl

  all_digits_order :
      (n m : Paths) (x y : List ℕ)
      → slice_cmp nat_cmp (all_digits n x) (all_digits m y) ≡ ordering_then (paths_order n m) (slice_cmp nat_cmp x y)
  all_digits_order none none x y = refl
  all_digits_order none (more q m) x y = end_first x (all_digits m y) q
  all_digits_order (more p n) none x y = end_last y (all_digits n x) p
  all_digits_order (more p n) (more q m) x y =
      digits_order p q (all_digits n x) (all_digits m y) ∙ ap (ordering_then (path_order p q)) (all_digits_order n m x y)
      ∙ sym (then_assoc (path_order p q) (paths_order n m) (slice_cmp nat_cmp x y))

order_is : (p q : TypePath) → path_order p q ≡ slice_cmp nat_cmp (digits p []) (digits q [])
order_is p q = sym (digits_order p q [] [] ∙ then_none (path_order p q))

pub path_order_total : IsTotalOrder path_order
path_order_total =
    let o : IsTotalOrder (slice_cmp nat_cmp) = nat_list_cmp_total in
    record {
      antisymm = λ p q. order_is p q ∙ o.antisymm (digits p []) (digits q []) ∙ ap ordering_reverse (sym (order_is q p));
      trans = λ p q r h k. order_is p r ∙ o.trans (digits p []) (digits q []) (digits r []) (sym (order_is p q) ∙ h) (sym (order_is q r) ∙ k);
      congr = λ p q r h. order_is p r ∙ o.congr (digits p []) (digits q []) (digits r []) (sym (order_is p q) ∙ h) ∙ sym (order_is q r);
    }

then_parts : (p q : Ordering) → ordering_then p q ≡ Equal → (p ≡ Equal) × (q ≡ Equal)
then_parts Less q h = cc
then_parts Equal q h = (refl, h)
then_parts Greater q h = cc

mutual
  pub order_same : (p q : TypePath) → path_order p q ≡ Equal → p ≡ q
  order_same (atom c) (atom d) h = ap atom (nat_cmp-IsAntisymmetric c d h)
  order_same (inside c p) (inside d q) h =
      let e = then_parts (nat_cmp c d) (path_order p q) h in λ i. inside (nat_cmp-IsAntisymmetric c d e.0 i) (order_same p q e.1 i)
  order_same unit unit h = refl
  order_same (left p) (left q) h = ap left (order_same p q h)
  order_same (right p) (right q) h = ap right (order_same p q h)
  order_same (function n p) (function m q) h =
      let e = then_parts (paths_order n m) (path_order p q) h in λ i. function (paths_same n m e.0 i) (order_same p q e.1 i)
  order_same (sealed c n) (sealed d m) h =
      let e = then_parts (nat_cmp c d) (paths_order n m) h in λ i. sealed (nat_cmp-IsAntisymmetric c d e.0 i) (paths_same n m e.1 i)
  order_same _ _ h = cc

  pub paths_same : (n m : Paths) → paths_order n m ≡ Equal → n ≡ m
  paths_same none none h = refl
  paths_same none (more q m) h = cc
  paths_same (more p n) none h = cc
  paths_same (more p n) (more q m) h =
      let e = then_parts (path_order p q) (paths_order n m) h in λ i. more (order_same p q e.0 i) (paths_same n m e.1 i)

pub list_order_total : IsTotalOrder list_order
list_order_total = lists_total path_order_total

pub list_equal : IsEquivalence (eq_by_cmp list_order)
list_equal = eq_by_cmp_equiv list_order_total

is_equal : (o : Ordering) → is_eq o ≡ true → o ≡ Equal
is_equal Less h = cc
is_equal Equal h = refl
is_equal Greater h = cc

pub list_same : (m n : List TypePath) → eq_by_cmp list_order m n ≡ true → m ≡ n
list_same m n h = slice_cmp-IsAntisymmetric order_same m n (is_equal (list_order m n) h)
