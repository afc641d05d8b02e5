-- The one place of an ending among different ones.
use Rattle.std.proofs.Common.{◌≡◌, ℕ, zero, suc, Bool, true, false, List, [], ◌∷◌, Option, None, Some, get_or, refl, sym, subst, ap, ◌∙◌}
use Rattle.std.specs.Prelude.{is_some, slice_get, ◌||◌}
use Rattle.std.specs.List.{list_any, position, IsDistinct, AllByRecursion}
use Rattle.std.proofs.lemmas.List.Quantifiers.{position-Some}
use Rattle.std.proofs.lemmas.Option.{slice_get-get_or}
use Rattle.cls_library.specs.declared.ending.Ending.{Ending}
use Rattle.cls_library.specs.contracts.ending.EndingPartialEq.TheImpl.{eq-value}
use Rattle.cls_library.specs.Endings.{IsFound}
use Rattle.cls_library.proofs.EndingLaws.{same-ending}
use Rattle.cls_library.proofs.Lone.{same-endings}

differs : true ≡ false → ⊥
differs e = cc

some-is : (x y : Ending) → Some x ≡ Some y → x ≡ y
some-is x y e = cc

none-after : (e : Ending) (xs : List Ending) → AllByRecursion (λ y. eq-value.it e y ≡ false) xs → (j : ℕ) → slice_get xs j ≡ Some e → ⊥
none-after e [] h j at = cc
none-after e (x ∷ xs) h zero at = differs (sym (same-endings e) ∙ subst (λ y. eq-value.it e y ≡ false) (some-is x e at) h.0)
none-after e (x ∷ xs) h (suc j) at = none-after e xs h.1 j at

one-place : (xs : List Ending) → IsDistinct eq-value.it xs → (k j : ℕ) (e : Ending) → slice_get xs k ≡ Some e → slice_get xs j ≡ Some e → j ≡ k
unfolding IsDistinct
one-place [] d k j e a b = cc
one-place (x ∷ xs) d zero zero e a b = refl
one-place (x ∷ xs) d zero (suc j) e a b = absurd (none-after e xs (subst (λ y. AllByRecursion (λ z. eq-value.it y z ≡ false) xs) (some-is x e a) d.0) j b)
one-place (x ∷ xs) d (suc k) zero e a b = absurd (none-after e xs (subst (λ y. AllByRecursion (λ z. eq-value.it y z ≡ false) xs) (some-is x e b) d.0) k a)
one-place (x ∷ xs) d (suc k) (suc j) e a b = ap suc (one-place xs d.1 k j e a b)

pub found-at : (kinds : List Ending) (e : Ending) (k : ℕ) → IsDistinct eq-value.it kinds → slice_get kinds k ≡ Some e → IsFound kinds e (Some k)
found-at kinds e k d at = λ j. ((λ b. one-place kinds d k j e at b), (λ i. subst (λ (x : ℕ). slice_get kinds x ≡ Some e) (sym i) at))

or-false : (x y : Bool) → (x || y) ≡ false → (x ≡ false) × (y ≡ false)
or-false true y e = absurd (differs e)
or-false false y e = (refl, e)

pub found-nowhere : (kinds : List Ending) (e : Ending) → list_any (eq-value.it e) kinds ≡ false → (j : ℕ) → slice_get kinds j ≡ Some e → ⊥
found-nowhere [] e n j at = cc
found-nowhere (x ∷ xs) e n zero at = differs (sym (same-endings e) ∙ subst (λ y. eq-value.it e y ≡ false) (some-is x e at) (or-false (eq-value.it e x) (list_any (eq-value.it e) xs) n).0)
found-nowhere (x ∷ xs) e n (suc j) at = found-nowhere xs e (or-false (eq-value.it e x) (list_any (eq-value.it e) xs) n).1 j at

-- what a search finds
pub found-by :
    (kinds : List Ending) (e : Ending) (r : Option ℕ) → IsDistinct eq-value.it kinds → r ≡ position (eq-value.it e) kinds
    → is_some r ≡ list_any (eq-value.it e) kinds → IsFound kinds e r
found-by kinds e None d is found = found-nowhere kinds e (sym found)
found-by kinds e (Some k) d is found =
    let p = position-Some (eq-value.it e) kinds k e (sym is) in
    let same : e ≡ get_or kinds k e = same-ending e (get_or kinds k e) p.1 in
    found-at kinds e k d (slice_get-get_or kinds k e p.0 ∙ ap (λ (x : Ending). Some x) (sym same))
