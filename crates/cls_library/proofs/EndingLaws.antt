-- Endings of paths, and where they are kept.
use Rattle.std.proofs.Common.{◌≡◌, ℕ, zero, suc, ◌+◌, ◌<◌, ◌≤◌, min, Bool, true, false, List, [], ◌∷◌, ◌++◌, length, get_or, Some, refl, subst, ap, ◌∙◌, arith, rules, eqb-true}
use Rattle.std.specs.Prelude.{slice_get, slice_index_or, if◌then◌else◌, ◌==◌, ◌&&◌}
use Rattle.std.specs.List.{list_any}
use Rattle.std.proofs.lemmas.Bool.Decides.{nat_tests}
use Rattle.std.proofs.lemmas.Option.{slice_get_within, get_or_from_slice_get}
use Rattle.indexmap.specs.IndexSet.{insert_key}
use Rattle.cls_base.specs.Limits.{max_arity}
use Rattle.cls_base.specs.Lists.{AreBelow}
use Rattle.cls_base.specs.Taxonomies.{Variance}
use Rattle.cls_base.specs.Taxa.{Below}
use Rattle.cls_path.specs.Paths.{TypePath, atom, inside, unit, left, right, function, sealed, listed, PathLe, atoms, inside_atom, insides, units, left_unit, right_unit, lefts, rights, functions, contravariants, invariants, Suits, SuitsAll}
use Rattle.cls_library.specs.declared.ending.Head.{Head}
use Rattle.cls_library.specs.declared.ending.Head.TheVariants.{Covariant, Product, Sealed}
use Rattle.cls_library.specs.declared.ending.Ending.{Ending}
use Rattle.cls_library.specs.contracts.ending.HeadPartialEq.TheImpl as heads
use Rattle.cls_library.specs.contracts.ending.EndingPartialEq.TheImpl.{eq-value}
use Rattle.cls_library.specs.Arrows.{leading_arrows}
use Rattle.cls_library.specs.Splits.{target_at}
use Rattle.cls_library.specs.Endings.{head_of, ending_of, may_be_below, may_end_below, AreEndings}
use Rattle.cls_library.proofs.Splitting.{leading-le}

-- a path below another one has a head that may be below
pub may-le : (test : ℕ → ℕ → Bool) (variance : ℕ → Variance) {p q : TypePath} → PathLe (Below test) variance p q → may_be_below test (head_of p) (head_of q) ≡ true
may-le test variance (atoms h) = search rules
may-le test variance (inside_atom h) = search rules
may-le test variance (insides h k) = search rules
may-le test variance units = refl
may-le test variance left_unit = refl
may-le test variance right_unit = refl
may-le test variance (lefts h) = refl
may-le test variance (rights h) = refl
may-le test variance (functions h k) = may-le test variance k
may-le test variance (contravariants v w h k) = search rules
may-le test variance (invariants v w h k l) = search rules

-- the ending of what is left of a path
target-head : (n : ℕ) (p : TypePath) → head_of (target_at n p) ≡ head_of p
target-head zero p = refl
target-head (suc n) (function s p) = target-head n p
target-head (suc n) (atom c) = refl
target-head (suc n) (inside c p) = refl
target-head (suc n) unit = refl
target-head (suc n) (left p) = refl
target-head (suc n) (right p) = refl
target-head (suc n) (sealed c s) = refl

target-leading : (n : ℕ) (p : TypePath) → n ≤ leading_arrows p → leading_arrows p ≡ n + leading_arrows (target_at n p)
target-leading zero p h = omega arith
target-leading (suc n) (function s p) h = let e = target-leading n p (omega arith) in omega arith
target-leading (suc n) (atom c) h = absurd (omega arith)
target-leading (suc n) (inside c p) h = absurd (omega arith)
target-leading (suc n) unit h = absurd (omega arith)
target-leading (suc n) (left p) h = absurd (omega arith)
target-leading (suc n) (right p) h = absurd (omega arith)
target-leading (suc n) (sealed c s) h = absurd (omega arith)

pub equal : (a b : ℕ) → a ≡ b → (a == b) ≡ true
equal a b e = grind (arith, nat_tests)

-- a path whose target is below another path has an ending that may lead there
pub may-end : (test : ℕ → ℕ → Bool) (variance : ℕ → Variance) (n : ℕ) (p q : TypePath) → n ≤ leading_arrows p → PathLe (Below test) variance (target_at n p) q → may_end_below test n (ending_of p) (ending_of q) ≡ true
may-end test variance n p q l h =
    let a = target-leading n p l in
    let b = leading-le (Below test) variance h in
    let same : min (max_arity + 1) (leading_arrows p) ≡ min (max_arity + 1) (n + min (max_arity + 1) (leading_arrows q)) = omega arith in
    let counts = equal (min (max_arity + 1) (leading_arrows p)) (min (max_arity + 1) (n + min (max_arity + 1) (leading_arrows q))) same in
    let head : may_be_below test (head_of p) (head_of q) ≡ true = subst (λ x. may_be_below test x (head_of q) ≡ true) (target-head n p) (may-le test variance h) in
    (λ j. counts j && head j)

pub both : (a b : Bool) → (a && b) ≡ true → (a ≡ true) × (b ≡ true)
both true b h = (refl, h)
both false b h = cc

pub same-head : (x y : Head) → heads.eq-value.it x y ≡ true → x ≡ y
same-head (Covariant c) (Covariant d) h = ap (λ (n : ℕ). Covariant (record { 0 = n })) (eqb-true c.0 d.0 h)
same-head (Covariant c) Product h = cc
same-head (Covariant c) (Sealed d) h = cc
same-head Product (Covariant d) h = cc
same-head Product Product h = refl
same-head Product (Sealed d) h = cc
same-head (Sealed c) (Covariant d) h = cc
same-head (Sealed c) Product h = cc
same-head (Sealed c) (Sealed d) h = ap (λ (n : ℕ). Sealed (record { 0 = n })) (eqb-true c.0 d.0 h)

pub same-ending : (x y : Ending) → eq-value.it x y ≡ true → x ≡ y
same-ending x y h =
    let r = both (x.arrows == y.arrows) (heads.eq-value.it x.head y.head) h in
    let a = eqb-true x.arrows y.arrows r.0 in
    let b = same-head x.head y.head r.1 in
    (λ j. record { arrows = a j; head = b j })

-- what stood in the list stands there
keeps-if : (b : Bool) (hs : List Ending) (h : Ending) (k : ℕ) (x : Ending) → slice_get hs k ≡ Some x → slice_get (if b then hs else hs ++ h ∷ []) k ≡ Some x
keeps-if true hs h k x e = e
keeps-if false hs h k x e = longer hs h k x e
  where
    longer : (hs : List Ending) (h : Ending) (k : ℕ) (x : Ending) → slice_get hs k ≡ Some x → slice_get (hs ++ h ∷ []) k ≡ Some x
    longer [] h k x e = cc
    longer (y ∷ hs) h zero x e = e
    longer (y ∷ hs) h (suc k) x e = longer hs h k x e

pub keeps : (hs : List Ending) (h : Ending) (k : ℕ) (x : Ending) → slice_get hs k ≡ Some x → slice_get (insert_key eq-value.it hs h) k ≡ Some x
keeps hs h k x e = keeps-if (list_any (eq-value.it h) hs) hs h k x e

pub endings-kept : (hs gs : List Ending) → ((k : ℕ) (x : Ending) → slice_get hs k ≡ Some x → slice_get gs k ≡ Some x) → (ks : List ℕ) (ps : List TypePath) → AreEndings hs ks ps → AreEndings gs ks ps
endings-kept hs gs f [] [] h = tt
endings-kept hs gs f (k ∷ ks) (p ∷ ps) h = (f k (ending_of p) h.0, endings-kept hs gs f ks ps h.1)
endings-kept hs gs f [] (p ∷ ps) h = h
endings-kept hs gs f (k ∷ ks) [] h = h

pub endings-more : (hs : List Ending) (ks : List ℕ) (ps : List TypePath) (k : ℕ) (p : TypePath) → AreEndings hs ks ps → slice_get hs k ≡ Some (ending_of p) → AreEndings hs (ks ++ k ∷ []) (ps ++ p ∷ [])
endings-more hs [] [] k p h e = (e, tt)
endings-more hs (j ∷ ks) (b ∷ ps) k p h e = (h.0, endings-more hs ks ps k p h.1 e)
endings-more hs [] (b ∷ ps) k p h e = absurd h
endings-more hs (j ∷ ks) [] k p h e = absurd h

module _ (kinds : List Ending) where
  pub kind-at : (ks : List ℕ) (ps : List TypePath) (i : ℕ) → AreEndings kinds ks ps → i < length ps
      → (i < length ks) × (slice_get kinds (get_or ks i 0) ≡ Some (ending_of (slice_index_or ps i unit)))
  kind-at [] [] i h l = absurd (omega arith)
  kind-at (k ∷ ks) (p ∷ ps) zero h l = (omega arith, h.0)
  kind-at (k ∷ ks) (p ∷ ps) (suc i) h l = let r = kind-at ks ps i h.1 (omega arith) in (omega arith, r.1)
  kind-at [] (p ∷ ps) i h l = absurd h
  kind-at (k ∷ ks) [] i h l = absurd h

  module _ (ks : List ℕ) (ps : List TypePath) (i : ℕ) (h : AreEndings kinds ks ps) (l : i < length ps) where
    pub place-within : i < length ks
    place-within = (kind-at ks ps i h l).0

    pub kind-within : get_or ks i 0 < length kinds
    kind-within = slice_get_within kinds (get_or ks i 0) _ (kind-at ks ps i h l).1

    -- the number of arrows that is kept for a path
    pub kind-arrows : (d : Ending) → (get_or kinds (get_or ks i 0) d).arrows ≡ min (max_arity + 1) (leading_arrows (slice_index_or ps i unit))
    kind-arrows d = ap (λ (x : Ending). x.arrows) (get_or_from_slice_get kinds (get_or ks i 0) _ d (kind-at ks ps i h l).1)

    -- a path whose ending may not be below doesn't lead there
    pub not-below :
        (test : ℕ → ℕ → Bool) (n : ℕ) (q : TypePath) (variance : ℕ → Variance) (upper d : Ending) → upper ≡ ending_of q
        → n ≤ leading_arrows (slice_index_or ps i unit) → false ≡ may_end_below test n (get_or kinds (get_or ks i 0) d) upper
        → PathLe (Below test) variance (target_at n (slice_index_or ps i unit)) q → ⊥
    not-below test n q variance upper d u many f le =
        let same : get_or kinds (get_or ks i 0) d ≡ ending_of (slice_index_or ps i unit) = get_or_from_slice_get kinds (get_or ks i 0) _ d (kind-at ks ps i h l).1 in
        let none : false ≡ may_end_below test n (ending_of (slice_index_or ps i unit)) (ending_of q) = f ∙ (λ j. may_end_below test n (same j) (u j)) in
        differs (none ∙ may-end test variance n (slice_index_or ps i unit) q many le)
      where
        differs : false ≡ true → ⊥
        differs e = cc

-- targets suit if the paths do
target-suits : (variance : ℕ → Variance) (n : ℕ) (p : TypePath) → Suits variance p → Suits variance (target_at n p)
target-suits variance zero p h = h
target-suits variance (suc n) (function s p) h = target-suits variance n p h.1
target-suits variance (suc n) (atom c) h = h
target-suits variance (suc n) (inside c p) h = h
target-suits variance (suc n) unit h = h
target-suits variance (suc n) (left p) h = h
target-suits variance (suc n) (right p) h = h
target-suits variance (suc n) (sealed c s) h = h

pub suits-at : (variance : ℕ → Variance) (n : ℕ) (ps : List TypePath) (i : ℕ) → SuitsAll variance (listed ps) → i < length ps → Suits variance (target_at n (slice_index_or ps i unit))
suits-at variance n [] i h l = absurd (omega arith)
suits-at variance n (p ∷ ps) zero h l = target-suits variance n p h.0
suits-at variance n (p ∷ ps) (suc i) h l = suits-at variance n ps i h.1 (omega arith)

-- the places of the endings among the different ones
pub endings-below : (kinds : List Ending) (ks : List ℕ) (ps : List TypePath) → AreEndings kinds ks ps → AreBelow (length kinds) ks
endings-below kinds [] [] h = tt
endings-below kinds (k ∷ ks) (p ∷ ps) h = (slice_get_within kinds k (ending_of p) h.0, endings-below kinds ks ps h.1)
endings-below kinds [] (p ∷ ps) h = absurd h
endings-below kinds (k ∷ ks) [] h = absurd h

pub endings-length : (kinds : List Ending) (ks : List ℕ) (ps : List TypePath) → AreEndings kinds ks ps → length ks ≡ length ps
endings-length kinds [] [] h = refl
endings-length kinds (k ∷ ks) (p ∷ ps) h = let r = endings-length kinds ks ps h.1 in omega arith
endings-length kinds [] (p ∷ ps) h = absurd h
endings-length kinds (k ∷ ks) [] h = absurd h
