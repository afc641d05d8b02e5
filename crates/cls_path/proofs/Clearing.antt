-- Paths without those above one of them.
use Rattle.std.proofs.Common.{◌≡◌, refl, ap, subst, ℕ, Bool, true, false, List, [], ◌∷◌, ◌++◌, inl, inr}
use Rattle.std.specs.Prelude.{Contains, not}
use Rattle.std.proofs.lemmas.List.Elements.{Contains-push, Contains-push_cases, Contains-append_left}
use Rattle.cls_base.specs.Taxonomies.{Variance}
use Rattle.cls_base.specs.Taxa.{Below}
use Rattle.cls_path.specs.Paths.{TypePath, PathLe, InPaths, SuitsAll, listed}
use Rattle.cls_path.specs.Groups.{IsCleared, IsReduced}
use Rattle.cls_path.specs.Insertion.{without_above}
use Rattle.cls_path.specs.Tests.{path_below}
use Rattle.cls_path.proofs.Ascending.{in_contained, contained_in}
use Rattle.cls_path.proofs.Completeness.{covers_all, covers_subset, le_refl, suits_in}
use Rattle.cls_path.proofs.Decided.{tested_le}
use Rattle.cls_path.proofs.Insertion.{filtered_in, in_filtered}
use Rattle.cls_path.proofs.Transitivity.{covers_trans}

module _ (test : ℕ → ℕ → Bool) (variance : ℕ → Variance) (reflexive : (c : ℕ) → Below test c c) (transitive : (c d e : ℕ) → Below test c d → Below test d e → Below test c e) (one_variance : (c d : ℕ) → Below test c d → variance c ≡ variance d) where
  pub cleared_self : (n : List TypePath) → SuitsAll variance (listed n) → IsCleared test variance n n
  cleared_self n s = record {
    within = λ p c. c;
    lower = covers_subset (Below test) variance reflexive transitive (listed n) (listed n) s (λ q i. i);
  }

  module _ (p : TypePath) (n : List TypePath) (c : Contains n p) (s : SuitsAll variance (listed n)) where
    abbrev kept : List TypePath
    kept = without_above test variance p n

    abbrev rest : List TypePath
    rest = kept ++ p ∷ []

    either :
        (q : TypePath) → InPaths (listed n) q → (v : Bool) → path_below test variance p q ≡ v
        → (r : TypePath) × InPaths (listed rest) r × PathLe (Below test) variance r q
    either q i true e = (
      p,
      contained_in rest p (Contains-push kept p),
      tested_le test variance reflexive transitive one_variance p q
          (suits_in (Below test) variance reflexive transitive (listed n) p s (contained_in n p c))
          (suits_in (Below test) variance reflexive transitive (listed n) q s i) e,
    )
    either q i false e = (
      q,
      contained_in rest q (Contains-append_left kept (p ∷ []) q (in_contained kept q (in_filtered (λ r. not (path_below test variance p r)) n q i (ap not e)))),
      le_refl (Below test) variance reflexive transitive q (suits_in (Below test) variance reflexive transitive (listed n) q s i),
    )

    -- what is above p has p below it, and the rest is left
    pub cleared_by : IsCleared test variance n (without_above test variance p n ++ p ∷ [])
    cleared_by = record {
      within = λ q h. elim (Contains-push_cases kept p q h) [
        | inl a ↦ in_contained n q (filtered_in (λ r. not (path_below test variance p r)) n q (contained_in kept q a))
        | inr e ↦ subst (λ x. Contains n x) e c
      ];
      lower = covers_all (Below test) variance reflexive transitive (listed rest) (listed n) (λ q i. either q i (path_below test variance p q) refl);
    }

  -- the least of what is left are those of all
  pub reduced_cleared : (n m out : List TypePath) → IsCleared test variance n m → IsReduced test variance m out → IsReduced test variance n out
  reduced_cleared n m out h r = record {
    within = λ p c. h.within p (r.within p c);
    apart = r.apart;
    lower = covers_trans (Below test) variance reflexive transitive (listed out) (listed m) (listed n) r.lower h.lower;
  }
