-- Paths whose heads have rising classes: none is below another.
use Rattle.std.proofs.Common.{◌≡◌, ℕ, ◌<◌, Bool, false, List, [], ◌∷◌, sym, ap, arith}
use Rattle.std.specs.List.{IsDistinct, AllByRecursion}
use Rattle.std.proofs.lemmas.Map.Keys.{IsDistinct-cons}
use Rattle.cls_base.specs.Taxonomies.{Variance}
use Rattle.cls_base.specs.Taxa.{Below}
use Rattle.cls_path.specs.Paths.{TypePath, Suits, SuitsAll, listed}
use Rattle.cls_path.specs.Labels.{head_of}
use Rattle.cls_path.specs.Groups.{comparable}
use Rattle.cls_path.proofs.GroupLaws.{distinct_none, not_comparable}
use Rattle.cls_path.proofs.LabelLaws.{head_same}

module _ (class : ℕ → ℕ) where
  -- the class of the first head is above the number, and that of each other one above the one before
  abbrev pub Rises : ℕ → List TypePath → Type 0
  Rises k [] = Unit {0}
  Rises k (p ∷ n) = (k < (head_of class p).low) × Rises (head_of class p).low n

  rises_lower : (j k : ℕ) (n : List TypePath) → j < k → Rises k n → Rises j n
  rises_lower j k [] l h = tt
  rises_lower j k (p ∷ n) l h = (let a = h.0 in omega arith, h.1)

  module _ (test : ℕ → ℕ → Bool) (variance : ℕ → Variance) (reflexive : (c : ℕ) → Below test c c) (transitive : (c d e : ℕ) → Below test c d → Below test d e → Below test c e) (one_variance : (c d : ℕ) → Below test c d → variance c ≡ variance d) (one_class : (c d : ℕ) → Below test c d → class c ≡ class d) where
    not_same : (p q : TypePath) → (head_of class p).low < (head_of class q).low → head_of class p ≡ head_of class q → ⊥
    not_same p q l e = let f = ap (λ s. s.low) e in omega arith

    first_apart :
        (p : TypePath) (n : List TypePath) → Suits variance p → SuitsAll variance (listed n) → Rises (head_of class p).low n
        → AllByRecursion (λ q. comparable test variance p q ≡ false) n
    first_apart p [] s t h = tt
    first_apart p (q ∷ n) s t h = (
      not_comparable test variance reflexive transitive one_variance p q s t.0
          (λ l. not_same p q h.0 (head_same class (Below test) variance one_class l))
          (λ l. not_same p q h.0 (sym (head_same class (Below test) variance one_class l))),
      first_apart p n s t.1 (rises_lower (head_of class p).low (head_of class q).low n h.0 h.1),
    )

    pub rising_apart : (k : ℕ) (n : List TypePath) → SuitsAll variance (listed n) → Rises k n → IsDistinct (comparable test variance) n
    rising_apart k [] s h = distinct_none (comparable test variance)
    rising_apart k (p ∷ n) s h =
        IsDistinct-cons (comparable test variance) p n (first_apart p n s.0 s.1 h.1) (rising_apart (head_of class p).low n s.1 h.1)
