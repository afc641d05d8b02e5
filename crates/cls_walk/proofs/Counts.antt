-- The bounds by arithmetic are bounds: lists of all terms of each node and size are made, size after size, and measured.
use Rattle.std.proofs.Common.{◌≡◌, ℕ, zero, suc, ◌+◌, ◌-◌, ◌*◌, ◌<◌, ◌≤◌, List, [], ◌∷◌, length, refl, subst, arith, length-append, Bool, true, false}
use Rattle.std.specs.Prelude.{◌↔◌, nat_eq, nat_le, ◌&&◌, if◌then◌else◌}
use Rattle.std.specs.List.{flat_map}
use Rattle.std.proofs.lemmas.Nat.{mul-le}
use Rattle.std.proofs.lemmas.Bool.Decides.{nat_tests}
use Rattle.cls_base.specs.Terms.{Applicative, component, apply, length_of}
use Rattle.cls_base.specs.declared.rule.Rule.{Rule}
use Rattle.cls_base.specs.declared.rule.Rule.TheVariants.{Head, Any}
use Rattle.cls_base.specs.Languages.{rules_at}
use Rattle.cls_base.specs.Lists.{AreDistinct}
use Rattle.cls_enum.specs.Candidates.{fills, rule_terms, candidates, IsInCell}
use Rattle.cls_enum.specs.Members.{IsIn}
use Rattle.cls_enum.proofs.CellLaws.{candidates_exact}
use Rattle.cls_enum.proofs.Counting.{no_more_than}
use Rattle.cls_walk.specs.Counts.{ways, all_ways, up_below, AtMost}
use Rattle.cls_walk.proofs.Lists.{length-flat_map_most, length-over_most, each_once}

-- a choice between two, by a test
pub chosen : {A : Type 0} (P : A → Type 0) (b : Bool) (x y : A) → (b ≡ true → P x) → (b ≡ false → P y) → P (if b then x else y)
chosen P true x y f g = f refl
chosen P false x y f g = g refl

-- the same test chooses in two places
pub chosen_both : {A B : Type 0} (R : A → B → Type 0) (b : Bool) (x y : A) (u v : B) → (b ≡ true → R x u) → (b ≡ false → R y v) → R (if b then x else y) (if b then u else v)
chosen_both R true x y u v f g = f refl
chosen_both R false x y u v f g = g refl

pub times-more : (a b k : ℕ) → a ≤ b → a * k ≤ b * k
times-more a b k l = mul-le a k b k l (omega arith)

module _ (book : List (List (Rule ℕ))) (cost : ℕ → ℕ) where
  -- Lists of all terms of each node that may stand on a page, for the sizes below s.
  abbrev pub cell_below : ℕ → ℕ → ℕ → List Applicative
  cell_below zero t n = []
  cell_below (suc s) t n = if nat_eq t s then (each_once (candidates (cell_below s) cost s (rules_at book n))).0 else cell_below s t n

leaf-most : (b c : Bool) (f : Applicative) → length (if b && c then f ∷ [] else []) ≤ (if b then 1 else 0)
leaf-most true true f = omega arith
leaf-most true false f = omega arith
leaf-most false c f = omega arith

pub leaf-least : (b c : Bool) (f : Applicative) → c ≡ true → (if b then 1 else 0) ≤ length (if b && c then f ∷ [] else [])
leaf-least true true f p = omega arith
leaf-least true false f p = absurd (cc)
leaf-least false c f p = omega arith

module _ (cell : ℕ → ℕ → List Applicative) (count : ℕ → ℕ → ℕ) (no_more : (t n : ℕ) → length (cell t n) ≤ count t n) where
  fills-most : (ns : List ℕ) (f : Applicative) (rest : ℕ) → length (fills cell f ns rest) ≤ ways count ns rest
  fills-most [] f rest = leaf-most (nat_eq rest 0) (nat_le (length_of f) 64) f
  fills-most (n ∷ ns) f rest = length-over_most (λ t. flat_map (λ a. fills cell (apply f a) ns (rest - t)) (cell t n)) (rest + 1) (λ t. count t n * ways count ns (rest - t)) (λ t l.
      let a = length-flat_map_most (λ a. fills cell (apply f a) ns (rest - t)) (cell t n) (ways count ns (rest - t)) (λ a i. fills-most ns (apply f a) (rest - t)) in
      let b = times-more (length (cell t n)) (count t n) (ways count ns (rest - t)) (no_more t n) in
      omega (arith, a, b))

  rule-most : (cost : ℕ → ℕ) (s : ℕ) (rs : List (Rule ℕ)) → length (candidates cell cost s rs) ≤ all_ways count cost s rs
  rule-most cost s [] = omega arith
  rule-most cost s (Head x ns ∷ rs) =
      let a = chosen_both (λ (xs : List Applicative) (k : ℕ). length xs ≤ k) (nat_le (cost x) s) (fills cell (component x) ns (s - cost x)) [] (ways count ns (s - cost x)) 0 (λ p. fills-most ns (component x) (s - cost x)) (λ p. omega arith) in
      omega (arith, length-append (rule_terms cell cost s (Head x ns)) (candidates cell cost s rs), a, rule-most cost s rs)
  rule-most cost s (Any l m ∷ rs) =
      let a = length-over_most (λ t. flat_map (λ f. fills cell f (m ∷ []) (s - t)) (cell t l)) s (λ t. count t l * ways count (m ∷ []) (s - t)) (λ t k.
      let a = length-flat_map_most (λ f. fills cell f (m ∷ []) (s - t)) (cell t l) (ways count (m ∷ []) (s - t)) (λ f i. fills-most (m ∷ []) f (s - t)) in
      let b = times-more (length (cell t l)) (count t l) (ways count (m ∷ []) (s - t)) (no_more t l) in
      omega (arith, a, b)) in
      omega (arith, length-append (rule_terms cell cost s (Any l m)) (candidates cell cost s rs), a, rule-most cost s rs)

module _ (book : List (List (Rule ℕ))) (cost : ℕ → ℕ) where
  pub once-below : (s t n : ℕ) → AreDistinct (cell_below book cost s t n)
  once-below zero t n = tt
  once-below (suc s) t n = chosen (λ (xs : List Applicative). AreDistinct xs) (nat_eq t s) (each_once (candidates (cell_below book cost s) cost s (rules_at book n))).0 (cell_below book cost s t n)
      (λ p. (each_once (candidates (cell_below book cost s) cost s (rules_at book n))).1)
      (λ p. once-below s t n)

  pub most-below : (s t n : ℕ) → length (cell_below book cost s t n) ≤ up_below book cost s t n
  most-below zero t n = omega arith
  most-below (suc s) t n = chosen_both (λ (xs : List Applicative) (k : ℕ). length xs ≤ k) (nat_eq t s)
      (each_once (candidates (cell_below book cost s) cost s (rules_at book n))).0 (cell_below book cost s t n)
      (all_ways (up_below book cost s) cost s (rules_at book n)) (up_below book cost s t n)
      (λ p.
      let xs = candidates (cell_below book cost s) cost s (rules_at book n) in
      let o = each_once xs in
      let a = no_more_than o.0 xs o.1 (λ e. (o.2 e).0) in
      let b = rule-most (cell_below book cost s) (up_below book cost s) (most-below s) cost s (rules_at book n) in
      omega (arith, a, b))
      (λ p. most-below s t n)

  module _ (positive : (x : ℕ) → 1 ≤ cost x) where
    pub exact-below : (s t : ℕ) → t < s → (n : ℕ) (e : Applicative) → IsIn (cell_below book cost s t n) e ↔ IsInCell book cost n t e
    exact-below zero t l n e = absurd (omega arith)
    exact-below (suc s) t l n e = chosen (λ (xs : List Applicative). IsIn xs e ↔ IsInCell book cost n t e) (nat_eq t s)
        (each_once (candidates (cell_below book cost s) cost s (rules_at book n))).0 (cell_below book cost s t n)
        (λ p.
        let o = each_once (candidates (cell_below book cost s) cost s (rules_at book n)) in
        let k = candidates_exact book cost positive (cell_below book cost s) s (exact-below s) n e in
        let z : s ≡ t = grind (arith, nat_tests) in
        let Q : ℕ → Type 0 = λ u. IsIn o.0 e ↔ IsInCell book cost n u e in
        subst Q z ((λ i. k.0 ((o.2 e).0 i)), (λ c. (o.2 e).1 (k.1 c))))
        (λ p. exact-below s t (grind (arith, nat_tests)) n e)

    -- no list of different terms of the node and size is longer
    pub at_most : (s t n : ℕ) → t < s → AtMost book cost t n (up_below book cost s t n)
    at_most s t n l es h =
        let a = no_more_than es (cell_below book cost s t n) h.different (λ e i. (exact-below s t l n e).1 (h.terms e i)) in
        omega (arith, a, most-below s t n)
