-- What the components count for.
use Rattle.std.proofs.Common.{◌≡◌, ℕ, zero, suc, ◌+◌, ◌<◌, ◌≤◌, List, [], ◌∷◌, ◌++◌, length, drop, get_or, sym, ap, ◌∙◌, arith}
use Rattle.std.specs.Prelude.{All, remove}
use Rattle.std.proofs.lemmas.List.{drop_more, drop_all, length-append}
use Rattle.std.proofs.lemmas.List.Elements.{All-push}
use Rattle.cls_base.specs.Limits.{max_components, max_library_weight}
use Rattle.cls_taxon.specs.Orders.{Declared}
use Rattle.cls_library.specs.Libraries.{Component, total_of, IsWithinLimits, IsLibrary}

-- one component more is counted
pub total-more : (cs : List Component) (i : ℕ) (c : Component) (w whole : ℕ) → i < length cs → c ≡ get_or cs i c → w + total_of (drop i cs) ≡ whole → (w + c.weight) + total_of (drop (i + 1) cs) ≡ whole
total-more cs i c w whole l is h =
    let e : total_of (drop i cs) ≡ c.weight + total_of (drop (i + 1) cs) = ap total_of (drop_more cs i c l ∙ ap (λ x. x ∷ drop (i + 1) cs) (sym is)) in
    omega arith

pub total-all : (cs : List Component) (i w whole : ℕ) → length cs ≤ i → w + total_of (drop i cs) ≡ whole → w ≡ whole
total-all cs i w whole l h = let e : total_of (drop i cs) ≡ 0 = ap total_of (drop_all i cs l) in omega arith

pub total-push : (cs : List Component) (c : Component) → total_of (cs ++ c ∷ []) ≡ total_of cs + c.weight
total-push [] c = omega arith
total-push (b ∷ cs) c = let h = total-push cs c in omega arith

total-remove : (cs : List Component) (i : ℕ) → total_of (remove cs i) ≤ total_of cs
total-remove [] zero = omega arith
total-remove [] (suc i) = omega arith
total-remove (c ∷ cs) zero = omega arith
total-remove (c ∷ cs) (suc i) = let h = total-remove cs i in omega arith

length-remove : (cs : List Component) (i : ℕ) → length (remove cs i) ≤ length cs
length-remove [] zero = omega arith
length-remove [] (suc i) = omega arith
length-remove (c ∷ cs) zero = omega arith
length-remove (c ∷ cs) (suc i) = let h = length-remove cs i in omega arith

module _ (P : Component → Type 0) where
  head-of : (c : Component) (cs : List Component) → All P (c ∷ cs) → P c
  head-of c cs h = h 0 c (omega arith)

  tail-of : (c : Component) (cs : List Component) → All P (c ∷ cs) → All P cs
  tail-of c cs h k d l = h (suc k) d (omega arith)

  both-of : (c : Component) (cs : List Component) → P c → All P cs → All P (c ∷ cs)
  both-of c cs h k zero d l = h
  both-of c cs h k (suc i) d l = k i d (omega arith)

  all-remove : (cs : List Component) (i : ℕ) → All P cs → All P (remove cs i)
  all-remove [] zero h = h
  all-remove [] (suc i) h = h
  all-remove (c ∷ cs) zero h = tail-of c cs h
  all-remove (c ∷ cs) (suc i) h = both-of c (remove cs i) (head-of c cs h) (all-remove cs i (tail-of c cs h))

-- a library without one of its components
pub library-remove : (d : Declared) (cs : List Component) (i : ℕ) → IsLibrary (record { taxonomy = d; components = cs }) → IsLibrary (record { taxonomy = d; components = remove cs i })
library-remove d cs i h = record {
  each = all-remove (IsWithinLimits d) cs i h.each;
  few = let l = length-remove cs i in let f = h.few in omega arith;
  light = let l = total-remove cs i in let f = h.light in omega arith;
}

-- a library with one component more
pub library-push : (d : Declared) (cs : List Component) (c : Component) → IsLibrary (record { taxonomy = d; components = cs }) → IsWithinLimits d c → length cs < max_components → c.weight + total_of cs ≤ max_library_weight → IsLibrary (record { taxonomy = d; components = cs ++ c ∷ [] })
library-push d cs c h k l w = record {
  each = All-push (IsWithinLimits d) cs c h.each k;
  few = let e = length-append cs (c ∷ []) in omega arith;
  light = let e = total-push cs c in omega arith;
}
