-- The ways in which a term of one node alone comes to a rest, and those of a list of two nodes.
use Rattle.std.proofs.Common.{◌≡◌, ℕ, ◌-◌, ◌^◌, ◌<◌, ◌≤◌, min, List, [], ◌∷◌, ◌++◌, length, sym, ap, ◌∙◌, subst, arith}
use Rattle.cls_walk.specs.Counts.{ways}
use Rattle.cls_walk.specs.Tables.{capped, AreWays}
use Rattle.cls_walk.proofs.Capped.{AreWays-push, ways-one}

-- a number that is no greater than the greatest is kept as it is
small-capped : (x : ℕ) → x < 2 ^ 64 → x ≡ capped x
small-capped x l = kept (2 ^ 64 - 1) x (omega (arith, l))
  where
    kept : (m x : ℕ) → x ≤ m → x ≡ min x m
    kept m x l = omega arith

one-whole : (count : ℕ → ℕ → ℕ) (n x r : ℕ) → x ≡ count r n → x < 2 ^ 64 → x ≡ capped (ways count (n ∷ []) r)
one-whole count n x r q l = small-capped x l ∙ ap capped (q ∙ sym (ways-one count n r))

pub one-of : (count : ℕ → ℕ → ℕ) (ns : List ℕ) (n : ℕ) (others : List ℕ) (x r : ℕ) → ns ≡ n ∷ others → length others ≡ 0 → x ≡ count r n → x < 2 ^ 64 → x ≡ capped (ways count ns r)
one-of count ns n [] x r p z q l = one-whole count n x r q l ∙ ap (λ (ms : List ℕ). capped (ways count ms r)) (sym p)
one-of count ns n (m ∷ ms) x r p z q l = absurd (omega (arith, z))

pub two-of : (count : ℕ → ℕ → ℕ) (ns : List ℕ) (n m : ℕ) (others further : List ℕ) (x r : ℕ) → ns ≡ n ∷ others → others ≡ m ∷ further → length further ≡ 0 → x ≡ capped (ways count (n ∷ m ∷ []) r) → x ≡ capped (ways count ns r)
two-of count ns n m others [] x r p q z e = e ∙ ap (λ (ms : List ℕ). capped (ways count (n ∷ ms) r)) (sym q) ∙ ap (λ (ms : List ℕ). capped (ways count ms r)) (sym p)
two-of count ns n m others (k ∷ ks) x r p q z e = absurd (omega (arith, z))

-- one more rest of one node alone
pub one-push : (count : ℕ → ℕ → ℕ) (n : ℕ) (list new : List ℕ) (x r : ℕ) → length list ≡ r → x ≡ count r n → x < 2 ^ 64 → new ≡ list ++ x ∷ [] → AreWays count (n ∷ []) list → AreWays count (n ∷ []) new
one-push count n list new x r d q l e h =
    let P : List ℕ → Type 0 = λ xs. AreWays count (n ∷ []) xs in
    let k : x ≡ capped (ways count (n ∷ []) (length list)) = one-whole count n x r q l ∙ ap (λ (m : ℕ). capped (ways count (n ∷ []) m)) (sym d) in
    subst P (sym e) (AreWays-push count (n ∷ []) list x h k)
