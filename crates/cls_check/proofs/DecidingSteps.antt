-- Steps of loops over paths and positions of arrows.
use Rattle.std.proofs.Common.{ℕ, zero, suc, ◌≡◌, ◌+◌, ◌<◌, ◌↔◌, refl, sym, ◌∙◌, subst, ap, ◌⊎◌, inl, inr, List, [], ◌∷◌, ◌++◌, length, get_or, arith, Contains, Bool, true, false}
use Rattle.cls_base.specs.Taxonomies.{Variance}
use Rattle.cls_path.specs.Paths.{TypePath, InPaths, listed, Suits, SuitsAll}
use Rattle.cls_check.proofs.Lists.{Contains-last, Contains-put, position_in}

pub any_default : {A : Type 0} (xs : List A) (k : ℕ) (d e : A) → k < length xs → get_or xs k d ≡ get_or xs k e
any_default [] k d e l = absurd (omega arith)
any_default (x ∷ xs) zero d e l = refl
any_default (x ∷ xs) (suc k) d e l = any_default xs k d e (omega arith)

-- the item of a slice that is a list
pub item_is : (goal items : List TypePath) (i : ℕ) (q d : TypePath) → items ≡ goal → i < length items → q ≡ get_or items i q → get_or goal i d ≡ q
item_is goal items i q d e l f = ap (λ (xs : List TypePath). get_or xs i d) (sym e) ∙ (any_default items i d q l ∙ sym f)

pub item_in : (goal items : List TypePath) (i : ℕ) (q : TypePath) → items ≡ goal → i < length items → q ≡ get_or items i q → InPaths (listed goal) q
item_in goal items i q e l f = subst (λ (p : TypePath). InPaths (listed goal) p) (sym f) (subst (λ (xs : List TypePath). InPaths (listed xs) (get_or items i q)) e (position_in items i q l))

pub item_suits : (v : ℕ → Variance) (goal items : List TypePath) (i : ℕ) (q : TypePath) → items ≡ goal → i < length items → q ≡ get_or items i q → SuitsAll v (listed goal) → Suits v q
item_suits v goal items i q e l f s = subst (λ (p : TypePath). Suits v p) (sym f) (go items i q l (subst (λ (ps : List TypePath). SuitsAll v (listed ps)) (sym e) s))
  where
    go : (xs : List TypePath) (i : ℕ) (d : TypePath) → i < length xs → SuitsAll v (listed xs) → Suits v (get_or xs i d)
    go [] i d m s = absurd (let k : i < 0 = m in omega arith)
    go (x ∷ xs) zero d m s = s.0
    go (x ∷ xs) (suc i) d m s = go xs i d (let k : suc i < suc (length xs) = m in omega arith) s.1

pub both_ways : {b : Bool} → b ≡ true → b ≡ false → ⊥
both_ways e f = let h : true ≡ false = sym e ∙ f in absurd cc

-- positions up to one more
module _ (P : ℕ → Type 0) where
  pub leading_yes : (old new : List ℕ) (i : ℕ) → new ≡ old ++ i ∷ [] → P i → ((k : ℕ) → Contains old k ↔ ((k < i) × P k)) → (k : ℕ) → Contains new k ↔ ((k < i + 1) × P k)
  leading_yes old new i e p f k = ((λ m. to (Contains-last old i k (subst (λ (xs : List ℕ). Contains xs k) e m))), (λ h. subst (λ (xs : List ℕ). Contains xs k) (sym e) (Contains-put old i k (back (cases k i h.0) h.1))))
    where
      cases : (k i : ℕ) → k < i + 1 → (k < i) ⊎ (k ≡ i)
      cases k i h = grind arith

      to : Contains old k ⊎ (k ≡ i) → (k < i + 1) × P k
      to (inl m) = let r = (f k).0 m in let l : k < i = r.0 in (omega arith, r.1)
      to (inr g) = (omega arith, subst P (sym g) p)

      back : (k < i) ⊎ (k ≡ i) → P k → Contains old k ⊎ (k ≡ i)
      back (inl l) q = inl ((f k).1 (l, q))
      back (inr g) q = inr g

  pub leading_no : (old : List ℕ) (i : ℕ) → (P i → ⊥) → ((k : ℕ) → Contains old k ↔ ((k < i) × P k)) → (k : ℕ) → Contains old k ↔ ((k < i + 1) × P k)
  leading_no old i n f k = ((λ m. let r = (f k).0 m in let l : k < i = r.0 in (omega arith, r.1)), (λ h. (f k).1 (less (cases k i h.0) h.1, h.1)))
    where
      cases : (k i : ℕ) → k < i + 1 → (k < i) ⊎ (k ≡ i)
      cases k i h = grind arith

      less : (k < i) ⊎ (k ≡ i) → P k → k < i
      less (inl l) q = l
      less (inr g) q = absurd (n (subst P g q))
