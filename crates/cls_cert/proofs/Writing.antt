-- How lines are written at the end of a text, and what is left then.
use Rattle.std.proofs.Common.{◌≡◌, ◌∙◌, ℕ, ◌+◌, ◌<◌, ◌≤◌, ◌⊎◌, inl, inr, List, [], ◌++◌, length, drop, get_or, ap, sym, arith, append_assoc}
use Rattle.std.specs.List.{flat_map}
use Rattle.std.proofs.lemmas.List.{drop_more, drop_all}

-- what follows the lines stays behind them
pub with_end : (u t f g e : List ℕ) → u ++ f ≡ t ++ g → u ++ (f ++ e) ≡ t ++ (g ++ e)
with_end u t f g e w = sym (append_assoc u f e) ∙ (ap (λ (x : List ℕ). x ++ e) w ∙ append_assoc t g e)

-- one line more is written of those that are left
pub line_next :
    {A : Type 0} (f : A → List ℕ) (xs : List A) (i : ℕ) (d : A) (before new all : List ℕ) → i < length xs → new ≡ before ++ f (get_or xs i d)
    → before ++ flat_map f (drop i xs) ≡ all → new ++ flat_map f (drop (i + 1) xs) ≡ all
line_next {A} f xs i d before new all less written so_far =
    ap (λ (v : List ℕ). v ++ flat_map f (drop (i + 1) xs)) written
    ∙ (append_assoc before (f (get_or xs i d)) (flat_map f (drop (i + 1) xs))
    ∙ (ap (λ (ys : List A). before ++ flat_map f ys) (sym (drop_more xs i d less)) ∙ so_far))

-- no line is left
pub none_left : {A : Type 0} (f : A → List ℕ) (xs : List A) (i : ℕ) → length xs ≤ i → flat_map f (drop i xs) ≡ []
none_left {A} f xs i over = ap (λ (ys : List A). flat_map f ys) (drop_all i xs over)

below_or : (x y : ℕ) → (x < y) ⊎ (y ≤ x)
below_or x y = grind arith

-- where lines aren't enough, none of them is left
pub all_done : (next count size enough : ℕ) → (next < count → enough ≤ size) → size < enough → count ≤ next
all_done next count size enough f l = elim (below_or next count) [
  | inl k ↦ absurd (let m : enough ≤ size = f k in omega arith)
  | inr k ↦ k
]
