-- A list in which each number is below the next one is strictly ascending.
use Rattle.std.proofs.Common.{ℕ, zero, suc, ◌≡◌, ◌+◌, ◌<◌, List, [], ◌∷◌, length, get_or, subst, arith}
use Rattle.cls_cover.specs.Lists.{IsAscending}

above : (x : ℕ) (xs : List ℕ) → ((k : ℕ) → suc k < length (x ∷ xs) → get_or (x ∷ xs) k 0 < get_or (x ∷ xs) (suc k) 0) → (k : ℕ) (d : ℕ) → k < length xs → x < get_or xs k d
above x [] f k d l = absurd (omega arith)
above x (y ∷ xs) f zero d l = f 0 (omega arith)
above x (y ∷ xs) f (suc k) d l = let h : x < y = f 0 (omega arith) in let i = above y xs (λ q m. f (suc q) (let n : suc q < length (y ∷ xs) = m in omega arith)) k d (omega arith) in omega arith

rises : (xs : List ℕ) → ((k : ℕ) → suc k < length xs → get_or xs k 0 < get_or xs (suc k) 0) → IsAscending xs
rises [] f = tt
rises (x ∷ xs) f = ((λ y c. subst (λ z. x < z) c.2 (above x xs f c.0 y c.1)), rises xs (λ k l. f (suc k) (let n : suc k < length xs = l in omega arith)))

pub ascending : (xs : List ℕ) → ((k : ℕ) → k + 1 < length xs → get_or xs k 0 < get_or xs (k + 1) 0) → IsAscending xs
ascending xs f = rises xs (λ k l. subst (λ q. get_or xs k 0 < get_or xs q 0) (let e : k + 1 ≡ suc k = omega arith in e) (f k (omega arith)))
