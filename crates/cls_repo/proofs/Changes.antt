-- How the columns of a draft change.
use Rattle.std.proofs.Common.{◌≡◌, ℕ, suc, zero, ◌<◌, List, [], ◌∷◌, length, refl, ap, arith, get_or}
use Rattle.std.proofs.Math.ListN.{set}
use Rattle.cls_repo.specs.Declarations.{changed_at}

-- the element at the place is another one
pub changed_set : {A : Type 0} (i : ℕ) (change : A → A) (xs : List A) (d : A) → i < length xs → changed_at i change xs ≡ set xs i (change (get_or xs i d))
changed_set i change [] d l = absurd (omega arith)
changed_set zero change (x ∷ xs) d l = refl
changed_set (suc i) change (x ∷ xs) d l = ap (λ ys. x ∷ ys) (changed_set i change xs d (omega arith))
