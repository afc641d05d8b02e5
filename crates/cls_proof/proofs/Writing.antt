-- Steps of the calls that write the lines of a certificate.
use Rattle.std.proofs.Common.{◌≡◌, ℕ, ◌+◌, ◌<◌, List, [], ◌∷◌, ◌++◌, Some, length, get_or, slice_get, drop, sym, ap, ◌∙◌, add-one, suc, append_assoc, append-nil}
use Rattle.std.proofs.Math.Seq.{drop-cons}
use Rattle.std.proofs.lemmas.Option.{slice_get_within, get_or_from_slice_get}

-- what is left begins with the item at its place
pub drop-item : {A : Type 0} (xs : List A) (i : ℕ) (x : A) → x ≡ get_or xs i x → i < length xs → drop i xs ≡ x ∷ drop (i + 1) xs
drop-item {A} xs i x e l =
    let p : drop i xs ≡ get_or xs i x ∷ drop (suc i) xs = drop-cons xs i x l in
    let q : get_or xs i x ∷ drop (suc i) xs ≡ x ∷ drop (suc i) xs = ap (λ (y : A). y ∷ drop (suc i) xs) (sym e) in
    rw add-one (p ∙ q)

pub drop-got : {A : Type 0} (xs : List A) (i : ℕ) (x : A) → slice_get xs i ≡ Some x → drop i xs ≡ x ∷ drop (i + 1) xs
drop-got xs i x e = drop-item xs i x (sym (get_or_from_slice_get xs i x x e)) (slice_get_within xs i x e)

pub drop-number : (xs : List ℕ) (i : ℕ) → i < length xs → drop i xs ≡ get_or xs i 0 ∷ drop (i + 1) xs
drop-number xs i l = rw add-one (drop-cons xs i 0 l)

pub drop-list : {A : Type 0} (xs : List (List A)) (i : ℕ) (x : List A) → x ≡ get_or xs i [] → i < length xs → drop i xs ≡ x ∷ drop (i + 1) xs
drop-list {A} xs i x e l = rw add-one (drop-cons xs i [] l ∙ ap (λ (y : List A). y ∷ drop (suc i) xs) (sym e))

pub ruleset texts = (drop-item, drop-got, drop-list, drop-number, append_assoc, append-nil)
