-- What loops over a list have looked at.
use Rattle.std.proofs.Common.{ℕ, zero, suc, ◌≡◌, ◌+◌, ◌<◌, ◌≤◌, refl, sym, ap, ◌∙◌, List, [], ◌∷◌, ◌++◌, length, map, get_or, drop, take, true, false, IsTrue, Result, Ok, Err, arith, rules, add-one}
use Rattle.std.specs.Prelude.{Contains, All, IfOk, Some, slice_get}
use Rattle.std.proofs.Math.Seq.{drop-cons}
use Rattle.std.proofs.lemmas.List.{take_more, get_or_default}
use Rattle.std.proofs.lemmas.Option.{get_or_from_slice_get}
use Rattle.std.proofs.lemmas.List.Elements.{All-from_get_or}

pub not-false : IsTrue false → ⊥
not-false t = search rules

pub is-true : IsTrue true
is-true = search rules

pub differs : false ≡ true → ⊥
differs e = cc

-- the element that a loop looks at
pub item : {A : Type 0} (xs : List A) (k : ℕ) (x : A) → x ≡ get_or xs k x → k < length xs → Contains xs x
item xs k x e l = (k, l, sym e)

pub got-list : {A : Type 0} (xs : List (List A)) (k : ℕ) (x : List A) → x ≡ get_or xs k [] → k < length xs → x ≡ get_or xs k x
got-list xs k x e l = e ∙ get_or_default xs k [] x l

pub got-some : {A : Type 0} (xs : List A) (k : ℕ) (x : A) → slice_get xs k ≡ Some x → x ≡ get_or xs k x
got-some xs k x e = sym (get_or_from_slice_get xs k x x e)

-- what holds of the elements that a loop has passed
pub passed : {A : Type 0} (P : A → Type 0) (xs : List A) (d : A) (i : ℕ) → length xs ≤ i → ((k : ℕ) → k < i → P (get_or xs k d)) → All P xs
passed P xs d i m f = All-from_get_or P xs d (λ k l. f k (omega arith))

pub drop-one : {A : Type 0} (xs : List A) (i : ℕ) (x : A) → x ≡ get_or xs i x → i < length xs → drop i xs ≡ x ∷ drop (i + 1) xs
drop-one xs i x e l = rw add-one (drop-cons xs i x l ∙ ap (λ y. y ∷ drop (suc i) xs) (sym e))

pub take-one : {A : Type 0} (xs : List A) (i : ℕ) (x : A) → x ≡ get_or xs i x → i < length xs → take (i + 1) xs ≡ take i xs ++ x ∷ []
take-one xs i x e l = take_more xs i x l ∙ ap (λ y. take i xs ++ y ∷ []) (sym e)

pub get_map : {A B : Type 0} (f : A → B) (xs : List A) (k : ℕ) (d : B) (e : A) → k < length xs → get_or (map f xs) k d ≡ f (get_or xs k e)
get_map f [] k d e l = let m : k < 0 = l in absurd (omega arith)
get_map f (x ∷ xs) zero d e l = refl
get_map f (x ∷ xs) (suc k) d e l = get_map f xs k d e (let m : suc k < suc (length xs) = l in omega arith)

-- what an answer says, by what a call says of it
pub if_ok_map : {T E : Type 0} (r : Result T E) {P Q : T → Type 0} → ((t : T) → P t → Q t) → IfOk r P → IfOk r Q
if_ok_map (Ok t) f h = f t h
if_ok_map (Err e) f h = tt
