-- Lists of paths and of pairs, by positions.
use Rattle.std.proofs.Common.{ℕ, zero, suc, ◌≡◌, ◌∙◌, ◌<◌, ◌==◌, ◌↔◌, refl, sym, subst, ◌⊎◌, inl, inr, List, [], ◌∷◌, ◌++◌, length, get_or, arith, Contains, Bool, true, false, Option, None, Some}
use Rattle.std.specs.Prelude.{map, slice_get}
use Rattle.std.specs.List.{AllZip}
use Rattle.std.proofs.lemmas.List.Elements.{Contains-append_left, Contains-append_right, Contains-append_cases}
use Rattle.cls_base.proofs.Lists.{Contains-nil, Contains-here, Contains-later, Contains-cases}
use Rattle.cls_path.specs.Paths.{TypePath, InPaths, first_in, later_in, listed}

pub Contains-last : {A : Type 0} (xs : List A) (x y : A) → Contains (xs ++ x ∷ []) y → Contains xs y ⊎ (y ≡ x)
Contains-last xs x y m = elim (Contains-append_cases xs (x ∷ []) y m) [
  | inl k ↦ inl k
  | inr k ↦ elim (Contains-cases x [] y k) [ inl e ↦ inr e | inr n ↦ absurd (Contains-nil y n) ]
]

pub Contains-put : {A : Type 0} (xs : List A) (x y : A) → Contains xs y ⊎ (y ≡ x) → Contains (xs ++ x ∷ []) y
Contains-put xs x y (inl k) = Contains-append_left xs (x ∷ []) y k
Contains-put xs x y (inr e) = subst (λ z. Contains (xs ++ x ∷ []) z) (sym e) (Contains-append_right xs (x ∷ []) x (Contains-here x []))

-- two lists, place by place
pub pair_at : {A B : Type 0} (R : A → B → Type 0) (xs : List A) (ys : List B) (k : ℕ) (d : A) (e : B) → AllZip R xs ys → k < length xs → R (get_or xs k d) (get_or ys k e)
pair_at R [] ys k d e a l = absurd (omega arith)
pair_at R (x ∷ xs) [] k d e a l = absurd a
pair_at R (x ∷ xs) (y ∷ ys) zero d e a l = a.0
pair_at R (x ∷ xs) (y ∷ ys) (suc k) d e a l = pair_at R xs ys k d e a.1 (omega arith)

pub all_pairs : {A B : Type 0} (R : A → B → Type 0) (xs : List A) (ys : List B) (d : A) (e : B) → length ys ≡ length xs → ((k : ℕ) → k < length xs → R (get_or xs k d) (get_or ys k e)) → AllZip R xs ys
all_pairs R [] [] d e h f = tt
all_pairs R [] (y ∷ ys) d e h f = absurd (let n : suc (length ys) ≡ 0 = h in omega arith)
all_pairs R (x ∷ xs) [] d e h f = absurd (let n : 0 ≡ suc (length xs) = h in omega arith)
all_pairs R (x ∷ xs) (y ∷ ys) d e h f = (f 0 (omega arith), all_pairs R xs ys d e (let n : suc (length ys) ≡ suc (length xs) = h in omega arith) (λ k l. f (suc k) (omega arith)))

-- the paths that a function gives of the elements of a list
pub in_listed : {A : Type 0} (f : A → TypePath) (xs : List A) (p : TypePath) → InPaths (listed (map f xs)) p → (x : A) × Contains xs x × (f x ≡ p)
in_listed f [] p h = elim h [ ]
in_listed f (x ∷ xs) _ first_in = (x, Contains-here x xs, refl)
in_listed f (x ∷ xs) p (later_in h) = let r = in_listed f xs p h in (r.0, Contains-later r.0 x xs r.1, r.2)

pub listed_in : {A : Type 0} (f : A → TypePath) (xs : List A) (x : A) → Contains xs x → InPaths (listed (map f xs)) (f x)
listed_in f [] x h = absurd (Contains-nil x h)
listed_in f (y ∷ xs) x h = elim (Contains-cases y xs x h) [
  | inl e ↦ subst (λ z. InPaths (listed (map f (y ∷ xs))) (f z)) (sym e) first_in
  | inr k ↦ later_in (listed_in f xs x k)
]

-- a path of a list by its position
pub in_position : (ps : List TypePath) (q : TypePath) → InPaths (listed ps) q → (k : ℕ) × (k < length ps) × ((d : TypePath) → get_or ps k d ≡ q)
in_position [] q h = elim h [ ]
in_position (p ∷ ps) _ first_in = (0, omega arith, (λ d. refl))
in_position (p ∷ ps) q (later_in h) = let r = in_position ps q h in let l : r.0 < length ps = r.1 in (suc r.0, omega arith, r.2)

pub position_in : (ps : List TypePath) (k : ℕ) (d : TypePath) → k < length ps → InPaths (listed ps) (get_or ps k d)
position_in [] k d l = absurd (omega arith)
position_in (p ∷ ps) zero d l = first_in
position_in (p ∷ ps) (suc k) d l = later_in (position_in ps k d (omega arith))

-- what a slice gives within and past its end
pub got : {A : Type 0} (xs : List A) (k : ℕ) (x d : A) → Some x ≡ slice_get xs k → get_or xs k d ≡ x
got [] k x d e = absurd (let f : ◌≡◌ {A = Option _} (Some x) None = e in cc)
got (y ∷ xs) zero x d e = let f : x ≡ y = cc in sym f
got (y ∷ xs) (suc k) x d e = got xs k x d e

pub not_got : {A : Type 0} (xs : List A) (k : ℕ) (d : A) → None ≡ slice_get xs k → get_or xs k d ≡ d
not_got [] k d e = refl
not_got (y ∷ xs) zero d e = absurd (let f : ◌≡◌ {A = Option _} None (Some y) = e in cc)
not_got (y ∷ xs) (suc k) d e = not_got xs k d e

-- answers
pub yes_no : (b : Bool) (P : Type 0) → (b ≡ true → P) → (b ≡ false → P → ⊥) → (b ≡ true) ↔ P
yes_no true P f g = ((λ _. f refl), (λ _. refl))
yes_no false P f g = ((λ e. absurd (let h : false ≡ true = e in cc)), (λ p. absurd (g refl p)))

-- whether a list is empty, by a test of its length
pub none_from : (form : List TypePath) (b : Bool) → b ≡ (length form == 0) → b ≡ true → form ≡ []
none_from [] b e t = refl
none_from (p ∷ form) b e t = absurd (no_zero (length form) (sym e ∙ t))
  where
    no_zero : (n : ℕ) → (suc n == 0) ≡ true → ⊥
    no_zero n h = grind arith

pub some_from : (form : List TypePath) (b : Bool) → b ≡ (length form == 0) → b ≡ false → 0 < length form
some_from [] b e f = absurd (let h : true ≡ false = sym e ∙ f in absurd cc)
some_from (p ∷ form) b e f = omega arith
