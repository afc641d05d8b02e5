-- Words on lists as data families, over which proofs go by cases, and the way from std's words and back. In proofs alone:
-- what is public is said with `slice_get` and `AllZip`. Membership as a data family is that of cls_cover.
use Rattle.std.proofs.Common.{ℕ, zero, suc, ◌≡◌, refl, ◌∙◌, subst, ap, List, [], ◌∷◌, length, Contains, Option, Some, None}
use Rattle.std.specs.Prelude.{slice_get, IsSomeAnd}
use Rattle.std.specs.List.{AllZip}
use Rattle.cls_cover.specs.Members.{Member, first, later}
use Rattle.cls_cover.proofs.Lists.{contains_member, member_contains}

-- the element at the position
pub data At {A : Type 0} : List A → ℕ → A → Type 0 where
  at_first : {x : A} {xs : List A} → At (x ∷ xs) zero x
  at_later : {x y : A} {xs : List A} {i : ℕ} → At xs i x → At (y ∷ xs) (suc i) x

-- two lists, place by place
pub data Zip {A B : Type 0} (R : A → B → Type 0) : List A → List B → Type 0 where
  zip_none : Zip R [] []
  zip_more : {x : A} {y : B} {xs : List A} {ys : List B} → R x y → Zip R xs ys → Zip R (x ∷ xs) (y ∷ ys)

pub at_member : {A : Type 0} {xs : List A} {i : ℕ} {x : A} → At xs i x → Member xs x
at_member at_first = first
at_member (at_later h) = later (at_member h)

pub member_at : {A : Type 0} {xs : List A} {x : A} → Member xs x → (i : ℕ) × At xs i x
member_at first = (zero, at_first)
member_at (later h) = let r = member_at h in (suc r.0, at_later r.1)

pub at_unique : {A : Type 0} (xs : List A) (i : ℕ) (x y : A) → At xs i x → At xs i y → x ≡ y
at_unique [] i x y h k = elim h [ ]
at_unique (z ∷ xs) zero x y at_first at_first = refl
at_unique (z ∷ xs) (suc i) x y (at_later h) (at_later k) = at_unique xs i x y h k

pub at_got : {A : Type 0} {xs : List A} {i : ℕ} {x : A} → At xs i x → slice_get xs i ≡ Some x
at_got at_first = refl
at_got (at_later h) = at_got h

pub got_at : {A : Type 0} (xs : List A) (i : ℕ) (x : A) → slice_get xs i ≡ Some x → At xs i x
got_at [] i x e = absurd (let f : ◌≡◌ {A = Option _} None (Some x) = e in cc)
got_at (y ∷ xs) zero x e = let f : y ≡ x = cc in subst (λ z. At (y ∷ xs) zero z) f at_first
got_at (y ∷ xs) (suc i) x e = at_later (got_at xs i x e)

-- what holds of the element at a position, if there is one
pub some_at : {A : Type 0} (P : A → Type 0) (xs : List A) (i : ℕ) → IsSomeAnd (slice_get xs i) P → (x : A) × At xs i x × P x
some_at P [] i h = absurd h
some_at P (y ∷ xs) zero h = (y, at_first, h)
some_at P (y ∷ xs) (suc i) h = let r = some_at P xs i h in (r.0, at_later r.1, r.2)

pub at_some : {A : Type 0} (P : A → Type 0) {xs : List A} {i : ℕ} {x : A} → At xs i x → P x → IsSomeAnd (slice_get xs i) P
at_some P at_first p = p
at_some P (at_later h) p = at_some P h p

pub at_contains : {A : Type 0} {xs : List A} {i : ℕ} {x : A} → At xs i x → Contains xs x
at_contains h = member_contains (at_member h)

pub contains_at : {A : Type 0} (xs : List A) (x : A) → Contains xs x → (i : ℕ) × At xs i x
contains_at xs x h = member_at (contains_member xs x h)

module _ {A B : Type 0} {R : A → B → Type 0} where
  pub zip_all : {xs : List A} {ys : List B} → Zip R xs ys → AllZip R xs ys
  zip_all zip_none = tt
  zip_all (zip_more h z) = (h, zip_all z)

  pub all_zip : (xs : List A) (ys : List B) → AllZip R xs ys → Zip R xs ys
  all_zip [] [] a = zip_none
  all_zip [] (y ∷ ys) a = absurd a
  all_zip (x ∷ xs) [] a = absurd a
  all_zip (x ∷ xs) (y ∷ ys) a = zip_more a.0 (all_zip xs ys a.1)

  pub zip_length : {xs : List A} {ys : List B} → Zip R xs ys → length xs ≡ length ys
  zip_length zip_none = refl
  zip_length (zip_more h k) = ap suc (zip_length k)

  pub zip_left : {xs : List A} {ys : List B} (x : A) → Zip R xs ys → Member xs x → (y : B) × Member ys y × R x y
  zip_left x zip_none m = elim m [ ]
  zip_left x (zip_more h k) first = (_, first, h)
  zip_left x (zip_more h k) (later m) = let r = zip_left x k m in (r.0, later r.1, r.2)

  pub zip_right : {xs : List A} {ys : List B} (y : B) → Zip R xs ys → Member ys y → (x : A) × Member xs x × R x y
  zip_right y zip_none m = elim m [ ]
  zip_right y (zip_more h k) first = (_, first, h)
  zip_right y (zip_more h k) (later m) = let r = zip_right y k m in (r.0, later r.1, r.2)

  pub zip_unique : {xs : List A} {ys zs : List B} → ((x : A) (y z : B) → R x y → R x z → y ≡ z) → Zip R xs ys → Zip R xs zs → ys ≡ zs
  zip_unique f zip_none zip_none = refl
  zip_unique f (zip_more {x = x} {y = y} {ys = ys} h z) (zip_more {y = w} k v) = ap (λ u. u ∷ ys) (f x y w h k) ∙ ap (λ l. w ∷ l) (zip_unique f z v)

pub zip_map : {A B : Type 0} {R S : A → B → Type 0} {xs : List A} {ys : List B} → ((x : A) (y : B) → R x y → S x y) → Zip R xs ys → Zip S xs ys
zip_map f zip_none = zip_none
zip_map f (zip_more {x = x} {y = y} h z) = zip_more (f x y h) (zip_map f z)
