-- Lists by flags: what is kept, and where it stands.
use Rattle.std.proofs.Common.{◌≡◌, ℕ, zero, suc, ◌+◌, ◌*◌, ◌<◌, Bool, true, false, cond, List, [], ◌∷◌, ◌++◌, length, get_or, take, map, refl, sym, ap, subst, ◌∙◌, inl, inr, arith, length-append}
use Rattle.std.specs.Prelude.{Contains, filter}
use Rattle.std.specs.List.{flat_map}
use Rattle.std.proofs.lemmas.Bool.{false≢true, cases_lt}
use Rattle.std.proofs.lemmas.List.{length-map, get_or-map, get_or_append_left, get_or-append-add, get_or_push}
use Rattle.std.proofs.lemmas.List.Elements.{Contains-append_left, Contains-push, Contains-push_cases}
use Rattle.cls_base.proofs.Lists.{Contains-nil, Contains-later, Contains-cases, Contains-head}
use Rattle.cls_filtered.specs.Filtered.{below, count_true, picked}

-- the numbers below n
pub below-length : (n : ℕ) → length (below n) ≡ n
below-length zero = refl
below-length (suc n) = omega (arith, length-append (below n) (n ∷ []), below-length n)

pub below-has : (n q : ℕ) → q < n → Contains (below n) q
below-has zero q l = absurd (omega (arith, l))
below-has (suc n) q l = elim (cases_lt q n) [
  | inl k ↦ Contains-append_left (below n) (n ∷ []) q (below-has n q k)
  | inr k ↦ (let e : n ≡ q = omega (arith, l, k) in subst (λ (x : ℕ). Contains (below n ++ n ∷ []) x) e (Contains-push (below n) n))
]

pub below-less : (n q : ℕ) → Contains (below n) q → q < n
below-less zero q c = absurd (Contains-nil q c)
below-less (suc n) q c = elim (Contains-push_cases (below n) n q c) [
  | inl k ↦ (let l = below-less n q k in omega (arith, l))
  | inr e ↦ omega (arith, e)
]

pub below-at : (n q d : ℕ) → q < n → get_or (below n) q d ≡ q
below-at zero q d l = absurd (omega (arith, l))
below-at (suc n) q d l = elim (cases_lt q n) [
  | inl k ↦ get_or_append_left (below n) (n ∷ []) d q (omega (arith, k, below-length n)) ∙ below-at n q d k
  | inr k ↦ (let e : n ≡ q = omega (arith, l, k) in get_or_push (below n) n d q (below-length n ∙ e) ∙ e)
]

module _ {A : Type 0} (p : A → Bool) where
  pub filter-cases : (xs : List A) (x : A) → Contains (filter p xs) x → Contains xs x × (p x ≡ true)
  filter-cases [] x c = absurd (Contains-nil x c)
  filter-cases (y ∷ xs) x c = by (filter-cases xs x) (p y) refl c
    where
      by : (Contains (filter p xs) x → Contains xs x × (p x ≡ true)) → (b : Bool) → p y ≡ b → Contains (cond b (y ∷ filter p xs) (filter p xs)) x → Contains (y ∷ xs) x × (p x ≡ true)
      by rest true e d = elim (Contains-cases y (filter p xs) x d) [
        | inl s ↦ (Contains-head x y xs s, ap p s ∙ e)
        | inr k ↦ (let u = rest k in (Contains-later x y xs u.0, u.1))
      ]
      by rest false e d = let u = rest d in (Contains-later x y xs u.0, u.1)

  pub filter-has : (xs : List A) (x : A) → Contains xs x → p x ≡ true → Contains (filter p xs) x
  filter-has [] x c t = absurd (Contains-nil x c)
  filter-has (y ∷ xs) x c t = elim (Contains-cases y xs x c) [
    | inl e ↦ subst (λ (b : Bool). Contains (cond b (y ∷ filter p xs) (filter p xs)) x) (sym (sym (ap p e) ∙ t)) (Contains-head x y (filter p xs) e)
    | inr k ↦ by (filter-has xs x k t) (p y)
  ]
    where
      by : Contains (filter p xs) x → (b : Bool) → Contains (cond b (y ∷ filter p xs) (filter p xs)) x
      by rest true = Contains-later x y (filter p xs) rest
      by rest false = rest

-- the item at a place whose flag is true stands behind those before it whose flags are
pub picked-at : {A : Type 0} (flags : List Bool) (xs : List A) (j : ℕ) (d : A) → get_or flags j false ≡ true → j < length xs → get_or (picked flags xs) (count_true (take j flags)) d ≡ get_or xs j d
picked-at [] xs j d h l = absurd (false≢true h)
picked-at (b ∷ flags) [] j d h l = absurd (omega (arith, l))
picked-at (true ∷ flags) (x ∷ xs) zero d h l = refl
picked-at (false ∷ flags) (x ∷ xs) zero d h l = absurd (false≢true h)
picked-at (true ∷ flags) (x ∷ xs) (suc j) d h l = picked-at flags xs j d h (omega (arith, l))
picked-at (false ∷ flags) (x ∷ xs) (suc j) d h l = picked-at flags xs j d h (omega (arith, l))

-- places whose flags are true have different numbers
pub count-less : (flags : List Bool) (x y : ℕ) → x < y → get_or flags x false ≡ true → count_true (take x flags) < count_true (take y flags)
count-less [] x y l h = absurd (false≢true h)
count-less (b ∷ flags) x zero l h = absurd (omega (arith, l))
count-less (true ∷ flags) zero (suc y) l h = omega arith
count-less (false ∷ flags) zero (suc y) l h = absurd (false≢true h)
count-less (true ∷ flags) (suc x) (suc y) l h = let k = count-less flags x y (omega (arith, l)) h in omega (arith, k)
count-less (false ∷ flags) (suc x) (suc y) l h = count-less flags x y (omega (arith, l)) h

pub count-one : (flags : List Bool) (x y : ℕ) → get_or flags x false ≡ true → get_or flags y false ≡ true → count_true (take x flags) ≡ count_true (take y flags) → x ≡ y
count-one flags x y h k e = elim (cases_lt x y) [
  | inl l ↦ absurd (omega (arith, count-less flags x y l h, e))
  | inr m ↦ elim (cases_lt y x) [
    | inl l ↦ absurd (omega (arith, count-less flags y x l k, e))
    | inr n ↦ omega (arith, m, n)
  ]
]

-- an item for each pair, in blocks of sixteen
module _ {A B : Type 0} (g : B → ℕ → A) (bs : List ℕ) (sixteen : length bs ≡ 16) where
  abbrev block : B → List A
  block x = map (g x) bs

  pub blocks-length : (xs : List B) → length (flat_map block xs) ≡ length xs * 16
  blocks-length [] = refl
  blocks-length (x ∷ xs) = omega (arith, length-append (block x) (flat_map block xs), length-map bs (g x), sixteen, blocks-length xs)

  pub blocks-at : (xs : List B) (i q : ℕ) (d : A) (e : B) → i < length xs → q < 16 → get_or (flat_map block xs) (i * 16 + q) d ≡ g (get_or xs i e) (get_or bs q 0)
  blocks-at [] i q d e l m = absurd (omega (arith, l))
  blocks-at (x ∷ xs) zero q d e l m =
      let index : 0 * 16 + q ≡ q = omega arith in
      ap (λ (k : ℕ). get_or (block x ++ flat_map block xs) k d) index
      ∙ (get_or_append_left (block x) (flat_map block xs) d q (omega (arith, m, length-map bs (g x), sixteen))
      ∙ get_or-map (g x) bs q 0 d (omega (arith, m, sixteen)))
  blocks-at (x ∷ xs) (suc i) q d e l m =
      let index : suc i * 16 + q ≡ length (block x) + (i * 16 + q) = omega (arith, length-map bs (g x), sixteen) in
      ap (λ (k : ℕ). get_or (block x ++ flat_map block xs) k d) index
      ∙ (get_or-append-add (block x) (flat_map block xs) (i * 16 + q) d ∙ blocks-at xs i q d e (omega (arith, l)) m)
