-- The minimal covers of families as a list: it is decided of each list of numbers whether it is one. Proofs, kept here since
-- contracts name the list.
use Rattle.std.proofs.Common.{ℕ, suc, ◌≡◌, ◌+◌, ◌<◌, refl, sym, subst, ap, ◌⊎◌, inl, inr, List, [], ◌∷◌, ◌++◌, length, arith, Contains}
use Rattle.std.specs.Prelude.{map}
use Rattle.cls_base.proofs.Lists.{Contains-nil, Contains-here, Contains-later, Contains-cases, Contains-head}
use Rattle.cls_cover.specs.Covers.{IsMinimal, Meets, MeetsEach, AreCovers}
use Rattle.cls_cover.specs.Lists.{Sublist, ends, keeps, drops, IsAscending}
use Rattle.cls_cover.specs.Members.{Member, first, later}
use Rattle.cls_cover.proofs.Lists.{contains_member, member_contains}
use Rattle.cls_cover.proofs.Public.{ascending_members}
use Rattle.cls_library.specs.Rules.{numbers_from}
use Rattle.cls_cert.specs.Sorting.{sorted_by}
use Rattle.cls_cert.specs.Subsets.{subs, subs_have, AreWithin, within_sub, kept, kept_sub, kept_has, kept_below}

-- DECISIONS
abbrev pub Decided : Type 0 → Type 0
Decided A = A ⊎ (A → ⊥)

both_decided : {A B : Type 0} → Decided A → Decided B → Decided (A × B)
both_decided (inl a) (inl b) = inl (a, b)
both_decided (inl a) (inr n) = inr (λ p. n p.1)
both_decided (inr n) d = inr (λ p. n p.0)

if_decided : {A B : Type 0} → Decided A → Decided B → Decided (A → B)
if_decided (inl a) (inl b) = inl (λ x. b)
if_decided (inl a) (inr n) = inr (λ f. n (f a))
if_decided (inr m) d = inl (λ a. absurd (m a))

compare : (x y : ℕ) → (x < y) ⊎ ((x ≡ y) ⊎ (y < x))
compare x y = grind arith

less_by : (x y : ℕ) → (x < y) ⊎ ((x ≡ y) ⊎ (y < x)) → Decided (x < y)
less_by x y (inl l) = inl l
less_by x y (inr (inl e)) = inr (λ l. let k : x < y = l in omega arith)
less_by x y (inr (inr g)) = inr (λ l. let k : x < y = l in omega arith)

less_decided : (x y : ℕ) → Decided (x < y)
less_decided x y = less_by x y (compare x y)

same_by : (x y : ℕ) → (x < y) ⊎ ((x ≡ y) ⊎ (y < x)) → Decided (x ≡ y)
same_by x y (inl l) = inr (λ e. let f : x ≡ y = e in omega arith)
same_by x y (inr (inl e)) = inl e
same_by x y (inr (inr g)) = inr (λ e. let f : x ≡ y = e in omega arith)

number_decided : (x y : ℕ) → Decided (x ≡ y)
number_decided x y = same_by x y (compare x y)

head_same : (x y : ℕ) (xs ys : List ℕ) → x ∷ xs ≡ y ∷ ys → x ≡ y
head_same x y xs ys e = let f : x ≡ y = cc in f

tail_same : (x y : ℕ) (xs ys : List ℕ) → x ∷ xs ≡ y ∷ ys → xs ≡ ys
tail_same x y xs ys e = let f : xs ≡ ys = cc in f

list_by : (x y : ℕ) (xs ys : List ℕ) → Decided (x ≡ y) → Decided (xs ≡ ys) → Decided (x ∷ xs ≡ y ∷ ys)
list_by x y xs ys (inl e) (inl f) = inl (λ j. e j ∷ f j)
list_by x y xs ys (inl e) (inr n) = inr (λ h. n (tail_same x y xs ys h))
list_by x y xs ys (inr n) d = inr (λ h. n (head_same x y xs ys h))

list_decided : (xs ys : List ℕ) → Decided (xs ≡ ys)
list_decided [] [] = inl refl
list_decided [] (y ∷ ys) = inr (λ e. let f : 0 ≡ suc (length ys) = ap length e in omega arith)
list_decided (x ∷ xs) [] = inr (λ e. let f : suc (length xs) ≡ 0 = ap length e in omega arith)
list_decided (x ∷ xs) (y ∷ ys) = list_by x y xs ys (number_decided x y) (list_decided xs ys)

-- each element of a list
module _ {A : Type 0} (P : A → Type 0) where
  each_by : (y : A) (ys : List A) → Decided (P y) → Decided ((x : A) → Contains ys x → P x) → Decided ((x : A) → Contains (y ∷ ys) x → P x)
  each_by y ys (inl p) (inl f) = inl (λ x m. elim (Contains-cases y ys x m) [ inl e ↦ subst P (sym e) p | inr k ↦ f x k ])
  each_by y ys (inl p) (inr n) = inr (λ f. n (λ x m. f x (Contains-later x y ys m)))
  each_by y ys (inr n) d = inr (λ f. n (f y (Contains-here y ys)))

  each_decided : (xs : List A) → ((x : A) → Decided (P x)) → Decided ((x : A) → Contains xs x → P x)
  each_decided [] d = inl (λ x m. absurd (Contains-nil x m))
  each_decided (y ∷ ys) d = each_by y ys (d y) (each_decided ys d)

-- some element of a list
module _ (Q : ℕ → Type 0) where
  abbrev Some : List ℕ → Type 0
  Some s = (i : ℕ) × Contains s i × Q i

  some_by : (j : ℕ) (s : List ℕ) → Decided (Q j) → Decided (Some s) → Decided (Some (j ∷ s))
  some_by j s (inl q) d = inl (j, Contains-here j s, q)
  some_by j s (inr n) (inl h) = inl (h.0, Contains-later h.0 j s h.1, h.2)
  some_by j s (inr n) (inr m) = inr (λ h. elim (Contains-cases j s h.0 h.1) [ inl e ↦ n (subst Q e h.2) | inr k ↦ m (h.0, k, h.2) ])

  some_decided : (s : List ℕ) → ((i : ℕ) → Decided (Q i)) → Decided (Some s)
  some_decided [] d = inr (λ h. Contains-nil h.0 h.1)
  some_decided (j ∷ s) d = some_by j s (d j) (some_decided s d)

contains_by : (x : ℕ) (s : List ℕ) (i : ℕ) → Decided (i ≡ x) → Decided (Contains s i) → Decided (Contains (x ∷ s) i)
contains_by x s i (inl e) d = inl (Contains-head i x s e)
contains_by x s i (inr n) (inl m) = inl (Contains-later i x s m)
contains_by x s i (inr n) (inr f) = inr (λ k. elim (Contains-cases x s i k) [ inl e ↦ n e | inr m ↦ f m ])

contains_decided : (s : List ℕ) (i : ℕ) → Decided (Contains s i)
contains_decided [] i = inr (λ m. Contains-nil i m)
contains_decided (x ∷ s) i = contains_by x s i (number_decided i x) (contains_decided s i)

ascending_decided : (s : List ℕ) → Decided (IsAscending s)
ascending_decided [] = inl tt
ascending_decided (x ∷ s) = both_decided (each_decided (λ (y : ℕ). x < y) s (less_decided x)) (ascending_decided s)

-- WHAT IS IN `subs` IS A SUBLIST
mapped_from : (x : ℕ) (ss : List (List ℕ)) (t : List ℕ) → Member (map (λ s. x ∷ s) ss) t → (s : List ℕ) × Member ss s × (t ≡ x ∷ s)
mapped_from x [] t m = elim m [ ]
mapped_from x (s ∷ ss) _ first = (s, first, refl)
mapped_from x (s ∷ ss) t (later m) = let r = mapped_from x ss t m in (r.0, later r.1, r.2)

appended_from : (ss ts : List (List ℕ)) (t : List ℕ) → Member (ss ++ ts) t → Member ss t ⊎ Member ts t
appended_from [] ts t m = inr m
appended_from (s ∷ ss) ts _ first = inl first
appended_from (s ∷ ss) ts t (later m) = elim (appended_from ss ts t m) [ inl k ↦ inl (later k) | inr k ↦ inr k ]

subs_are : (xs s : List ℕ) → Member (subs xs) s → Sublist s xs
subs_are [] _ first = ends
subs_are [] s (later m) = elim m [ ]
subs_are (x ∷ xs) s m = elim (appended_from (map (λ t. x ∷ t) (subs xs)) (subs xs) s m) [
  | inl k ↦ (let r = mapped_from x (subs xs) s k in subst (λ (t : List ℕ). Sublist t (x ∷ xs)) (sym r.2) (keeps (subs_are xs r.0 r.1)))
  | inr k ↦ drops (subs_are xs s k)
]

-- MINIMAL COVERS
module _ (Covers : List ℕ → Type 0) (decided : (s : List ℕ) → Decided (Covers s)) where
  abbrev NoneLess : List ℕ → Type 0
  NoneLess s = (t : List ℕ) → Contains (subs s) t → Covers t → t ≡ s

  minimal_by : (s : List ℕ) → Decided (IsAscending s) → Decided (Covers s) → Decided (NoneLess s) → Decided (IsMinimal Covers s)
  minimal_by s (inl a) (inl c) (inl f) = inl (record { ascending = a; covers = c; minimal = λ t sub covers. f t (member_contains (subs_have sub)) covers })
  minimal_by s (inl a) (inl c) (inr n) = inr (λ m. n (λ t k covers. m.minimal t (subs_are s t (contains_member (subs s) t k)) covers))
  minimal_by s (inl a) (inr n) d = inr (λ m. n m.covers)
  minimal_by s (inr n) c d = inr (λ m. n m.ascending)

  minimal_decided : (s : List ℕ) → Decided (IsMinimal Covers s)
  minimal_decided s = minimal_by s (ascending_decided s) (decided s) (each_decided (λ (t : List ℕ). Covers t → t ≡ s) (subs s) (λ t. if_decided (decided t) (list_decided t s)))

-- more than each number of the list, and of the lists
abbrev above : List ℕ → ℕ
above [] = 0
above (x ∷ s) = suc x + above s

abbrev above_all : List (List ℕ) → ℕ
above_all [] = 0
above_all (f ∷ fs) = above f + above_all fs

is_above : (s : List ℕ) (i : ℕ) → Contains s i → i < above s
is_above [] i m = absurd (Contains-nil i m)
is_above (x ∷ s) i m = elim (Contains-cases x s i m) [
  | inl e ↦ (let f : i ≡ x = e in omega arith)
  | inr k ↦ (let l : i < above s = is_above s i k in omega arith)
]

is_above_all : (fs : List (List ℕ)) (f : List ℕ) (i : ℕ) → Contains fs f → Contains f i → i < above_all fs
is_above_all [] f i m k = absurd (Contains-nil f m)
is_above_all (g ∷ fs) f i m k = elim (Contains-cases g fs f m) [
  | inl e ↦ (let l : i < above g = is_above g i (subst (λ (h : List ℕ). Contains h i) e k) in omega arith)
  | inr j ↦ (let l : i < above_all fs = is_above_all fs f i j k in omega arith)
]

module _ (families : List (List ℕ)) where
  meets_decided : (s : List ℕ) → Decided (MeetsEach families s)
  meets_decided s = each_decided (λ (f : List ℕ). Meets f s) families (λ f. some_decided (λ (i : ℕ). Contains s i) f (contains_decided s))

  minimal_within : (s : List ℕ) → IsMinimal (MeetsEach families) s → (i : ℕ) → Contains s i → i < above_all families
  minimal_within s m i h =
      let n = above_all families in
      let covers : MeetsEach families (kept n s) = λ f k. let r = m.covers f k in (r.0, r.1, member_contains (kept_has n r.0 s (is_above_all families f r.0 k r.1) (contains_member s r.0 r.2))) in
      let e : kept n s ≡ s = m.minimal (kept n s) (kept_sub n s) covers in
      kept_below n i s (subst (λ (t : List ℕ). Member t i) (sym e) (contains_member s i h))

  among_subs : (s : List ℕ) → IsMinimal (MeetsEach families) s → Contains (subs (numbers_from 0 (above_all families))) s
  among_subs s h =
      let n = above_all families in
      let within : AreWithin 0 n s = λ y m. (let j : y < n = minimal_within s h y (member_contains m) in (omega arith, omega arith)) in
      member_contains (subs_have (within_sub n 0 s (ascending_members s h.ascending) within))

  pub made_covers : (list : List (List ℕ)) × AreCovers families list
  made_covers =
      let r = sorted_by (λ (s : List ℕ). s) (λ a b e. e) (IsMinimal (MeetsEach families)) (minimal_decided (MeetsEach families) meets_decided) (subs (numbers_from 0 (above_all families))) in
      (r.0, record { in_order = r.1; exactly = λ s. ((λ m. ((r.2 s).0 m).1), (λ h. (r.2 s).1 (among_subs s h, h))) })
