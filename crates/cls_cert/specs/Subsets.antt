-- Numbers, the lists of some of them, and those below a number. Proofs, kept here since a list that contracts name is made by
-- them.
use Rattle.std.proofs.Common.{ℕ, zero, suc, ◌≡◌, ◌+◌, ◌≤◌, ◌<◌, Bool, true, false, refl, sym, subst, ◌⊎◌, inl, inr, List, [], ◌∷◌, ◌++◌, arith}
use Rattle.std.specs.Prelude.{map, nat_lt}
use Rattle.std.proofs.lemmas.Bool.Decides.{nat_tests}
use Rattle.cls_cover.specs.Lists.{Sublist, ends, keeps, drops}
use Rattle.cls_cover.specs.Members.{Member, first, later, Ascending}
use Rattle.cls_cover.proofs.Lists.{member_append_left, member_append_right}
use Rattle.cls_library.specs.Rules.{numbers_from}
use Rattle.cls_expand.specs.Listing.{mapped_in}

same_or_over : (x y : ℕ) → x ≤ y → (x ≡ y) ⊎ (suc x ≤ y)
same_or_over x y h = grind arith

numbers_by : (k x y : ℕ) → (x ≡ y) ⊎ (suc x ≤ y) → (suc x ≤ y → Member (numbers_from (suc x) k) y) → Member (numbers_from x (suc k)) y
numbers_by k x y (inl e) f = subst (λ z. Member (x ∷ numbers_from (suc x) k) z) e first
numbers_by k x y (inr l) f = later (f l)

pub numbers_have : (k x y : ℕ) → x ≤ y → y < x + k → Member (numbers_from x k) y
numbers_have zero x y h l = absurd (omega arith)
numbers_have (suc k) x y h l = numbers_by k x y (same_or_over x y h) (λ g. numbers_have k (suc x) y g (omega arith))

-- all lists that a list is without some of its elements
abbrev pub subs : List ℕ → List (List ℕ)
subs [] = [] ∷ []
subs (x ∷ xs) = map (λ s. x ∷ s) (subs xs) ++ subs xs

pub subs_have : {s xs : List ℕ} → Sublist s xs → Member (subs xs) s
subs_have ends = first
subs_have (keeps {x = x} {xs = s} {ys = ys} h) = member_append_left (subs ys) (x ∷ s) (mapped_in (λ t. x ∷ t) (subs_have h))
subs_have (drops {y = y} {xs = s} {ys = ys} h) = member_append_right (map (λ t. y ∷ t) (subs ys)) (subs ys) s (subs_have h)

sub_by : (k x y : ℕ) (s : List ℕ) → (x ≡ y) ⊎ (suc x ≤ y) → (x ≡ y → Sublist s (numbers_from (suc x) k)) → (suc x ≤ y → Sublist (y ∷ s) (numbers_from (suc x) k)) → Sublist (y ∷ s) (numbers_from x (suc k))
sub_by k x y s (inl e) f g = subst (λ z. Sublist (z ∷ s) (x ∷ numbers_from (suc x) k)) e (keeps (f e))
sub_by k x y s (inr l) f g = drops (g l)

abbrev pub AreWithin : ℕ → ℕ → List ℕ → Type 0
AreWithin x k s = (y : ℕ) → Member s y → (x ≤ y) × (y < x + k)

next_within : (k x y : ℕ) (s : List ℕ) → Ascending (y ∷ s) → AreWithin x (suc k) (y ∷ s) → x ≡ y → AreWithin (suc x) k s
next_within k x y s a f e z m =
    let l : y < z = a.0 z m in
    let u = f z (later m) in
    let v : z < x + suc k = u.1 in
    (omega arith, omega arith)

same_within : (k x y : ℕ) (s : List ℕ) → Ascending (y ∷ s) → AreWithin x (suc k) (y ∷ s) → suc x ≤ y → AreWithin (suc x) k (y ∷ s)
same_within k x y s a f l _ first = let v : y < x + suc k = (f y first).1 in (l, omega arith)
same_within k x y s a f l z (later m) =
    let o : y < z = a.0 z m in
    let v : z < x + suc k = (f z (later m)).1 in
    (omega arith, omega arith)

pub within_sub : (k x : ℕ) (s : List ℕ) → Ascending s → AreWithin x k s → Sublist s (numbers_from x k)
within_sub zero x [] a f = ends
within_sub zero x (y ∷ s) a f = let u : x ≤ y = (f y first).0 in let v : y < x + 0 = (f y first).1 in absurd (omega arith)
within_sub (suc k) x [] a f = drops (within_sub k (suc x) [] a (λ y m. elim m [ ]))
within_sub (suc k) x (y ∷ s) a f =
    sub_by k x y s (same_or_over x y (f y first).0)
    (λ e. within_sub k (suc x) s a.1 (next_within k x y s a f e))
    (λ l. within_sub k (suc x) (y ∷ s) a (same_within k x y s a f l))

-- THOSE BELOW A NUMBER
abbrev keep_if : Bool → ℕ → List ℕ → List ℕ
keep_if true j s = j ∷ s
keep_if false j s = s

-- the numbers below n
abbrev pub kept : ℕ → List ℕ → List ℕ
kept n [] = []
kept n (j ∷ s) = keep_if (nat_lt j n) j (kept n s)

keep_sub : (b : Bool) (j : ℕ) {t s : List ℕ} → Sublist t s → Sublist (keep_if b j t) (j ∷ s)
keep_sub true j h = keeps h
keep_sub false j h = drops h

pub kept_sub : (n : ℕ) (s : List ℕ) → Sublist (kept n s) s
kept_sub n [] = ends
kept_sub n (j ∷ s) = keep_sub (nat_lt j n) j (kept_sub n s)

keep_here : (b : Bool) (j : ℕ) (s : List ℕ) → b ≡ true → Member (keep_if b j s) j
keep_here true j s e = first
keep_here false j s e = absurd (let f : false ≡ true = e in cc)

keep_later : (b : Bool) (j : ℕ) (s : List ℕ) (i : ℕ) → Member s i → Member (keep_if b j s) i
keep_later true j s i m = later m
keep_later false j s i m = m

below_test : (i n : ℕ) → i < n → nat_lt i n ≡ true
below_test i n l = grind (arith, nat_tests)

test_below : (i n : ℕ) → nat_lt i n ≡ true → i < n
test_below i n e = grind (arith, nat_tests)

pub kept_has : (n i : ℕ) (s : List ℕ) → i < n → Member s i → Member (kept n s) i
kept_has n i _ l (first {xs = s}) = keep_here (nat_lt i n) i (kept n s) (below_test i n l)
kept_has n i _ l (later {y = j} {xs = s} m) = keep_later (nat_lt j n) j (kept n s) i (kept_has n i s l m)

head_or : {A : Type 0} (xs : List A) (x y : A) → Member (x ∷ xs) y → (y ≡ x) ⊎ Member xs y
head_or xs x _ first = inl refl
head_or xs x y (later m) = inr m

keep_below : (n i j : ℕ) (t : List ℕ) (b : Bool) → nat_lt j n ≡ b → Member (keep_if b j t) i → (Member t i → i < n) → i < n
keep_below n i j t true e m f = elim (head_or t j i m) [ inl s ↦ subst (λ k. k < n) (sym s) (test_below j n e) | inr k ↦ f k ]
keep_below n i j t false e m f = f m

pub kept_below : (n i : ℕ) (s : List ℕ) → Member (kept n s) i → i < n
kept_below n i [] m = elim m [ ]
kept_below n i (j ∷ s) m = keep_below n i j (kept n s) (nat_lt j n) refl m (λ k. kept_below n i s k)
