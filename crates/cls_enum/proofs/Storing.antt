-- Steps of putting what is found into the bank, and of sorting it.
use Rattle.std.proofs.Common.{◌≡◌, ℕ, zero, suc, ◌+◌, ◌<◌, ◌≤◌, List, [], ◌∷◌, ◌++◌, length, map, take, get_or, refl, sym, ap, ◌∙◌, subst, inl, inr, arith, append_assoc, append-nil, length-append, Bool, false, true≢false}
use Rattle.std.specs.Prelude.{slice_get, Some}
use Rattle.std.specs.Ordering.{nat_cmp, is_lt}
use Rattle.std.specs.Cmp.Lexicographic.{slice_cmp}
use Rattle.std.specs.List.Sorted.{IsPermutation, IsSortedBy}
use Rattle.std.proofs.lemmas.List.{take_more, length-map, map-append}
use Rattle.std.proofs.lemmas.List.Sorted.{Contains-permutation, IsPermutation-sym, length_permutation}
use Rattle.cls_base.specs.Lists.{AreDistinct, AreBelow}
use Rattle.cls_base.specs.Terms.{Applicative, component, length_of, code_of}
use Rattle.cls_base.specs.Spines.{spine}
use Rattle.cls_term.proofs.Banks.{map-at-append}
use Rattle.cls_base.proofs.Lists.{AreBelow-more}
use Rattle.cls_term.proofs.Codes.{code_of-one_to_one}
use Rattle.cls_term.proofs.Orders.{Precedes-total, slice_cmp-less}
use Rattle.cls_term.specs.Banks.{at, term_by, IsPut}
use Rattle.cls_enum.specs.Members.{IsIn, SpinesBelow, AreFound, IsAdded, IsGrown, CodesRise, IsCell}
use Rattle.cls_enum.proofs.Additions.{AreBelow-push}
use Rattle.cls_enum.proofs.Counting.{once-by_count}
use Rattle.cls_enum.proofs.Members.{in_from, in_to, in_map}

pub IsGrown-none : (ts : List Applicative) → IsGrown ts ts
IsGrown-none ts = ([], sym (append-nil ts))

pub IsGrown-trans : (ts us vs : List Applicative) → IsGrown ts us → IsGrown us vs → IsGrown ts vs
IsGrown-trans ts us vs (xs, p) (ys, q) = (xs ++ ys, q ∙ ap (λ (zs : List Applicative). zs ++ ys) p ∙ append_assoc ts xs ys)

pub IsGrown-put : (ts us : List Applicative) (e : Applicative) (a : ℕ) → IsPut ts e a us → IsGrown ts us
IsGrown-put ts us e a h = elim h.kept [ inl k ↦ ([], k.1 ∙ sym (append-nil ts)) | inr k ↦ (e ∷ [], k.1) ]

pub length-grown : (ts us : List Applicative) → IsGrown ts us → length ts ≤ length us
length-grown ts us (xs, p) = omega (arith, ap length p, length-append ts xs)

pub map-at-grown : (ts us : List Applicative) (bs : List ℕ) → IsGrown ts us → AreBelow (length ts) bs → map (at us) bs ≡ map (at ts) bs
map-at-grown ts us bs (xs, p) h = ap (λ (vs : List Applicative). map (at vs) bs) p ∙ map-at-append ts xs bs h

pub AreBelow-grown : (ts us : List Applicative) (bs : List ℕ) → IsGrown ts us → AreBelow (length ts) bs → AreBelow (length us) bs
AreBelow-grown ts us bs g h = AreBelow-more (length ts) (length us) bs (length-grown ts us g) h

got_at : (ts : List Applicative) (a : ℕ) (e : Applicative) → slice_get ts a ≡ Some e → (at ts a ≡ e) × (a < length ts)
got_at [] a e p = absurd (cc)
got_at (t ∷ ts) zero e p = ((let q : t ≡ e = cc in q), omega arith)
got_at (t ∷ ts) (suc a) e p = let r = got_at ts a e p in (r.0, omega (arith, r.1))

pub SpinesBelow-at : (n : ℕ) (ks : List (ℕ × List ℕ)) (i : ℕ) (d : ℕ × List ℕ) → SpinesBelow n ks → i < length ks → AreBelow n (get_or ks i d).1
SpinesBelow-at n [] i d h l = absurd (omega arith)
SpinesBelow-at n (k ∷ ks) zero d h l = h.0
SpinesBelow-at n (k ∷ ks) (suc i) d h l = SpinesBelow-at n ks i d h.1 (omega arith)

map_at_in : (f : ℕ × List ℕ → Applicative) (ks : List (ℕ × List ℕ)) (i : ℕ) (d : ℕ × List ℕ) → i < length ks → IsIn (map f ks) (f (get_or ks i d))
map_at_in f [] i d l = absurd (omega arith)
map_at_in f (k ∷ ks) zero d l = inl refl
map_at_in f (k ∷ ks) (suc i) d l = inr (map_at_in f ks i d (omega arith))

-- the term of a spine stays
pub term_by-grown : (ts us : List Applicative) (k : ℕ × List ℕ) → IsGrown ts us → AreBelow (length ts) k.1 → term_by us k ≡ term_by ts k
term_by-grown ts us k g h = ap (spine (component k.0)) (map-at-grown ts us k.1 g h)

pub found-short : (ts us : List Applicative) (ks : List (ℕ × List ℕ)) (i : ℕ) → AreFound ts ks → IsGrown ts us → i < length ks → length_of (term_by us (get_or ks i (0, []))) ≤ 64
found-short ts us ks i h g l =
    let e = term_by-grown ts us (get_or ks i (0, [])) g (SpinesBelow-at (length ts) ks i (0, []) h.below l) in
    let m = h.short (term_by ts (get_or ks i (0, []))) (map_at_in (term_by ts) ks i (0, []) l) in
    omega (arith, ap length_of e, m)

-- one more spine is put
pub put-step : (ts us vs : List Applicative) (ks : List (ℕ × List ℕ)) (numbers : List ℕ) (i a : ℕ) → AreFound ts ks → i < length ks → IsGrown ts us → map (at us) numbers ≡ map (term_by ts) (take i ks) → AreBelow (length us) numbers → IsPut us (term_by us (get_or ks i (0, []))) a vs → (map (at vs) (numbers ++ a ∷ []) ≡ map (term_by ts) (take (i + 1) ks)) × AreBelow (length vs) (numbers ++ a ∷ [])
put-step ts us vs ks numbers i a h l g p b q =
    let k = get_or ks i (0, []) in
    let w = IsGrown-put us vs (term_by us k) a q in
    let r = got_at vs a (term_by us k) q.there in
    let e : at vs a ≡ term_by ts k = r.0 ∙ term_by-grown ts us k g (SpinesBelow-at (length ts) ks i (0, []) h.below l) in (
      map-append (at vs) numbers (a ∷ []) ∙ (λ j. (map-at-grown us vs numbers w b ∙ p) j ++ e j ∷ [])
          ∙ sym (ap (map (term_by ts)) (take_more ks i (0, []) l) ∙ map-append (term_by ts) (take i ks) (k ∷ [])),
      AreBelow-push (length vs) numbers a (AreBelow-grown us vs numbers w b) r.1,
    )

-- sorting
all_below : (n : ℕ) (xs : List ℕ) → ((x : ℕ) → IsIn xs x → x < n) → AreBelow n xs
all_below n [] h = tt
all_below n (x ∷ xs) h = (h x (inl refl), all_below n xs (λ y i. h y (inr i)))

below_all : (n : ℕ) (xs : List ℕ) (x : ℕ) → AreBelow n xs → IsIn xs x → x < n
below_all n [] x h i = absurd i
below_all n (y ∷ xs) x h (inl p) = omega (arith, h.0, p)
below_all n (y ∷ xs) x h (inr i) = below_all n xs x h.1 i

map_has : (ts : List Applicative) (xs : List ℕ) (x : ℕ) → IsIn xs x → IsIn (map (at ts) xs) (at ts x)
map_has ts [] x i = absurd i
map_has ts (y ∷ xs) x (inl p) = inl (ap (at ts) p)
map_has ts (y ∷ xs) x (inr i) = inr (map_has ts xs x i)

reordered : (ts : List Applicative) (xs ys : List ℕ) (e : Applicative) → IsPermutation xs ys → IsIn (map (at ts) xs) e → IsIn (map (at ts) ys) e
reordered ts xs ys e p i =
    let r = in_map (at ts) xs e i in
    let P : Applicative → Type 0 = λ f. IsIn (map (at ts) ys) f in
    subst P r.2 (map_has ts ys r.0 (in_from ys r.0 (Contains-permutation xs ys r.0 p (in_to xs r.0 r.1))))

abbrev code_lt : List Applicative → ℕ → ℕ → Bool
code_lt ts a b = is_lt (slice_cmp nat_cmp (code_of (at ts a)) (code_of (at ts b)))

sorted-tail : (lt : ℕ → ℕ → Bool) (x : ℕ) (xs : List ℕ) → IsSortedBy lt (x ∷ xs) → IsSortedBy lt xs
sorted-tail lt x xs s = λ k d l m.
    let e : suc k + 1 ≡ suc (k + 1) = omega arith in
    let P : ℕ → Type 0 = λ j. lt (get_or (x ∷ xs) j d) (get_or (x ∷ xs) (suc k) d) ≡ false in
    subst P e (s (suc k) d (omega arith) (omega arith))

codes-rise : (ts : List Applicative) (xs : List ℕ) → IsSortedBy (code_lt ts) xs → AreDistinct (map (at ts) xs) → CodesRise (map (at ts) xs)
codes-rise ts [] s n = tt
codes-rise ts (x ∷ []) s n = tt
codes-rise ts (x ∷ y ∷ xs) s n = (
  (elim (Precedes-total (code_of (at ts x)) (code_of (at ts y))) [
    | inl l ↦ l
    | inr q ↦ elim q [
      | inl e ↦ absurd (n.0 (0, omega arith, sym (code_of-one_to_one (at ts x) (at ts y) e)))
      | inr g ↦ absurd (true≢false (sym (ap is_lt (slice_cmp-less (code_of (at ts y)) (code_of (at ts x)) g)) ∙ s 0 x (omega arith) (omega arith)))
    ]
  ]),
  codes-rise ts (y ∷ xs) (sorted-tail (code_lt ts) x (y ∷ xs) s) n.1,
)

-- what is found, put and sorted is the cell
pub IsCell-made : (ts us : List Applicative) (ks : List (ℕ × List ℕ)) (es : List Applicative) (xs ys : List ℕ) → IsAdded ts [] es ks → map (at us) xs ≡ map (term_by ts) ks → AreBelow (length us) xs → IsPermutation xs ys → IsSortedBy (code_lt us) ys → IsCell us es ys
IsCell-made ts us ks es xs ys h p b q s =
    let L : List Applicative → Type 0 = λ zs. AreDistinct zs in
    let once : AreDistinct (map (at us) xs) = subst L (sym p) h.found.different in
    let there : (e : Applicative) → IsIn (map (at us) xs) e → IsIn (map (at us) ys) e = λ e i. reordered us xs ys e q i in
    let back : (e : Applicative) → IsIn (map (at us) ys) e → IsIn (map (at us) xs) e = λ e i. reordered us ys xs e (IsPermutation-sym xs ys q) i in
    let n = once-by_count (map (at us) xs) (map (at us) ys) once there back (omega (arith, length-map xs (at us), length-map ys (at us), length_permutation xs ys q)) in
    record {
      below = all_below (length us) ys (λ y i. below_all (length us) xs y b (in_from xs y (Contains-permutation ys xs y (IsPermutation-sym xs ys q) (in_to ys y i))));
      rises = codes-rise us ys s n;
      exact = λ e. (
        (λ i. let P : List Applicative → Type 0 = λ zs. IsIn zs e in elim ((h.joined e).0 (subst P p (back e i))) [ inl z ↦ absurd z | inr z ↦ z ]),
        (λ i. let P : List Applicative → Type 0 = λ zs. IsIn zs e in there e (subst P (sym p) ((h.joined e).1 (inr i)))),
      );
    }
