-- Steps of making the forms of a node, and of testing their order.
use Rattle.std.proofs.Common.{◌≡◌, ℕ, zero, suc, ◌+◌, ◌-◌, ◌<◌, ◌≤◌, List, [], ◌∷◌, ◌++◌, length, map, take, get_or, refl, sym, ap, ◌∙◌, subst, inl, inr, arith, append-nil, append_assoc, false}
use Rattle.std.specs.Prelude.{Option, None, Some, slice_get, slice_index_or, is_some, Contains}
use Rattle.std.specs.List.{flat_map}
use Rattle.std.proofs.lemmas.Bool.{cases_lt}
use Rattle.std.proofs.lemmas.List.{get_or_past, take_more}
use Rattle.cls_base.specs.declared.rule.Rule.{Rule}
use Rattle.cls_base.specs.declared.rule.Rule.TheVariants.{Head, Any}
use Rattle.cls_base.specs.Languages.{rules_at}
use Rattle.cls_base.proofs.Lists.{Contains-nil}
use Rattle.cls_enum.specs.Candidates.{over}
use Rattle.cls_enum.specs.Members.{IsIn}
use Rattle.cls_enum.proofs.Members.{in_cases}
use Rattle.cls_walk.specs.Counts.{HeadRule, heads_of, pairs_of}
use Rattle.cls_walk.specs.Filled.{forms_at}
use Rattle.cls_walk.specs.Forms.{HasForm, headed, applied, IsEarlier, AreRising, AreForms}
use Rattle.cls_walk.specs.Repeats.{IsRepeat, copies, repeated, forms_by}
use Rattle.cls_walk.proofs.Columns.{rules-next}
use Rattle.cls_walk.proofs.Repeats.{are_forms}

pairs_of-push : (rs : List (Rule ℕ)) (r : Rule ℕ) → pairs_of (rs ++ r ∷ []) ≡ pairs_of rs ++ pairs_of (r ∷ [])
pairs_of-push [] r = refl
pairs_of-push (Head x ns ∷ rs) r = pairs_of-push rs r
pairs_of-push (Any l m ∷ rs) r = ap (λ (ps : List (ℕ × ℕ)). (l, m) ∷ ps) (pairs_of-push rs r)

heads_of-push : (rs : List (Rule ℕ)) (r : Rule ℕ) → heads_of (rs ++ r ∷ []) ≡ heads_of rs ++ heads_of (r ∷ [])
heads_of-push [] r = refl
heads_of-push (Head x ns ∷ rs) r = ap (λ (hs : List HeadRule). (x, ns) ∷ hs) (heads_of-push rs r)
heads_of-push (Any l m ∷ rs) r = heads_of-push rs r

flat_map-push : {A B : Type 0} (f : A → List B) (xs ys : List A) → flat_map f (xs ++ ys) ≡ flat_map f xs ++ flat_map f ys
flat_map-push f [] ys = refl
flat_map-push {A} {B} f (x ∷ xs) ys = ap (λ (zs : List B). f x ++ zs) (flat_map-push f xs ys) ∙ sym (append_assoc (f x) (flat_map f xs) (flat_map f ys))

-- a head rule more
pub repeat-head : (n x : ℕ) (ns : List ℕ) (repeat : Option ℕ) (rs : List (Rule ℕ)) → IsRepeat n rs repeat → IsRepeat n (rs ++ Head x ns ∷ []) repeat
repeat-head n x ns None rs h = pairs_of-push rs (Head x ns) ∙ append-nil (pairs_of rs) ∙ h
repeat-head n x ns (Some m) rs h = pairs_of-push rs (Head x ns) ∙ append-nil (pairs_of rs) ∙ h

-- the first pair of nodes
pub repeat-pair : (n m : ℕ) (rs : List (Rule ℕ)) → IsRepeat n rs None → IsRepeat n (rs ++ Any n m ∷ []) (Some m)
repeat-pair n m rs h = pairs_of-push rs (Any n m) ∙ ap (λ (ps : List (ℕ × ℕ)). ps ++ (n, m) ∷ []) h

pub repeat-next : (n : ℕ) (old new : Option ℕ) (rs : List (Rule ℕ)) (i : ℕ) (r : Rule ℕ) → slice_get rs i ≡ Some r → IsRepeat n (take i rs) old → ((qs : List (Rule ℕ)) → IsRepeat n qs old → IsRepeat n (qs ++ r ∷ []) new) → IsRepeat n (take (i + 1) rs) new
repeat-next n old new rs i r p h f =
    let P : List (Rule ℕ) → Type 0 = λ qs. IsRepeat n qs new in
    subst P (sym (rules-next rs i r p)) (f (take i rs) h)

forms_by-push : (repeat : Option ℕ) (size : ℕ) (rs : List (Rule ℕ)) (r : Rule ℕ) → forms_by repeat size (rs ++ r ∷ []) ≡ forms_by repeat size rs ++ forms_by repeat size (r ∷ [])
forms_by-push repeat size rs r = ap (flat_map (repeated repeat size)) (heads_of-push rs r) ∙ flat_map-push (repeated repeat size) (heads_of rs) (heads_of (r ∷ []))

-- the forms by one rule more
pub forms-next : (repeat : Option ℕ) (size : ℕ) (rs : List (Rule ℕ)) (i : ℕ) (r : Rule ℕ) (old new : List HeadRule) → slice_get rs i ≡ Some r → old ≡ forms_by repeat size (take i rs) → new ≡ old ++ forms_by repeat size (r ∷ []) → new ≡ forms_by repeat size (take (i + 1) rs)
forms-next repeat size rs i r old new p h q =
    q ∙ ap (λ (fs : List HeadRule). fs ++ forms_by repeat size (r ∷ [])) h ∙ sym (forms_by-push repeat size (take i rs) r) ∙ ap (forms_by repeat size) (sym (rules-next rs i r p))

earlier-trans : (f g h : HeadRule) → IsEarlier f g → IsEarlier g h → IsEarlier f h
earlier-trans f g h (inl a) (inl b) = inl (omega arith)
earlier-trans f g h (inl a) (inr b) = inl (let z = b.0 in omega arith)
earlier-trans f g h (inr a) (inl b) = inl (let z = a.0 in omega arith)
earlier-trans f g h (inr a) (inr b) = inr (a.0 ∙ b.0, (let y = a.1 in let z = b.1 in omega arith))

-- one more form behind the last one
pub rising-push : (hs : List HeadRule) (last h : HeadRule) → AreRising (hs ++ last ∷ []) → IsEarlier last h → AreRising ((hs ++ last ∷ []) ++ h ∷ [])
rising-push [] last h r e = ((λ g i. elim i [ inl p ↦ (let P : HeadRule → Type 0 = λ z. IsEarlier last z in subst P p e) | inr z ↦ absurd z ]), ((λ g i. absurd i), tt))
rising-push (f ∷ hs) last h r e = (
  (λ g i. elim (in_cases (hs ++ last ∷ []) (h ∷ []) g i) [
    | inl j ↦ r.0 g j
    | inr j ↦ elim j [
      | inl p ↦ (let P : HeadRule → Type 0 = λ z. IsEarlier f z in subst P p (earlier-trans f last h (r.0 last (last-in hs last)) e))
      | inr z ↦ absurd z
    ]
  ]),
  rising-push hs last h r.1 e,
)
  where
    last-in : (hs : List HeadRule) (last : HeadRule) → IsIn (hs ++ last ∷ []) last
    last-in [] last = inl refl
    last-in (f ∷ hs) last = inr (last-in hs last)

-- behind the last node there are no rules, and so no forms
none-past : (book : List (List (Rule ℕ))) (n x : ℕ) (ns : List ℕ) → length book ≤ n → HasForm book n x ns → ⊥
none-past book n x ns l (headed c) = let P : List (Rule ℕ) → Type 0 = λ rs. Contains rs (Head x ns) in Contains-nil (Head x ns) (subst P (get_or_past book n [] l) c)
none-past book n x ns l (applied {l = k} {m = m} c f p) = let P : List (Rule ℕ) → Type 0 = λ rs. Contains rs (Any k m) in Contains-nil (Any k m) (subst P (get_or_past book n [] l) c)

pub forms-past : (book : List (List (Rule ℕ))) (most n : ℕ) → length book ≤ n → AreForms book most n []
forms-past book most n l = record { each = λ h i. absurd i; all = λ x ns f m. absurd (none-past book n x ns l f) }

-- one form more
pub copies-push : (ns xs new : List ℕ) (m k : ℕ) → xs ≡ ns ++ copies m k → new ≡ xs ++ m ∷ [] → new ≡ ns ++ copies m (k + 1)
copies-push ns xs new m k p q =
    let e : suc k ≡ k + 1 = omega arith in
    q ∙ ap (λ (ys : List ℕ). ys ++ m ∷ []) p ∙ append_assoc ns (copies m k) (m ∷ []) ∙ ap (λ (j : ℕ). ns ++ copies m j) e

pub over-push : {A : Type 0} (old new xs : List A) (f : ℕ → List A) (x : A) (k : ℕ) → xs ≡ old ++ over k f → new ≡ xs ++ x ∷ [] → f k ≡ x ∷ [] → new ≡ old ++ over (k + 1) f
over-push {A} old new xs f x k p q r =
    let e : suc k ≡ k + 1 = omega arith in
    q ∙ (λ i. p i ++ sym r i) ∙ append_assoc old (over k f) (f k) ∙ ap (λ (j : ℕ). old ++ over j f) e

pub repeat-any : (n l m : ℕ) (o : Option ℕ) (rs : List (Rule ℕ)) (r : Rule ℕ) → r ≡ Any l m → l ≡ n → is_some o ≡ false → IsRepeat n rs o → IsRepeat n (rs ++ r ∷ []) (Some m)
repeat-any n l m None rs r p q s h =
    let P : Rule ℕ → Type 0 = λ z. IsRepeat n (rs ++ z ∷ []) (Some m) in
    let Q : ℕ → Type 0 = λ z. IsRepeat n (rs ++ Any z m ∷ []) (Some m) in
    subst P (sym p) (subst Q (sym q) (repeat-pair n m rs h))
repeat-any n l m (Some k) rs r p q s h = absurd (cc)

pub repeat-rule : (n x : ℕ) (ns : List ℕ) (o : Option ℕ) (rs : List (Rule ℕ)) (r : Rule ℕ) → r ≡ Head x ns → IsRepeat n rs o → IsRepeat n (rs ++ r ∷ []) o
repeat-rule n x ns o rs r p h = let P : Rule ℕ → Type 0 = λ z. IsRepeat n (rs ++ z ∷ []) o in subst P (sym p) (repeat-head n x ns o rs h)

pub rising-one : (fs : List HeadRule) → AreRising (take 1 fs)
rising-one [] = tt
rising-one (f ∷ fs) = ((λ g i. absurd i), tt)

pub rising-next : (fs : List HeadRule) (i : ℕ) (f g : HeadRule) → 1 ≤ i → i < length fs → f ≡ get_or fs (i - 1) f → g ≡ get_or fs i g → IsEarlier f g → AreRising (take i fs) → AreRising (take (i + 1) fs)
rising-next fs i f g o l p q e h =
    let k : (i - 1) + 1 ≡ i = omega arith in
    let a : take i fs ≡ take (i - 1) fs ++ f ∷ [] = ap (λ (j : ℕ). take j fs) (sym k) ∙ take_more fs (i - 1) f (omega arith) ∙ ap (λ (z : HeadRule). take (i - 1) fs ++ z ∷ []) (sym p) in
    let b : take (i + 1) fs ≡ take i fs ++ g ∷ [] = take_more fs i g l ∙ ap (λ (z : HeadRule). take i fs ++ z ∷ []) (sym q) in
    let P : List HeadRule → Type 0 = λ zs. AreRising zs in
    let c = rising-push (take (i - 1) fs) f g (subst P a h) e in
    subst P (sym (b ∙ ap (λ (zs : List HeadRule). zs ++ g ∷ []) a)) c

pub at-map : {A : Type 0} (f : A → List HeadRule) (vs : List A) (i : ℕ) (v : A) → i < length vs → v ≡ get_or vs i v → slice_index_or (map f vs) i [] ≡ f v
at-map f [] i v l p = absurd (omega arith)
at-map f (w ∷ vs) zero v l p = ap f (sym p)
at-map f (w ∷ vs) (suc i) v l p = at-map f vs i v (omega arith) p

-- the forms of one node more rise
pub rises-next : {A : Type 0} (f : A → List HeadRule) (vs : List A) (forms : List (List HeadRule)) (i : ℕ) (v : A) (fs : List HeadRule) → map f vs ≡ forms → i < length vs → v ≡ get_or vs i v → fs ≡ f v → AreRising fs → ((n : ℕ) → n < i → AreRising (forms_at forms n)) → (n : ℕ) → n < i + 1 → AreRising (forms_at forms n)
rises-next f vs forms i v fs p l q e r h n m = elim (cases_lt n i) [
  | inl k ↦ h n k
  | inr k ↦
      let z : i ≡ n = omega arith in
      let P : ℕ → Type 0 = λ j. AreRising (forms_at forms j) in
      let Q : List (List HeadRule) → Type 0 = λ zs. AreRising (forms_at zs i) in
      let R : List HeadRule → Type 0 = λ z. AreRising z in
      subst P z (subst Q p (subst R (e ∙ sym (at-map f vs i v l q)) r))
]

-- one more list, each of which has the property of its place
pub each-push : (P : ℕ → List HeadRule → Type 0) (old new : List (List HeadRule)) (x : List HeadRule) (i : ℕ) → new ≡ old ++ x ∷ [] → length old ≡ i → ((n : ℕ) → n < i → P n (slice_index_or old n [])) → P i x → (n : ℕ) → n < i + 1 → P n (slice_index_or new n [])
each-push P old new x i p e h q n l =
    let R : List (List HeadRule) → Type 0 = λ zs. P n (slice_index_or zs n []) in
    subst R (sym p) (elim (cases_lt n i) [
      | inl m ↦ (let S : List HeadRule → Type 0 = λ z. P n z in subst S (sym (get_or-front old x n (omega (arith, e, m)))) (h n m))
      | inr m ↦
          let z : i ≡ n = omega arith in
          let S : ℕ → Type 0 = λ k. P k (slice_index_or (old ++ x ∷ []) k []) in
          subst S z (let T : List HeadRule → Type 0 = λ y. P i y in subst T (sym (get_or-end old x i e)) q)
    ])
  where
    get_or-front : (xs : List (List HeadRule)) (x : List HeadRule) (n : ℕ) → n < length xs → slice_index_or (xs ++ x ∷ []) n [] ≡ slice_index_or xs n []
    get_or-front [] x n l = absurd (omega arith)
    get_or-front (y ∷ xs) x zero l = refl
    get_or-front (y ∷ xs) x (suc n) l = get_or-front xs x n (omega arith)

    get_or-end : (xs : List (List HeadRule)) (x : List HeadRule) (n : ℕ) → length xs ≡ n → slice_index_or (xs ++ x ∷ []) n [] ≡ x
    get_or-end [] x zero l = refl
    get_or-end [] x (suc n) l = absurd (omega arith)
    get_or-end (y ∷ xs) x zero l = absurd (omega arith)
    get_or-end (y ∷ xs) x (suc n) l = get_or-end xs x n (omega arith)

pub each-whole : (P : ℕ → List HeadRule → Type 0) (xs : List (List HeadRule)) (i : ℕ) → length xs ≡ i → ((n : ℕ) → i ≤ n → P n []) → ((n : ℕ) → n < i → P n (slice_index_or xs n [])) → (n : ℕ) → P n (slice_index_or xs n [])
each-whole P xs i e p h n = elim (cases_lt n i) [
  | inl l ↦ h n l
  | inr l ↦ (let S : List HeadRule → Type 0 = λ z. P n z in subst S (sym (get_or_past xs n [] (omega (arith, e, l)))) (p n l))
]

pub same-length : {A B : Type 0} (f : A → B) (xs : List A) → length (map f xs) ≡ length xs
same-length f [] = refl
same-length f (x ∷ xs) = ap suc (same-length f xs)

pub forms-here : (book : List (List (Rule ℕ))) (n : ℕ) (rules : List (Rule ℕ)) (repeat : Option ℕ) (size most : ℕ) (forms : List HeadRule) → rules ≡ rules_at book n → forms ≡ forms_by repeat size rules → most + 1 ≡ size → IsRepeat n rules repeat → AreForms book most n forms
forms-here book n rules repeat size most forms p q e h =
    let P : List (Rule ℕ) → Type 0 = λ rs. IsRepeat n rs repeat in
    are_forms book n repeat size most forms (q ∙ ap (forms_by repeat size) p) e (subst P p h)
