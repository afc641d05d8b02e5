-- Steps of sorting the rules of a book by their kinds.
use Rattle.std.proofs.Common.{◌≡◌, ◌≢◌, ℕ, suc, ◌+◌, ◌<◌, ◌≤◌, Bool, true, false, List, [], ◌∷◌, ◌++◌, length, map, take, get_or, refl, sym, ap, ◌∙◌, subst, inl, inr, arith, append-nil, append_assoc, Vec, Global}
use Rattle.std.specs.Prelude.{Some, nat_eq, if◌then◌else◌, slice_get, slice_index_or, slice_set, Contains}
use Rattle.std.specs.List.{flat_map}
use Rattle.std.proofs.lemmas.Bool.{cases_lt}
use Rattle.std.proofs.lemmas.Bool.Decides.{nat_tests}
use Rattle.std.proofs.lemmas.Grind.{flat_map-append}
use Rattle.std.proofs.lemmas.List.{get_or_append_left, get_or-map, get_or_past, get_or_push, length-map, map-append, map_more}
use Rattle.cls_base.specs.declared.rule.Rule.{Rule}
use Rattle.cls_base.specs.declared.rule.Rule.TheVariants.{Head, Any}
use Rattle.cls_base.specs.Languages.{NodeRule, rules_at}
use Rattle.cls_base.proofs.Lists.{Contains-nil}
use Rattle.cls_base.specs.Books.{HaveNodesBelow, HasNodesBelow}
use Rattle.cls_enum.specs.Candidates.{over}
use Rattle.cls_enum.specs.Members.{IsIn}
use Rattle.cls_enum.proofs.Members.{none_in, in_from, take-whole}
use Rattle.cls_walk.specs.Counts.{HeadRule, heads_of, pairs_of}
use Rattle.cls_walk.specs.FrameColumns.{made_of, pair_of}
use Rattle.cls_walk.specs.FrameRules.{made_by, made_one, mades_at, pairs_at, ArePairsWithin}
use Rattle.cls_walk.specs.Frames.{pairs_from}
use Rattle.cls_walk.specs.declared.rules.Made.{Made}
use Rattle.cls_walk.specs.declared.rules.Pair.{Pair}
use Rattle.cls_walk.proofs.Columns.{rules-next}
use Rattle.cls_walk.proofs.FrameSteps.{in-pairs, equal}
use Rattle.cls_walk.proofs.OrderSteps.{heads-next}
use Rattle.cls_walk.proofs.Stretches.{column-same, column-other, same_or_not}

abbrev pub no-pair : Pair
no-pair = record { left = 0; right = 0 }

-- one element more, each of which has the property of its place
pub each-more : {A : Type 0} (P : ℕ → A → Type 0) (d : A) (old new : List A) (x : A) (i : ℕ) → new ≡ old ++ x ∷ [] → length old ≡ i → ((n : ℕ) → n < i → P n (get_or old n d)) → P i x → (n : ℕ) → n < i + 1 → P n (get_or new n d)
each-more {A} P d old new x i p e h q n l =
    let R : List A → Type 0 = λ zs. P n (get_or zs n d) in
    let S : A → Type 0 = λ z. P n z in
    subst R (sym p) (elim (cases_lt n i) [
      | inl m ↦ subst S (sym (get_or_append_left old (x ∷ []) d n (omega (arith, e, m)))) (h n m)
      | inr m ↦
          let z : i ≡ n = omega arith in
          let T : A → Type 0 = λ y. P i y in
          let U : ℕ → Type 0 = λ k. P k (get_or (old ++ x ∷ []) k d) in
          subst U z (subst T (sym (get_or_push old x d i e)) q)
    ])

-- the same in columns
pub columns-more : {A C : Type 0} (f : C → List A) (P : ℕ → List A → Type 0) (old new : List C) (x : C) (i : ℕ) → new ≡ old ++ x ∷ [] → length old ≡ i → ((n : ℕ) → n < i → P n (slice_index_or (map f old) n [])) → P i (f x) → (n : ℕ) → n < i + 1 → P n (slice_index_or (map f new) n [])
columns-more f P old new x i p e h q =
    each-more P [] (map f old) (map f new) (f x) i (ap (λ zs. map f zs) p ∙ map-append f old (x ∷ [])) (length-map old f ∙ e) h q

-- the property of all places, where it holds of the empty column past the last one
pub columns-whole : {A C : Type 0} (f : C → List A) (P : ℕ → List A → Type 0) (xs : List C) (i : ℕ) → length xs ≡ i → ((n : ℕ) → i ≤ n → P n []) → ((n : ℕ) → n < i → P n (slice_index_or (map f xs) n [])) → (n : ℕ) → P n (slice_index_or (map f xs) n [])
columns-whole {A} f P xs i e p h n = elim (cases_lt n i) [
  | inl l ↦ h n l
  | inr l ↦ (let S : List A → Type 0 = λ z. P n z in subst S (sym (get_or_past (map f xs) n [] (omega (arith, e, l, length-map xs f)))) (p n l))
]

-- a list that is seen element by element, with one more or none
pub seen-more : {A B : Type 0} (f : A → B) (old new : List A) (x : A) (ys : List B) → new ≡ old ++ x ∷ [] → ys ≡ f x ∷ [] → map f new ≡ map f old ++ ys
seen-more {A} {B} f old new x ys p q = ap (λ (zs : List A). map f zs) p ∙ map-append f old (x ∷ []) ∙ ap (λ (zs : List B). map f old ++ zs) (sym q)

pub seen-none : {B : Type 0} (xs ys : List B) → ys ≡ [] → xs ≡ xs ++ ys
seen-none {B} xs ys q = sym (append-nil xs) ∙ ap (λ (zs : List B). xs ++ zs) (sym q)

-- one rule more
pub heads-step : (rs : List (Rule ℕ)) (i : ℕ) (r : Rule ℕ) (old new : List HeadRule) → slice_get rs i ≡ Some r → old ≡ heads_of (take i rs) → new ≡ old ++ heads_of (r ∷ []) → new ≡ heads_of (take (i + 1) rs)
heads-step rs i r old new p h q = q ∙ ap (λ (hs : List HeadRule). hs ++ heads_of (r ∷ [])) h ∙ heads-next rs i r p

pairs-push : (rs : List (Rule ℕ)) (r : Rule ℕ) → pairs_of (rs ++ r ∷ []) ≡ pairs_of rs ++ pairs_of (r ∷ [])
pairs-push [] r = refl
pairs-push (Head x ns ∷ rs) r = pairs-push rs r
pairs-push (Any l m ∷ rs) r = ap (λ (ps : List (ℕ × ℕ)). (l, m) ∷ ps) (pairs-push rs r)

pub pairs-step : (rs : List (Rule ℕ)) (i : ℕ) (r : Rule ℕ) (old new : List (ℕ × ℕ)) → slice_get rs i ≡ Some r → old ≡ pairs_of (take i rs) → new ≡ old ++ pairs_of (r ∷ []) → new ≡ pairs_of (take (i + 1) rs)
pairs-step rs i r old new p h q =
    q ∙ ap (λ (ps : List (ℕ × ℕ)). ps ++ pairs_of (r ∷ [])) h ∙ sym (pairs-push (take i rs) r) ∙ ap pairs_of (sym (rules-next rs i r p))

-- the rules past the last node
pub heads-past : (book : List (List (Rule ℕ))) (n : ℕ) → length book ≤ n → [] ≡ heads_of (rules_at book n)
heads-past book n l = sym (ap heads_of (get_or_past book n [] l))

pub pairs-past : (book : List (List (Rule ℕ))) (n : ℕ) → length book ≤ n → [] ≡ pairs_of (rules_at book n)
pairs-past book n l = sym (ap pairs_of (get_or_past book n [] l))

-- nodes of the rules of nodes
pair-within : (n l m : ℕ) (rs : List (Rule ℕ)) → HaveNodesBelow n rs → IsIn rs (Any l m) → (l < n) × (m < n)
pair-within n l m [] h i = absurd i
pair-within n l m (r ∷ rs) h (inl e) = let P : Rule ℕ → Type 0 = λ z. HasNodesBelow n z in subst P e h.0
pair-within n l m (r ∷ rs) h (inr i) = pair-within n l m rs h.1 i

rule-node : (book : List (List (Rule ℕ))) (n : ℕ) (r : Rule ℕ) → NodeRule book n r → n < length book
rule-node book n r c = elim (cases_lt n (length book)) [
  | inl l ↦ l
  | inr l ↦ absurd (let P : List (Rule ℕ) → Type 0 = λ rs. Contains rs r in Contains-nil r (subst P (get_or_past book n [] l) c))
]

pub pairs-within : (book : List (List (Rule ℕ))) (i : ℕ) → length book ≤ i → ((n : ℕ) → n < i → HaveNodesBelow (length book) (rules_at book n)) → ArePairsWithin book
pairs-within book i l h n a b c =
    let w = h n (let z = rule-node book n (Any a b) c in omega (arith, z, l)) in
    pair-within (length book) a b (rules_at book n) w (in_from (rules_at book n) (Any a b) c)

-- what holds of one number more
pub below-more : (P : ℕ → Type 0) (i : ℕ) → ((n : ℕ) → n < i → P n) → P i → (n : ℕ) → n < i + 1 → P n
below-more P i h q n l = elim (cases_lt n i) [
  | inl m ↦ h n m
  | inr m ↦ (let z : i ≡ n = omega arith in subst P z q)
]

-- one more of what a node's pairs make
add-if : (xs : List (ℕ × ℕ)) (t : Bool) (y : ℕ × ℕ) → t ≡ true → xs ++ y ∷ [] ≡ xs ++ (if t then y ∷ [] else [])
add-if xs true y e = refl
add-if xs false y e = absurd (cc)

add-not : (xs : List (ℕ × ℕ)) (t : Bool) (y : ℕ × ℕ) → t ≡ false → xs ≡ xs ++ (if t then y ∷ [] else [])
add-not xs true y e = absurd (cc)
add-not xs false y e = sym (append-nil xs)

differ : (a b : ℕ) → b ≢ a → nat_eq a b ≡ false
differ a b d = grind (arith, nat_tests)

pub put-made : (l left : ℕ) (olds : List (Vec Made Global)) (old new : Vec Made Global) (x : Made) → left < length olds → old ≡ get_or olds left old → new.items ≡ old.items ++ x ∷ []
    → mades_at (slice_set olds left new) l ≡ mades_at olds l ++ (if nat_eq left l then made_of x ∷ [] else [])
put-made l left olds old new x w e p =
    let f : Vec Made Global → List Made = λ v. v.items in
    elim (same_or_not l left) [
      | inl q ↦
          let P : ℕ → Type 0 = λ k. mades_at (slice_set olds left new) k ≡ mades_at olds k ++ (if nat_eq left k then made_of x ∷ [] else []) in
          let here : slice_index_or (map f olds) left [] ≡ old.items = get_or-map f olds left old [] w ∙ ap f (sym e) in
          let a : mades_at (slice_set olds left new) left ≡ mades_at olds left ++ made_of x ∷ [] =
          ap (λ (zs : List Made). map made_of zs) (column-same f olds left new w ∙ p) ∙ map-append made_of old.items (x ∷ []) ∙ ap (λ (zs : List Made). map made_of zs ++ made_of x ∷ []) (sym here) in
          subst P (sym q) (a ∙ add-if (mades_at olds left) (nat_eq left left) (made_of x) (equal left left refl))
      | inr d ↦
          ap (λ (zs : List Made). map made_of zs) (column-other f olds left l new d) ∙ add-not (mades_at olds l) (nat_eq left l) (made_of x) (differ left l d)
    ]

-- nothing is put past the last node
pub put-none : (l left : ℕ) (olds : List (Vec Made Global)) (x : Made) → length olds ≤ left → l < length olds → mades_at olds l ≡ mades_at olds l ++ (if nat_eq left l then made_of x ∷ [] else [])
put-none l left olds x w m = add-not (mades_at olds l) (nat_eq left l) (made_of x) (differ left l (λ e. omega (arith, e, w, m)))

-- one pair more
pub made-more : (l k : ℕ) (ps : List Pair) (i : ℕ) (olds mid new : List (ℕ × ℕ)) → i < length ps → mid ≡ olds ++ made_by l k (map pair_of (take i ps)) → new ≡ mid ++ made_one l k (pair_of (get_or ps i no-pair)) → new ≡ olds ++ made_by l k (map pair_of (take (i + 1) ps))
made-more l k ps i olds mid new w h q =
    let p = pair_of (get_or ps i no-pair) in
    let f : ℕ × ℕ → List (ℕ × ℕ) = made_one l k in
    let before = map pair_of (take i ps) in
    let a : made_by l k (map pair_of (take (i + 1) ps)) ≡ made_by l k before ++ made_one l k p =
    ap (λ (zs : List (ℕ × ℕ)). flat_map f zs) (map_more pair_of ps i no-pair w)
    ∙ flat_map-append f before (p ∷ [])
    ∙ ap (λ (zs : List (ℕ × ℕ)). flat_map f before ++ zs) (append-nil (f p)) in
    q
    ∙ ap (λ (zs : List (ℕ × ℕ)). zs ++ made_one l k p) h
    ∙ append_assoc olds (made_by l k before) (made_one l k p)
    ∙ ap (λ (zs : List (ℕ × ℕ)). olds ++ zs) (sym a)

pub made-whole : (l k : ℕ) (ps : List Pair) (i : ℕ) (olds new : List (ℕ × ℕ)) → length ps ≤ i → new ≡ olds ++ made_by l k (map pair_of (take i ps)) → new ≡ olds ++ made_by l k (map pair_of ps)
made-whole l k ps i olds new w h = let P : List Pair → Type 0 = λ zs. new ≡ olds ++ made_by l k (map pair_of zs) in subst P (take-whole i ps w) h

pub made-none : (xs : List (ℕ × ℕ)) → xs ≡ xs ++ []
made-none xs = sym (append-nil xs)

-- one node more
pub over-more : (f : ℕ → List (ℕ × ℕ)) (i : ℕ) (mid new : List (ℕ × ℕ)) → mid ≡ over i f → new ≡ mid ++ f i → new ≡ over (i + 1) f
over-more f i mid new p q =
    let e : suc i ≡ i + 1 = omega arith in
    q ∙ ap (λ (zs : List (ℕ × ℕ)). zs ++ f i) p ∙ ap (λ (k : ℕ). over k f) e

-- what the pairs of all nodes make
pub mades-whole : (book : List (List (Rule ℕ))) (pairs : List (Vec Pair Global)) (makes : List (Vec Made Global)) (count : ℕ) → count ≡ length book → ((n : ℕ) → pairs_at pairs n ≡ pairs_of (rules_at book n)) → ArePairsWithin book → length makes ≡ count
    → ((l : ℕ) → l < count → mades_at makes l ≡ over count (λ k. made_by l k (pairs_at pairs k))) → (n : ℕ) → mades_at makes n ≡ pairs_from book n
mades-whole book pairs makes count e h w m f n = elim (cases_lt n count) [
  | inl l ↦
      f n l
      ∙ ap (λ (c : ℕ). over c (λ k. made_by n k (pairs_at pairs k))) e
      ∙ (λ i. over (length book) (λ k. made_by n k (h k i)))
  | inr l ↦
      ap (λ (zs : List Made). map made_of zs) (get_or_past (map (λ (v : Vec Made Global). v.items) makes) n [] (omega (arith, m, l, length-map makes (λ (v : Vec Made Global). v.items))))
      ∙ sym (none_in (pairs_from book n) (λ q i. let b = (w q.1 n q.0 (in-pairs book n q i)).0 in omega (arith, b, e, l)))
]
