-- Steps of finding the terms of a cell.
use Rattle.std.proofs.Common.{◌≡◌, ℕ, zero, suc, ◌+◌, ◌-◌, ◌<◌, ◌≤◌, List, [], ◌∷◌, ◌++◌, length, map, take, get_or, refl, sym, ap, ◌∙◌, subst, inl, inr, arith, add-one, append-nil, Bool, true, false}
use Rattle.std.specs.Prelude.{◌⊎◌, Contains, nat_eq, nat_le, ◌&&◌, if◌then◌else◌}
use Rattle.std.specs.List.{flat_map}
use Rattle.std.proofs.lemmas.List.{take_more, length-map, map-append}
use Rattle.std.proofs.lemmas.List.Concat.{flat_map-append}
use Rattle.std.proofs.lemmas.Bool.Decides.{nat_tests}
use Rattle.std.proofs.lemmas.Bool.{cases_lt}
use Rattle.cls_base.specs.Lists.{AreDistinct, AreBelow}
use Rattle.cls_base.specs.Terms.{Applicative, component, apply, length_of}
use Rattle.cls_base.specs.Spines.{spine}
use Rattle.cls_term.proofs.Banks.{term_by-one_to_one}
use Rattle.cls_base.proofs.Lists.{AreDistinct-push}
use Rattle.cls_term.proofs.Spines.{spine-append, length_at_least_one}
use Rattle.cls_term.specs.Banks.{at, term_by, IsJoined}
use Rattle.cls_enum.specs.Candidates.{over, fills}
use Rattle.cls_enum.specs.Members.{IsIn, AreFound, IsAdded, IsOverfull, SpinesBelow}
use Rattle.cls_enum.specs.Plans.{nodes_of, IsBarren, ArePruned}
use Rattle.cls_enum.specs.declared.plan.Place.{Place}
use Rattle.cls_enum.proofs.Members.{in_from, in_to, in_left, in_right, in_cases, in_map}

-- a spine with one more argument
pub term_by-push : (ts : List Applicative) (x : ℕ) (args : List ℕ) (a : ℕ) → term_by ts (x, args ++ a ∷ []) ≡ apply (term_by ts (x, args)) (at ts a)
term_by-push ts x args a = ap (spine (component x)) (map-append (at ts) args (a ∷ [])) ∙ spine-append (component x) (map (at ts) args) (at ts a ∷ [])

pub AreBelow-push : (n : ℕ) (bs : List ℕ) (b : ℕ) → AreBelow n bs → b < n → AreBelow n (bs ++ b ∷ [])
AreBelow-push n [] b h l = (l, tt)
AreBelow-push n (c ∷ bs) b h l = (h.0, AreBelow-push n bs b h.1 l)

SpinesBelow-push : (n : ℕ) (ks : List (ℕ × List ℕ)) (k : ℕ × List ℕ) → SpinesBelow n ks → AreBelow n k.1 → SpinesBelow n (ks ++ k ∷ [])
SpinesBelow-push n [] k h l = (l, tt)
SpinesBelow-push n (c ∷ bs) b h l = (h.0, SpinesBelow-push n bs b h.1 l)

SpinesBelow-in : (n : ℕ) (ks : List (ℕ × List ℕ)) (k : ℕ × List ℕ) → SpinesBelow n ks → IsIn ks k → AreBelow n k.1
SpinesBelow-in n [] k h i = absurd i
SpinesBelow-in n (c ∷ ks) k h (inl p) = let P : ℕ × List ℕ → Type 0 = λ q. AreBelow n q.1 in subst P p h.0
SpinesBelow-in n (c ∷ ks) k h (inr i) = SpinesBelow-in n ks k h.1 i

map_in : (ts : List Applicative) (ks : List (ℕ × List ℕ)) (k : ℕ × List ℕ) → IsIn ks k → IsIn (map (term_by ts) ks) (term_by ts k)
map_in ts [] k i = absurd i
map_in ts (c ∷ ks) k (inl p) = inl (ap (term_by ts) p)
map_in ts (c ∷ ks) k (inr i) = inr (map_in ts ks k i)

module _ (ts : List Applicative) where
  pub IsAdded-none : (old : List (ℕ × List ℕ)) → AreFound ts old → IsAdded ts old [] old
  IsAdded-none old h = record { found = h; joined = λ e. ((λ i. inl i), (λ q. elim q [ inl i ↦ i | inr i ↦ absurd i ])) }

  pub IsAdded-same : (old new : List (ℕ × List ℕ)) (xs ys : List Applicative) → xs ≡ ys → IsAdded ts old xs new → IsAdded ts old ys new
  IsAdded-same old new xs ys p h = subst (λ (zs : List Applicative). IsAdded ts old zs new) p h

  pub IsAdded-append : (old mid new : List (ℕ × List ℕ)) (xs ys : List Applicative) → IsAdded ts old xs mid → IsAdded ts mid ys new → IsAdded ts old (xs ++ ys) new
  IsAdded-append old mid new xs ys h i = record {
    found = i.found;
    joined = λ e. (
      (λ j. elim ((i.joined e).0 j) [
        | inl m ↦ elim ((h.joined e).0 m) [ inl o ↦ inl o | inr x ↦ inr (in_left xs ys e x) ]
        | inr y ↦ inr (in_right xs ys e y)
      ]),
      (λ q. elim q [
        | inl o ↦ (i.joined e).1 (inl ((h.joined e).1 (inl o)))
        | inr m ↦ elim (in_cases xs ys e m) [
          | inl x ↦ (i.joined e).1 (inl ((h.joined e).1 (inr x)))
          | inr y ↦ (i.joined e).1 (inr y)
        ]
      ]),
    );
  }

  -- too many where more is still to come
  pub IsOverfull-within : (limit : ℕ) (old mid : List (ℕ × List ℕ)) (xs ys all : List Applicative) → IsAdded ts old xs mid → ((e : Applicative) → IsIn xs e → IsIn all e) → ((e : Applicative) → IsIn ys e → IsIn all e) → IsOverfull limit (map (term_by ts) mid) ys → IsOverfull limit (map (term_by ts) old) all
  IsOverfull-within limit old mid xs ys all h f g o = (
    o.0,
    o.1,
    (λ e i. elim (o.2 e i) [
      | inl m ↦ elim ((h.joined e).0 m) [ inl q ↦ inl q | inr x ↦ inr (f e x) ]
      | inr y ↦ inr (g e y)
    ]),
    o.3,
  )

  -- too many are found
  pub IsOverfull-found : (limit : ℕ) (old new : List (ℕ × List ℕ)) (xs : List Applicative) → IsAdded ts old xs new → limit < length new → IsOverfull limit (map (term_by ts) old) xs
  IsOverfull-found limit old new xs h l = (map (term_by ts) new, h.found.different, (λ e i. (h.joined e).0 i), omega (arith, length-map new (term_by ts)))

  -- one spine
  pub IsAdded-spine : (old new : List (ℕ × List ℕ)) (k : ℕ × List ℕ) → AreDistinct ts → AreFound ts old → AreBelow (length ts) k.1 → length_of (term_by ts k) ≤ 64 → IsJoined old k new → IsAdded ts old (term_by ts k ∷ []) new
  IsAdded-spine old new k n h b l (inl (c, p)) =
      let i = map_in ts old k (in_from old k c) in
      subst (λ (ks : List (ℕ × List ℕ)). IsAdded ts old (term_by ts k ∷ []) ks) (sym p) (record {
        found = h;
        joined = λ e. (
          (λ j. inl j),
          (λ q. elim q [ inl j ↦ j | inr j ↦ elim j [ inl d ↦ (let P : Applicative → Type 0 = λ x. IsIn (map (term_by ts) old) x in subst P d i) | inr z ↦ absurd z ] ]),
        );
      })
  IsAdded-spine old new k n h b l (inr (c, p)) =
      let e = map-append (term_by ts) old (k ∷ []) in
      let T : List Applicative → Type 0 = λ xs. AreDistinct xs in
      let fresh : Contains (map (term_by ts) old) (term_by ts k) → ⊥ = λ q.
      let r = in_map (term_by ts) old (term_by ts k) (in_from (map (term_by ts) old) (term_by ts k) q) in
      let s = term_by-one_to_one ts r.0 k n (SpinesBelow-in (length ts) old r.0 h.below r.1) b r.2 in
      let P : ℕ × List ℕ → Type 0 = λ z. IsIn old z in
      c (in_to old k (subst P s r.1)) in
      let J : List Applicative → Type 0 = λ xs. (x : Applicative) → IsIn xs x → length_of x ≤ 64 in
      let short : J (map (term_by ts) old ++ term_by ts k ∷ []) = λ x i. elim (in_cases (map (term_by ts) old) (term_by ts k ∷ []) x i) [
        | inl j ↦ h.short x j
        | inr j ↦ elim j [ inl d ↦ (let P : Applicative → Type 0 = λ z. length_of z ≤ 64 in subst P d l) | inr z ↦ absurd z ]
      ] in
      subst (λ (ks : List (ℕ × List ℕ)). IsAdded ts old (term_by ts k ∷ []) ks) (sym p) (record {
        found = record {
          below = SpinesBelow-push (length ts) old k h.below b;
          different = subst T (sym e) (AreDistinct-push (map (term_by ts) old) (term_by ts k) h.different fresh);
          short = subst J (sym e) short;
        };
        joined = λ x. (
          (λ j. in_cases (map (term_by ts) old) (term_by ts k ∷ []) x (let P : List Applicative → Type 0 = λ xs. IsIn xs x in subst P e j)),
          (λ q. let P : List Applicative → Type 0 = λ xs. IsIn xs x in subst P (sym e) (elim q [ inl j ↦ in_left (map (term_by ts) old) (term_by ts k ∷ []) x j | inr j ↦ in_right (map (term_by ts) old) (term_by ts k ∷ []) x j ])),
        );
      })

pub over-next : {A : Type 0} (n : ℕ) (f : ℕ → List A) → over (n + 1) f ≡ over n f ++ f n
over-next n f = rw add-one refl

pub over-none : {A : Type 0} (n : ℕ) (f : ℕ → List A) → ((t : ℕ) → t < n → f t ≡ []) → over n f ≡ []
over-none zero f h = refl
over-none (suc n) f h = (λ i. over-none n f (λ t l. h t (omega arith)) i ++ h n (omega arith) i)

pub flat_map-none : {A B : Type 0} (f : A → List B) (xs : List A) → ((x : A) → f x ≡ []) → flat_map f xs ≡ []
flat_map-none f [] h = refl
flat_map-none f (x ∷ xs) h = (λ i. h x i ++ flat_map-none f xs h i)

pub flat_map-next : (ts : List Applicative) (f : Applicative → List Applicative) (numbers : List ℕ) (i : ℕ) → i < length numbers → flat_map f (map (at ts) (take (i + 1) numbers)) ≡ flat_map f (map (at ts) (take i numbers)) ++ f (at ts (get_or numbers i 0))
flat_map-next ts f numbers i l =
    ap (λ (ns : List ℕ). flat_map f (map (at ts) ns)) (take_more numbers i 0 l)
    ∙ ap (flat_map f) (map-append (at ts) (take i numbers) (get_or numbers i 0 ∷ []))
    ∙ flat_map-append f (map (at ts) (take i numbers)) (at ts (get_or numbers i 0) ∷ [])
    ∙ ap (λ (ys : List Applicative). flat_map f (map (at ts) (take i numbers)) ++ ys) (append-nil (f (at ts (get_or numbers i 0))))

pub at_in : (ts : List Applicative) (numbers : List ℕ) (i : ℕ) → i < length numbers → IsIn (map (at ts) numbers) (at ts (get_or numbers i 0))
at_in ts [] i l = absurd (omega arith)
at_in ts (n ∷ numbers) zero l = inl refl
at_in ts (n ∷ numbers) (suc i) l = inr (at_in ts numbers i (omega arith))

pub take_in : (ts : List Applicative) (numbers : List ℕ) (i : ℕ) (e : Applicative) → IsIn (map (at ts) (take i numbers)) e → IsIn (map (at ts) numbers) e
take_in ts numbers zero e h = absurd h
take_in ts [] (suc i) e h = absurd h
take_in ts (n ∷ numbers) (suc i) e (inl p) = inl p
take_in ts (n ∷ numbers) (suc i) e (inr h) = inr (take_in ts numbers i e h)

-- a leaf that passes both tests, and one that doesn't
fills-leaf : (cell : ℕ → ℕ → List Applicative) (f : Applicative) (rest : ℕ) → rest ≡ 0 → length_of f ≤ 64 → fills cell f [] rest ≡ f ∷ []
fills-leaf cell f rest p q = chosen (nat_eq rest 0 && nat_le (length_of f) 64) (f ∷ []) (grind (arith, nat_tests))
  where
    chosen : (b : Bool) (xs : List Applicative) → b ≡ true → (if b then xs else []) ≡ xs
    chosen true xs p = refl
    chosen false xs p = absurd (cc)

fills-no_leaf : (cell : ℕ → ℕ → List Applicative) (f : Applicative) (rest : ℕ) → (0 < rest) ⊎ (64 < length_of f) → fills cell f [] rest ≡ []
fills-no_leaf cell f rest h = chosen (nat_eq rest 0 && nat_le (length_of f) 64) (f ∷ []) (elim h [ inl l ↦ grind (arith, nat_tests) | inr l ↦ grind (arith, nat_tests) ])
  where
    chosen : (b : Bool) (xs : List Applicative) → b ≡ false → (if b then xs else []) ≡ []
    chosen true xs p = absurd (cc)
    chosen false xs p = refl

-- nothing is found where the places are barren
pub fills-barren : (cell : ℕ → ℕ → List Applicative) (places : List Place) (f : Applicative) (rest n : ℕ) → ArePruned cell places → n ≤ length_of f → IsBarren places rest n → fills cell f (nodes_of places) rest ≡ []
fills-barren cell [] f rest n h l (inl b) = fills-no_leaf cell f rest (inl b)
fills-barren cell [] f rest n h l (inr b) = fills-no_leaf cell f rest (inr (omega arith))
fills-barren cell (p ∷ places) f rest n h l b = h.0 rest f (omega arith)

pub each-barren : (cell : ℕ → ℕ → List Applicative) (places : List Place) (f : Applicative) (rest n : ℕ) (xs : List Applicative) → ArePruned cell places → n ≤ length_of f → IsBarren places rest (n + 1) → flat_map (λ a. fills cell (apply f a) (nodes_of places) rest) xs ≡ []
each-barren cell places f rest n xs h l b = flat_map-none (λ a. fills cell (apply f a) (nodes_of places) rest) xs (λ a. fills-barren cell places (apply f a) rest (n + 1) h (omega (arith, length_at_least_one a)) b)

-- at the last place nothing is found but at the whole rest
pub last-barren : (cell : ℕ → ℕ → List Applicative) (f : Applicative) (rest t : ℕ) (xs : List Applicative) → t < rest → flat_map (λ a. fills cell (apply f a) [] (rest - t)) xs ≡ []
last-barren cell f rest t xs l = flat_map-none (λ a. fills cell (apply f a) [] (rest - t)) xs (λ a. fills-no_leaf cell (apply f a) (rest - t) (inl (omega arith)))

pub leaf-found : (cell : ℕ → ℕ → List Applicative) (f : Applicative) (rest n : ℕ) → n ≡ length_of f → (IsBarren [] rest n → ⊥) → fills cell f [] rest ≡ f ∷ []
leaf-found cell f rest n p h = fills-leaf cell f rest (zero_of rest (λ l. h (inl l))) (at_most_of n (length_of f) p (λ l. h (inr l)))
  where
    zero_of : (r : ℕ) → (0 < r → ⊥) → r ≡ 0
    zero_of zero h = refl
    zero_of (suc r) h = absurd (h (omega arith))

    at_most_of : (n m : ℕ) → n ≡ m → (64 < n → ⊥) → m ≤ 64
    at_most_of n m p h = elim (cases_lt 64 n) [ inl l ↦ absurd (h l) | inr l ↦ omega arith ]
