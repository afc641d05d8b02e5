-- Paths in groups, each made less by itself.
use Rattle.std.proofs.Common.{◌≡◌, refl, sym, ◌∙◌, ap, subst, ℕ, zero, suc, ◌+◌, ◌<◌, ◌≤◌, Bool, true, false, cond, ◌||◌, List, [], ◌∷◌, ◌++◌, length, map, Some, None, ◌⊎◌, ◌↔◌, inl, inr, arith}
use Rattle.std.specs.Prelude.{Contains, slice_set, slice_index_or, nat_lt}
use Rattle.std.specs.List.{IsDistinct, AllByRecursion, position, position_or_len, list_any}
use Rattle.std.specs.List.Sorted.{IsPermutation, IsSortedBy}
use Rattle.std.specs.Ordering.{is_lt}
use Rattle.std.specs.declared.cmp.Ordering.{Ordering}
use Rattle.std.specs.declared.cmp.Ordering.TheVariants.{Less, Equal, Greater}
use Rattle.std.proofs.lemmas.Bool.{false≢true}
use Rattle.std.proofs.lemmas.List.Elements.{Contains-push, Contains-push_cases, Contains-append_left, Contains-append_right, Contains-append_cases}
use Rattle.std.proofs.lemmas.List.MinMax.{ranks_by}
use Rattle.std.proofs.lemmas.List.Quantifiers.{position-Some}
use Rattle.std.proofs.lemmas.List.Sorted.{sorted_far, Contains-permutation, IsPermutation-refl, IsPermutation-sym}
use Rattle.std.proofs.lemmas.Map.Keys.{IsDistinct-head, IsDistinct-tail, IsDistinct-cons, IsDistinct-IsPermutation}
use Rattle.cls_base.proofs.Lists.{Contains-nil, Contains-here, Contains-later, Contains-cases}
use Rattle.cls_base.specs.Taxonomies.{Variance}
use Rattle.cls_base.specs.Taxa.{Below}
use Rattle.cls_path.specs.declared.label.GroupKey.{GroupKey}
use Rattle.cls_path.specs.declared.label.Mask.{Mask}
use Rattle.cls_path.specs.Paths.{TypePath, none, PathLe, PathsLe, InPaths, Suits, SuitsAll, listed, type_of_paths}
use Rattle.cls_path.specs.NormalForms.{PathBefore, LeadsAntichain, IsCanonical, EachCanonical, IsNormalForm}
use Rattle.cls_path.specs.PathOrder.{path_order}
use Rattle.cls_path.specs.OrderLaws.{path_order_total, order_same}
use Rattle.cls_path.specs.Tests.{path_below}
use Rattle.cls_path.specs.Labels.{key_of, digest_of, Fits}
use Rattle.cls_path.specs.Groups.{Holds, AreKeyed, comparable, AreApart, AreGroups, IsReduced}
use Rattle.cls_path.proofs.Sorting.{path_order-greater}
use Rattle.cls_path.proofs.Completeness.{covered, covers_all, covers_subset, le_refl}
use Rattle.cls_path.proofs.Transitivity.{covers_trans}
use Rattle.cls_path.proofs.RoundTrip.{append_none, paths_back}
use Rattle.cls_path.proofs.Decided.{le_tested, tested_le}
use Rattle.cls_path.proofs.Ascending.{in_contained, contained_in}
use Rattle.cls_path.proofs.Remains.{Remains, suits_within, canonical_within}
use Rattle.cls_path.proofs.LabelLaws.{key_same}

-- where a path stands after a group was put last
held_last_from : (gs : List (List TypePath)) (g : List TypePath) (q : TypePath) → Holds (gs ++ g ∷ []) q → Holds gs q ⊎ Contains g q
held_last_from [] g q h = elim h [ inl c ↦ inr c | inr e ↦ absurd e ]
held_last_from (f ∷ gs) g q h = elim h [
  | inl c ↦ inl (inl c)
  | inr k ↦ elim (held_last_from gs g q k) [ inl a ↦ inl (inr a) | inr b ↦ inr b ]
]

held_last_old : (gs : List (List TypePath)) (g : List TypePath) (q : TypePath) → Holds gs q → Holds (gs ++ g ∷ []) q
held_last_old [] g q h = absurd h
held_last_old (f ∷ gs) g q h = elim h [ inl c ↦ inl c | inr k ↦ inr (held_last_old gs g q k) ]

held_last_new : (gs : List (List TypePath)) (g : List TypePath) (q : TypePath) → Contains g q → Holds (gs ++ g ∷ []) q
held_last_new [] g q c = inl c
held_last_new (f ∷ gs) g q c = inr (held_last_new gs g q c)

only_one : (p q : TypePath) → Contains (p ∷ []) q → q ≡ p
only_one p q c = elim (Contains-cases p [] q c) [ inl e ↦ e | inr k ↦ absurd (Contains-nil q k) ]

one_only : (p q : TypePath) → q ≡ p → Contains (p ∷ []) q
one_only p q e = subst (λ x. Contains (p ∷ []) x) (sym e) (Contains-here p [])

-- a new group of one path
pub held_opened : (gs : List (List TypePath)) (p q : TypePath) → Holds (gs ++ (p ∷ []) ∷ []) q ↔ (Holds gs q ⊎ (q ≡ p))
held_opened gs p q = (
  λ h. elim (held_last_from gs (p ∷ []) q h) [ inl a ↦ inl a | inr b ↦ inr (only_one p q b) ],
  λ h. elim h [ inl a ↦ held_last_old gs (p ∷ []) q a | inr e ↦ held_last_new gs (p ∷ []) q (one_only p q e) ],
)

-- the path behind the group at k
abbrev pub put_at : List (List TypePath) → ℕ → TypePath → List (List TypePath)
put_at gs k p = slice_set gs k (slice_index_or gs k [] ++ p ∷ [])

held_put_from : (gs : List (List TypePath)) (k : ℕ) (p q : TypePath) → Holds (put_at gs k p) q → Holds gs q ⊎ (q ≡ p)
held_put_from [] k p q h = absurd h
held_put_from (g ∷ gs) zero p q h = elim h [
  | inl c ↦ elim (Contains-push_cases g p q c) [ inl a ↦ inl (inl a) | inr e ↦ inr (sym e) ]
  | inr k ↦ inl (inr k)
]
held_put_from (g ∷ gs) (suc k) p q h = elim h [
  | inl c ↦ inl (inl c)
  | inr r ↦ elim (held_put_from gs k p q r) [ inl a ↦ inl (inr a) | inr e ↦ inr e ]
]

held_put_old : (gs : List (List TypePath)) (k : ℕ) (p q : TypePath) → Holds gs q → Holds (put_at gs k p) q
held_put_old [] k p q h = absurd h
held_put_old (g ∷ gs) zero p q h = elim h [ inl c ↦ inl (Contains-append_left g (p ∷ []) q c) | inr r ↦ inr r ]
held_put_old (g ∷ gs) (suc k) p q h = elim h [ inl c ↦ inl c | inr r ↦ inr (held_put_old gs k p q r) ]

held_put_new : (gs : List (List TypePath)) (k : ℕ) (p : TypePath) → k < length gs → Holds (put_at gs k p) p
held_put_new [] k p l = absurd (omega arith)
held_put_new (g ∷ gs) zero p l = inl (Contains-push g p)
held_put_new (g ∷ gs) (suc k) p l = inr (held_put_new gs k p (omega arith))

pub held_put : (gs : List (List TypePath)) (k : ℕ) (p q : TypePath) → k < length gs → Holds (put_at gs k p) q ↔ (Holds gs q ⊎ (q ≡ p))
held_put gs k p q l = (
  held_put_from gs k p q,
  λ h. elim h [ inl a ↦ held_put_old gs k p q a | inr e ↦ subst (λ x. Holds (put_at gs k p) x) (sym e) (held_put_new gs k p l) ],
)

module _ (key : TypePath → GroupKey) where
  pub keyed_length : (ks : List GroupKey) (gs : List (List TypePath)) → AreKeyed key ks gs → length ks ≡ length gs
  keyed_length [] [] h = refl
  keyed_length [] (g ∷ gs) h = absurd h
  keyed_length (k ∷ ks) [] h = absurd h
  keyed_length (k ∷ ks) (g ∷ gs) h = ap suc (keyed_length ks gs h.2)

  module _ (same : GroupKey → GroupKey → Bool) (same_is : (x y : GroupKey) → same x y ≡ true → x ≡ y) (same_self : (x : GroupKey) → same x x ≡ true) where
    place_here : (x k : GroupKey) (ks : List GroupKey) → same k x ≡ true → position_or_len (same k) (x ∷ ks) ≡ 0
    place_here x k ks e = rw e refl

    place_later : (x k : GroupKey) (ks : List GroupKey) → same k x ≡ false → position_or_len (same k) (x ∷ ks) ≡ suc (position_or_len (same k) ks)
    place_later x k ks e = rw e (omega arith)

    not_same : (x : GroupKey) (p q : TypePath) → same (key p) x ≡ false → q ≡ p → key q ≡ x → ⊥
    not_same x p q e f g =
        let h : key p ≡ x = ap key (sym f) ∙ g in
        false≢true (sym e ∙ subst (λ y. same (key p) y ≡ true) h (same_self (key p)))

    -- a path into the group of its key
    pub keyed_put :
        (ks : List GroupKey) (gs : List (List TypePath)) (p : TypePath) → AreKeyed key ks gs
        → position_or_len (same (key p)) ks < length ks
        → AreKeyed key ks (put_at gs (position_or_len (same (key p)) ks) p)
    keyed_put [] gs p h l = absurd (omega arith)
    keyed_put (x ∷ ks) [] p h l = absurd h
    keyed_put (x ∷ ks) (g ∷ gs) p h l = step (same (key p) x) refl (keyed_put ks gs p h.2)
      where
        into : key p ≡ x → AreKeyed key (x ∷ ks) (put_at (g ∷ gs) 0 p)
        into e = (
          λ q c. elim (Contains-push_cases g p q c) [ inl a ↦ h.0 q a | inr f ↦ ap key (sym f) ∙ e ],
          h.1,
          h.2,
        )

        past :
            same (key p) x ≡ false → AreKeyed key ks (put_at gs (position_or_len (same (key p)) ks) p)
            → AreKeyed key (x ∷ ks) (put_at (g ∷ gs) (suc (position_or_len (same (key p)) ks)) p)
        past e later = (
          h.0,
          λ q r. elim (held_put_from gs (position_or_len (same (key p)) ks) p q r) [ inl a ↦ h.1 q a | inr f ↦ not_same x p q e f ],
          later,
        )

        step :
            (v : Bool) → same (key p) x ≡ v
            → (position_or_len (same (key p)) ks < length ks → AreKeyed key ks (put_at gs (position_or_len (same (key p)) ks) p))
            → AreKeyed key (x ∷ ks) (put_at (g ∷ gs) (position_or_len (same (key p)) (x ∷ ks)) p)
        step true e later = subst (λ k. AreKeyed key (x ∷ ks) (put_at (g ∷ gs) k p)) (sym (place_here x (key p) ks e)) (into (same_is (key p) x e))
        step false e later =
            let k = place_later x (key p) ks e in
            subst (λ k. AreKeyed key (x ∷ ks) (put_at (g ∷ gs) k p)) (sym k) (past e (later (omega (arith, k, l))))

    -- a new group for a new key
    pub keyed_opened :
        (ks : List GroupKey) (gs : List (List TypePath)) (p : TypePath) → AreKeyed key ks gs
        → list_any (same (key p)) ks ≡ false → AreKeyed key (ks ++ key p ∷ []) (gs ++ (p ∷ []) ∷ [])
    keyed_opened [] [] p h e = (λ q c. ap key (only_one p q c), λ q h k. h, tt)
    keyed_opened [] (g ∷ gs) p h e = absurd h
    keyed_opened (x ∷ ks) [] p h e = absurd h
    keyed_opened (x ∷ ks) (g ∷ gs) p h e = step (same (key p) x) refl (keyed_opened ks gs p h.2)
      where
        step :
            (v : Bool) → same (key p) x ≡ v
            → (list_any (same (key p)) ks ≡ false → AreKeyed key (ks ++ key p ∷ []) (gs ++ (p ∷ []) ∷ [])) → AreKeyed key ((x ∷ ks) ++ key p ∷ []) ((g ∷ gs) ++ (p ∷ []) ∷ [])
        step true f later = absurd (false≢true (sym e ∙ ap (λ v. v || list_any (same (key p)) ks) f))
        step false f later = (
          h.0,
          λ q r. elim ((held_opened gs p q).0 r) [ inl a ↦ h.1 q a | inr i ↦ not_same x p q f i ],
          later (sym (ap (λ v. v || list_any (same (key p)) ks) f) ∙ e),
        )

all_by : {X : Type 0} (P : X → Type 0) (xs : List X) → ((x : X) → Contains xs x → P x) → AllByRecursion P xs
all_by P [] f = tt
all_by P (x ∷ xs) f = (f x (Contains-here x xs), all_by P xs (λ y c. f y (Contains-later y x xs c)))

pub by_all : {X : Type 0} (P : X → Type 0) (xs : List X) → AllByRecursion P xs → (x : X) → Contains xs x → P x
by_all P [] a x c = absurd (Contains-nil x c)
by_all P (y ∷ xs) a x c = elim (Contains-cases y xs x c) [ inl e ↦ subst P (sym e) a.0 | inr k ↦ by_all P xs a.1 x k ]

pub distinct_none : {X : Type 0} (e : X → X → Bool) → IsDistinct e []
unfolding IsDistinct
distinct_none e = tt

-- where a key was found
pub found_place : {X : Type 0} (t : X → Bool) (ks : List X) (i : ℕ) → position t ks ≡ Some i → (position_or_len t ks ≡ i) × (i < length ks)
found_place t ks i h = (
  (elim (nat_lt (position_or_len t ks) (length ks)) as (λ v. cond v (Some (position_or_len t ks)) None ≡ Some i → position_or_len t ks ≡ i) [
    | true ↦ λ e. cc
    | false ↦ λ e. cc
  ]) h,
  found_within t ks i h,
)
  where
    found_within : {X : Type 0} (t : X → Bool) (ks : List X) (i : ℕ) → position t ks ≡ Some i → i < length ks
    found_within t [] i h = cc
    found_within t (k ∷ ks) i h = (position-Some t (k ∷ ks) i k h).0

module _ {X : Type 0} (e : X → X → Bool) where
  distinct_append :
      (n m : List X) → IsDistinct e n → IsDistinct e m → ((p q : X) → Contains n p → Contains m q → e p q ≡ false)
      → IsDistinct e (n ++ m)
  distinct_append [] m d f h = f
  distinct_append (x ∷ n) m d f h =
      IsDistinct-cons e x (n ++ m) (all_by (λ y. e x y ≡ false) (n ++ m) (λ y c. elim (Contains-append_cases n m y c) [
        | inl a ↦ by_all (λ y. e x y ≡ false) n (IsDistinct-head e x n d) y a
        | inr b ↦ h x y (Contains-here x n) b
      ])) (distinct_append n m (IsDistinct-tail e x n d) f (λ p q c. h p q (Contains-later p x n c)))

neither : (x y : Bool) → x ≡ false → y ≡ false → (x || y) ≡ false
neither true y e f = cc
neither false y e f = f

either_way : (x y : Bool) → (x || y) ≡ (y || x)
either_way true true = refl
either_way true false = refl
either_way false true = refl
either_way false false = refl

no_left : (x y : Bool) → (x || y) ≡ false → x ≡ false
no_left true y e = cc
no_left false y e = refl

module _ (test : ℕ → ℕ → Bool) (variance : ℕ → Variance) where
  pub flips : (p q : TypePath) → comparable test variance p q ≡ comparable test variance q p
  flips p q = either_way (path_below test variance p q) (path_below test variance q p)

  apart_last :
      (gs : List (List TypePath)) (g : List TypePath) → AreApart test variance (gs ++ g ∷ [])
      → AreApart test variance gs × ((p q : TypePath) → Holds gs p → Contains g q → comparable test variance p q ≡ false)
  apart_last [] g h = (tt, λ p q i c. absurd i)
  apart_last (f ∷ gs) g h =
      let r = apart_last gs g h.1 in (
        (λ p q c i. h.0 p q c (held_last_old gs g q i), r.0),
        λ p q i c. elim i [ inl a ↦ h.0 p q a (held_last_new gs g q c) | inr b ↦ r.1 p q b c ],
      )

  -- what remains of the groups, and what was made of the others
  pub record AreJoined (paths : List TypePath) (groups : List (List TypePath)) (out : List TypePath) : Type 0 where
    pub covers : (p : TypePath) → Contains paths p → Holds groups p ⊎ ((r : TypePath) × Contains out r × PathLe (Below test) variance r p)
    pub held : (p : TypePath) → Holds groups p → Contains paths p
    pub within : (p : TypePath) → Contains out p → Contains paths p
    pub apart : IsDistinct (comparable test variance) out
    pub clear : (p q : TypePath) → Holds groups p → Contains out q → comparable test variance p q ≡ false
    pub groups_apart : AreApart test variance groups

  pub joined_first : (paths : List TypePath) (groups : List (List TypePath)) → AreGroups test variance paths groups → AreJoined paths groups []
  joined_first paths groups h = record {
    covers = λ p c. inl ((h.same p).1 c);
    held = λ p i. (h.same p).0 i;
    within = λ p c. absurd (Contains-nil p c);
    apart = distinct_none (comparable test variance);
    clear = λ p q i c. absurd (Contains-nil q c);
    groups_apart = h.apart;
  }

  pub joined_held : (paths out : List TypePath) (gs : List (List TypePath)) (g : List TypePath) → AreJoined paths (gs ++ g ∷ []) out → (p : TypePath) → Contains g p → Contains paths p
  joined_held paths out gs g h p c = h.held p (held_last_new gs g p c)

  module _ (reflexive : (c : ℕ) → Below test c c) (transitive : (c d e : ℕ) → Below test c d → Below test d e → Below test c e) (one_variance : (c d : ℕ) → Below test c d → variance c ≡ variance d) where
    pub joined_more :
        (paths : List TypePath) (gs : List (List TypePath)) (g out few : List TypePath) → AreJoined paths (gs ++ g ∷ []) out
        → IsReduced test variance g few → AreJoined paths gs (out ++ few)
    joined_more paths gs g out few h r =
        let last = apart_last gs g h.groups_apart in
        record {
          covers = λ p c. elim (h.covers p c) [
            | inl i ↦ elim (held_last_from gs g p i) [
              | inl a ↦ inl a
              | inr b ↦
                  let s = covered (Below test) variance reflexive transitive (listed few) (listed g) r.lower p (contained_in g p b) in
                  inr (s.0, Contains-append_right out few s.0 (in_contained few s.0 s.1), s.2)
            ]
            | inr s ↦ inr (s.0, Contains-append_left out few s.0 s.1, s.2)
          ];
          held = λ p i. h.held p (held_last_old gs g p i);
          within = λ p c. elim (Contains-append_cases out few p c) [ inl a ↦ h.within p a | inr b ↦ joined_held paths out gs g h p (r.within p b) ];
          apart = distinct_append (comparable test variance) out few h.apart r.apart (λ p q c d. flips p q ∙ h.clear q p (held_last_new gs g q (r.within q d)) c);
          clear = λ p q i c. elim (Contains-append_cases out few q c) [ inl a ↦ h.clear p q (held_last_old gs g p i) a | inr b ↦ last.1 p q i (r.within q b) ];
          groups_apart = last.0;
        }

    pub joined_all : (paths out : List TypePath) → AreJoined paths [] out → IsReduced test variance paths out
    joined_all paths out h = record {
      within = h.within;
      apart = h.apart;
      lower = covers_all (Below test) variance reflexive transitive (listed out) (listed paths) (λ q i. elim (h.covers q (in_contained paths q i)) [
        | inl a ↦ absurd a
        | inr s ↦ (s.0, contained_in out s.0 s.1, s.2)
      ]);
    }

    not_below : (p q : TypePath) → Suits variance p → Suits variance q → (PathLe (Below test) variance p q → ⊥) → path_below test variance p q ≡ false
    not_below p q s t f = step (path_below test variance p q) refl
      where
        step : (v : Bool) → path_below test variance p q ≡ v → v ≡ false
        step false e = refl
        step true e = absurd (f (tested_le test variance reflexive transitive one_variance p q s t e))

    pub not_comparable : (p q : TypePath) → Suits variance p → Suits variance q → (PathLe (Below test) variance p q → ⊥) → (PathLe (Below test) variance q p → ⊥) → comparable test variance p q ≡ false
    not_comparable p q s t f g = neither _ _ (not_below p q s t f) (not_below q p t s g)

    suits_at : (n : List TypePath) (p : TypePath) → SuitsAll variance (listed n) → Contains n p → Suits variance p
    suits_at [] p s c = absurd (Contains-nil p c)
    suits_at (q ∷ n) p s c = elim (Contains-cases q n p c) [ inl e ↦ subst (Suits variance) (sym e) s.0 | inr k ↦ suits_at n p s.1 k ]

    leads_apart :
        (p : TypePath) (n : List TypePath) → Suits variance p → SuitsAll variance (listed n)
        → LeadsAntichain (Below test) variance p (listed n) → AllByRecursion (λ q. comparable test variance p q ≡ false) n
    leads_apart p [] s t h = tt
    leads_apart p (q ∷ n) s t h = (not_comparable p q s t.0 h.1 h.2, leads_apart p n s t.1 h.3)

    canonical_distinct : (n : List TypePath) → SuitsAll variance (listed n) → IsCanonical (Below test) variance (listed n) → IsDistinct (comparable test variance) n
    canonical_distinct [] s h = distinct_none (comparable test variance)
    canonical_distinct (p ∷ n) s h = IsDistinct-cons (comparable test variance) p n (leads_apart p n s.0 s.1 h.1) (canonical_distinct n s.1 h.2)

    -- paths of which none is below another are least
    pub reduced_apart : (paths : List TypePath) → IsDistinct (comparable test variance) paths → SuitsAll variance (listed paths) → IsReduced test variance paths paths
    reduced_apart paths d s = record {
      within = λ p c. c;
      apart = d;
      lower = covers_subset (Below test) variance reflexive transitive (listed paths) (listed paths) s (λ q i. i);
    }

    -- one path is least
    pub reduced_one : (paths : List TypePath) → length paths ≤ 1 → SuitsAll variance (listed paths) → IsReduced test variance paths paths
    reduced_one paths l s = reduced_apart paths (one_distinct paths l) s
      where
        one_distinct : (n : List TypePath) → length n ≤ 1 → IsDistinct (comparable test variance) n
        one_distinct [] l = distinct_none (comparable test variance)
        one_distinct (p ∷ []) l = IsDistinct-cons (comparable test variance) p [] tt (distinct_none (comparable test variance))
        one_distinct (p ∷ q ∷ n) l = absurd (omega arith)

    -- all paths are put into a normal list
    pub reduced_of :
        (paths out : List TypePath) → Remains (Below test) variance (listed paths) (listed out) none
        → ((p : TypePath) → InPaths (listed out) p → InPaths (listed paths) p) → IsReduced test variance paths out
    reduced_of paths out h f = record {
      within = λ p c. in_contained paths p (f p (contained_in out p c));
      apart = canonical_distinct out h.normal.suits h.normal.canonical;
      lower = subst (λ l. PathsLe (Below test) variance l (listed paths)) (append_none (listed out)) h.lower;
    }

    comparable_self : (p : TypePath) → Suits variance p → comparable test variance p p ≡ true
    comparable_self p s = ap (λ v. v || path_below test variance p p) (le_tested test variance (le_refl (Below test) variance reflexive transitive p s))

    before_later :
        (p q : TypePath) → Suits variance p → is_lt (path_order q p) ≡ false → comparable test variance p q ≡ false → PathBefore p q
    before_later p q s e f = step (path_order q p) refl
      where
        step : (o : Ordering) → path_order q p ≡ o → PathBefore p q
        step Less g = absurd (false≢true (sym e ∙ ap is_lt g))
        step Equal g = absurd (false≢true (sym f ∙ subst (λ x. comparable test variance p x ≡ true) (sym (order_same q p g)) (comparable_self p s)))
        step Greater g = (path_order-greater q p).0 g

    leads_all :
        (p : TypePath) (n : List TypePath) → Suits variance p
        → ((q : TypePath) → Contains n q → (is_lt (path_order q p) ≡ false) × (comparable test variance p q ≡ false))
        → LeadsAntichain (Below test) variance p (listed n)
    leads_all p [] s f = tt
    leads_all p (q ∷ n) s f =
        let h = f q (Contains-here q n) in (
          before_later p q s h.0 h.1,
          λ l. false≢true (sym (no_left (path_below test variance p q) _ h.1) ∙ le_tested test variance l),
          λ l. false≢true (sym (no_left (path_below test variance q p) _ (flips q p ∙ h.1)) ∙ le_tested test variance l),
          leads_all p n s (λ r c. f r (Contains-later r q n c)),
        )

    abbrev ranked : TypePath → TypePath → Bool
    ranked p q = is_lt (path_order p q)

    later_ranked : (p : TypePath) (n : List TypePath) → IsSortedBy ranked (p ∷ n) → (q : TypePath) → Contains n q → ranked q p ≡ false
    later_ranked p n h q c =
        let far = sorted_far ranked (ranks_by path_order_total (λ x. x)) (p ∷ n) h 0 (suc c.0) q (omega arith) (let l = c.1 in omega arith) in
        subst (λ x. ranked x p ≡ false) c.2 far

    tail_sorted : (p : TypePath) (n : List TypePath) → IsSortedBy ranked (p ∷ n) → IsSortedBy ranked n
    tail_sorted p n h = λ k d l m.
        let e : suc k + 1 ≡ suc (k + 1) = omega arith in
        subst (λ j. ranked (slice_index_or (p ∷ n) j d) (slice_index_or n k d) ≡ false) e (h (suc k) d (omega arith) (omega arith))

    sorted_canonical :
        (n : List TypePath) → SuitsAll variance (listed n) → EachCanonical (Below test) variance (listed n)
        → IsDistinct (comparable test variance) n → IsSortedBy ranked n → IsCanonical (Below test) variance (listed n)
    sorted_canonical [] s c d h = tt
    sorted_canonical (p ∷ n) s c d h = (
      c.0,
      leads_all p n s.0 (λ q i. (later_ranked p n h q i, by_all (λ q. comparable test variance p q ≡ false) n (IsDistinct-head (comparable test variance) p n d) q i)),
      sorted_canonical n s.1 c.1 (IsDistinct-tail (comparable test variance) p n d) (tail_sorted p n h),
    )

    -- the least paths in order are the normal form
    pub sorted_form :
        (paths least out : List TypePath) → SuitsAll variance (listed paths) → EachCanonical (Below test) variance (listed paths)
        → IsReduced test variance paths least → IsPermutation least out → IsSortedBy (λ p q. is_lt (path_order p q)) out
        → IsNormalForm (Below test) variance (type_of_paths (listed paths)) (listed out)
    sorted_form paths least out s c r moved sorted =
        let into : (q : TypePath) → InPaths (listed out) q → InPaths (listed paths) q =
        (λ q i. contained_in paths q (r.within q (Contains-permutation out least q (IsPermutation-sym least out moved) (in_contained out q i)))) in
        let suits = suits_within (Below test) variance (listed out) (listed paths) s into in
        let least_in : (q : TypePath) → InPaths (listed least) q → InPaths (listed out) q =
        (λ q i. contained_in out q (Contains-permutation least out q moved (in_contained least q i))) in
        let least_suits = suits_within (Below test) variance (listed least) (listed out) suits least_in in
        let back = paths_back (listed paths) variance s in
        let lower = covers_trans (Below test) variance reflexive transitive (listed out) (listed least) (listed paths)
        (covers_subset (Below test) variance reflexive transitive (listed out) (listed least) least_suits least_in) r.lower in
        let upper = covers_subset (Below test) variance reflexive transitive (listed paths) (listed out) suits into in
        record {
          normal = record {
            suits = suits;
            canonical = sorted_canonical out suits (canonical_within (Below test) variance (listed out) (listed paths) c into)
                (IsDistinct-IsPermutation (comparable test variance) flips least out moved r.apart) sorted;
          };
          lower = subst (λ l. PathsLe (Below test) variance (listed out) l) (sym back) lower;
          upper = subst (λ l. PathsLe (Below test) variance l (listed out)) (sym back) upper;
        }

    -- a list of at most one path is its own normal form
    pub form_of_one :
        (paths : List TypePath) → length paths ≤ 1 → SuitsAll variance (listed paths) → EachCanonical (Below test) variance (listed paths)
        → IsNormalForm (Below test) variance (type_of_paths (listed paths)) (listed paths)
    form_of_one paths l s c =
        sorted_form paths paths paths s c (reduced_one paths l s) (IsPermutation-refl paths) (λ k d low high. absurd (omega arith))

    -- groups by a key are apart
    module _ (class : ℕ → ℕ) (one_class : (c d : ℕ) → Below test c d → class c ≡ class d) (mask : Mask) (paths : List TypePath) (suits : SuitsAll variance (listed paths)) (fits : (p : TypePath) → Contains paths p → Fits (Below test) class mask p) where
      keys_apart : (p q : TypePath) → Contains paths p → Contains paths q → (key_of class mask p ≡ key_of class mask q → ⊥) → comparable test variance p q ≡ false
      keys_apart p q i j f =
          not_comparable p q (suits_at paths p suits i) (suits_at paths q suits j)
          (λ l. f (key_same class (Below test) variance one_class mask l (fits p i) (fits q j)))
          (λ l. f (sym (key_same class (Below test) variance one_class mask l (fits q j) (fits p i))))

      keyed_apart :
          (ks : List GroupKey) (gs : List (List TypePath)) → AreKeyed (key_of class mask) ks gs
          → ((p : TypePath) → Holds gs p → Contains paths p) → AreApart test variance gs
      keyed_apart [] [] h f = tt
      keyed_apart [] (g ∷ gs) h f = absurd h
      keyed_apart (k ∷ ks) [] h f = tt
      keyed_apart (k ∷ ks) (g ∷ gs) h f = (
        λ p q c i. keys_apart p q (f p (inl c)) (f q (inr i)) (λ e. h.1 q i (sym e ∙ h.0 p c)),
        keyed_apart ks gs h.2 (λ p i. f p (inr i)),
      )

      pub groups_of :
          (ks : List GroupKey) (gs : List (List TypePath)) → AreKeyed (key_of class mask) ks gs
          → ((p : TypePath) → Holds gs p ↔ Contains paths p) → AreGroups test variance paths gs
      groups_of ks gs h same = record { same = same; apart = keyed_apart ks gs h (λ p i. (same p).0 i) }

      digests_apart : (P : ℕ → Type 0) (n : List TypePath) → AllByRecursion P (map (λ q. digest_of (key_of class mask q)) n) → AllByRecursion (λ q. P (digest_of (key_of class mask q))) n
      digests_apart P [] h = tt
      digests_apart P (q ∷ n) h = (h.0, digests_apart P n h.1)

      -- paths whose keys have different digests are apart
      pub distinct_digests :
          (same : ℕ → ℕ → Bool) (same_self : (x : ℕ) → same x x ≡ true) (n : List TypePath)
          → ((p : TypePath) → Contains n p → Contains paths p) → IsDistinct same (map (λ q. digest_of (key_of class mask q)) n)
          → IsDistinct (comparable test variance) n
      distinct_digests same same_self [] f d = distinct_none (comparable test variance)
      distinct_digests same same_self (p ∷ n) f d =
          let digest : TypePath → ℕ = λ q. digest_of (key_of class mask q) in
          let k = digest p in
          let ks = map digest n in
          let differ = digests_apart (λ x. same k x ≡ false) n (IsDistinct-head same k ks d) in
          IsDistinct-cons (comparable test variance) p n
          (all_by (λ q. comparable test variance p q ≡ false) n (λ q c. keys_apart p q (f p (Contains-here p n)) (f q (Contains-later q p n c))
          (λ e. false≢true (sym (by_all (λ q. same k (digest q) ≡ false) n differ q c) ∙ subst (λ x. same k (digest_of x) ≡ true) e (same_self k)))))
          (distinct_digests same same_self n (λ q c. f q (Contains-later q p n c)) (IsDistinct-tail same k ks d))
