-- Paths that are below each other have labels that admit it.
use Rattle.std.proofs.Common.{◌≡◌, refl, sym, ◌∙◌, ap, subst, ℕ, zero, suc, ◌+◌, ◌≤◌, Bool, true, false, List, [], ◌∷◌, map, insert, inl, inr, eqb-true, arith, rules}
use Rattle.std.specs.Prelude.{nat_le, min, ◌&&◌, ◌==◌, Contains}
use Rattle.std.proofs.lemmas.Bool.{and_from, false≢true}
use Rattle.std.proofs.lemmas.Bool.Decides.{nat_tests}
use Rattle.cls_base.specs.Taxonomies.{Variance}
use Rattle.cls_base.specs.Taxa.{Below}
use Rattle.cls_base.proofs.Lists.{Contains-nil, Contains-cases}
use Rattle.cls_path.specs.declared.label.GroupKey.{GroupKey}
use Rattle.cls_path.specs.declared.label.Mask.{Mask}
use Rattle.cls_path.specs.declared.label.Span.{Span}
use Rattle.cls_path.specs.contracts.label.GroupKeyPartialEq.TheImpl.{eq-value}
use Rattle.std.specs.Cmp.Rules.{comparing}
use Rattle.cls_path.specs.Paths.{TypePath, atom, inside, unit, left, right, function, sealed, Paths, none, more, PathLe, atoms, inside_atom, insides, units, left_unit, right_unit, lefts, rights, functions, contravariants, invariants, SomeLe, here, there, PathsLe, empty, each, Suits}
use Rattle.cls_path.specs.Labels.{no_span, one_span, join, plus, within, names_of, head_of, inner_of, join_all, all_names_of, sources_of, first_of, later_of, first_by, later_by, label_of, admits, mixed, depth_of, stem_of, code_by, HasNames, HasLists, IsAlone, AreAlone, IsLoneName, AreLoneSources, narrowed, IsMasked, low_when, key_of, mask_from, heads_mask, Fits}
use Rattle.cls_path.specs.Tests.{path_below}
use Rattle.std.proofs.lemmas.List.{drop-map, take-map, map-append}
use Rattle.cls_path.specs.Insertion.{some_above, without_above}
use Rattle.cls_path.proofs.Insertion.{or_no_left, or_no_right}
use Rattle.cls_path.proofs.Decided.{tested_le}

-- the numbers of the first span are in the second
abbrev pub IsIn : Span → Span → Type 0
IsIn s t = (t.low ≤ s.low) × (s.high ≤ t.high)

same_in : {s t : Span} → s ≡ t → IsIn s t
same_in {s} {t} e = subst (λ u. IsIn s u) e ((grind arith), (grind arith))

join_in : {s t u : Span} → IsIn s u → IsIn t u → IsIn (join s t) u
join_in h k = ((grind arith), (grind arith))

in_left : {s t : Span} (u : Span) → IsIn s t → IsIn s (join t u)
in_left u h = ((grind arith), (grind arith))

in_right : {s u : Span} (t : Span) → IsIn s u → IsIn s (join t u)
in_right t h = ((grind arith), (grind arith))

plus_in : {s t u v : Span} → IsIn s t → IsIn u v → IsIn (plus s u) (plus t v)
plus_in h k = ((grind arith), (grind arith))

in_trans : {s t u : Span} → IsIn s t → IsIn t u → IsIn s u
in_trans h k = ((grind arith), (grind arith))

none_in : (t : Span) → t.low ≤ 18446744073709551615 → IsIn no_span t
none_in t h = (h, (grind arith))

within_in : (s t : Span) → IsIn s t → within s t ≡ true
within_in s t h = and_from _ _ (passes t.low s.low h.0) (passes s.high t.high h.1)
  where
    passes : (a b : ℕ) → a ≤ b → nat_le a b ≡ true
    passes a b h = grind (arith, nat_tests)

single_same : {s t : Span} → IsIn s t → s.low ≡ s.high → t.low ≡ t.high → s ≡ t
single_same {s} {t} h e f =
    let low : s.low ≡ t.low = omega (arith, h.0, h.1) in
    let high : s.high ≡ t.high = omega (arith, h.0, h.1) in
    λ i. record { low = low i; high = high i }

low_same : (kept : Bool) {s t : Span} → (kept ≡ true → s ≡ t) → low_when s kept ≡ low_when t kept
low_same true h = ap (λ s. s.low) (h refl)
low_same false h = refl

left_true : (a b : Bool) → (a && b) ≡ true → a ≡ true
left_true true b e = refl
left_true false b e = cc

right_true : (a b : Bool) → (a && b) ≡ true → b ≡ true
right_true true b e = e
right_true false b e = cc

-- what the first mask says is said by the second
abbrev IsLess : Mask → Mask → Type 0
IsLess m k = (m.depth ≤ k.depth) × (m.first ≡ true → k.first ≡ true) × (m.later ≡ true → k.later ≡ true)

less_trans : (m k l : Mask) → IsLess m k → IsLess k l → IsLess m l
less_trans m k l h g = (omega (arith, h.0, g.0), λ e. g.1 (h.1 e), λ e. g.2 (h.2 e))

least_left : (a b : ℕ) → min a b ≤ a
least_left a b = grind arith

least_right : (a b : ℕ) → min a b ≤ b
least_right a b = grind arith

-- a property of all names is one of those on the way
names_all : (f : ℕ → Type 0) → ((c : ℕ) → f c) → (p : TypePath) → HasNames f p
names_all f h (atom c) = h c
names_all f h (inside c p) = (h c, names_all f h p)
names_all f h unit = tt
names_all f h (left p) = names_all f h p
names_all f h (right p) = names_all f h p
names_all f h (function n p) = names_all f h p
names_all f h (sealed c n) = h c

names_map : (f g : ℕ → Type 0) → ((c : ℕ) → f c → g c) → (p : TypePath) → HasNames f p → HasNames g p
names_map f g h (atom c) k = h c k
names_map f g h (inside c p) k = (h c k.0, names_map f g h p k.1)
names_map f g h unit k = tt
names_map f g h (left p) k = names_map f g h p k
names_map f g h (right p) k = names_map f g h p k
names_map f g h (function n p) k = names_map f g h p k
names_map f g h (sealed c n) k = h c k

-- a stem of one name ends there, and one of none has none
one_left : (k : ℕ) → suc k ≤ 1 → k ≡ 0
one_left k l = omega (arith, l)

none_left : (k : ℕ) → suc k ≤ 0 → ⊥
none_left k l = omega (arith, l)

one_less : (k n : ℕ) → suc k ≤ min (n + 1) 18446744073709551615 → k ≤ n
one_less k n l = omega (arith, l)

-- If the names of the upper path have the codes of those below them, a path below it begins with its stem.
module _ (below : ℕ → ℕ → Type 0) (variance : ℕ → Variance) (code : ℕ → ℕ) where
  abbrev HasCode : ℕ → Type 0
  HasCode d = (c : ℕ) → below c d → code c ≡ code d

  stem_same :
      {p q : TypePath} → PathLe below variance p q → (k s : ℕ) → k ≤ depth_of q → HasNames HasCode q
      → stem_of code k s p ≡ stem_of code k s q
  stem_same h zero s l a = refl
  stem_same (atoms {c = c} b) (suc k) s l a = ap (mixed s) (a c b)
  stem_same (inside_atom {c = c} {p = p} b) (suc k) s l a =
      ap (λ j. stem_of code j (mixed s (code c)) p) (one_left k l) ∙ ap (mixed s) (a c b)
  stem_same (insides {c = c} {q = q} b h) (suc k) s l a =
      stem_same h k (mixed s (code c)) (one_less k (depth_of q) l) a.1 ∙ ap (λ x. stem_of code k (mixed s x) q) (a.0 c b)
  stem_same units (suc k) s l a = refl
  stem_same left_unit (suc k) s l a = absurd (none_left k l)
  stem_same right_unit (suc k) s l a = absurd (none_left k l)
  stem_same (lefts h) (suc k) s l a = stem_same h (suc k) (mixed s 0) l a
  stem_same (rights h) (suc k) s l a = stem_same h (suc k) (mixed s 1) l a
  stem_same (functions i h) (suc k) s l a = stem_same h (suc k) s l a
  stem_same (contravariants {c = c} v w b i) (suc k) s l a = ap (mixed s) (a c b)
  stem_same (invariants {c = c} v w b h i) (suc k) s l a = ap (mixed s) (a c b)

-- a property of all lists is one of the sources
lists_all : (f : Paths → Type 0) → ((n : Paths) → f n) → (p : TypePath) → HasLists f p
lists_all f h (atom c) = tt
lists_all f h (inside c p) = tt
lists_all f h unit = tt
lists_all f h (left p) = tt
lists_all f h (right p) = tt
lists_all f h (function n p) = (h n, lists_all f h p)
lists_all f h (sealed c n) = h n

-- If the names of such lists lie in those of lists below them, the spans of sources do so too.
module _ (class : ℕ → ℕ) (below : ℕ → ℕ → Type 0) (variance : ℕ → Variance) (f : Paths → Type 0) (lists_in : (n m : Paths) → PathsLe below variance n m → f n → f m → IsIn (all_names_of class m) (all_names_of class n)) where
  sources_within : {p q : TypePath} → PathLe below variance p q → HasLists f p → HasLists f q → IsIn (sources_of class p) (sources_of class q)
  sources_within (atoms b) s t = same_in refl
  sources_within (inside_atom b) s t = same_in refl
  sources_within (insides b h) s t = same_in refl
  sources_within units s t = same_in refl
  sources_within left_unit s t = same_in refl
  sources_within right_unit s t = same_in refl
  sources_within (lefts h) s t = same_in refl
  sources_within (rights h) s t = same_in refl
  sources_within (functions k h) s t = plus_in (lists_in _ _ k t.0 s.0) (sources_within h s.1 t.1)
  sources_within (contravariants v w b k) s t = same_in refl
  sources_within (invariants v w b h k) s t = same_in refl

  first_within : {p q : TypePath} → PathLe below variance p q → HasLists f p → HasLists f q → IsIn (first_of class p) (first_of class q)
  first_within (atoms b) s t = same_in refl
  first_within (inside_atom b) s t = same_in refl
  first_within (insides b h) s t = same_in refl
  first_within units s t = same_in refl
  first_within left_unit s t = same_in refl
  first_within right_unit s t = same_in refl
  first_within (lefts h) s t = same_in refl
  first_within (rights h) s t = same_in refl
  first_within (functions k h) s t = lists_in _ _ k t.0 s.0
  first_within (contravariants v w b k) s t = lists_in _ _ k t s
  first_within (invariants v w b h k) s t = lists_in _ _ k t s

  later_within : {p q : TypePath} → PathLe below variance p q → HasLists f p → HasLists f q → IsIn (later_of class p) (later_of class q)
  later_within (atoms b) s t = same_in refl
  later_within (inside_atom b) s t = same_in refl
  later_within (insides b h) s t = same_in refl
  later_within units s t = same_in refl
  later_within left_unit s t = same_in refl
  later_within right_unit s t = same_in refl
  later_within (lefts h) s t = same_in refl
  later_within (rights h) s t = same_in refl
  later_within (functions k h) s t = sources_within h s.1 t.1
  later_within (contravariants v w b k) s t = same_in refl
  later_within (invariants v w b h k) s t = same_in refl

-- lists of one name each that is alone are equal if one is below the other
module _ (below : ℕ → ℕ → Type 0) (variance : ℕ → Variance) where
  lone_name : (n : Paths) → IsLoneName below n → (c : ℕ) × (n ≡ more (atom c) none) × IsAlone below c
  lone_name none h = absurd h
  lone_name (more (atom c) none) h = (c, refl, h)
  lone_name (more (atom c) (more q n)) h = absurd h
  lone_name (more (inside c p) n) h = absurd h
  lone_name (more unit n) h = absurd h
  lone_name (more (left p) n) h = absurd h
  lone_name (more (right p) n) h = absurd h
  lone_name (more (function m p) n) h = absurd h
  lone_name (more (sealed c m) n) h = absurd h

  one_below : (c d : ℕ) → PathsLe below variance (more (atom c) none) (more (atom d) none) → below c d
  one_below c d (each (here (atoms b)) k) = b
  one_below c d (each (there a) k) = elim a [ ]

  lone_same : (n m : Paths) → PathsLe below variance n m → IsLoneName below n → IsLoneName below m → n ≡ m
  lone_same n m h s t =
      let (c, e, x) = lone_name n s in
      let (d, f, y) = lone_name m t in
      let b : below c d = one_below c d (subst (λ l. PathsLe below variance (more (atom c) none) l) f (subst (λ l. PathsLe below variance l m) e h)) in
      e ∙ (ap (λ (k : ℕ). more (atom k) none) (y c b) ∙ sym f)

  lone_in : (n m : Paths) → PathsLe below variance n m → IsLoneName below n → IsLoneName below m → IsIn (all_names_of (λ c. c) m) (all_names_of (λ c. c) n)
  lone_in n m h s t = same_in (ap (all_names_of (λ c. c)) (sym (lone_same n m h s t)))

module _ (class : ℕ → ℕ) where
  names_low : (p : TypePath) → (names_of class p).low ≤ 18446744073709551615
  names_low (atom c) = grind arith
  names_low (inside c p) = (let h = names_low p in (grind arith))
  names_low unit = grind arith
  names_low (left p) = names_low p
  names_low (right p) = names_low p
  names_low (function n p) = names_low p
  names_low (sealed c n) = grind arith

  join_all_in : (s : Span) (n : Paths) → IsIn s (join_all class s n)
  join_all_in s none = same_in refl
  join_all_in s (more p n) = in_trans (in_left _ (same_in refl)) (join_all_in (join s (names_of class p)) n)

  module _ (below : ℕ → ℕ → Type 0) (variance : ℕ → Variance) (one_class : (c d : ℕ) → below c d → class c ≡ class d) where
    one_in : (c d : ℕ) → below c d → IsIn (one_span (class d)) (one_span (class c))
    one_in c d b = same_in (ap one_span (sym (one_class c d b)))

    names_in : {p q : TypePath} → PathLe below variance p q → IsIn (names_of class q) (names_of class p)
    names_in (atoms {c = c} {d = d} b) = one_in c d b
    names_in (inside_atom {c = c} {d = d} b) = in_left _ (one_in c d b)
    names_in (insides {c = c} {d = d} b h) = join_in (in_left _ (one_in c d b)) (in_right _ (names_in h))
    names_in units = same_in refl
    names_in (left_unit {p = p}) = none_in (names_of class p) (names_low p)
    names_in (right_unit {p = p}) = none_in (names_of class p) (names_low p)
    names_in (lefts h) = names_in h
    names_in (rights h) = names_in h
    names_in (functions k h) = names_in h
    names_in (contravariants {c = c} {d = d} v w b k) = one_in c d b
    names_in (invariants {c = c} {d = d} v w b h k) = one_in c d b

    some_in : {n : Paths} {q : TypePath} → SomeLe below variance n q → (s : Span) → IsIn (names_of class q) (join_all class s n)
    some_in (here {p = p} {n = n} h) s = in_trans (in_right _ (names_in h)) (join_all_in (join s (names_of class p)) n)
    some_in (there {p = p} a) s = some_in a (join s (names_of class p))

    all_from : {n m : Paths} → PathsLe below variance n m → (s : Span) → IsIn s (all_names_of class n) → IsIn (join_all class s m) (all_names_of class n)
    all_from empty s h = h
    all_from (each {q = q} a k) s h = all_from k (join s (names_of class q)) (join_in h (some_in a no_span))

    all_in : {n m : Paths} → PathsLe below variance n m → IsIn (all_names_of class m) (all_names_of class n)
    all_in {n} h = all_from h no_span (join_all_in no_span n)

    abbrev any : Paths → Type 0
    any n = Unit {0}

    first_below : {p q : TypePath} → PathLe below variance p q → IsIn (first_of class p) (first_of class q)
    first_below {p} {q} h = first_within class below variance any (λ n m k s t. all_in k) h (lists_all any (λ n. tt) p) (lists_all any (λ n. tt) q)

    later_below : {p q : TypePath} → PathLe below variance p q → IsIn (later_of class p) (later_of class q)
    later_below {p} {q} h = later_within class below variance any (λ n m k s t. all_in k) h (lists_all any (λ n. tt) p) (lists_all any (λ n. tt) q)

    pub head_same : {p q : TypePath} → PathLe below variance p q → head_of class p ≡ head_of class q
    head_same (atoms {c = c} {d = d} b) = ap one_span (one_class c d b)
    head_same (inside_atom {c = c} {d = d} b) = ap one_span (one_class c d b)
    head_same (insides {c = c} {d = d} b h) = ap one_span (one_class c d b)
    head_same units = refl
    head_same left_unit = refl
    head_same right_unit = refl
    head_same (lefts h) = refl
    head_same (rights h) = refl
    head_same (functions k h) = head_same h
    head_same (contravariants {c = c} {d = d} v w b k) = ap one_span (one_class c d b)
    head_same (invariants {c = c} {d = d} v w b h k) = ap one_span (one_class c d b)

    inner_above : {p q : TypePath} → PathLe below variance p q → IsIn (inner_of class q) (inner_of class p)
    inner_above (atoms b) = same_in refl
    inner_above (inside_atom {p = p} b) = none_in (names_of class p) (names_low p)
    inner_above (insides b h) = names_in h
    inner_above units = same_in refl
    inner_above (left_unit {p = p}) = none_in (names_of class p) (names_low p)
    inner_above (right_unit {p = p}) = none_in (names_of class p) (names_low p)
    inner_above (lefts h) = names_in h
    inner_above (rights h) = names_in h
    inner_above (functions k h) = inner_above h
    inner_above (contravariants v w b k) = same_in refl
    inner_above (invariants v w b h k) = same_in refl

    pub le_admitted : {p q : TypePath} → PathLe below variance p q → admits (label_of class p) (label_of class q) ≡ true
    le_admitted {p} {q} h =
        and_from _ _ (within_in _ _ (same_in (sym (head_same h)))) (and_from _ _ (within_in _ _ (inner_above h)) (and_from _ _ (within_in _ _ (first_below h)) (within_in _ _ (later_below h))))

    stem_shared :
        (alone : Bool) (k : ℕ) {p q : TypePath} → PathLe below variance p q → k ≤ depth_of q
        → (alone ≡ true → AreAlone below q)
        → stem_of (code_by alone class) k 0 p ≡ stem_of (code_by alone class) k 0 q
    stem_shared true k {p} {q} h l a =
        stem_same below variance (code_by true class) h k 0 l
        (names_map (IsAlone below) (HasCode below variance (code_by true class)) (λ d f c b. f c b) q (a refl))
    stem_shared false k {p} {q} h l a =
        stem_same below variance (code_by false class) h k 0 l
        (names_all (HasCode below variance (code_by false class)) (λ d c b. one_class c d b) q)

    first_shared :
        (own : Bool) {p q : TypePath} → PathLe below variance p q → (own ≡ true → AreLoneSources below p)
        → (own ≡ true → AreLoneSources below q) → IsIn (first_by own class p) (first_by own class q)
    first_shared true h s t = first_within (λ c. c) below variance (IsLoneName below) (lone_in below variance) h (s refl) (t refl)
    first_shared false h s t = first_below h

    later_shared :
        (own : Bool) {p q : TypePath} → PathLe below variance p q → (own ≡ true → AreLoneSources below p)
        → (own ≡ true → AreLoneSources below q) → IsIn (later_by own class p) (later_by own class q)
    later_shared true h s t = later_within (λ c. c) below variance (IsLoneName below) (lone_in below variance) h (s refl) (t refl)
    later_shared false h s t = later_below h

    -- paths have one key if one is below the other and the mask fits both
    pub key_same :
        (m : Mask) {p q : TypePath} → PathLe below variance p q → Fits below class m p → Fits below class m q
        → key_of class m p ≡ key_of class m q
    key_same m {p} {q} h f g =
        let heads = head_same h in
        let stems = stem_shared m.alone m.depth h g.0.0 g.1 in
        let firsts = low_same m.first (λ e. single_same (first_shared m.own h f.2 g.2) (f.0.1 e) (g.0.1 e)) in
        let laters = low_same m.later (λ e. single_same (later_shared m.own h f.2 g.2) (f.0.2 e) (g.0.2 e)) in
        λ i. record { head = (heads i).low; stem = stems i; first = firsts i; later = laters i }

module _ (firsts laters : TypePath → Span) where
  narrowed_less : (m : Mask) (p : TypePath) → IsLess (narrowed firsts laters m p) m
  narrowed_less m p = (least_left m.depth (depth_of p), left_true m.first _, left_true m.later _)

  narrowed_fits : (m : Mask) (p : TypePath) → IsMasked firsts laters (narrowed firsts laters m p) p
  narrowed_fits m p = (
    least_right m.depth (depth_of p),
    λ e. eqb-true _ _ (right_true m.first _ e),
    λ e. eqb-true _ _ (right_true m.later _ e),
  )

  less_fits : (m k : Mask) (p : TypePath) → IsLess m k → IsMasked firsts laters k p → IsMasked firsts laters m p
  less_fits m k p h f = (omega (arith, h.0, f.0), (λ e. f.1 (h.1 e)), (λ e. f.2 (h.2 e)))

  mask_less : (m : Mask) (n : List TypePath) → IsLess (mask_from firsts laters m n) m
  mask_less m [] = (omega arith, (λ e. e), (λ e. e))
  mask_less m (r ∷ n) =
      let k = narrowed firsts laters m r in
      less_trans (mask_from firsts laters k n) k m (mask_less k n) (narrowed_less m r)

  -- what is true of all paths is true of each
  pub mask_fits : (m : Mask) (n : List TypePath) (p : TypePath) → Contains n p → IsMasked firsts laters (mask_from firsts laters m n) p
  mask_fits m [] p c = absurd (Contains-nil p c)
  mask_fits m (q ∷ n) p c =
      let k = narrowed firsts laters m q in
      elim (Contains-cases q n p c) [
        | inl e ↦ less_fits (mask_from firsts laters k n) k p (mask_less k n) (subst (λ x. IsMasked firsts laters k x) (sym e) (narrowed_fits m q))
        | inr i ↦ mask_fits k n p i
      ]

-- the mask of the heads alone fits each path
pub heads_fit : (below : ℕ → ℕ → Type 0) (class : ℕ → ℕ) (p : TypePath) → Fits below class heads_mask p
heads_fit below class p = (
  (omega arith, (λ e. absurd (false≢true e)), (λ e. absurd (false≢true e))),
  (λ e. absurd (false≢true e)),
  (λ e. absurd (false≢true e)),
)

-- a pair that labels don't admit is told apart by the test
module _ (class : ℕ → ℕ) (test : ℕ → ℕ → Bool) (variance : ℕ → Variance) (reflexive : (c : ℕ) → Below test c c) (transitive : (c d e : ℕ) → Below test c d → Below test d e → Below test c e) (one_variance : (c d : ℕ) → Below test c d → variance c ≡ variance d) (one_class : (c d : ℕ) → Below test c d → class c ≡ class d) where
  pub not_admitted : (p q : TypePath) → Suits variance p → Suits variance q → admits (label_of class p) (label_of class q) ≡ false → path_below test variance p q ≡ false
  not_admitted p q s t e = step (path_below test variance p q) refl
    where
      step : (v : Bool) → path_below test variance p q ≡ v → v ≡ false
      step false f = refl
      step true f = absurd (false≢true (sym e ∙ le_admitted class (Below test) variance one_class (tested_le test variance reflexive transitive one_variance p q s t f)))

-- a path that is below none of the list leaves it
module _ (test : ℕ → ℕ → Bool) (variance : ℕ → Variance) where
  pub none_above : (p : TypePath) (n : List TypePath) → some_above test variance p n ≡ false → n ≡ without_above test variance p n
  none_above p [] e = refl
  none_above p (q ∷ n) e =
      let h : path_below test variance p q ≡ false = or_no_left (path_below test variance p q) _ e in
      let k : n ≡ without_above test variance p n = none_above p n (or_no_right (path_below test variance p q) _ e) in
      rw h (ap (λ l. q ∷ l) k)

pub map-insert : {X Y : Type 0} (f : X → Y) (i : ℕ) (x : X) (xs : List X) → insert (map f xs) i (f x) ≡ map f (insert xs i x)
map-insert f i x xs = Prim.search (drop-map, take-map, map-append, rules)

-- equality of keys as the code tests it
pub same_key : (k l : GroupKey) → eq-value.it k l ≡ true → k ≡ l
same_key k l h =
    let heads = eqb-true k.head l.head (left_true _ _ h) in
    let rest = right_true (k.head == l.head) _ h in
    let stems = eqb-true k.stem l.stem (left_true _ _ rest) in
    let rest' = right_true (k.stem == l.stem) _ rest in
    let firsts = eqb-true k.first l.first (left_true _ _ rest') in
    let laters = eqb-true k.later l.later (right_true (k.first == l.first) _ rest') in
    λ i. record { head = heads i; stem = stems i; first = firsts i; later = laters i }

pub key_self : (k : GroupKey) → eq-value.it k k ≡ true
key_self k = search (comparing, rules)
