-- The tests decide when paths are below each other.
use Rattle.std.proofs.Common.{◌≡◌, refl, sym, ◌∙◌, subst, ℕ, Bool, true, false, ◌||◌, ◌&&◌, inl, inr}
use Rattle.std.proofs.lemmas.Bool.{and_parts, and_from, or_cases, false≢true}
use Rattle.std.specs.Ordering.{is_eq}
use Rattle.std.specs.declared.cmp.Ordering.{Ordering}
use Rattle.std.specs.declared.cmp.Ordering.TheVariants.{Less, Equal, Greater}
use Rattle.cls_base.specs.Taxonomies.{Variance, covariant, contravariant, invariant}
use Rattle.cls_base.specs.Taxa.{Below}
use Rattle.cls_path.specs.Paths.{TypePath, atom, inside, unit, left, right, function, sealed, Paths, none, more, PathLe, atoms, inside_atom, insides, units, left_unit, right_unit, lefts, rights, functions, contravariants, invariants, SomeLe, here, there, PathsLe, empty, each, Suits, SuitsAll}
use Rattle.cls_path.specs.OrderLaws.{paths_same}
use Rattle.cls_path.specs.Tests.{each_passes, same_paths, sealed_below, path_below, each_above, some_below, list_below}
use Rattle.cls_path.proofs.Turning.{each_above-list_below, each_passes-list_below}
use Rattle.cls_path.proofs.Completeness.{covers_refl}

or_left : (x y : Bool) → x ≡ true → (x || y) ≡ true
or_left true y h = refl
or_left false y h = absurd (false≢true h)

or_right : (x y : Bool) → y ≡ true → (x || y) ≡ true
or_right true y h = refl
or_right false y h = h

contra_passes : (v : Variance) (same down up : Bool) → v ≡ contravariant → down ≡ true → sealed_below v same down up ≡ true
contra_passes covariant same down up e h = absurd cc
contra_passes contravariant same down up e h = h
contra_passes invariant same down up e h = absurd cc

exact_passes : (v : Variance) (same down up : Bool) → v ≡ invariant → down ≡ true → up ≡ true → sealed_below v same down up ≡ true
exact_passes covariant same down up e h k = absurd cc
exact_passes contravariant same down up e h k = absurd cc
exact_passes invariant same down up e h k = or_right same (down && up) (and_from _ _ h k)

equal_of : (o : Ordering) → is_eq o ≡ true → o ≡ Equal
equal_of Less h = absurd (false≢true h)
equal_of Equal h = refl
equal_of Greater h = absurd (false≢true h)

module _ (test : ℕ → ℕ → Bool) (variance : ℕ → Variance) where
  mutual
    pub le_tested : {p q : TypePath} → PathLe (Below test) variance p q → path_below test variance p q ≡ true
    le_tested (atoms b) = b
    le_tested (inside_atom b) = b
    le_tested (insides b h) = and_from _ _ b (le_tested h)
    le_tested units = refl
    le_tested left_unit = refl
    le_tested right_unit = refl
    le_tested (lefts h) = le_tested h
    le_tested (rights h) = le_tested h
    le_tested (functions {n = n} {m = m} c h) = and_from _ _ (le_tested h) (each_above-list_below test variance n m ∙ paths_tested c)
    le_tested (contravariants {c = c} {n = n} {m = m} v w b k) =
        and_from _ _ b (contra_passes (variance c) (same_paths n m) _ _ v (each_above-list_below test variance n m ∙ paths_tested k))
    le_tested (invariants {c = c} {n = n} {m = m} v w b h k) =
        and_from _ _ b (exact_passes (variance c) (same_paths n m) _ _ v (each_above-list_below test variance n m ∙ paths_tested k) (each_passes-list_below test variance n m ∙ paths_tested h))

    pub some_tested : {n : Paths} {q : TypePath} → SomeLe (Below test) variance n q → some_below test variance n q ≡ true
    some_tested (here h) = or_left _ _ (le_tested h)
    some_tested (there a) = or_right _ _ (some_tested a)

    pub paths_tested : {n m : Paths} → PathsLe (Below test) variance n m → list_below test variance n m ≡ true
    paths_tested empty = refl
    paths_tested (each a h) = and_from _ _ (some_tested a) (paths_tested h)

  module _ (reflexive : (c : ℕ) → Below test c c) (transitive : (c d e : ℕ) → Below test c d → Below test d e → Below test c e) (one_variance : (c d : ℕ) → Below test c d → variance c ≡ variance d) where
    abbrev Le : TypePath → TypePath → Type 0
    Le p q = PathLe (Below test) variance p q

    abbrev Decided : TypePath → Type 0
    Decided p = Suits variance p → (q : TypePath) → Suits variance q → (path_below test variance p q ≡ true → Le p q) × (path_below test variance q p ≡ true → Le q p)

    abbrev EachDecided : Paths → Type 0
    EachDecided none = Unit {0}
    EachDecided (more p n) = Decided p × EachDecided n

    -- a list whose paths are decided, against any other list
    some_from :
        (n : Paths) (q : TypePath) → SuitsAll variance n
        → ((p : TypePath) → Suits variance p → path_below test variance p q ≡ true → Le p q)
        → some_below test variance n q ≡ true → SomeLe (Below test) variance n q
    some_from none q s f h = absurd (false≢true h)
    some_from (more p n) q s f h = elim (or_cases _ _ h) [ inl e ↦ here (f p s.0 e) | inr e ↦ there (some_from n q s.1 f e) ]

    some_from_each :
        (n : Paths) (q : TypePath) → EachDecided n → SuitsAll variance n → Suits variance q
        → some_below test variance n q ≡ true → SomeLe (Below test) variance n q
    some_from_each none q d s t h = absurd (false≢true h)
    some_from_each (more p n) q d s t h = elim (or_cases _ _ h) [ inl e ↦ here ((d.0 s.0 q t).0 e) | inr e ↦ there (some_from_each n q d.1 s.1 t e) ]

    paths_from :
        (n m : Paths) → EachDecided m → SuitsAll variance n → SuitsAll variance m
        → list_below test variance n m ≡ true → PathsLe (Below test) variance n m
    paths_from n none d s t h = empty
    paths_from n (more q m) d s t h =
        let r = and_parts _ _ h in each (some_from n q s (λ p u. (d.0 t.0 p u).1) r.0) (paths_from n m d.1 s t.1 r.1)

    paths_to :
        (n m : Paths) → EachDecided n → SuitsAll variance n → SuitsAll variance m
        → list_below test variance n m ≡ true → PathsLe (Below test) variance n m
    paths_to n none d s t h = empty
    paths_to n (more q m) d s t h =
        let r = and_parts _ _ h in each (some_from_each n q d s t.0 r.0) (paths_to n m d s t.1 r.1)

    sealed_from :
        (c d : ℕ) (n m : Paths) → (list_below test variance m n ≡ true → PathsLe (Below test) variance m n)
        → (list_below test variance n m ≡ true → PathsLe (Below test) variance n m) → SuitsAll variance n
        → path_below test variance (sealed c n) (sealed d m) ≡ true → Le (sealed c n) (sealed d m)
    sealed_from c d n m f g s h =
        let r = and_parts (test c d) _ h in
        by_variance r.0 (variance c) refl r.1
      where
        equal_lists : Below test c d → variance c ≡ invariant → n ≡ m → Le (sealed c n) (sealed d m)
        equal_lists b v e =
            let k = covers_refl (Below test) variance reflexive transitive n s in
            subst (λ l. Le (sealed c n) (sealed d l)) e (invariants v (sym (one_variance c d b) ∙ v) b k k)

        by_variance :
            Below test c d → (v : Variance) → variance c ≡ v
            → sealed_below v (same_paths n m) (each_above test variance n m) (each_passes (λ q. some_below test variance n q) m) ≡ true
            → Le (sealed c n) (sealed d m)
        by_variance b covariant e k = absurd (false≢true k)
        by_variance b contravariant e k = contravariants e (sym (one_variance c d b) ∙ e) b (f (sym (each_above-list_below test variance n m) ∙ k))
        by_variance b invariant e k = elim (or_cases _ _ k) [
          | inl i ↦ equal_lists b e (paths_same n m (equal_of _ i))
          | inr i ↦ (let r = and_parts _ _ i in invariants e (sym (one_variance c d b) ∙ e) b (g (sym (each_passes-list_below test variance n m) ∙ r.1)) (f (sym (each_above-list_below test variance n m) ∙ r.0)))
        ]

    mutual
      decided : (p : TypePath) → Decided p
      decided (atom c) s (atom d) t = (λ h. atoms h, λ h. atoms h)
      decided (atom c) s (inside d q) t = (λ h. absurd (false≢true h), λ h. inside_atom h)
      decided (inside c p) s (atom d) t = (λ h. inside_atom h, λ h. absurd (false≢true h))
      decided (inside c p) s (inside d q) t =
          (λ h. let r = and_parts _ _ h in insides r.0 ((decided p s.1 q t.1).0 r.1), λ h. let r = and_parts _ _ h in insides r.0 ((decided p s.1 q t.1).1 r.1))
      decided unit s unit t = (λ h. units, λ h. units)
      decided unit s (left q) t = (λ h. absurd (false≢true h), λ h. left_unit)
      decided unit s (right q) t = (λ h. absurd (false≢true h), λ h. right_unit)
      decided (left p) s unit t = (λ h. left_unit, λ h. absurd (false≢true h))
      decided (left p) s (left q) t = (λ h. lefts ((decided p s q t).0 h), λ h. lefts ((decided p s q t).1 h))
      decided (right p) s unit t = (λ h. right_unit, λ h. absurd (false≢true h))
      decided (right p) s (right q) t = (λ h. rights ((decided p s q t).0 h), λ h. rights ((decided p s q t).1 h))
      decided (function n p) s (function m q) t = (
        λ h. let r = and_parts _ _ h in functions (paths_from m n (each_decided n) t.0 s.0 (sym (each_above-list_below test variance n m) ∙ r.1)) ((decided p s.1 q t.1).0 r.0),
        λ h. let r = and_parts _ _ h in functions (paths_to n m (each_decided n) s.0 t.0 (sym (each_above-list_below test variance m n) ∙ r.1)) ((decided p s.1 q t.1).1 r.0),
      )
      decided (sealed c n) s (sealed d m) t = (
        sealed_from c d n m (paths_from m n (each_decided n) t.1 s.1) (paths_to n m (each_decided n) s.1 t.1) s.1,
        sealed_from d c m n (paths_to n m (each_decided n) s.1 t.1) (paths_from m n (each_decided n) t.1 s.1) t.1,
      )
      decided _ s _ t = (λ h. absurd (false≢true h), λ h. absurd (false≢true h))

      each_decided : (n : Paths) → EachDecided n
      each_decided none = tt
      each_decided (more p n) = (decided p, each_decided n)

    pub tested_le : (p q : TypePath) → Suits variance p → Suits variance q → path_below test variance p q ≡ true → Le p q
    tested_le p q s t h = (decided p s q t).0 h

    pub tested_some :
        (n : Paths) (q : TypePath) → SuitsAll variance n → Suits variance q → some_below test variance n q ≡ true
        → SomeLe (Below test) variance n q
    tested_some n q s t h = some_from_each n q (each_decided n) s t h

    pub tested_paths : (n m : Paths) → SuitsAll variance n → SuitsAll variance m → list_below test variance n m ≡ true → PathsLe (Below test) variance n m
    tested_paths n m s t h = paths_to n m (each_decided n) s t h
