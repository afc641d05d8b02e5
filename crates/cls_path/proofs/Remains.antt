-- A list of paths that is put into a normal list path by path.
use Rattle.std.proofs.Common.{◌≡◌, refl, sym, subst, ap, ℕ, List, [], ◌∷◌, ◌++◌, ◌⊎◌, inl, inr}
use Rattle.cls_base.specs.Types.{ClosedType, meet}
use Rattle.cls_base.specs.Taxonomies.{Variance}
use Rattle.cls_path.specs.Paths.{TypePath, Paths, none, more, PathsLe, first_in, later_in, append, paths_of, type_of_path, type_of_paths, Suits, SuitsAll, listed}
use Rattle.cls_path.specs.NormalForms.{IsCanonicalPath, IsCanonical, EachCanonical, IsNormal, IsNormalForm}
use Rattle.cls_path.proofs.Transitivity.{covers_trans}
use Rattle.cls_path.proofs.Completeness.{In, in_append, in_append_left, in_append_right, Some, covered, covers_all, le_refl, covers_refl}
use Rattle.cls_path.proofs.RoundTrip.{append_none, path_back, paths_back}

module _ (below : ℕ → ℕ → Type 0) (variance : ℕ → Variance) where
  -- what has been put in and what remains are the whole together
  pub record Remains (whole out rest : Paths) : Type 0 where
    pub normal : IsNormal below variance out
    pub suits : SuitsAll variance rest
    pub canonical : EachCanonical below variance rest
    pub lower : PathsLe below variance (append out rest) whole
    pub upper : PathsLe below variance whole (append out rest)

  pub canonical_each : (n : Paths) → IsCanonical below variance n → EachCanonical below variance n
  canonical_each none h = tt
  canonical_each (more p n) h = (h.0, canonical_each n h.2)

  canonical_in : (n : Paths) (p : TypePath) → EachCanonical below variance n → In p n → IsCanonicalPath below variance p
  canonical_in none p h i = elim i [ ]
  canonical_in (more r n) _ h first_in = h.0
  canonical_in (more r n) p h (later_in i) = canonical_in n p h.1 i

  suits_at : (n : Paths) (p : TypePath) → SuitsAll variance n → In p n → Suits variance p
  suits_at none p s i = elim i [ ]
  suits_at (more r n) _ s first_in = s.0
  suits_at (more r n) p s (later_in i) = suits_at n p s.1 i

  pub next_suits : {whole out rest : Paths} (p : TypePath) → Remains whole out rest → In p rest → Suits variance p
  next_suits {rest = rest} p h i = suits_at rest p h.suits i

  pub next_canonical : {whole out rest : Paths} (p : TypePath) → Remains whole out rest → In p rest → IsCanonicalPath below variance p
  next_canonical {rest = rest} p h i = canonical_in rest p h.canonical i

  pub suits_within : (n m : Paths) → SuitsAll variance m → ((q : TypePath) → In q n → In q m) → SuitsAll variance n
  suits_within none m s f = tt
  suits_within (more q n) m s f = (suits_at m q s (f q first_in), suits_within n m s (λ r i. f r (later_in i)))

  pub canonical_within : (n m : Paths) → EachCanonical below variance m → ((q : TypePath) → In q n → In q m) → EachCanonical below variance n
  canonical_within none m s f = tt
  canonical_within (more q n) m s f = (canonical_in m q s (f q first_in), canonical_within n m s (λ r i. f r (later_in i)))

  pub whole_form : (t : ClosedType) (out : Paths) → Remains (paths_of variance t) out none → IsNormalForm below variance t out
  whole_form t out h = record {
    normal = h.normal;
    lower = subst (λ l. PathsLe below variance l (paths_of variance t)) (append_none out) h.lower;
    upper = subst (λ l. PathsLe below variance (paths_of variance t) l) (append_none out) h.upper;
  }

  module _ (reflexive : (c : ℕ) → below c c) (transitive : (c d e : ℕ) → below c d → below d e → below c e) where
    -- nothing is put in yet
    pub remains_all :
        (out rest : Paths) → IsNormal below variance out → SuitsAll variance rest → EachCanonical below variance rest
        → Remains (append out rest) out rest
    remains_all out rest h s c =
        let k = covers_refl below variance reflexive transitive (append out rest) (both out rest h.suits s) in
        record { normal = h; suits = s; canonical = c; lower = k; upper = k }
      where
        both : (n m : Paths) → SuitsAll variance n → SuitsAll variance m → SuitsAll variance (append n m)
        both none m s t = t
        both (more p n) m s t = (s.0, both n m s.1 t)

    -- the whole are paths whose intersection is the type, and all are put in
    pub whole_of :
        (t : ClosedType) (whole out : Paths) → PathsLe below variance whole (paths_of variance t)
        → PathsLe below variance (paths_of variance t) whole → Remains whole out none
        → IsNormalForm below variance t out
    whole_of t whole out lower upper h = record {
      normal = h.normal;
      lower = covers_trans below variance reflexive transitive out whole (paths_of variance t) (subst (λ l. PathsLe below variance l whole) (append_none out) h.lower) lower;
      upper = covers_trans below variance reflexive transitive (paths_of variance t) whole out upper (subst (λ l. PathsLe below variance whole l) (append_none out) h.upper);
    }

    self : (n : Paths) (q : TypePath) → SuitsAll variance n → In q n → Some below variance reflexive transitive n q
    self n q s i = (q, i, le_refl below variance reflexive transitive q (suits_at n q s i))

    into_left : (n m : Paths) (q : TypePath) → Some below variance reflexive transitive n q → Some below variance reflexive transitive (append n m) q
    into_left n m q s = (s.0, in_append_left s.0 n m s.1, s.2)

    into_right : (n m : Paths) (q : TypePath) → Some below variance reflexive transitive m q → Some below variance reflexive transitive (append n m) q
    into_right n m q s = (s.0, in_append_right s.0 n m s.1, s.2)

    together_paths :
        (n : Paths) (p : TypePath) → SuitsAll variance n → Suits variance p
        → paths_of variance (meet (type_of_paths n) (type_of_path p)) ≡ append n (more p none)
    together_paths n p s t = λ i. append (paths_back n variance s i) (path_back p variance t i)

    -- one path of the rest is put in
    pub remains_step :
        {whole out rest : Paths} (p : TypePath) (less next : Paths) → Remains whole out rest → In p rest
        → ((q : TypePath) → In q rest → (q ≡ p) ⊎ In q less) → ((q : TypePath) → In q less → In q rest)
        → IsNormalForm below variance (meet (type_of_paths out) (type_of_path p)) next → Remains whole next less
    remains_step {whole = whole} {out = out} {rest = rest} p less next h i split back form =
        let e = together_paths out p h.normal.suits (suits_at rest p h.suits i) in
        let down = subst (λ l. PathsLe below variance next l) e form.lower in
        let up = subst (λ l. PathsLe below variance l next) e form.upper in
        let s = suits_within less rest h.suits back in
        record {
          normal = form.normal;
          suits = s;
          canonical = canonical_within less rest h.canonical back;
          lower = covers_trans below variance reflexive transitive (append next less) (append out rest) whole (over down s) h.lower;
          upper = covers_trans below variance reflexive transitive whole (append out rest) (append next less) h.upper (under up s);
        }
      where
        over : PathsLe below variance next (append out (more p none)) → SuitsAll variance less → PathsLe below variance (append next less) (append out rest)
        over d s = covers_all below variance reflexive transitive (append next less) (append out rest) (λ q j. elim (in_append q out rest j) [
          | inl a ↦ into_left next less q (covered below variance reflexive transitive next (append out (more p none)) d q (in_append_left q out (more p none) a))
          | inr b ↦ elim (split q b) [
            | inl e ↦ into_left next less q (subst (λ x. Some below variance reflexive transitive next x) (sym e) (covered below variance reflexive transitive next (append out (more p none)) d p (in_append_right p out (more p none) first_in)))
            | inr k ↦ into_right next less q (self less q s k)
          ]
        ])

        from_out :
            (q : TypePath) → Some below variance reflexive transitive (append out (more p none)) q
            → Some below variance reflexive transitive (append out rest) q
        from_out q s = (s.0, elim (in_append s.0 out (more p none) s.1) [ inl a ↦ in_append_left s.0 out rest a | inr b ↦ in_append_right s.0 out rest (only s.0 b) ], s.2)
          where
            only : (x : TypePath) → In x (more p none) → In x rest
            only _ first_in = i
            only x (later_in j) = elim j [ ]

        under : PathsLe below variance (append out (more p none)) next → SuitsAll variance less → PathsLe below variance (append out rest) (append next less)
        under d s = covers_all below variance reflexive transitive (append out rest) (append next less) (λ q j. elim (in_append q next less j) [
          | inl a ↦ from_out q (covered below variance reflexive transitive (append out (more p none)) next d q a)
          | inr b ↦ into_right out rest q (self rest q h.suits (back q b))
        ])

-- the paths of two lists, and of a list that ends with one more
pub listed-append : (xs ys : List TypePath) → listed (xs ++ ys) ≡ append (listed xs) (listed ys)
listed-append [] ys = refl
listed-append (x ∷ xs) ys = ap (more x) (listed-append xs ys)

pub listed-last : (n : List TypePath) (p : TypePath) → listed (n ++ p ∷ []) ≡ append (listed n) (more p none)
listed-last [] p = refl
listed-last (q ∷ n) p = ap (more q) (listed-last n p)

pub last_in : (n : List TypePath) (p : TypePath) → In p (listed (n ++ p ∷ []))
last_in [] p = first_in
last_in (q ∷ n) p = later_in (last_in n p)

pub before_last_in : (n : List TypePath) (p q : TypePath) → In q (listed n) → In q (listed (n ++ p ∷ []))
before_last_in n p q i = subst (λ l. In q l) (sym (listed-last n p)) (in_append_left q (listed n) (more p none) i)

pub last_or_before : (n : List TypePath) (p q : TypePath) → In q (listed (n ++ p ∷ [])) → (q ≡ p) ⊎ In q (listed n)
last_or_before n p q i = elim (in_append q (listed n) (more p none) (subst (λ l. In q l) (listed-last n p) i)) [ inl a ↦ inr a | inr b ↦ only q b ]
  where
    only : (q : TypePath) → In q (more p none) → (q ≡ p) ⊎ In q (listed n)
    only _ first_in = inl refl
    only q (later_in j) = elim j [ ]

pub first_or_later : (p q : TypePath) (n : Paths) → In q (more p n) → (q ≡ p) ⊎ In q n
first_or_later p _ n first_in = inl refl
first_or_later p q n (later_in i) = inr i
