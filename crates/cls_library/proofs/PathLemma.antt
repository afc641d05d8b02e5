-- A spine reaches a path exactly where some arrow of its Head with so many sources has a target below the path and each argument
-- has its source.
use Rattle.std.proofs.Common.{ℕ, zero, suc, ◌≡◌, ◌≤◌, ◌↔◌, refl, sym, subst, ap, ◌⊎◌, inl, inr, List, [], ◌∷◌, length, Option, Some, None, arith}
use Rattle.cls_base.specs.Taxonomies.{Variance}
use Rattle.cls_base.specs.Terms.{Applicative, component, apply}
use Rattle.cls_base.specs.Spines.{spine}
use Rattle.cls_path.specs.Paths.{TypePath, function, Paths, none, more, PathLe, InPaths, first_in, later_in, SuitsAll}
use Rattle.cls_library.specs.Arrows.{MultiArrow, leading_arrows, arity_of, with_source, split, onto, arrows_of}
use Rattle.cls_library.proofs.ByCases.{At, at_first, at_later, Zip, zip_none, zip_more, zip_length}
use Rattle.cls_library.proofs.PathTyping.{HasPath, Reaches, HasAll}

abbrev pub from_sources : List Paths → TypePath → TypePath
from_sources [] p = p
from_sources (n ∷ ns) p = function n (from_sources ns p)

split_sound : (k : ℕ) (p : TypePath) (a : MultiArrow) → split k p ≡ Some a → (p ≡ from_sources a.sources a.target) × (length a.sources ≡ k)
split_sound zero p a e =
    let f : record { sources = []; target = p } ≡ a = cc in subst (λ (b : MultiArrow). (p ≡ from_sources b.sources b.target) × (length b.sources ≡ 0)) f (refl, refl)
split_sound (suc k) (function n p) a e = go (split k p) (λ b f. split_sound k p b f) e
  where
    go : (o : Option MultiArrow) → ((b : MultiArrow) → o ≡ Some b → (p ≡ from_sources b.sources b.target) × (length b.sources ≡ k)) → with_source n o ≡ Some a → (function n p ≡ from_sources a.sources a.target) × (length a.sources ≡ suc k)
    go None f e = absurd cc
    go (Some b) f e =
        let r = f b refl in
        let h : record { sources = n ∷ b.sources; target = b.target } ≡ a = cc in
        subst (λ (d : MultiArrow). (function n p ≡ from_sources d.sources d.target) × (length d.sources ≡ suc k)) h (ap (function n) r.0, ap suc r.1)
split_sound (suc k) _ a e = absurd cc

split_back : (ns : List Paths) (p : TypePath) → split (length ns) (from_sources ns p) ≡ Some (record { sources = ns; target = p })
split_back [] p = refl
split_back (n ∷ ns) p = ap (with_source n) (split_back ns p)

at_onto : (o : Option MultiArrow) (rest : List MultiArrow) (i : ℕ) (a : MultiArrow) → At (onto o rest) i a → (o ≡ Some a) ⊎ ((j : ℕ) × At rest j a)
at_onto None rest i a h = inr (i, h)
at_onto (Some b) rest _ _ at_first = inl refl
at_onto (Some b) rest _ a (at_later h) = inr (_, h)

pub arrow_from : (k : ℕ) (n : Paths) (i : ℕ) (a : MultiArrow) → At (arrows_of k n) i a → InPaths n (from_sources a.sources a.target) × (length a.sources ≡ k)
arrow_from k none i a h = elim h [ ]
arrow_from k (more p n) i a h = elim (at_onto (split k p) (arrows_of k n) i a h) [
  | inl e ↦ (let r = split_sound k p a e in (subst (λ q. InPaths (more p n) q) r.0 first_in, r.1))
  | inr r ↦ (let u = arrow_from k n r.0 a r.1 in (later_in u.0, u.1))
]

onto_later : (o : Option MultiArrow) (rest : List MultiArrow) (i : ℕ) (a : MultiArrow) → At rest i a → (j : ℕ) × At (onto o rest) j a
onto_later None rest i a h = (i, h)
onto_later (Some b) rest i a h = (suc i, at_later h)

pub arrow_at : (n : Paths) (ns : List Paths) (p : TypePath) → InPaths n (from_sources ns p) → (i : ℕ) × At (arrows_of (length ns) n) i (record { sources = ns; target = p })
arrow_at none ns p h = elim h [ ]
arrow_at (more q n) ns p first_in = (0, subst (λ o. At (onto o (arrows_of (length ns) n)) 0 (record { sources = ns; target = p })) (sym (split_back ns p)) at_first)
arrow_at (more q n) ns p (later_in h) = let r = arrow_at n ns p h in onto_later (split (length ns) q) (arrows_of (length ns) n) r.0 _ r.1

leading_of : (ns : List Paths) (p : TypePath) → length ns ≤ leading_arrows (from_sources ns p)
leading_of [] p = omega arith
leading_of (n ∷ ns) p = let h = leading_of ns p in omega arith

leading_within : (n : Paths) (p : TypePath) → InPaths n p → leading_arrows p ≤ arity_of n
leading_within none p h = elim h [ ]
leading_within (more q n) _ first_in = omega arith
leading_within (more q n) p (later_in h) = let k = leading_within n p h in omega arith

pub arrow_within : (k : ℕ) (n : Paths) (i : ℕ) (a : MultiArrow) → At (arrows_of k n) i a → k ≤ arity_of n
arrow_within k n i a h =
    let r = arrow_from k n i a h in
    let u = leading_of a.sources a.target in
    let v = leading_within n (from_sources a.sources a.target) r.0 in
    let w : length a.sources ≡ k = r.1 in omega arith

module _ (below : ℕ → ℕ → Type 0) (variance : ℕ → Variance) (reflexive : (c : ℕ) → below c c) (transitive : (c d e : ℕ) → below c d → below d e → below c e) (count : ℕ) (paths : ℕ → Paths) (suited : (x : ℕ) → SuitsAll variance (paths x)) where
  abbrev pub Have : List Applicative → List Paths → Type 0
  Have es ns = Zip (HasAll below variance reflexive transitive count paths suited) es ns

  abbrev Path : Applicative → TypePath → Type 0
  Path e p = HasPath below variance reflexive transitive count paths suited e p

  spine_has : (es : List Applicative) (f : Applicative) (p : TypePath) → Path (spine f es) p → (ns : List Paths) × Path f (from_sources ns p) × Have es ns
  spine_has [] f p h = ([], h, zip_none)
  spine_has (e ∷ es) f p h = let r = spine_has es (apply f e) p h in (r.1.0 ∷ r.0, r.1.1, zip_more r.1.2 r.2)

  has_spine : {es : List Applicative} {ns : List Paths} (f : Applicative) (p : TypePath) → Have es ns → Path f (from_sources ns p) → Path (spine f es) p
  has_spine f p zip_none h = h
  has_spine f p (zip_more {x = e} {y = n} {xs = es} k z) h = has_spine (apply f e) p z (n, h, k)

  -- an arrow of x for these arguments, at this position
  pub record IsSatisfied (x : ℕ) (es : List Applicative) (i : ℕ) (a : MultiArrow) : Type 0 where
    pub at : At (arrows_of (length es) (paths x)) i a
    pub have : Have es a.sources

  pub path_lemma : (x : ℕ) (es : List Applicative) (q : TypePath) → Reaches below variance reflexive transitive count paths suited (spine (component x) es) q ↔ ((i : ℕ) × (a : MultiArrow) × IsSatisfied x es i a × PathLe below variance a.target q)
  path_lemma x es q = ((λ h. there_is h.0 h.1 h.2), (λ h. reached h.0 h.1 h.2 h.3))
    where
      there_is : (p : TypePath) → Path (spine (component x) es) p → PathLe below variance p q → (i : ℕ) × (a : MultiArrow) × IsSatisfied x es i a × PathLe below variance a.target q
      there_is p h le =
          let r = spine_has es (component x) p h in
          let u = arrow_at (paths x) r.0 p r.1 in
          (u.0, record { sources = r.0; target = p }, record { at = subst (λ k. At (arrows_of k (paths x)) u.0 (record { sources = r.0; target = p })) (sym (zip_length r.2)) u.1; have = r.2 }, le)

      reached : (i : ℕ) (a : MultiArrow) → IsSatisfied x es i a → PathLe below variance a.target q → Reaches below variance reflexive transitive count paths suited (spine (component x) es) q
      reached i a s le = (a.target, has_spine (component x) a.target s.have (arrow_from (length es) (paths x) i a s.at).0, le)
