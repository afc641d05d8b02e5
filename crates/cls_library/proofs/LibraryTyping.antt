-- The laws of typing by a library.
use Rattle.std.proofs.Common.{ℕ, ◌≡◌, ◌<◌, ◌↔◌, sym, subst, List, [], ◌∷◌, length, get_or, arith}
use Rattle.std.proofs.lemmas.List.{get_or_past}
use native.Mathlib.Decide.{dec_lt}
use Rattle.cls_base.specs.Terms.{Applicative, component, apply, IsTermOver}
use Rattle.cls_base.specs.Spines.{spine}
use Rattle.cls_taxon.specs.DecisionLaws.{is_below-reflexive, is_below-transitive}
use Rattle.cls_path.specs.Paths.{TypePath, Paths, none, more, InPaths, first_in, later_in, type_of_path, type_of_paths, Suits, SuitsAll}
use Rattle.cls_cover.specs.Members.{Member, first, later}
use Rattle.cls_library.specs.Arrows.{MultiArrow}
use Rattle.cls_path.proofs.Completeness.{suits_in}
use Rattle.cls_library.specs.Libraries.{Library, Component, no_component, below_in, variances_in, paths_at, arrows_at, IsLibrary}
use Rattle.cls_library.specs.Typing.{HasTypeIn, IsTypeOf}
use Rattle.cls_library.specs.Laws.{ApplicationsAreGenerated, IntersectionsAreBoth, PathsAreReached}
use Rattle.cls_library.specs.Reaching.{IsReachedBy}
use Rattle.cls_library.proofs.ByCases.{At, at_contains, contains_at, Zip, zip_none, zip_more, zip_all, all_zip}
use Rattle.cls_library.proofs.Generation.{application, intersection}
use Rattle.cls_library.proofs.PathTyping.{HasAll, Reaches, typed_exactly}
use Rattle.cls_library.proofs.PathLemma.{path_lemma, from_sources, arrow_within, arrow_from}

pub applications_are_generated : ApplicationsAreGenerated
applications_are_generated l f a t = application (below_in l.taxonomy) (variances_in l.taxonomy) (IsTypeOf l) f a t

pub intersections_are_both : IntersectionsAreBoth
intersections_are_both l e s t = intersection (below_in l.taxonomy) (variances_in l.taxonomy) (IsTypeOf l) e s t

module _ (l : Library) (h : IsLibrary l) where
  pub reflexive : (c : ℕ) → below_in l.taxonomy c c
  reflexive c = is_below-reflexive l.taxonomy c

  pub transitive : (c d e : ℕ) → below_in l.taxonomy c d → below_in l.taxonomy d e → below_in l.taxonomy c e
  transitive c d e b k = is_below-transitive l.taxonomy c d e b k

  -- the paths of each component suit the variances
  pub suited : (x : ℕ) → SuitsAll (variances_in l.taxonomy) (paths_at l x)
  suited x = go (dec_lt x (length l.components))
    where
      go : Dec (x < length l.components) → SuitsAll (variances_in l.taxonomy) (paths_at l x)
      go (yes i) = (h.each x no_component i).normal.suits
      go (no n) =
          let e : get_or l.components x no_component ≡ no_component = get_or_past l.components x no_component (omega arith) in
          subst (λ (c : Component). SuitsAll (variances_in l.taxonomy) c.paths) (sym e) tt

  -- a component past the last has no paths
  pub declared : (x : ℕ) (p : TypePath) → InPaths (paths_at l x) p → x < length l.components
  declared x p i = go (dec_lt x (length l.components))
    where
      none_in : (p : TypePath) → InPaths none p → ⊥
      none_in p i = elim i [ ]

      go : Dec (x < length l.components) → x < length l.components
      go (yes j) = j
      go (no n) =
          let e : get_or l.components x no_component ≡ no_component = get_or_past l.components x no_component (omega arith) in
          absurd (none_in p (subst (λ (c : Component). InPaths c.paths p) e i))

  abbrev pub All : Applicative → Paths → Type 0
  All e n = HasAll (below_in l.taxonomy) (variances_in l.taxonomy) reflexive transitive (length l.components) (paths_at l) suited e n

  pub typed : (e : Applicative) (n : Paths) → SuitsAll (variances_in l.taxonomy) n → HasTypeIn l e (type_of_paths n) ↔ (IsTermOver (length l.components) e × All e n)
  typed e n s = typed_exactly (below_in l.taxonomy) (variances_in l.taxonomy) reflexive transitive (length l.components) (paths_at l) suited e n s

  pub over_spine : (count : ℕ) (es : List Applicative) (f : Applicative) → IsTermOver count f → ((a : Applicative) → Member es a → IsTermOver count a) → IsTermOver count (spine f es)
  over_spine count [] f o k = o
  over_spine count (e ∷ es) f o k = over_spine count es (apply f e) (o, k e first) (λ a m. k a (later m))

  pub spine_over : (count : ℕ) (es : List Applicative) (f : Applicative) → IsTermOver count (spine f es) → IsTermOver count f × ((a : Applicative) → Member es a → IsTermOver count a)
  spine_over count [] f o = (o, (λ a m. elim m [ ]))
  spine_over count (e ∷ es) f o = let r = spine_over count es (apply f e) o in (r.0.0, (λ a m. both a m r.0.1 r.1))
    where
      both : (a : Applicative) → Member (e ∷ es) a → IsTermOver count e → ((b : Applicative) → Member es b → IsTermOver count b) → IsTermOver count a
      both _ first o k = o
      both a (later m) o k = k a m

module _ (l : Library) (h : IsLibrary l) where
  sources_suit : (ns : List Paths) (p : TypePath) → Suits (variances_in l.taxonomy) (from_sources ns p) → (n : Paths) → Member ns n → SuitsAll (variances_in l.taxonomy) n
  sources_suit (m ∷ ns) p s _ first = s.0
  sources_suit (m ∷ ns) p s n (later k) = sources_suit ns p s.1 n k
  sources_suit [] p s n k = elim k [ ]

  -- the sources of an arrow suit the variances, and its component is declared
  pub arrow_sources : (x n i : ℕ) (a : MultiArrow) → At (arrows_at l x n) i a → ((m : Paths) → Member a.sources m → SuitsAll (variances_in l.taxonomy) m) × (x < length l.components)
  arrow_sources x n i a m =
      let r = arrow_from n (paths_at l x) i a m in (
        sources_suit a.sources a.target (suits_in (below_in l.taxonomy) (variances_in l.taxonomy) (reflexive l h) (transitive l h) (paths_at l x) (from_sources a.sources a.target) (suited l h x) r.0),
        declared l h x (from_sources a.sources a.target) r.0,
      )

  pub each_typed : {es : List Applicative} {ns : List Paths} → ((n : Paths) → Member ns n → SuitsAll (variances_in l.taxonomy) n) → ((e : Applicative) → Member es e → IsTermOver (length l.components) e) → Zip (λ e n. All l h e n) es ns → Zip (λ e n. HasTypeIn l e (type_of_paths n)) es ns
  each_typed f o zip_none = zip_none
  each_typed f o (zip_more {x = e} {y = n} k z) = zip_more ((typed l h e n (f n first)).1 (o e first, k)) (each_typed (λ m i. f m (later i)) (λ a i. o a (later i)) z)

  pub each_all : {es : List Applicative} {ns : List Paths} → ((n : Paths) → Member ns n → SuitsAll (variances_in l.taxonomy) n) → Zip (λ e n. HasTypeIn l e (type_of_paths n)) es ns → Zip (λ e n. All l h e n) es ns × ((e : Applicative) → Member es e → IsTermOver (length l.components) e)
  each_all f zip_none = (zip_none, (λ e m. elim m [ ]))
  each_all f (zip_more {x = e} {y = n} {xs = es} k z) =
      let r = each_all (λ m i. f m (later i)) z in
      let u = (typed l h e n (f n first)).0 k in
      (zip_more u.1 r.0, (λ a m. both a m u.0 r.1))
    where
      both : (a : Applicative) → Member (e ∷ es) a → IsTermOver (length l.components) e → ((b : Applicative) → Member es b → IsTermOver (length l.components) b) → IsTermOver (length l.components) a
      both _ first o k = o
      both a (later m) o k = k a m

pub paths_are_reached : PathsAreReached
paths_are_reached l h x es q s = (to, back)
  where
    to : HasTypeIn l (spine (component x) es) (type_of_path q) → IsReachedBy l x es q
    to k =
        let u = (typed l h (spine (component x) es) (more q none) (s, tt)).0 k in
        let over = spine_over l h (length l.components) es (component x) u.0 in
        let r = (path_lemma (below_in l.taxonomy) (variances_in l.taxonomy) (reflexive l h) (transitive l h) (length l.components) (paths_at l) (suited l h) x es q).0 (u.1 q first_in) in
        record { within = arrow_within (length es) (paths_at l x) r.0 r.1 r.2.at; arrow = r.1; is_one = at_contains r.2.at; target = r.3; sources = zip_all (each_typed l h (arrow_sources l h x (length es) r.0 r.1 r.2.at).0 over.1 r.2.have) }

    back : IsReachedBy l x es q → HasTypeIn l (spine (component x) es) (type_of_path q)
    back r =
        let at = contains_at (arrows_at l x (length es)) r.arrow r.is_one in
        let d = arrow_sources l h x (length es) at.0 r.arrow at.1 in
        let u = each_all l h d.0 (all_zip es r.arrow.sources r.sources) in
        let k = (path_lemma (below_in l.taxonomy) (variances_in l.taxonomy) (reflexive l h) (transitive l h) (length l.components) (paths_at l) (suited l h) x es q).1 (at.0, r.arrow, record { at = at.1; have = u.0 }, r.target) in
        (typed l h (spine (component x) es) (more q none) (s, tt)).1 (over_spine l h (length l.components) es (component x) d.1 u.1, (λ p i. one p i k))
      where
        one : (p : TypePath) → InPaths (more q none) p → Reaches (below_in l.taxonomy) (variances_in l.taxonomy) (reflexive l h) (transitive l h) (length l.components) (paths_at l) (suited l h) (spine (component x) es) q → Reaches (below_in l.taxonomy) (variances_in l.taxonomy) (reflexive l h) (transitive l h) (length l.components) (paths_at l) (suited l h) (spine (component x) es) p
        one _ first_in k = k
        one p (later_in i) k = elim i [ ]

-- the target of an arrow suits the variances
pub arrow_leads : (l : Library) → IsLibrary l → (x n i : ℕ) (a : MultiArrow) → At (arrows_at l x n) i a → Suits (variances_in l.taxonomy) a.target
arrow_leads l h x n i a m =
    let r = arrow_from n (paths_at l x) i a m in
    target_suits a.sources a.target (suits_in (below_in l.taxonomy) (variances_in l.taxonomy) (reflexive l h) (transitive l h) (paths_at l x) (from_sources a.sources a.target) (suited l h x) r.0)
  where
    target_suits : (ns : List Paths) (p : TypePath) → Suits (variances_in l.taxonomy) (from_sources ns p) → Suits (variances_in l.taxonomy) p
    target_suits [] p s = s
    target_suits (m ∷ ns) p s = target_suits ns p s.1
