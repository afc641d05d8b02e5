-- The intersection of what arrows take, position after position.
use Rattle.std.proofs.Common.{ℕ, ◌≡◌, refl, sym, subst, ap, ◌∙◌, List, [], ◌∷◌, ◌++◌, get_or, Option, None, Some}
use Rattle.std.specs.Prelude.{slice_get}
use Rattle.std.specs.Option.{option_map, unwrap_or}
use Rattle.std.proofs.lemmas.Option.{get_or_from_slice_get, unwrap_or-slice_get}
use Rattle.cls_base.specs.Taxonomies.{Variance}
use Rattle.cls_base.specs.Types.{ClosedType, meet}
use Rattle.cls_path.specs.Paths.{TypePath, Paths, none, more, InPaths, first_in, later_in, PathsLe, append, paths_of, type_of_paths, listed}
use Rattle.cls_path.specs.declared.source.ArrowSource.{ArrowSource}
use Rattle.cls_path.specs.NormalForms.{IsNormal}
use Rattle.cls_path.specs.PathLists.{ArePathsOf}
use Rattle.cls_path.specs.Seen.{paths_of_source}
use Rattle.cls_path.proofs.Completeness.{covers_refl}
use Rattle.cls_path.proofs.Remains.{canonical_each}
use Rattle.cls_path.proofs.RoundTrip.{paths_back, append_none, append_assoc}
use Rattle.cls_path.proofs.TypeParts.{omega_paths, meet_paths, form_of_paths}
use Rattle.cls_library.specs.Arrows.{MultiArrow}
use Rattle.cls_library.specs.Libraries.{Library, below_in, variances_in}
use Rattle.cls_check.specs.Arguments.{no_arrow, source_type, argument_type}
use Rattle.cls_check.specs.Checking.{IsForm}
use Rattle.cls_check.proofs.Order.{reflexive, transitive}

argument-last : (v : ℕ → Variance) (arrows : List MultiArrow) (s : List ℕ) (k i : ℕ) → paths_of v (argument_type arrows (s ++ k ∷ []) i) ≡ append (paths_of v (argument_type arrows s i)) (paths_of v (source_type (get_or arrows k no_arrow) i))
argument-last v arrows [] k i = append_none (paths_of v (source_type (get_or arrows k no_arrow) i))
argument-last v arrows (j ∷ s) k i =
    ap (append (paths_of v (source_type (get_or arrows j no_arrow) i))) (argument-last v arrows s k i)
    ∙ sym (append_assoc (paths_of v (source_type (get_or arrows j no_arrow) i)) (paths_of v (argument_type arrows s i)) (paths_of v (source_type (get_or arrows k no_arrow) i)))

module _ (l : Library) (arrows : List MultiArrow) where
  -- the paths of what the arrows at the positions take
  abbrev pub AreTaken : List ℕ → ℕ → List TypePath → Type 0
  AreTaken s i ps = ArePathsOf (below_in l.taxonomy) (variances_in l.taxonomy) (argument_type arrows s i) (listed ps)

  same_paths : (s t : ClosedType) (n : Paths) → paths_of (variances_in l.taxonomy) s ≡ paths_of (variances_in l.taxonomy) t → ArePathsOf (below_in l.taxonomy) (variances_in l.taxonomy) t n → ArePathsOf (below_in l.taxonomy) (variances_in l.taxonomy) s n
  same_paths s t n e h = record {
    suits = h.suits;
    canonical = h.canonical;
    lower = subst (λ m. PathsLe (below_in l.taxonomy) (variances_in l.taxonomy) n m) (sym e) h.lower;
    upper = subst (λ m. PathsLe (below_in l.taxonomy) (variances_in l.taxonomy) m n) (sym e) h.upper;
  }

  pub taken_none : (i : ℕ) → AreTaken [] i []
  taken_none i = omega_paths (below_in l.taxonomy) (variances_in l.taxonomy) (reflexive l) (transitive l)

  normal_paths : (n : Paths) → IsNormal (below_in l.taxonomy) (variances_in l.taxonomy) n → ArePathsOf (below_in l.taxonomy) (variances_in l.taxonomy) (type_of_paths n) n
  normal_paths n h =
      let e = sym (paths_back n (variances_in l.taxonomy) h.suits) in
      let r = covers_refl (below_in l.taxonomy) (variances_in l.taxonomy) (reflexive l) (transitive l) n h.suits in
      record {
        suits = h.suits;
        canonical = canonical_each (below_in l.taxonomy) (variances_in l.taxonomy) n h.canonical;
        lower = subst (λ m. PathsLe (below_in l.taxonomy) (variances_in l.taxonomy) n m) e r;
        upper = subst (λ m. PathsLe (below_in l.taxonomy) (variances_in l.taxonomy) m n) e r;
      }

  module _ (s : List ℕ) (k i : ℕ) (ps : List TypePath) (h : AreTaken s i ps) where
    pub taken_more : (m : Paths) (qs : List TypePath) → m ≡ get_or (get_or arrows k no_arrow).sources i none → listed qs ≡ append (listed ps) m → IsNormal (below_in l.taxonomy) (variances_in l.taxonomy) (get_or (get_or arrows k no_arrow).sources i none) → AreTaken (s ++ k ∷ []) i qs
    taken_more m qs e f n =
        let source = get_or (get_or arrows k no_arrow).sources i none in
        same_paths (argument_type arrows (s ++ k ∷ []) i) (meet (argument_type arrows s i) (type_of_paths source)) (listed qs) (argument-last (variances_in l.taxonomy) arrows s k i)
        (subst (λ q. ArePathsOf (below_in l.taxonomy) (variances_in l.taxonomy) (meet (argument_type arrows s i) (type_of_paths source)) q) (ap (append (listed ps)) (sym e) ∙ sym f)
        (meet_paths (below_in l.taxonomy) (variances_in l.taxonomy) (reflexive l) (transitive l) (argument_type arrows s i) (type_of_paths source) (listed ps) source h (normal_paths source n)))

    pub taken_same : none ≡ get_or (get_or arrows k no_arrow).sources i none → AreTaken (s ++ k ∷ []) i ps
    taken_same e = same_paths (argument_type arrows (s ++ k ∷ []) i) (argument_type arrows s i) (listed ps)
        (argument-last (variances_in l.taxonomy) arrows s k i
        ∙ (ap (λ (n : Paths). append (paths_of (variances_in l.taxonomy) (argument_type arrows s i)) (paths_of (variances_in l.taxonomy) (type_of_paths n))) (sym e)
        ∙ append_none (paths_of (variances_in l.taxonomy) (argument_type arrows s i)))) h

-- what a call for a source tells
pub found_source : (a : MultiArrow) (k : ℕ) (o : Option ArrowSource) (m : ArrowSource) → option_map paths_of_source o ≡ slice_get a.sources k → o ≡ Some m → paths_of_source m ≡ get_or a.sources k none
found_source a k o m h e = sym (get_or_from_slice_get a.sources k (paths_of_source m) none (sym h ∙ ap (λ (p : Option ArrowSource). option_map paths_of_source p) e))

pub no_source : (a : MultiArrow) (k : ℕ) (o : Option ArrowSource) → option_map paths_of_source o ≡ slice_get a.sources k → o ≡ None → none ≡ get_or a.sources k none
no_source a k o h e = ap (λ (p : Option Paths). unwrap_or p none) (sym (ap (λ (p : Option ArrowSource). option_map paths_of_source p) e) ∙ h) ∙ unwrap_or-slice_get a.sources k none

-- the only path of a list of one
pub sole : (p q : TypePath) → InPaths (more p none) q → q ≡ p
sole p _ first_in = refl
sole p q (later_in i) = elim i [ ]

-- what the whole loop has put together
pub taken_form : (l : Library) (arrows : List MultiArrow) (s : List ℕ) (i : ℕ) (ps nf : List TypePath) → AreTaken l arrows s i ps → IsForm l (type_of_paths (listed ps)) (listed nf) → IsForm l (argument_type arrows s i) (listed nf)
taken_form l arrows s i ps nf h f = form_of_paths (below_in l.taxonomy) (variances_in l.taxonomy) (reflexive l) (transitive l) (argument_type arrows s i) (listed ps) (listed nf) h f
