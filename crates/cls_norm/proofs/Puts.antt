-- Paths of a type that are put behind others.
use Rattle.std.proofs.Common.{◌≡◌, refl, sym, ◌∙◌, ap, subst, ℕ, arith, List, [], ◌∷◌, ◌++◌, length, take, drop, append_assoc, length-append}
use Rattle.std.proofs.lemmas.List.{append-nil}
use Rattle.std.proofs.Math.Seq.{take-append_seam, drop-append_seam}
use Rattle.std.specs.Prelude.{map}
use Rattle.cls_base.specs.Types.{ClosedType, product, arrow, meet}
use Rattle.cls_base.specs.Taxonomies.{Variance}
use Rattle.cls_path.specs.Paths.{TypePath, unit, left, right, function, Paths, none, more, PathsLe, empty, each, map_paths, paths_of, listed}
use Rattle.cls_path.specs.NormalForms.{IsNormalForm}
use Rattle.cls_path.specs.PathLists.{ArePathsOf}
use Rattle.cls_path.proofs.Remains.{listed-append}
use Rattle.cls_path.proofs.TypeParts.{product_paths, meet_paths}
use Rattle.cls_norm.specs.PathLists.{or_else, PutsPathsOf}
use Rattle.cls_norm.proofs.PathLists.{listed-product}

-- what lies behind the old list is changed, and the old list stays
seam :
    (g : List TypePath → List TypePath) (start : ℕ) (old mid made : List TypePath) → start ≡ length old
    → mid ≡ old ++ made → take start mid ++ g (drop start mid) ≡ old ++ g made
seam g start old mid made e h = rw (e, h, take-append_seam old made, drop-append_seam old made)

none_made :
    (p : TypePath) (old made new : List TypePath) → new ≡ old ++ made → length new ≡ length old
    → new ++ (p ∷ []) ≡ old ++ or_else p made
none_made p old [] new e h = ap (λ l. l ++ (p ∷ [])) (e ∙ append-nil old)
none_made p old (q ∷ made) new e h = absurd (omega (arith, ap length e, length-append old (q ∷ made)))

some_made :
    (p : TypePath) (old made new : List TypePath) → new ≡ old ++ made → (length new ≡ length old → ⊥)
    → new ≡ old ++ or_else p made
some_made p old [] new e h = absurd (h (ap length (e ∙ append-nil old)))
some_made p old (q ∷ made) new e h = e

nothing_made : (old made new : List TypePath) → new ≡ old ++ made → length new ≡ length old → made ≡ []
nothing_made old [] new e h = refl
nothing_made old (q ∷ made) new e h = absurd (omega (arith, ap length e, length-append old (q ∷ made)))

module _ (below : ℕ → ℕ → Type 0) (variance : ℕ → Variance) where
  abbrev Puts : ClosedType → List TypePath → List TypePath → Type 0
  Puts t old new = PutsPathsOf below variance t old new

  abbrev Of : ClosedType → List TypePath → Type 0
  Of t n = ArePathsOf below variance t (listed n)

  -- a single path is in order, and nothing stands beside it
  pub form_of_one : (t : ClosedType) (p : TypePath) → Of t (p ∷ []) → IsNormalForm below variance t (listed (p ∷ []))
  form_of_one t p h = record {
    normal = record { suits = h.suits; canonical = (h.canonical.0, tt, tt) };
    lower = h.lower;
    upper = h.upper;
  }

  pub puts_none : (t : ClosedType) (old : List TypePath) → Of t [] → Puts t old old
  puts_none t old h = record { made = []; behind = sym (append-nil old); paths = h }

  -- behind no others they are all there is
  pub puts_first : (t : ClosedType) (old new : List TypePath) → old ≡ [] → Puts t old new → Of t new
  puts_first t old new e h =
      let f : new ≡ h.made = h.behind ∙ ap (λ l. l ++ h.made) e in
      subst (λ l. Of t l) (sym f) h.paths

  pub puts_one :
      (t : ClosedType) (p : TypePath) (old new : List TypePath) → new ≡ old ++ (p ∷ []) → Of t (p ∷ []) → Puts t old new
  puts_one t p old new e h = record { made = p ∷ []; behind = e; paths = h }

  above_none : (n : Paths) → PathsLe below variance none n → n ≡ none
  above_none none h = refl
  above_none (more q n) (each a h) = elim a [ ]

  -- the paths of an arrow are made from those of its target alone, if there are none
  none_of_arrow : (s t : ClosedType) → Of t [] → Of (arrow s t) []
  none_of_arrow s t h =
      let f : TypePath → TypePath = function (paths_of variance s) in
      let e : none ≡ paths_of variance t = sym (above_none (paths_of variance t) h.lower) in
      record {
        suits = tt;
        canonical = tt;
        lower = subst (λ (m : Paths). PathsLe below variance none (map_paths f m)) e empty;
        upper = subst (λ (m : Paths). PathsLe below variance (map_paths f m) none) e empty;
      }

  pub puts_no_arrow :
      (s t : ClosedType) (old new : List TypePath) → Puts t old new → length new ≡ length old → Puts (arrow s t) old new
  puts_no_arrow s t old new h e =
      let n : h.made ≡ [] = nothing_made old h.made new h.behind e in
      record {
        made = [];
        behind = h.behind ∙ ap (λ l. old ++ l) n;
        paths = none_of_arrow s t (subst (λ l. Of t l) n h.paths);
      }

  -- Paths of one type become paths of another, from the place on where they begin.
  pub puts_changed :
      (s t : ClosedType) (g : List TypePath → List TypePath) (start : ℕ) (old mid new : List TypePath)
      → start ≡ length old → Puts s old mid → new ≡ take start mid ++ g (drop start mid)
      → ((made : List TypePath) → Of s made → Of t (g made)) → Puts t old new
  puts_changed s t g start old mid new e h k f = record {
    made = g h.made;
    behind = k ∙ seam g start old mid h.made e h.behind;
    paths = f h.made h.paths;
  }

  -- The new list is the old one with the paths of both sides of a product behind it.
  pub record PutsSides (s t : ClosedType) (old new : List TypePath) : Type 0 where
    pub first : List TypePath
    pub second : List TypePath
    pub behind : new ≡ old ++ (map left first ++ map right second)
    pub lefts : Of s first
    pub rights : Of t second

  pub puts_sides :
      (s t : ClosedType) (start middle : ℕ) (old a b c d : List TypePath) → start ≡ length old → middle ≡ length b
      → Puts s old a → b ≡ take start a ++ map left (drop start a) → Puts t b c
      → d ≡ take middle c ++ map right (drop middle c) → PutsSides s t old d
  puts_sides s t start middle old a b c d e f h i k j =
      let l = map left h.made in
      let r = map right k.made in
      let m : b ≡ old ++ l = i ∙ seam (λ n. map left n) start old a h.made e h.behind in
      let n : d ≡ b ++ r = j ∙ seam (λ n. map right n) middle b c k.made f k.behind in
      record {
        first = h.made;
        second = k.made;
        behind = n ∙ (ap (λ x. x ++ r) m ∙ append_assoc old l r);
        lefts = h.paths;
        rights = k.paths;
      }

  module _ (reflexive : (c : ℕ) → below c c) (transitive : (c d e : ℕ) → below c d → below d e → below c e) where
    product_of : (s t : ClosedType) (n m : List TypePath) → Of s n → Of t m → Of (product s t) (or_else unit (map left n ++ map right m))
    product_of s t n m h k = rw (listed-product n m) (product_paths below variance reflexive transitive s t (listed n) (listed m) h k)

    pub puts_unit :
        (s t : ClosedType) (p : TypePath) (old mid new : List TypePath) → PutsSides s t old mid → length mid ≡ length old
        → p ≡ unit → new ≡ mid ++ (p ∷ []) → Puts (product s t) old new
    puts_unit s t p old mid new h e u k =
        let made = map left h.first ++ map right h.second in
        let f : new ≡ mid ++ (unit ∷ []) = rw (← u) k in
        record {
          made = or_else unit made;
          behind = f ∙ none_made unit old made mid h.behind e;
          paths = product_of s t h.first h.second h.lefts h.rights;
        }

    pub puts_product :
        (s t : ClosedType) (old new : List TypePath) → PutsSides s t old new → (length new ≡ length old → ⊥)
        → Puts (product s t) old new
    puts_product s t old new h f =
        let made = map left h.first ++ map right h.second in
        record {
          made = or_else unit made;
          behind = some_made unit old made new h.behind f;
          paths = product_of s t h.first h.second h.lefts h.rights;
        }

    pub puts_meet :
        (s t : ClosedType) (old mid new : List TypePath) → Puts s old mid → Puts t mid new → Puts (meet s t) old new
    puts_meet s t old mid new h k = record {
      made = h.made ++ k.made;
      behind = k.behind ∙ (ap (λ l. l ++ k.made) h.behind ∙ append_assoc old h.made k.made);
      paths = rw (listed-append h.made k.made) (meet_paths below variance reflexive transitive s t (listed h.made) (listed k.made) h.paths k.paths);
    }
