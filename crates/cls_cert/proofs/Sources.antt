-- What arrows take over a cover: as a type, and as an argument of the rule of the cover.
use Rattle.std.proofs.Common.{ℕ, zero, suc, ◌≡◌, ◌<◌, refl, sym, ◌∙◌, subst, ap, List, [], ◌∷◌, length, get_or, arith, Contains, Some}
use Rattle.std.specs.Prelude.{slice_get}
use Rattle.std.specs.List.{AllZip}
use Rattle.std.proofs.lemmas.List.Elements.{AllZip-get_or, length_all_zip}
use Rattle.std.proofs.lemmas.Option.{get_or_from_slice_get, slice_get_within}
use Rattle.cls_base.specs.declared.rule.Rule.{Rule}
use Rattle.cls_base.proofs.Lists.{Contains-here, Contains-later}
use Rattle.cls_path.specs.Paths.{Paths, none, PathsLe, append, paths_of, type_of_paths, SuitsAll}
use Rattle.cls_path.proofs.RoundTrip.{paths_back}
use Rattle.cls_path.proofs.Equivalence.{paths_sound}
use Rattle.cls_cover.specs.Members.{Member, first, later}
use Rattle.cls_cover.proofs.Lists.{contains_member, member_contains, get_member}
use Rattle.cls_library.specs.Arrows.{MultiArrow}
use Rattle.cls_library.specs.Libraries.{Library, IsLibrary, below_in, variances_in}
use Rattle.cls_library.specs.Reaching.{IsReduced, columns}
use Rattle.cls_library.specs.Rules.{Choice, arrows_for, IsRuleFor}
use Rattle.cls_check.specs.Arguments.{argument_type}
use Rattle.cls_check.specs.Checking.{IsSubtype}
use Rattle.cls_check.proofs.Order.{reflexive, transitive}
use Rattle.cls_expand.specs.Making.{no_arrow, picked_of, gathered}
use Rattle.cls_cert.proofs.ChoiceLaws.{rule_length}
use Rattle.cls_expand.proofs.Sources.{AreArrows, library_arrows, picked_arrows, columns_at}

-- the arrows that are picked
picked_same : (arrows : List MultiArrow) (cover : List ℕ) (picked : List MultiArrow) → AllZip (λ i a. slice_get arrows i ≡ Some a) cover picked → picked ≡ picked_of arrows cover
picked_same arrows [] [] h = refl
picked_same arrows [] (a ∷ picked) h = absurd h
picked_same arrows (i ∷ cover) [] h = absurd h
picked_same arrows (i ∷ cover) (a ∷ picked) h =
    ap (λ (b : MultiArrow). b ∷ picked) (sym (get_or_from_slice_get arrows i a no_arrow h.0))
    ∙ ap (λ (bs : List MultiArrow). get_or arrows i no_arrow ∷ bs) (picked_same arrows cover picked h.1)

picked_below : (arrows : List MultiArrow) (cover : List ℕ) (picked : List MultiArrow) → AllZip (λ i a. slice_get arrows i ≡ Some a) cover picked → (i : ℕ) → Member cover i → i < length arrows
picked_below arrows cover picked h i m = by cover picked h (member_contains m)
  where
    by : (cover : List ℕ) (picked : List MultiArrow) → AllZip (λ i a. slice_get arrows i ≡ Some a) cover picked → Contains cover i → i < length arrows
    by [] picked h c = absurd (let l : c.0 < 0 = c.1 in omega arith)
    by (j ∷ cover) [] h c = absurd h
    by (j ∷ cover) (a ∷ picked) h (zero, l, e) = subst (λ (k : ℕ). k < length arrows) e (slice_get_within arrows j a h.0)
    by (j ∷ cover) (a ∷ picked) h (suc k, l, e) = by cover picked h.1 (k, (omega arith), e)

-- what holds of each source, and of none where there is no source
source_in : (ns : List Paths) (place : ℕ) (P : Paths → Type 0) → P none → ((n : Paths) → Member ns n → P n) → P (get_or ns place none)
source_in [] place P h f = h
source_in (n ∷ ns) zero P h f = f n first
source_in (n ∷ ns) (suc place) P h f = source_in ns place P h (λ m k. f m (later k))

module _ (l : Library) (is : IsLibrary l) where
  -- the sources of an arrow suit the variances
  source_suits : (n : ℕ) (arrows : List MultiArrow) → AreArrows l n arrows → (k i : ℕ) → k < length arrows → SuitsAll (variances_in l.taxonomy) (get_or (get_or arrows k no_arrow).sources i none)
  source_suits n arrows a k i m = source_in (get_or arrows k no_arrow).sources i (λ (p : Paths). SuitsAll (variances_in l.taxonomy) p) tt (λ p j. a.suits (get_or arrows k no_arrow) (get_member arrows k no_arrow m) p j)

  argument_paths : (n : ℕ) (arrows : List MultiArrow) → AreArrows l n arrows → (s : List ℕ) (i : ℕ) → ((k : ℕ) → Contains s k → k < length arrows) → paths_of (variances_in l.taxonomy) (argument_type arrows s i) ≡ gathered i (picked_of arrows s)
  argument_paths n arrows a [] i f = refl
  argument_paths n arrows a (k ∷ s) i f =
      ap (λ (p : Paths). append p (paths_of (variances_in l.taxonomy) (argument_type arrows s i))) (paths_back (get_or (get_or arrows k no_arrow).sources i none) (variances_in l.taxonomy) (source_suits n arrows a k i (f k (Contains-here k s))))
      ∙ ap (λ (p : Paths). append (get_or (get_or arrows k no_arrow).sources i none) p) (argument_paths n arrows a s i (λ j m. f j (Contains-later j k s m)))

  module _ (c : Choice) (r : Rule Paths) (u : IsRuleFor l c r) where
    below : (i : ℕ) → Member c.cover i → i < length (arrows_for l c)
    below i m = picked_below (arrows_for l c) c.cover u.picked u.picks i m

    arrows : AreArrows l c.places (arrows_for l c)
    arrows = library_arrows l is c.component c.places

    picked : AreArrows l c.places (picked_of (arrows_for l c) c.cover)
    picked = picked_arrows l c.places (arrows_for l c) c.cover below arrows

    pub argument_count : length u.arguments ≡ c.places
    argument_count = rule_length l c r u

    reduced : (i : ℕ) → i < c.places → IsReduced l (paths_of (variances_in l.taxonomy) (argument_type (arrows_for l c) c.cover i)) (get_or u.arguments i none)
    reduced i k =
        let same = picked_same (arrows_for l c) c.cover u.picked u.picks in
        let count = argument_count in
        let long : length (columns c.places u.picked) ≡ length u.arguments = length_all_zip (IsReduced l) (columns c.places u.picked) u.arguments u.reduced in
        let at = AllZip-get_or (IsReduced l) (columns c.places u.picked) u.arguments i none none u.reduced (omega arith) in
        let column = ap (λ (arrows : List MultiArrow). get_or (columns c.places arrows) i none) same ∙ columns_at c.places i (picked_of (arrows_for l c) c.cover) picked.long in
        let paths = argument_paths c.places (arrows_for l c) arrows c.cover i (λ j m. below j (contains_member c.cover j m)) in
        subst (λ (m : Paths). IsReduced l m (get_or u.arguments i none)) (column ∙ sym paths) at

    -- an argument of the rule is equivalent to the intersection of what the arrows take
    pub argument_lower : (i : ℕ) → i < c.places → IsSubtype l (type_of_paths (get_or u.arguments i none)) (argument_type (arrows_for l c) c.cover i)
    argument_lower i k =
        let h = reduced i k in
        paths_sound (below_in l.taxonomy) (variances_in l.taxonomy) (reflexive l) (transitive l) (type_of_paths (get_or u.arguments i none)) (argument_type (arrows_for l c) c.cover i)
        (subst (λ (n : Paths). PathsLe (below_in l.taxonomy) (variances_in l.taxonomy) n (paths_of (variances_in l.taxonomy) (argument_type (arrows_for l c) c.cover i))) (sym (paths_back (get_or u.arguments i none) (variances_in l.taxonomy) h.normal.suits)) h.lower)

    pub argument_upper : (i : ℕ) → i < c.places → IsSubtype l (argument_type (arrows_for l c) c.cover i) (type_of_paths (get_or u.arguments i none))
    argument_upper i k =
        let h = reduced i k in
        paths_sound (below_in l.taxonomy) (variances_in l.taxonomy) (reflexive l) (transitive l) (argument_type (arrows_for l c) c.cover i) (type_of_paths (get_or u.arguments i none))
        (subst (λ (n : Paths). PathsLe (below_in l.taxonomy) (variances_in l.taxonomy) (paths_of (variances_in l.taxonomy) (argument_type (arrows_for l c) c.cover i)) n) (sym (paths_back (get_or u.arguments i none) (variances_in l.taxonomy) h.normal.suits)) h.upper)
