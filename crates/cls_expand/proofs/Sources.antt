-- The arguments of a rule, place by place.
use Rattle.std.proofs.Common.{ℕ, zero, suc, ◌≡◌, ◌+◌, ◌<◌, ◌≤◌, refl, sym, ◌∙◌, subst, ap, List, [], ◌∷◌, ◌++◌, length, get_or, take, arith, add-one, Contains, Option, None, Some}
use Rattle.std.specs.Prelude.{map, slice_get}
use Rattle.std.specs.List.{AllZip}
use Rattle.std.proofs.Math.Seq.{take-suc}
use Rattle.std.proofs.lemmas.Option.{get_or_from_slice_get}
use Rattle.cls_base.proofs.Lists.{map_last, take_next}
use Rattle.cls_base.specs.declared.rule.Rule.TheVariants.{Head}
use Rattle.cls_path.specs.Paths.{TypePath, Paths, none, more, append, InPaths, first_in, later_in, listed, type_of_paths, Suits, SuitsAll, PathsLe}
use Rattle.cls_path.specs.NormalForms.{IsNormalForm, IsCanonical, IsCanonicalPath, EachCanonical}
use Rattle.cls_path.proofs.RoundTrip.{append_none, append_assoc, paths_back}
use Rattle.cls_cover.specs.Members.{Member, first, later}
use Rattle.cls_cover.proofs.Lists.{member_contains}
use Rattle.cls_library.specs.Arrows.{MultiArrow}
use Rattle.cls_library.specs.Families.{IsFamilyIn, AreFamilies}
use Rattle.cls_library.specs.Libraries.{Library, IsLibrary, below_in, variances_in, paths_at, arrows_at, no_component}
use Rattle.cls_library.specs.Reaching.{IsReduced, no_sources, zip_append, columns}
use Rattle.cls_library.specs.Rules.{IsRuleFor}
use Rattle.cls_library.proofs.ByCases.{At, at_first, at_later, member_at, at_got, Zip, zip_none, zip_more, zip_map, zip_all}
use Rattle.cls_library.proofs.PathLemma.{from_sources, arrow_from}
use Rattle.cls_library.proofs.LibraryTyping.{arrow_sources, declared, reflexive, transitive}
use Rattle.cls_library.proofs.RuleTyping.{columns_length}
use Rattle.cls_path.proofs.Completeness.{covers_refl}
use Rattle.cls_expand.specs.Making.{no_arrow, picked_of, gathered, choice_at}
use Rattle.cls_expand.specs.Listing.{all_last}

-- the arrows take n arguments, and their sources are normal
pub record AreArrows (l : Library) (n : ℕ) (arrows : List MultiArrow) : Type 0 where
  pub long : (a : MultiArrow) → Member arrows a → length a.sources ≡ n
  pub suits : (a : MultiArrow) → Member arrows a → (m : Paths) → Member a.sources m → SuitsAll (variances_in l.taxonomy) m
  pub canonical : (a : MultiArrow) → Member arrows a → (m : Paths) → Member a.sources m → IsCanonical (below_in l.taxonomy) (variances_in l.taxonomy) m

gathered_more : (place : ℕ) (xs : List MultiArrow) (a : MultiArrow) → gathered place (xs ++ a ∷ []) ≡ append (gathered place xs) (get_or a.sources place none)
gathered_more place [] a = append_none (get_or a.sources place none)
gathered_more place (x ∷ xs) a = ap (λ n. append (get_or x.sources place none) n) (gathered_more place xs a) ∙ sym (append_assoc (get_or x.sources place none) (gathered place xs) (get_or a.sources place none))

picked_append : (arrows : List MultiArrow) (s t : List ℕ) → picked_of arrows (s ++ t) ≡ picked_of arrows s ++ picked_of arrows t
picked_append arrows [] t = refl
picked_append arrows (i ∷ s) t = ap (λ l. get_or arrows i no_arrow ∷ l) (picked_append arrows s t)

-- one position more
pub gathered_step : (place : ℕ) (arrows : List MultiArrow) (cover : List ℕ) (i : ℕ) (a : MultiArrow) → i < length cover → get_or arrows (get_or cover i 0) no_arrow ≡ a → gathered place (picked_of arrows (take (i + 1) cover)) ≡ append (gathered place (picked_of arrows (take i cover))) (get_or a.sources place none)
gathered_step place arrows cover i a l e =
    let t : take (i + 1) cover ≡ take i cover ++ get_or cover i 0 ∷ [] = rw add-one (take-suc cover i 0 l) in
    ap (λ (s : List ℕ). gathered place (picked_of arrows s)) t
    ∙ (ap (λ (s : List MultiArrow). gathered place s) (picked_append arrows (take i cover) (get_or cover i 0 ∷ []))
    ∙ (gathered_more place (picked_of arrows (take i cover)) (get_or arrows (get_or cover i 0) no_arrow)
    ∙ ap (λ (b : MultiArrow). append (gathered place (picked_of arrows (take i cover))) (get_or b.sources place none)) e))

none_at : (n place : ℕ) → get_or (no_sources n) place none ≡ none
none_at zero place = refl
none_at (suc n) zero = refl
none_at (suc n) (suc place) = none_at n place

append_at : (ns ms : List Paths) (place : ℕ) → length ns ≡ length ms → get_or (zip_append ns ms) place none ≡ append (get_or ns place none) (get_or ms place none)
append_at [] [] place e = refl
append_at [] (m ∷ ms) place e = absurd (let k : 0 ≡ suc (length ms) = e in omega arith)
append_at (n ∷ ns) [] place e = absurd (let k : suc (length ns) ≡ 0 = e in omega arith)
append_at (n ∷ ns) (m ∷ ms) zero e = refl
append_at (n ∷ ns) (m ∷ ms) (suc place) e = append_at ns ms place (let k : suc (length ns) ≡ suc (length ms) = e in omega arith)

-- the column at a place
pub columns_at : (n place : ℕ) (arrows : List MultiArrow) → ((a : MultiArrow) → Member arrows a → length a.sources ≡ n) → get_or (columns n arrows) place none ≡ gathered place arrows
columns_at n place [] f = none_at n place
columns_at n place (a ∷ rest) f =
    append_at a.sources (columns n rest) place (f a first ∙ sym (columns_length n rest (λ b m. f b (later m))))
    ∙ ap (λ p. append (get_or a.sources place none) p) (columns_at n place rest (λ b m. f b (later m)))

pub picked_in : (arrows : List MultiArrow) (s : List ℕ) → ((i : ℕ) → Member s i → i < length arrows) → (a : MultiArrow) → Member (picked_of arrows s) a → Member arrows a
picked_in arrows [] f a m = elim m [ ]
picked_in arrows (i ∷ s) f _ first = there arrows i (f i first)
  where
    there : (arrows : List MultiArrow) (i : ℕ) → i < length arrows → Member arrows (get_or arrows i no_arrow)
    there [] i l = absurd (omega arith)
    there (b ∷ arrows) zero l = first
    there (b ∷ arrows) (suc i) l = later (there arrows i (omega arith))
picked_in arrows (i ∷ s) f a (later m) = picked_in arrows s (λ j k. f j (later k)) a m

pub at_get : (arrows : List MultiArrow) (i : ℕ) → i < length arrows → At arrows i (get_or arrows i no_arrow)
at_get [] i l = absurd (omega arith)
at_get (b ∷ arrows) zero l = at_first
at_get (b ∷ arrows) (suc i) l = at_later (at_get arrows i (omega arith))

-- the arrows at the positions are picked
pub picks : (arrows : List MultiArrow) (s : List ℕ) → ((i : ℕ) → Member s i → i < length arrows) → Zip (At arrows) s (picked_of arrows s)
picks arrows [] f = zip_none
picks arrows (i ∷ s) f = zip_more (at_get arrows i (f i first)) (picks arrows s (λ j m. f j (later m)))

source_in : (ns : List Paths) (place : ℕ) (P : Paths → Type 0) → P none → ((n : Paths) → Member ns n → P n) → P (get_or ns place none)
source_in [] place P h f = h
source_in (n ∷ ns) zero P h f = f n first
source_in (n ∷ ns) (suc place) P h f = source_in ns place P h (λ m k. f m (later k))

module _ (l : Library) where
  each_of : (n : Paths) → IsCanonical (below_in l.taxonomy) (variances_in l.taxonomy) n → EachCanonical (below_in l.taxonomy) (variances_in l.taxonomy) n
  each_of none c = tt
  each_of (more p n) c = (c.0, each_of n c.2)

  each_append : (n m : Paths) → EachCanonical (below_in l.taxonomy) (variances_in l.taxonomy) n → EachCanonical (below_in l.taxonomy) (variances_in l.taxonomy) m → EachCanonical (below_in l.taxonomy) (variances_in l.taxonomy) (append n m)
  each_append none m h k = k
  each_append (more p n) m h k = (h.0, each_append n m h.1 k)

  pub gathered_suits : (n place : ℕ) (arrows : List MultiArrow) → AreArrows l n arrows → SuitsAll (variances_in l.taxonomy) (gathered place arrows)
  gathered_suits n place [] a = tt
  gathered_suits n place (b ∷ rest) a = both (get_or b.sources place none) (gathered place rest) (source_in b.sources place (λ m. SuitsAll (variances_in l.taxonomy) m) tt (λ m k. a.suits b first m k)) (gathered_suits n place rest (record { long = (λ c m. a.long c (later m)); suits = (λ c m. a.suits c (later m)); canonical = (λ c m. a.canonical c (later m)) }))
    where
      both : (n m : Paths) → SuitsAll (variances_in l.taxonomy) n → SuitsAll (variances_in l.taxonomy) m → SuitsAll (variances_in l.taxonomy) (append n m)
      both none m h k = k
      both (more p n) m h k = (h.0, both n m h.1 k)

  pub gathered_canonical : (n place : ℕ) (arrows : List MultiArrow) → AreArrows l n arrows → EachCanonical (below_in l.taxonomy) (variances_in l.taxonomy) (gathered place arrows)
  gathered_canonical n place [] a = tt
  gathered_canonical n place (b ∷ rest) a = each_append (get_or b.sources place none) (gathered place rest) (source_in b.sources place (λ m. EachCanonical (below_in l.taxonomy) (variances_in l.taxonomy) m) tt (λ m k. each_of m (a.canonical b first m k))) (gathered_canonical n place rest (record { long = (λ c m. a.long c (later m)); suits = (λ c m. a.suits c (later m)); canonical = (λ c m. a.canonical c (later m)) }))

  pub picked_arrows : (n : ℕ) (arrows : List MultiArrow) (s : List ℕ) → ((i : ℕ) → Member s i → i < length arrows) → AreArrows l n arrows → AreArrows l n (picked_of arrows s)
  picked_arrows n arrows s f a = record { long = (λ b m. a.long b (picked_in arrows s f b m)); suits = (λ b m. a.suits b (picked_in arrows s f b m)); canonical = (λ b m. a.canonical b (picked_in arrows s f b m)) }

  pub reduced_from : (m n : Paths) → SuitsAll (variances_in l.taxonomy) m → IsNormalForm (below_in l.taxonomy) (variances_in l.taxonomy) (type_of_paths m) n → IsReduced l m n
  reduced_from m n s h =
      let e = paths_back m (variances_in l.taxonomy) s in
      record { normal = h.normal; lower = subst (λ p. PathsLe (below_in l.taxonomy) (variances_in l.taxonomy) n p) e h.lower; upper = subst (λ p. PathsLe (below_in l.taxonomy) (variances_in l.taxonomy) p n) e h.upper }

  -- the arrows of a library
  pub library_arrows : IsLibrary l → (x n : ℕ) → AreArrows l n (arrows_at l x n)
  library_arrows h x n = record {
    long = (λ a m. let r = member_at m in (arrow_from n (paths_at l x) r.0 a r.1).1);
    suits = (λ a m. let r = member_at m in (arrow_sources l h x n r.0 a r.1).0);
    canonical = (λ a m s k. let r = member_at m in canonical_source a.sources a.target (path_canonical a (arrow_from n (paths_at l x) r.0 a r.1).0) s k);
  }
    where
      canonical_source : (ns : List Paths) (p : TypePath) → IsCanonicalPath (below_in l.taxonomy) (variances_in l.taxonomy) (from_sources ns p) → (s : Paths) → Member ns s → IsCanonical (below_in l.taxonomy) (variances_in l.taxonomy) s
      canonical_source (m ∷ ns) p c _ first = c.0
      canonical_source (m ∷ ns) p c s (later k) = canonical_source ns p c.1 s k
      canonical_source [] p c s k = elim k [ ]

      path_in : (n : Paths) (p : TypePath) → IsCanonical (below_in l.taxonomy) (variances_in l.taxonomy) n → InPaths n p → IsCanonicalPath (below_in l.taxonomy) (variances_in l.taxonomy) p
      path_in none p c i = elim i [ ]
      path_in (more q n) _ c first_in = c.0
      path_in (more q n) p c (later_in i) = path_in n p c.2 i

      path_canonical : (a : MultiArrow) → InPaths (paths_at l x) (from_sources a.sources a.target) → IsCanonicalPath (below_in l.taxonomy) (variances_in l.taxonomy) (from_sources a.sources a.target)
      path_canonical a i = path_in (paths_at l x) (from_sources a.sources a.target) (h.each x no_component (declared l h x (from_sources a.sources a.target) i)).normal.canonical i

-- what an arrow takes at a place, if it takes anything there
pub source_there : (ns : List Paths) (place : ℕ) (n : Paths) → Some n ≡ slice_get ns place → get_or ns place none ≡ n
source_there ns place n e = get_or_from_slice_get ns place n none (sym e)

pub source_missing : (ns : List Paths) (place : ℕ) → None ≡ slice_get ns place → get_or ns place none ≡ none
source_missing [] place e = refl
source_missing (n ∷ ns) zero e = absurd (let f : ◌≡◌ {A = Option Paths} None (Some n) = e in cc)
source_missing (n ∷ ns) (suc place) e = source_missing ns place e

-- one position more
pub gather_step : (place : ℕ) (arrows : List MultiArrow) (cover : List ℕ) (k : ℕ) (a : MultiArrow) (old new : Paths) → k < length cover → slice_get arrows (get_or cover k 0) ≡ Some a → new ≡ append old (get_or a.sources place none)
    → old ≡ gathered place (picked_of arrows (take k cover)) → new ≡ gathered place (picked_of arrows (take (k + 1) cover))
gather_step place arrows cover k a old new l e f h =
    f ∙ (ap (λ (n : Paths). append n (get_or a.sources place none)) h
    ∙ sym (gathered_step place arrows cover k a l (get_or_from_slice_get arrows (get_or cover k 0) a no_arrow e)))

module _ (l : Library) (law : IsLibrary l) (x n : ℕ) (s : List ℕ) (below : (i : ℕ) → Contains s i → i < length (arrows_at l x n)) where
  picked : List MultiArrow
  picked = picked_of (arrows_at l x n) s

  are_picked : AreArrows l n (picked_of (arrows_at l x n) s)
  are_picked = picked_arrows l n (arrows_at l x n) s (λ i m. below i (member_contains m)) (library_arrows l law x n)

  pub gather_suits : (place : ℕ) (ps : Paths) → ps ≡ gathered place (picked_of (arrows_at l x n) s) → SuitsAll (variances_in l.taxonomy) ps
  gather_suits place ps e = subst (λ (q : Paths). SuitsAll (variances_in l.taxonomy) q) (sym e) (gathered_suits l n place (picked_of (arrows_at l x n) s) are_picked)

  pub gather_canonical : (place : ℕ) (ps : Paths) → ps ≡ gathered place (picked_of (arrows_at l x n) s) → EachCanonical (below_in l.taxonomy) (variances_in l.taxonomy) ps
  gather_canonical place ps e = subst (λ (q : Paths). EachCanonical (below_in l.taxonomy) (variances_in l.taxonomy) q) (sym e) (gathered_canonical l n place (picked_of (arrows_at l x n) s) are_picked)

  pub columns_size : length (columns n (picked_of (arrows_at l x n) s)) ≡ n
  columns_size = columns_length n (picked_of (arrows_at l x n) s) are_picked.long

  pub argument_step : (place : ℕ) (args new : List (List TypePath)) (ps : Paths) (nf : List TypePath) → place < n → ps ≡ gathered place (picked_of (arrows_at l x n) s)
      → IsNormalForm (below_in l.taxonomy) (variances_in l.taxonomy) (type_of_paths ps) (listed nf) → new ≡ args ++ nf ∷ []
      → AllZip (IsReduced l) (take place (columns n (picked_of (arrows_at l x n) s))) (map listed args) → AllZip (IsReduced l) (take (place + 1) (columns n (picked_of (arrows_at l x n) s))) (map listed new)
  argument_step place args new ps nf p e h f z =
      let cols : List Paths = columns n (picked_of (arrows_at l x n) s) in
      let size : length cols ≡ n = columns_size in
      let at : get_or cols place none ≡ ps = columns_at n place (picked_of (arrows_at l x n) s) are_picked.long ∙ sym e in
      let cut : take (place + 1) cols ≡ take place cols ++ ps ∷ [] = take_next cols place none (omega arith) ∙ ap (λ (q : Paths). take place cols ++ q ∷ []) at in
      let grown : map listed new ≡ map listed args ++ listed nf ∷ [] = ap (λ (ns : List (List TypePath)). map listed ns) f ∙ map_last listed args nf in
      subst (λ (ms : List Paths). AllZip (IsReduced l) ms (map listed new)) (sym cut)
      (subst (λ (ns : List Paths). AllZip (IsReduced l) (take place cols ++ ps ∷ []) ns) (sym grown)
      (all_last (IsReduced l) (take place cols) (map listed args) ps (listed nf) z (reduced_from l ps (listed nf) (gather_suits place ps e) h)))

  -- the rule of a cover
  pub rule_made : (args : List Paths) → AllZip (IsReduced l) (columns n (picked_of (arrows_at l x n) s)) args → IsRuleFor l (choice_at x n s) (Head x args)
  rule_made args z = record {
    picked = picked_of (arrows_at l x n) s;
    picks = zip_all (zip_map (λ i a h. at_got h) (picks (arrows_at l x n) s (λ i m. below i (member_contains m))));
    arguments = args;
    reduced = z;
    rule = refl;
  }

  pub picked_long : (a : MultiArrow) → picked_of (arrows_at l x n) s ≡ a ∷ [] → length a.sources ≡ n
  picked_long a e = are_picked.long a (subst (λ (p : List MultiArrow). Member p a) (sym e) first)

  -- a source is normal as it is
  own_reduced : (a : MultiArrow) → Member (picked_of (arrows_at l x n) s) a → (m : Paths) → Member a.sources m → IsReduced l m m
  own_reduced a i m k =
      let suits = are_picked.suits a i m k in
      let same = covers_refl (below_in l.taxonomy) (variances_in l.taxonomy) (reflexive l law) (transitive l law) m suits in
      record { normal = record { suits = suits; canonical = are_picked.canonical a i m k }; lower = same; upper = same }

  -- the sources of a single arrow are the arguments
  pub own_sources : (a : MultiArrow) → picked_of (arrows_at l x n) s ≡ a ∷ [] → AllZip (IsReduced l) (columns n (picked_of (arrows_at l x n) s)) a.sources
  own_sources a e =
      let here : Member (picked_of (arrows_at l x n) s) a = subst (λ (p : List MultiArrow). Member p a) (sym e) first in
      subst (λ (p : List MultiArrow). AllZip (IsReduced l) (columns n p) a.sources) (sym e) (go a.sources n (are_picked.long a here) (own_reduced a here))
    where
      go : (ns : List Paths) (k : ℕ) → length ns ≡ k → ((m : Paths) → Member ns m → IsReduced l m m) → AllZip (IsReduced l) (zip_append ns (no_sources k)) ns
      go [] k d f = tt
      go (m ∷ ns) zero d f = absurd (omega arith)
      go (m ∷ ns) (suc k) d f = (subst (λ p. IsReduced l p m) (sym (append_none m)) (f m first), go ns k (omega arith) (λ p i. f p (later i)))

-- the arrow at the only position
pub picked_one : (arrows : List MultiArrow) (s : List ℕ) (a : MultiArrow) → 1 ≤ length s → length s < 2 → slice_get arrows (get_or s 0 0) ≡ Some a → picked_of arrows s ≡ a ∷ []
picked_one arrows [] a l g e = absurd (omega arith)
picked_one arrows (i ∷ []) a l g e = ap (λ (b : MultiArrow). b ∷ []) (get_or_from_slice_get arrows i a no_arrow e)
picked_one arrows (i ∷ j ∷ s) a l g e = absurd (omega arith)

pub first_in_cover : (s : List ℕ) → 1 ≤ length s → Contains s (get_or s 0 0)
first_in_cover [] l = absurd (omega arith)
first_in_cover (i ∷ s) l = member_contains first

-- one source more
pub source_step : (ns : List Paths) (place : ℕ) (args new : List (List TypePath)) (nf : List TypePath) → place < length ns → listed nf ≡ get_or ns place none → new ≡ args ++ nf ∷ [] → map listed args ≡ take place ns → map listed new ≡ take (place + 1) ns
source_step ns place args new nf l e f h =
    ap (λ (q : List (List TypePath)). map listed q) f
    ∙ (map_last listed args nf
    ∙ (ap (λ (q : List Paths). q ++ listed nf ∷ []) h
    ∙ (ap (λ (p : Paths). take place ns ++ p ∷ []) e
    ∙ sym (take_next ns place none l))))

module _ (l : Library) where
  pub suits_at : (goal items : List TypePath) (i : ℕ) (q : TypePath) → items ≡ goal → i < length items → q ≡ get_or items i q → SuitsAll (variances_in l.taxonomy) (listed goal) → Suits (variances_in l.taxonomy) q
  suits_at goal items i q e m f s = subst (λ (p : TypePath). Suits (variances_in l.taxonomy) p) (sym f) (go items i q m (subst (λ (ps : List TypePath). SuitsAll (variances_in l.taxonomy) (listed ps)) (sym e) s))
    where
      go : (xs : List TypePath) (i : ℕ) (d : TypePath) → i < length xs → SuitsAll (variances_in l.taxonomy) (listed xs) → Suits (variances_in l.taxonomy) (get_or xs i d)
      go [] i d m s = absurd (let k : i < 0 = m in omega arith)
      go (x ∷ xs) zero d m s = s.0
      go (x ∷ xs) (suc i) d m s = go xs i d (let k : suc i < suc (length xs) = m in omega arith) s.1

  pub families_step : (arrows : List MultiArrow) (goal items : List TypePath) (i : ℕ) (q : TypePath) (fs new : List (List ℕ)) (f : List ℕ) → items ≡ goal → i < length items → q ≡ get_or items i q → IsFamilyIn l.taxonomy arrows q f → new ≡ fs ++ f ∷ [] → AreFamilies l arrows (take i goal) fs → AreFamilies l arrows (take (i + 1) goal) new
  families_step arrows goal items i q fs new f e m g h n z =
      let cut : take (i + 1) items ≡ take i items ++ q ∷ [] = take_next items i q m ∙ ap (λ (p : TypePath). take i items ++ p ∷ []) (sym g) in
      subst (λ (ps : List TypePath). AreFamilies l arrows (take (i + 1) ps) new) e
      (subst (λ (ps : List TypePath). AreFamilies l arrows ps new) (sym cut)
      (subst (λ (all : List (List ℕ)). AreFamilies l arrows (take i items ++ q ∷ []) all) (sym n)
      (all_last (IsFamilyIn l.taxonomy arrows) (take i items) fs q f (subst (λ (ps : List TypePath). AreFamilies l arrows (take i ps) fs) (sym e) z) h)))
