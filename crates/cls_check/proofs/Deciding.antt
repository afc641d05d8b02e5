-- Which arrows of a head are kept as its arguments are looked at, and what the term then has.
use Rattle.std.proofs.Common.{ℕ, zero, suc, ◌≡◌, ◌+◌, ◌<◌, ◌≤◌, ◌↔◌, sym, subst, List, [], ◌∷◌, length, get_or, arith, Contains, below_more}
use Rattle.cls_base.specs.Terms.{Applicative, component, IsTermOver}
use Rattle.cls_base.specs.Spines.{spine}
use Rattle.cls_path.specs.Paths.{TypePath, Paths, none, more, InPaths, first_in, later_in, type_of_path, type_of_paths}
use Rattle.cls_base.proofs.Lists.{Contains-here, Contains-later, Contains-map}
use Rattle.cls_path.proofs.Completeness.{suits_in, covered, covers_all}
use Rattle.cls_path.proofs.Transitivity.{le_trans}
use Rattle.cls_library.specs.Arrows.{MultiArrow, arity_of}
use Rattle.cls_library.specs.Libraries.{Library, IsLibrary, below_in, variances_in, paths_at, arrows_at}
use Rattle.cls_library.specs.Reaching.{PathLeIn, PathsLeIn, IsReachedBy}
use Rattle.cls_library.specs.Typing.{HasTypeIn}
use Rattle.cls_library.proofs.ByCases.{At, at_first, at_later, at_member, contains_at}
use Rattle.cls_library.proofs.PathTyping.{Reaches}
use Rattle.cls_library.proofs.PathLemma.{arrow_from}
use Rattle.cls_library.proofs.LibraryTyping.{reflexive, transitive, suited, typed, arrow_sources, arrow_leads, paths_are_reached}
use Rattle.cls_check.specs.Deciding.{source_of, sources_of, targets_of, argument_of, IsWanted, SuitIn, AllSuitIn, SomeBelow, AreSuited, IsLeading, KnowsPaths, HaveFirst, AreKept}
use Rattle.cls_check.proofs.Lists.{pair_at, all_pairs, in_listed, listed_in}

source_in : (ns : List Paths) (k : ℕ) (P : Paths → Type 0) → P none → ((i : ℕ) (n : Paths) → At ns i n → P n) → P (get_or ns k none)
source_in [] k P h f = h
source_in (n ∷ ns) zero P h f = f 0 n at_first
source_in (n ∷ ns) (suc k) P h f = source_in ns k P h (λ i m a. f (suc i) m (at_later a))

only_one : (P : TypePath → Type 0) (q p : TypePath) → InPaths (more q none) p → P q → P p
only_one P q _ first_in h = h
only_one P q p (later_in k) h = elim k [ ]

module _ (lib : Library) (law : IsLibrary lib) where
  count : ℕ
  count = length lib.components

  suits_one : (n : Paths) (q : TypePath) → AllSuitIn lib n → InPaths n q → SuitIn lib q
  suits_one n q s i = suits_in (below_in lib.taxonomy) (variances_in lib.taxonomy) (reflexive lib law) (transitive lib law) n q s i

  le_more : (p q r : TypePath) → PathLeIn lib p q → PathLeIn lib q r → PathLeIn lib p r
  le_more p q r h k = le_trans (below_in lib.taxonomy) (variances_in lib.taxonomy) (reflexive lib law) (transitive lib law) q p r h k

  pub cover_one : (n m : Paths) → PathsLeIn lib n m → (q : TypePath) → InPaths m q → SomeBelow lib n q
  cover_one n m h q i = covered (below_in lib.taxonomy) (variances_in lib.taxonomy) (reflexive lib law) (transitive lib law) n m h q i

  pub cover_each : (n m : Paths) → ((q : TypePath) → InPaths m q → SomeBelow lib n q) → PathsLeIn lib n m
  cover_each n m f = covers_all (below_in lib.taxonomy) (variances_in lib.taxonomy) (reflexive lib law) (transitive lib law) n m f

  -- a term has a list of paths if and only if it has each of them
  pub each_to : (e : Applicative) (n : Paths) → AllSuitIn lib n → HasTypeIn lib e (type_of_paths n) → (q : TypePath) → InPaths n q → HasTypeIn lib e (type_of_path q)
  each_to e n s h q i =
      let u = (typed lib law e n s).0 h in
      (typed lib law e (more q none) (suits_one n q s i, tt)).1
      (u.0, (λ p j. only_one (λ t. Reaches (below_in lib.taxonomy) (variances_in lib.taxonomy) (reflexive lib law) (transitive lib law) (length lib.components) (paths_at lib) (suited lib law) e t) q p j (u.1 q i)))

  pub each_from : (e : Applicative) (n : Paths) → AllSuitIn lib n → IsTermOver (length lib.components) e → ((q : TypePath) → InPaths n q → HasTypeIn lib e (type_of_path q)) → HasTypeIn lib e (type_of_paths n)
  each_from e n s o f = (typed lib law e n s).1 (o, (λ q i. ((typed lib law e (more q none) (suits_one n q s i, tt)).0 (f q i)).1 q first_in))

  -- the goal against what the term has
  pub goal_decided : (e : Applicative) (goals : List Paths) (had goal : Paths) → AllSuitIn lib goal → IsTermOver (length lib.components) e → Contains goals goal → KnowsPaths lib e goals had → PathsLeIn lib had goal ↔ HasTypeIn lib e (type_of_paths goal)
  goal_decided e goals had goal s o m k = (
    (λ h. each_from e goal s o (λ q i. k.sound q (suits_one goal q s i) (cover_one had goal h q i))),
    (λ h. cover_each had goal (λ q i. k.complete q (goal, m, i) (each_to e goal s h q i))),
  )

  pub are_suited : (x n : ℕ) → AreSuited lib (arrows_at lib x n)
  are_suited x n = record {
    targets = (λ a m. let at = contains_at (arrows_at lib x n) a m in arrow_leads lib law x n at.0 a at.1);
    sources = (λ a k m.
        let at = contains_at (arrows_at lib x n) a m in
        source_in a.sources k (λ s. AllSuitIn lib s) tt (λ j s b. (arrow_sources lib law x n at.0 a at.1).0 s (at_member b)));
  }

  module _ (arrows : List MultiArrow) (goals : List Paths) (es : List Applicative) where
    pub kept_suit : (k : ℕ) (kept : List MultiArrow) → AreSuited lib arrows → AreKept lib arrows goals es k kept → AreSuited lib kept
    kept_suit k kept s b = record { targets = (λ a m. s.targets a (b.among a m)); sources = (λ a j m. s.sources a j (b.among a m)) }

    pub kept_none : (kept : List MultiArrow) → ((a : MultiArrow) → Contains kept a ↔ (Contains arrows a × IsLeading lib goals a.target)) → AreKept lib arrows goals es 0 kept
    kept_none kept f = record {
      among = (λ a m. ((f a).0 m).0);
      sound = (λ a m j l. absurd (let k : j < 0 = l in omega arith));
      complete = (λ a m d h. (f a).1 (m, d));
    }

    -- where none is kept there is none to the end
    pub kept_end : (k n : ℕ) (kept : List MultiArrow) → k ≤ n → length kept ≡ 0 → AreKept lib arrows goals es k kept → AreKept lib arrows goals es n kept
    kept_end k n kept l e b = record {
      among = b.among;
      sound = (λ a m. absurd (let i : m.0 < length kept = m.1 in omega arith));
      complete = (λ a m d h. b.complete a m d (λ j i. h j (omega arith)));
    }

    pub kept_more : (k : ℕ) (kept left : List MultiArrow) (had : Paths) → IsTermOver (length lib.components) (argument_of es k) → AreSuited lib kept → AreKept lib arrows goals es k kept
        → KnowsPaths lib (argument_of es k) (sources_of kept k) had
        → ((a : MultiArrow) → Contains left a ↔ (Contains kept a × PathsLeIn lib had (source_of a k))) → AreKept lib arrows goals es (k + 1) left
    kept_more k kept left had over suits b know f = record {
      among = (λ a m. b.among a ((f a).0 m).0);
      sound = (λ a m. let u = (f a).0 m in below_more (λ j. HasTypeIn lib (argument_of es j) (type_of_paths (source_of a j))) k (b.sound a u.0) (here a u.0 u.1));
      complete = (λ a m d h. let g = b.complete a m d (λ j i. h j (omega arith)) in (f a).1 (g, there a g (h k (omega arith))));
    }
      where
        here : (a : MultiArrow) → Contains kept a → PathsLeIn lib had (source_of a k) → HasTypeIn lib (argument_of es k) (type_of_paths (source_of a k))
        here a m h = each_from (argument_of es k) (source_of a k) (suits.sources a k m) over (λ q j. know.sound q (suits_one (source_of a k) q (suits.sources a k m) j) (cover_one had (source_of a k) h q j))

        there : (a : MultiArrow) → Contains kept a → HasTypeIn lib (argument_of es k) (type_of_paths (source_of a k)) → PathsLeIn lib had (source_of a k)
        there a m h = cover_each had (source_of a k) (λ q j. know.complete q (source_of a k, Contains-map (λ (b : MultiArrow). source_of b k) kept a m, j) (each_to (argument_of es k) (source_of a k) (suits.sources a k m) h q j))

  targets_suit : (kept : List MultiArrow) → ((a : MultiArrow) → Contains kept a → SuitIn lib a.target) → AllSuitIn lib (targets_of kept)
  targets_suit [] s = tt
  targets_suit (a ∷ kept) s = (s a (Contains-here a kept), targets_suit kept (λ b m. s b (Contains-later b a kept m)))

  module _ (x : ℕ) (es : List Applicative) (goals : List Paths) (suits : (n : Paths) → Contains goals n → AllSuitIn lib n) where
    suits_wanted : (q : TypePath) → IsWanted goals q → SuitIn lib q
    suits_wanted q w = suits_one w.0 q (suits w.0 w.1) w.2

    -- with more arguments than an arrow takes there is nothing
    pub none_known : arity_of (paths_at lib x) < length es → KnowsPaths lib (spine (component x) es) goals none
    none_known l = record {
      suits = tt;
      sound = (λ q s h. elim h.1 [ ]);
      complete = (λ q w h. let r = (paths_are_reached lib law x es q (suits_wanted q w)).0 h in let m : length es ≤ arity_of (paths_at lib x) = r.within in absurd (omega arith));
    }

    -- the targets of the arrows that are kept to the end
    module _ (kept : List MultiArrow) (within : length es ≤ arity_of (paths_at lib x)) (b : AreKept lib (arrows_at lib x (length es)) goals es (length es) kept) where
      reached : (q : TypePath) → SomeBelow lib (targets_of kept) q → IsReachedBy lib x es q
      reached q h =
          let u = in_listed (λ (a : MultiArrow). a.target) kept h.0 h.1 in
          let one = b.among u.0 u.1 in
          let at = contains_at (arrows_at lib x (length es)) u.0 one in
          let size = (arrow_from (length es) (paths_at lib x) at.0 u.0 at.1).1 in
          record {
            within = within;
            arrow = u.0;
            is_one = one;
            target = subst (λ (t : TypePath). PathLeIn lib t q) (sym u.2) h.2;
            sources = all_pairs (λ e n. HasTypeIn lib e (type_of_paths n)) es u.0.sources (component 0) none size (b.sound u.0 u.1);
          }

      found : (q : TypePath) → IsWanted goals q → IsReachedBy lib x es q → SomeBelow lib (targets_of kept) q
      found q w r =
          let have : HaveFirst lib es (length es) r.arrow = λ j l. pair_at (λ e n. HasTypeIn lib e (type_of_paths n)) es r.arrow.sources j (component 0) none r.sources l in
          let g = b.complete r.arrow r.is_one (q, w, r.target) have in (
            r.arrow.target,
            listed_in (λ (a : MultiArrow). a.target) kept r.arrow g,
            r.target,
          )

      pub all_known : KnowsPaths lib (spine (component x) es) goals (targets_of kept)
      all_known =
          let suited = kept_suit (arrows_at lib x (length es)) goals es (length es) kept (are_suited x (length es)) b in
          record {
            suits = targets_suit kept suited.targets;
            sound = (λ q s h. (paths_are_reached lib law x es q s).1 (reached q h));
            complete = (λ q w h. found q w ((paths_are_reached lib law x es q (suits_wanted q w)).0 h));
          }
