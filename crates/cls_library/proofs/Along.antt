-- A family, path after path, where paths that don't lead are passed over.
use Rattle.std.proofs.Common.{◌≡◌, ℕ, zero, suc, ◌+◌, ◌<◌, ◌≤◌, nat_cmp, ◌⊎◌, inl, inr, Bool, true, false, List, [], ◌∷◌, ◌++◌, length, take, get_or, None, Some, refl, sym, subst, ap, ◌∙◌, arith}
use Rattle.std.specs.Prelude.{Contains, Err, IsTrue, slice_get, slice_index_or, nat_lt, if◌then◌else◌}
use Rattle.std.specs.List.Sorted.{IsStrictlyIncreasing, IsBinarySearchResult}
use Rattle.std.proofs.lemmas.Bool.{cases_Bool}
use Rattle.std.proofs.lemmas.List.{append-nil, get_or_default, take_all, take_more}
use Rattle.std.proofs.lemmas.List.Sorted.{searched}
use Rattle.cls_base.proofs.Lists.{Contains-here, Contains-later}
use Rattle.cls_path.specs.Paths.{TypePath, unit, listed, PathLe}
use Rattle.cls_taxon.specs.Decisions.{is_below}
use Rattle.cls_taxon.specs.Orders.{Declared, class_by}
use Rattle.cls_library.specs.declared.ending.Ending.{Ending}
use Rattle.cls_library.specs.Arrows.{leading_arrows, split, onto, arrows_of}
use Rattle.cls_library.specs.Endings.{ending_of, ending_behind, head_of, is_alone, may_end_below, AreEndings, IsFound}
use Rattle.cls_library.specs.Families.{IsFamilyIn}
use Rattle.cls_library.specs.Libraries.{below_in, variances_in}
use Rattle.cls_library.specs.Splits.{places_from, split_at, target_at}
use Rattle.cls_library.proofs.EndingLaws.{kind-at, may-end, same-ending}
use Rattle.cls_library.proofs.FamilyLaws.{family-none, family-more, family-nil}
use Rattle.cls_library.proofs.Lone.{one-leads}
use Rattle.cls_library.proofs.Places.{few, many, split-few, split-many}

less-or-not : (i m : ℕ) → (i < m) ⊎ (m ≤ i)
less-or-not zero zero = inr (omega arith)
less-or-not zero (suc m) = inl (omega arith)
less-or-not (suc i) zero = inr (omega arith)
less-or-not (suc i) (suc m) = elim (less-or-not i m) [ inl l ↦ inl (omega arith) | inr l ↦ inr (omega arith) ]

gap : (m k : ℕ) → m ≤ k → (g : ℕ) × (m + g ≡ k)
gap zero k l = (k, omega arith)
gap (suc m) zero l = absurd (omega arith)
gap (suc m) (suc k) l = let r = gap m k (omega arith) in (r.0, let e = r.1 in omega arith)

rises-to : (xs : List ℕ) → IsStrictlyIncreasing xs → (i g : ℕ) → i + g < length xs → get_or xs i 0 ≤ get_or xs (i + g) 0
rises-to xs h i zero l = let e : i ≡ i + 0 = omega arith in subst (λ (k : ℕ). get_or xs i 0 ≤ get_or xs k 0) e (omega arith)
rises-to xs h i (suc g) l =
    let r = rises-to xs h i g (omega arith) in
    let s = h (i + g) (omega arith) in
    let e : i + g + 1 ≡ i + suc g = omega arith in
    subst (λ (k : ℕ). get_or xs i 0 ≤ get_or xs k 0) e (omega arith)

-- numbers that rise, in the order of their places
rises : (xs : List ℕ) → IsStrictlyIncreasing xs → (i j : ℕ) → i ≤ j → j < length xs → get_or xs i 0 ≤ get_or xs j 0
rises xs h i j l w = go (gap i j l)
  where
    go : (g : ℕ) × (i + g ≡ j) → get_or xs i 0 ≤ get_or xs j 0
    go (g, e) = subst (λ (k : ℕ). get_or xs i 0 ≤ get_or xs k 0) e (rises-to xs h i g (subst (λ (k : ℕ). k < length xs) (sym e) w))

-- a number that a search doesn't find isn't there
pub found-nowhere : (xs : List ℕ) (x i : ℕ) → IsStrictlyIncreasing xs → IsBinarySearchResult (λ y. nat_cmp y x) xs (Err i) → Contains xs x → ⊥
found-nowhere xs x i h r (k, l, e) =
    let s = searched xs x (Err i) r (rises xs h) in
    let is : get_or xs k 0 ≡ x = get_or_default xs k 0 x l ∙ e in
    elim (less-or-not k i) [
      | inl w ↦ (let m = s.1 k w in omega arith)
      | inr w ↦ (let m = s.2 k w l in omega arith)
    ]

module _ (n : ℕ) where
  -- the places of a column
  from-on : (ps : List TypePath) (from i : ℕ) → i < length (places_from n from ps) → from ≤ get_or (places_from n from ps) i 0
  from-on [] from i l = absurd (omega arith)
  from-on (p ∷ ps) from i l = cased (nat_lt (leading_arrows p) n) i l (from-on ps (from + 1))
    where
      cased :
          (b : Bool) (i : ℕ) → i < length (if b then places_from n (from + 1) ps else from ∷ places_from n (from + 1) ps)
          → ((j : ℕ) → j < length (places_from n (from + 1) ps) → from + 1 ≤ get_or (places_from n (from + 1) ps) j 0)
          → from ≤ get_or (if b then places_from n (from + 1) ps else from ∷ places_from n (from + 1) ps) i 0
      cased true i l rest = let r = rest i l in omega arith
      cased false zero l rest = omega arith
      cased false (suc i) l rest = let r = rest i (omega arith) in omega arith

  pub places-rise : (ps : List TypePath) (from : ℕ) → IsStrictlyIncreasing (places_from n from ps)
  places-rise [] from = λ k l. absurd (omega arith)
  places-rise (p ∷ ps) from = cased (nat_lt (leading_arrows p) n) (places-rise ps (from + 1)) (from-on ps (from + 1))
    where
      cased :
          (b : Bool) → IsStrictlyIncreasing (places_from n (from + 1) ps)
          → ((j : ℕ) → j < length (places_from n (from + 1) ps) → from + 1 ≤ get_or (places_from n (from + 1) ps) j 0)
          → IsStrictlyIncreasing (if b then places_from n (from + 1) ps else from ∷ places_from n (from + 1) ps)
      cased true rest on = rest
      cased false rest on = λ k l. at k l
        where
          at : (k : ℕ) → k + 1 < length (from ∷ places_from n (from + 1) ps) → get_or (from ∷ places_from n (from + 1) ps) k 0 < get_or (from ∷ places_from n (from + 1) ps) (k + 1) 0
          at zero l = let r = on 0 (omega arith) in omega arith
          at (suc k) l =
              let next : suc (k + 1) ≡ suc k + 1 = omega arith in
              subst (λ (x : ℕ). get_or (from ∷ places_from n (from + 1) ps) (suc k) 0 < get_or (from ∷ places_from n (from + 1) ps) x 0) next (rest k (omega arith))

  -- the position of a place: so many arrows are before it
  pub position-is : (ps : List TypePath) (from m i : ℕ) → i < length (places_from n from ps) → get_or (places_from n from ps) i 0 ≡ from + m → i ≡ length (arrows_of n (listed (take m ps)))
  position-is [] from m i l f = absurd (omega arith)
  position-is (p ∷ ps) from m i l f = cased (nat_lt (leading_arrows p) n) refl m i l f (position-is ps (from + 1))
    where
      cased :
          (b : Bool) → nat_lt (leading_arrows p) n ≡ b → (m i : ℕ)
          → i < length (if b then places_from n (from + 1) ps else from ∷ places_from n (from + 1) ps)
          → get_or (if b then places_from n (from + 1) ps else from ∷ places_from n (from + 1) ps) i 0 ≡ from + m
          → ((m i : ℕ) → i < length (places_from n (from + 1) ps) → get_or (places_from n (from + 1) ps) i 0 ≡ from + 1 + m → i ≡ length (arrows_of n (listed (take m ps))))
          → i ≡ length (arrows_of n (listed (take m (p ∷ ps))))
      cased true e zero i l f rest = absurd (let r = from-on ps (from + 1) i l in omega arith)
      cased true e (suc m) i l f rest =
          rest m i l (omega arith)
          ∙ ap (λ o. length (onto o (arrows_of n (listed (take m ps))))) (sym (split-few n p (few (leading_arrows p) n e)))
      cased false e zero zero l f rest = refl
      cased false e (suc m) zero l f rest = absurd (omega arith)
      cased false e zero (suc i) l f rest = absurd (let r = from-on ps (from + 1) i (omega arith) in omega arith)
      cased false e (suc m) (suc i) l f rest =
          let r = rest m i (omega arith) (omega arith) in
          ap suc r ∙ ap (λ o. length (onto o (arrows_of n (listed (take m ps))))) (sym (split-many n p (many (leading_arrows p) n e)))

  -- a path with so many leading arrows stands in the column
  stands : (ps : List TypePath) (from m : ℕ) → m < length ps → n ≤ leading_arrows (slice_index_or ps m unit) → Contains (places_from n from ps) (from + m)
  stands [] from m l w = absurd (omega arith)
  stands (p ∷ ps) from m l w = cased (nat_lt (leading_arrows p) n) refl m l w (stands ps (from + 1))
    where
      here : Contains (from ∷ places_from n (from + 1) ps) (from + 0)
      here = let e : from ≡ from + 0 = omega arith in subst (λ (x : ℕ). Contains (from ∷ places_from n (from + 1) ps) x) e (Contains-here from (places_from n (from + 1) ps))

      later : (m : ℕ) → Contains (places_from n (from + 1) ps) (from + 1 + m) → Contains (places_from n (from + 1) ps) (from + suc m)
      later m h = let e : from + 1 + m ≡ from + suc m = omega arith in subst (λ (x : ℕ). Contains (places_from n (from + 1) ps) x) e h

      cased :
          (b : Bool) → nat_lt (leading_arrows p) n ≡ b → (m : ℕ) → m < length (p ∷ ps) → n ≤ leading_arrows (slice_index_or (p ∷ ps) m unit)
          → ((m : ℕ) → m < length ps → n ≤ leading_arrows (slice_index_or ps m unit) → Contains (places_from n (from + 1) ps) (from + 1 + m))
          → Contains (if b then places_from n (from + 1) ps else from ∷ places_from n (from + 1) ps) (from + m)
      cased true e zero l w rest = absurd (let r = few (leading_arrows p) n e in omega arith)
      cased true e (suc m) l w rest = later m (rest m (omega arith) w)
      cased false e zero l w rest = here
      cased false e (suc m) l w rest = Contains-later (from + suc m) from (places_from n (from + 1) ps) (later m (rest m (omega arith) w))

  pub stands-not : (ps : List TypePath) (column : List ℕ) (m : ℕ) → column ≡ places_from n 0 ps → (Contains column m → ⊥) → m < length ps → n ≤ leading_arrows (slice_index_or ps m unit) → ⊥
  stands-not ps column m e none l w =
      let same : 0 + m ≡ m = omega arith in
      none (subst (λ (c : List ℕ). Contains c m) (sym e) (subst (λ (k : ℕ). Contains (places_from n 0 ps) k) same (stands ps 0 m l w)))

  arrows-append : (ps : List TypePath) (p : TypePath) → arrows_of n (listed (ps ++ p ∷ [])) ≡ arrows_of n (listed ps) ++ onto (split n p) []
  arrows-append [] p = refl
  arrows-append (x ∷ ps) p = elim (cases_Bool (nat_lt (leading_arrows x) n)) [
    | inl e ↦ (let f = split-few n x (few (leading_arrows x) n e) in
        ap (λ o. onto o (arrows_of n (listed (ps ++ p ∷ [])))) f ∙ (arrows-append ps p ∙ ap (λ o. onto o (arrows_of n (listed ps)) ++ onto (split n p) []) (sym f)))
    | inr e ↦ (let f = split-many n x (many (leading_arrows x) n e) in
        ap (λ o. onto o (arrows_of n (listed (ps ++ p ∷ [])))) f ∙ (ap (λ arrows. split_at n x ∷ arrows) (arrows-append ps p) ∙ ap (λ o. onto o (arrows_of n (listed ps)) ++ onto (split n p) []) (sym f)))
  ]

module _ (d : Declared) (n : ℕ) (q : TypePath) (ps : List TypePath) where
  abbrev path : ℕ → TypePath
  path m = slice_index_or ps m unit

  -- the path at the place doesn't lead to q
  abbrev pub Silent : ℕ → Type 0
  Silent m = n ≤ leading_arrows (path m) → PathLe (below_in d) (variances_in d) (target_at n (path m)) q → ⊥

  abbrev pub FamilyUpTo : ℕ → List ℕ → Type 0
  FamilyUpTo m family = IsFamilyIn d (arrows_of n (listed (take m ps))) q family

  one-more : (m : ℕ) → m < length ps → arrows_of n (listed (take (m + 1) ps)) ≡ arrows_of n (listed (take m ps)) ++ onto (split n (path m)) []
  one-more m l = ap (λ x. arrows_of n (listed x)) (take_more ps m unit l) ∙ arrows-append n (take m ps) (path m)

  pub skip : (family : List ℕ) (m : ℕ) → m < length ps → Silent m → FamilyUpTo m family → FamilyUpTo (m + 1) family
  skip family m l s h = elim (cases_Bool (nat_lt (leading_arrows (path m)) n)) [
    | inl e ↦ subst (λ arrows. IsFamilyIn d arrows q family)
        (sym (one-more m l ∙ (ap (λ o. arrows_of n (listed (take m ps)) ++ onto o []) (split-few n (path m) (few (leading_arrows (path m)) n e)) ∙ append-nil (arrows_of n (listed (take m ps)))))) h
    | inr e ↦ (let w = many (leading_arrows (path m)) n e in
        subst (λ arrows. IsFamilyIn d arrows q family)
        (sym (one-more m l ∙ ap (λ o. arrows_of n (listed (take m ps)) ++ onto o []) (split-many n (path m) w)))
        (family-none (below_in d) (variances_in d) q (arrows_of n (listed (take m ps))) family h (split_at n (path m)) (s w)))
  ]

  pub take-one :
      (family family' : List ℕ) (m i : ℕ) → m < length ps → n ≤ leading_arrows (path m) → PathLe (below_in d) (variances_in d) (target_at n (path m)) q
      → i ≡ length (arrows_of n (listed (take m ps))) → family' ≡ family ++ i ∷ [] → FamilyUpTo m family → FamilyUpTo (m + 1) family'
  take-one family family' m i l w le is e h =
      subst (λ f. FamilyUpTo (m + 1) f) (ap (λ (k : ℕ). family ++ k ∷ []) (sym is) ∙ sym e)
      (subst (λ arrows. IsFamilyIn d arrows q (family ++ length (arrows_of n (listed (take m ps))) ∷ []))
      (sym (one-more m l ∙ ap (λ o. arrows_of n (listed (take m ps)) ++ onto o []) (split-many n (path m) w)))
      (family-more (below_in d) (variances_in d) q (arrows_of n (listed (take m ps))) family h (split_at n (path m)) le))

  -- further places whose paths don't lead to q
  jumps : (family : List ℕ) (m g : ℕ) → ((j : ℕ) → m ≤ j → j < m + g → j < length ps → Silent j) → FamilyUpTo m family → FamilyUpTo (m + g) family
  jumps family m zero s h = let e : m ≡ m + 0 = omega arith in subst (λ (k : ℕ). FamilyUpTo k family) e h
  jumps family m (suc g) s h =
      let r = jumps family m g (λ j a b c. s j a (omega (arith, b)) c) h in
      let e : m + g + 1 ≡ m + suc g = omega arith in
      elim (less-or-not (m + g) (length ps)) [
        | inl l ↦ subst (λ (k : ℕ). FamilyUpTo k family) e (skip family (m + g) l (s (m + g) (omega arith) (omega arith) l) r)
        | inr l ↦ subst (λ arrows. IsFamilyIn d (arrows_of n (listed arrows)) q family) (take_all (m + g) ps l ∙ sym (take_all (m + suc g) ps (omega (arith, l)))) r
      ]

  pub jump : (family : List ℕ) (m k : ℕ) → m ≤ k → ((j : ℕ) → m ≤ j → j < k → j < length ps → Silent j) → FamilyUpTo m family → FamilyUpTo k family
  jump family m k l s h = go (gap m k l)
    where
      go : (g : ℕ) × (m + g ≡ k) → FamilyUpTo k family
      go (g, e) = subst (λ (x : ℕ). FamilyUpTo x family) e (jumps family m g (λ j a b c. s j a (subst (λ (x : ℕ). j < x) e b) c) h)

  pub first-jump : (k : ℕ) → ((j : ℕ) → j < k → j < length ps → Silent j) → FamilyUpTo k []
  first-jump k s = jump [] 0 k (omega arith) (λ j a b c. s j b c) (family-nil (below_in d) (variances_in d) q)

  -- a path of another ending than the one that alone may lead there
  module _ (alone : IsTrue (is_alone (class_by d.pairs) (head_of q))) (kinds : List Ending) (ks : List ℕ) (h : AreEndings kinds ks ps) where
    wanted-at : (j : ℕ) → j < length ps → n ≤ leading_arrows (path j) → PathLe (below_in d) (variances_in d) (target_at n (path j)) q → slice_get kinds (get_or ks j 0) ≡ Some (ending_behind n (ending_of q))
    wanted-at j l w le =
        let leads : may_end_below (is_below d) n (ending_of (path j)) (ending_of q) ≡ true = may-end (is_below d) (variances_in d) n (path j) q w le in
        let same : ending_behind n (ending_of q) ≡ ending_of (path j) = same-ending (ending_behind n (ending_of q)) (ending_of (path j)) (sym (one-leads d n (ending_of q) alone (ending_of (path j))) ∙ leads) in
        (kind-at kinds ks ps j h l).1 ∙ ap (λ (e : Ending). Some e) (sym same)

    pub silent-other : (k j : ℕ) → IsFound kinds (ending_behind n (ending_of q)) (Some k) → j < length ps → (get_or ks j 0 ≡ k → ⊥) → Silent j
    silent-other k j found l apart w le = apart ((found (get_or ks j 0)).0 (wanted-at j l w le))

    pub silent-all : IsFound kinds (ending_behind n (ending_of q)) None → IsFamilyIn d (arrows_of n (listed ps)) q []
    silent-all found =
        subst (λ arrows. IsFamilyIn d (arrows_of n (listed arrows)) q []) (take_all (length ps) ps (omega arith))
        (first-jump (length ps) (λ j a l w le. found (get_or ks j 0) (wanted-at j l w le)))
