-- How the list of minimal covers grows by one family more.
use Rattle.std.proofs.Common.{ℕ, ◌≡◌, ◌+◌, ◌<◌, ◌≤◌, ◌↔◌, refl, sym, ◌∙◌, subst, ap, ◌⊎◌, inl, inr, List, [], ◌∷◌, ◌++◌, length, take, drop, get_or, map, arith, take-append-drop}
use Rattle.std.proofs.lemmas.List.{length-append, take_more, map-append}
use Rattle.cls_base.specs.Terms.{Precedes}
use Rattle.cls_base.proofs.Lists.{take_whole}
use Rattle.cls_cover.specs.Members.{Member, first, later, Rises, Differ}
use Rattle.cls_cover.specs.Lists.{Sublist, ends, drops}
use Rattle.cls_cover.specs.MemberCovers.{IsMinimalSet, Shares, SharesEach, AreMinimalSets, HaveMoreSets}
use Rattle.cls_cover.specs.Rows.{family_at}
use Rattle.cls_cover.specs.Growing.{IsPut, Gives, stays, grows, AreWithin}
use Rattle.cls_cover.specs.Sets.{members}
use Rattle.cls_cover.specs.Choosing.{AreApart, IsCoverOf, AreCoversOf, AreAllCoversOf, IsGivenTo, IsGivenWith, IsFreeOf, IsGivenBy}
use Rattle.cls_cover.proofs.Lists.{get_member, member_append, member_append_left, member_append_right, differ_more, rises_unique, sublist_none, no_more_than}
use Rattle.cls_cover.proofs.Grouping.{taken_member, fresh_at, differ_front}
use Rattle.cls_cover.proofs.Joined.{last_fresh}
use Rattle.cls_cover.proofs.Growth.{one_origin, is_given, given_minimal}

-- a list with one element more
in_last : {A : Type 0} (xs : List A) (x y : A) → Member (xs ++ x ∷ []) y → Member xs y ⊎ (y ≡ x)
in_last {A} xs x y m = go (member_append xs (x ∷ []) y m)
  where
    only : (y : A) → Member (x ∷ []) y → y ≡ x
    only _ first = refl
    only y (later m) = elim m [ ]

    go : Member xs y ⊎ Member (x ∷ []) y → Member xs y ⊎ (y ≡ x)
    go (inl m) = inl m
    go (inr m) = inr (only y m)

last_in : {A : Type 0} (xs : List A) (x : A) → Member (xs ++ x ∷ []) x
last_in xs x = member_append_right xs (x ∷ []) x first

member_map : {A B : Type 0} (f : A → B) (xs : List A) (x : A) → Member xs x → Member (map f xs) (f x)
member_map f (x ∷ xs) _ first = first
member_map f (y ∷ xs) x (later m) = later (member_map f xs x m)
member_map f [] x m = elim m [ ]

less_not : (y z : ℕ) → y < z → z < y → ⊥
less_not y z g h = omega arith

-- a list with x put into it is determined
pub put_unique : (x : ℕ) (s t u : List ℕ) → IsPut x s t → IsPut x s u → t ≡ u
put_unique x s t u g h = rises_unique (λ y z. y < z) less_not t u g.ascending h.ascending (λ z m. into u h z (g.origin z m)) (λ z m. into t g z (h.origin z m))
  where
    into : (u : List ℕ) → IsPut x s u → (z : ℕ) → Member (x ∷ s) z → Member u z
    into u o _ first = o.has
    into u o z (later m) = o.kept z m

module _ (families : List (List ℕ)) (j : ℕ) where
  covers_more : (list : List (List ℕ)) (t : List ℕ) → AreCoversOf families j list → IsCoverOf families j t → (Member list t → ⊥) → AreCoversOf families j (list ++ t ∷ [])
  covers_more list t c m n = record {
    minimal = (λ u k. elim (in_last list t u k) [ inl i ↦ c.minimal u i | inr e ↦ subst (λ (v : List ℕ). IsCoverOf families j v) (sym e) m ]);
    differ = differ_more list t c.differ n;
  }

module _ (families : List (List ℕ)) (j : ℕ) (l : j < length families) (s : List ℕ) (old : List (List ℕ)) (free : IsFreeOf families j s old) where
  -- a cover that meets the family stays
  pub given_stays : IsCoverOf families j s → Shares (family_at families j) s → IsGivenTo families j s old (old ++ s ∷ [])
  given_stays m h = record {
    covers = covers_more families (j + 1) old s free.covers (given_minimal families j l s s m (stays h refl)) (λ k. free.fresh s k (stays h refl));
    origin = (λ t k. elim (in_last old s t k) [ inl i ↦ inl i | inr e ↦ inr (stays h e) ]);
    kept = (λ t k. member_append_left (s ∷ []) t k);
    longer = (let e = length-append old (s ∷ []) in omega arith);
    whole = (λ t g. all t g);
  }
    where
      all : (t : List ℕ) → Gives families j s t → Member (old ++ s ∷ []) t
      all t (stays i e) = subst (λ (u : List ℕ). Member (old ++ s ∷ []) u) (sym e) (last_in old s)
      all t (grows x n i p v) = absurd (n h)

  pub with_none : IsGivenWith families j s old [] old
  with_none = record { covers = free.covers; origin = (λ t m. inl m); kept = (λ t m. m); longer = omega arith; whole = (λ x m. elim m [ ]) }

  module _ (missed : Shares (family_at families j) s → ⊥) (done : List ℕ) (new : List (List ℕ)) (part : IsGivenWith families j s old done new) where
    module _ (x : ℕ) where
      wider : (t : List ℕ) → Member old t ⊎ ((y : ℕ) × Member done y × IsPut y s t) → Member old t ⊎ ((y : ℕ) × Member (done ++ x ∷ []) y × IsPut y s t)
      wider t (inl k) = inl k
      wider t (inr k) = inr (k.0, member_append_left (x ∷ []) k.0 k.1, k.2)

      -- a number with which the cover gives none
      pub with_no : ((t : List ℕ) → IsPut x s t → IsCoverOf families (j + 1) t → ⊥) → IsGivenWith families j s old (done ++ x ∷ []) new
      with_no n = record {
        covers = part.covers;
        origin = (λ t m. wider t (part.origin t m));
        kept = part.kept;
        longer = part.longer;
        whole = (λ y m t p q. elim (in_last done x y m) [ inl k ↦ part.whole y k t p q | inr e ↦ absurd (n t (subst (λ z. IsPut z s t) e p) q) ]);
      }

      -- one with which it gives t
      pub with_yes : (t : List ℕ) → IsPut x s t → IsCoverOf families (j + 1) t → Member (family_at families j) x → ((y : ℕ) → Member done y → Member (family_at families j) y) → (Member done x → ⊥) → IsGivenWith families j s old (done ++ x ∷ []) (new ++ t ∷ [])
      with_yes t p q here inside n = record {
        covers = covers_more families (j + 1) new t part.covers q (λ m. fresh (part.origin t m));
        origin = (λ u m. elim (in_last new t u m) [ inl k ↦ wider u (part.origin u k) | inr e ↦ inr (x, last_in done x, subst (λ (v : List ℕ). IsPut x s v) (sym e) p) ]);
        kept = (λ u m. member_append_left (t ∷ []) u (part.kept u m));
        longer = (let e = length-append new (t ∷ []) in let o = part.longer in omega arith);
        whole = (λ y m u o v. elim (in_last done x y m) [
          | inl k ↦ member_append_left (t ∷ []) u (part.whole y k u o v)
          | inr e ↦ subst (λ (w : List ℕ). Member (new ++ t ∷ []) w) (put_unique x s t u p (subst (λ z. IsPut z s u) e o)) (last_in new t)
        ]);
      }
        where
          apart : (y : ℕ) → Member done y → Member (x ∷ s) y → ⊥
          apart _ g first = n g
          apart y g (later h) = missed (y, inside y g, h)

          fresh : Member old t ⊎ ((y : ℕ) × Member done y × IsPut y s t) → ⊥
          fresh (inl m) = free.fresh t m (grows x missed here p q)
          fresh (inr o) = apart o.0 o.1 (p.origin o.0 o.2.has)

    -- the number at place i of the family, which is read as items
    module _ (items : List ℕ) (e : items ≡ family_at families j) (d : Differ (family_at families j)) (i : ℕ) (here : i < length items) (is : done ≡ take i (family_at families j)) where
      one : done ++ get_or items i 0 ∷ [] ≡ take (i + 1) (family_at families j)
      one =
          ap (λ (g : List ℕ). g ++ get_or items i 0 ∷ []) is
          ∙ subst (λ (g : List ℕ). take i g ++ get_or items i 0 ∷ [] ≡ take (i + 1) g) e (sym (take_more items i 0 here))

      pub place_no : ((t : List ℕ) → IsPut (get_or items i 0) s t → IsCoverOf families (j + 1) t → ⊥) → IsGivenWith families j s old (take (i + 1) (family_at families j)) new
      place_no n = subst (λ (g : List ℕ). IsGivenWith families j s old g new) one (with_no (get_or items i 0) n)

      pub place_yes : (t : List ℕ) → IsPut (get_or items i 0) s t → IsCoverOf families (j + 1) t → IsGivenWith families j s old (take (i + 1) (family_at families j)) (new ++ t ∷ [])
      place_yes t p q = subst (λ (g : List ℕ). IsGivenWith families j s old g (new ++ t ∷ [])) one (with_yes (get_or items i 0) t p q in_family inside unseen)
        where
          in_family : Member (family_at families j) (get_or items i 0)
          in_family = subst (λ (g : List ℕ). Member g (get_or items i 0)) e (get_member items i 0 here)

          inside : (y : ℕ) → Member done y → Member (family_at families j) y
          inside y m = taken_member (family_at families j) i y (subst (λ (g : List ℕ). Member g y) is m)

          unseen : Member done (get_or items i 0) → ⊥
          unseen m =
              let f : Differ items = subst (λ (g : List ℕ). Differ g) (sym e) d in
              fresh_at [] items i f here (subst (λ (g : List ℕ). Member (take i g) (get_or items i 0)) (sym e) (subst (λ (g : List ℕ). Member g (get_or items i 0)) is m))

    -- all numbers of the family are done
    pub with_all : done ≡ family_at families j → IsGivenTo families j s old new
    with_all e = record {
      covers = part.covers;
      origin = (λ t m. from t m (part.origin t m));
      kept = part.kept;
      longer = part.longer;
      whole = (λ t g. all t g);
    }
      where
        from : (t : List ℕ) → Member new t → Member old t ⊎ ((x : ℕ) × Member done x × IsPut x s t) → Member old t ⊎ Gives families j s t
        from t m (inl h) = inl h
        from t m (inr h) = inr (grows h.0 missed (subst (λ (g : List ℕ). Member g h.0) e h.1) h.2 (part.covers.minimal t m))

        all : (t : List ℕ) → Gives families j s t → Member new t
        all t (stays h d) = absurd (missed h)
        all t (grows x n h p q) = part.whole x (subst (λ (g : List ℕ). Member g x) (sym e) h) t p q

module _ (families : List (List ℕ)) (j : ℕ) (l : j < length families) (limit : ℕ) where
  pub by_none : IsGivenBy families j limit [] []
  by_none = record { covers = record { minimal = (λ t m. elim m [ ]); differ = tt }; origin = (λ t m. elim m [ ]); whole = (λ w s t m. elim m [ ]) }

  module _ (olds : List (List ℕ)) (s : List ℕ) (new : List (List ℕ)) (by : IsGivenBy families j limit olds new) where
    further : (t : List ℕ) → (u : List ℕ) × Member olds u × Gives families j u t → (u : List ℕ) × Member (olds ++ s ∷ []) u × Gives families j u t
    further t o = (o.0, member_append_left (s ∷ []) o.0 o.1, o.2)

    -- a list that is too long stays
    pub by_full : limit < length new → IsGivenBy families j limit (olds ++ s ∷ []) new
    by_full w = record { covers = by.covers; origin = (λ t m. further t (by.origin t m)); whole = (λ v u t m g. absurd (omega arith)) }

    -- another cover gives none of the list
    pub by_free : ((u : List ℕ) → Member olds u → IsCoverOf families j u) → IsCoverOf families j s → (Member olds s → ⊥) → IsFreeOf families j s new
    by_free f m n = record { covers = by.covers; fresh = (λ t i h. let o = by.origin t i in n (subst (λ (u : List ℕ). Member olds u) (one_origin families j l o.0 s t (f o.0 o.1) m o.2 h) o.1)) }

    pub by_more : (newer : List (List ℕ)) → IsGivenTo families j s new newer → IsGivenBy families j limit (olds ++ s ∷ []) newer
    by_more newer g = record {
      covers = g.covers;
      origin = (λ t m. from t (g.origin t m));
      whole = (λ w u t m h. elim (in_last olds s u m) [ inl k ↦ g.kept t (by.whole (let o = g.longer in omega arith) u t k h) | inr e ↦ g.whole t (subst (λ (v : List ℕ). Gives families j v t) e h) ]);
    }
      where
        from : (t : List ℕ) → Member new t ⊎ Gives families j s t → (u : List ℕ) × Member (olds ++ s ∷ []) u × Gives families j u t
        from t (inl m) = further t (by.origin t m)
        from t (inr h) = (s, last_in olds s, h)

  -- the cover at place i of a list
  module _ (covers : List ℕ) (i : ℕ) (here : i < length covers) where
    abbrev cover : ℕ
    cover = get_or covers i 0

    split : map members (take (i + 1) covers) ≡ map members (take i covers) ++ members cover ∷ []
    split = ap (λ (g : List ℕ). map members g) (take_more covers i 0 here) ∙ map-append members (take i covers) (cover ∷ [])

    module _ (c : AreCoversOf families j (map members covers)) where
      pub place_cover : IsCoverOf families j (members cover)
      place_cover = c.minimal (members cover) (member_map members covers cover (get_member covers i 0 here))

      module _ (new : List (List ℕ)) (by : IsGivenBy families j limit (map members (take i covers)) new) where
        pub place_free : IsFreeOf families j (members cover) new
        place_free = by_free (map members (take i covers)) (members cover) new by
            (λ u m. c.minimal u (map_front u m))
            place_cover
            (λ m. fresh_place m)
          where
            whole : map members covers ≡ map members (take i covers) ++ map members (drop i covers)
            whole = ap (λ (g : List ℕ). map members g) (sym (take-append-drop i covers)) ∙ map-append members (take i covers) (drop i covers)

            map_front : (u : List ℕ) → Member (map members (take i covers)) u → Member (map members covers) u
            map_front u m = subst (λ (g : List (List ℕ)). Member g u) (sym whole) (member_append_left (map members (drop i covers)) u m)

            more : map members covers ≡ (map members (take i covers) ++ members cover ∷ []) ++ map members (drop (i + 1) covers)
            more = ap (λ (g : List ℕ). map members g) (sym (take-append-drop (i + 1) covers)) ∙ (map-append members (take (i + 1) covers) (drop (i + 1) covers) ∙ ap (λ (g : List (List ℕ)). g ++ map members (drop (i + 1) covers)) split)

            fresh_place : Member (map members (take i covers)) (members cover) → ⊥
            fresh_place m = last_fresh (map members (take i covers)) (members cover) (differ_front (map members (take i covers) ++ members cover ∷ []) (map members (drop (i + 1) covers)) (subst (λ (g : List (List ℕ)). Differ g) more c.differ)) m

        pub place_more : (newer : List (List ℕ)) → IsGivenTo families j (members cover) new newer → IsGivenBy families j limit (map members (take (i + 1) covers)) newer
        place_more newer g = subst (λ (l : List (List ℕ)). IsGivenBy families j limit l newer) (sym split) (by_more (map members (take i covers)) (members cover) new by newer g)

        pub place_full : limit < length new → IsGivenBy families j limit (map members (take (i + 1) covers)) new
        place_full w = subst (λ (l : List (List ℕ)). IsGivenBy families j limit l new) (sym split) (by_full (map members (take i covers)) (members cover) new by w)

  -- the covers of one family more
  pub all_more : (old new : List (List ℕ)) → AreAllCoversOf families j old → IsGivenBy families j limit old new → length new ≤ limit → AreAllCoversOf families (j + 1) new
  all_more old new f g w = record { covers = g.covers; whole = (λ t m. let r = is_given families j l t m in g.whole w r.0 t (f.whole r.0 r.1) r.2) }

  pub many_given : (olds new : List (List ℕ)) → IsGivenBy families j limit olds new → limit < length new → HaveMoreSets (take (j + 1) families) limit
  many_given olds new g w = record { list = new; differ = g.covers.differ; minimal = g.covers.minimal; more = w }

few_covers : (families : List (List ℕ)) (limit j : ℕ) (list : List (List ℕ)) → AreAllCoversOf families j list → length list ≤ limit → HaveMoreSets (take j families) limit → ⊥
few_covers families limit j list f w h =
    let n = no_more_than h.list list h.differ (λ t m. f.whole t (h.minimal t m)) in
    let o : limit < length h.list = h.more in omega arith

pub few_more : (families : List (List ℕ)) (limit j : ℕ) (list : List (List ℕ)) → AreWithin families limit j → AreAllCoversOf families (j + 1) list → length list ≤ limit → AreWithin families limit (j + 1)
few_more families limit j list w f h = record { few = (λ i k. each i (split i k)) }
  where
    split : (i : ℕ) → i ≤ j + 1 → (i ≤ j) ⊎ (i ≡ j + 1)
    split i k = grind arith

    each : (i : ℕ) → (i ≤ j) ⊎ (i ≡ j + 1) → HaveMoreSets (take i families) limit → ⊥
    each i (inl k) m = w.few i k m
    each i (inr k) m = few_covers families limit (j + 1) list f h (subst (λ n. HaveMoreSets (take n families) limit) k m)

-- the cover of no families
pub all_start : (families : List (List ℕ)) (list : List (List ℕ)) → list ≡ [] ∷ [] → AreAllCoversOf families 0 list
all_start families list e = subst (λ (l : List (List ℕ)). AreAllCoversOf families 0 l) (sym e) (record { covers = record { minimal = (λ t m. only t m); differ = ((λ m. elim m [ ]), tt) }; whole = (λ t m. subst (λ (u : List ℕ). Member ([] ∷ []) u) (m.minimal [] (none t) (λ f i. elim i [ ])) first) })
  where
    none : (s : List ℕ) → Sublist [] s
    none [] = ends
    none (x ∷ s) = drops (none s)

    only : (t : List ℕ) → Member ([] ∷ []) t → IsMinimalSet (SharesEach []) t
    only _ first = record { ascending = tt; covers = (λ f i. elim i [ ]); minimal = (λ t s i. sublist_none t s) }
    only t (later m) = elim m [ ]

pub few_start : (families : List (List ℕ)) (limit : ℕ) → 0 < limit → (list : List (List ℕ)) → length list ≡ 1 → AreAllCoversOf families 0 list → AreWithin families limit 0
few_start families limit p list e f = record { few = (λ i h. subst (λ k. HaveMoreSets (take k families) limit → ⊥) (let z : 0 ≡ i = omega arith in z) (few_covers families limit 0 list f (small limit p e))) }
  where
    small : (limit : ℕ) → 0 < limit → length list ≡ 1 → length list ≤ limit
    small limit p e = omega arith

-- what has all covers has them in order
pub all_in_order : (families : List (List ℕ)) (j : ℕ) (list all : List (List ℕ)) → length families ≤ j → AreAllCoversOf families j list → Rises Precedes all → ((s : List ℕ) → Member all s ↔ Member list s) → AreMinimalSets (SharesEach families) all
all_in_order families j list all l f r e = record {
  in_order = r;
  exactly = (λ s. (
    (λ m. subst (λ fs. IsMinimalSet (SharesEach fs) s) (take_whole families j l) (f.covers.minimal s ((e s).0 m))),
    (λ m. (e s).1 (f.whole s (subst (λ fs. IsMinimalSet (SharesEach fs) s) (sym (take_whole families j l)) m))),
  ));
}

-- a minimal cover is no proper part of another one
pub covers_apart : (families : List (List ℕ)) (j : ℕ) (list : List (List ℕ)) → AreCoversOf families j list → AreApart list
covers_apart families j list c s t m n h = (c.minimal t n).minimal s h (c.minimal s m).covers
