-- Families of one position each have one minimal cover.
use Rattle.std.proofs.Common.{ℕ, zero, suc, ◌≡◌, ◌<◌, ◌↔◌, ◌⊎◌, inl, inr, refl, sym, subst, ◌∙◌, List, [], ◌∷◌, ◌++◌, length, take, get_or, insert, arith}
use Rattle.cls_cover.specs.Members.{Member, first, later, Ascending, Differ}
use Rattle.cls_cover.specs.MemberCovers.{IsMinimalSet, SharesEach, AreCoverSets, HaveMoreSets}
use Rattle.cls_cover.specs.Rows.{family_at}
use Rattle.cls_cover.specs.Growing.{single}
use Rattle.cls_cover.specs.Forced.{AreSingle, IsForced}
use Rattle.cls_cover.proofs.Lists.{sublist_member, ascending_sublist, rises_unique, get_member, insert_from, insert_has, rises_insert, get_any, member_append, member_append_left, member_append_right}
use Rattle.cls_cover.proofs.Growth.{own}

in_single : (x i : ℕ) → Member (single x) i → i ≡ x
in_single x _ first = refl
in_single x i (later m) = elim m [ ]

pub same_single : (x y : ℕ) → single x ≡ single y → x ≡ y
same_single x y e = cc

less_not : (x y : ℕ) → x < y → y < x → ⊥
less_not x y l m = omega arith

less_trans : (x y z : ℕ) → x < y → y < z → x < z
less_trans x y z l m = omega arith

in_take : (j : ℕ) (fs : List (List ℕ)) (f : List ℕ) → Member (take j fs) f → Member fs f
in_take zero fs f m = elim m [ ]
in_take (suc j) [] f m = elim m [ ]
in_take (suc j) (g ∷ fs) _ first = first
in_take (suc j) (g ∷ fs) f (later m) = later (in_take j fs f m)

module _ (families : List (List ℕ)) (h : AreSingle families) where
  -- what covers the families has each number that stands alone
  has_single : (t : List ℕ) → SharesEach families t → (x : ℕ) → Member families (single x) → Member t x
  has_single t c x m = let r = c (single x) m in subst (λ i. Member t i) (in_single x r.0 r.1) r.2

  -- a minimal cover has no other numbers
  of_single : (s : List ℕ) → IsMinimalSet (SharesEach families) s → (x : ℕ) → Member s x → Member families (single x)
  of_single s m x k =
      let o = own families s m x k in
      let f : Member families (family_at families o.place) = get_member families o.place [] o.within in
      let r = h (family_at families o.place) f in
      let e : x ≡ r.0 = in_single r.0 x (subst (λ (g : List ℕ). Member g x) r.1 o.met) in
      subst (λ (g : List ℕ). Member families g) (r.1 ∙ sym (single_same x r.0 e)) f
    where
      single_same : (x y : ℕ) → x ≡ y → single x ≡ single y
      single_same x y e = cc

  one : (s t : List ℕ) → IsMinimalSet (SharesEach families) s → IsMinimalSet (SharesEach families) t → s ≡ t
  one s t m k = rises_unique (λ x y. x < y) less_not s t m.ascending k.ascending
      (λ x i. has_single t k.covers x (of_single s m x i)) (λ x i. has_single s m.covers x (of_single t k x i))

  no_two : (list : List (List ℕ)) → Differ list → ((s : List ℕ) → Member list s → IsMinimalSet (SharesEach families) s) → 1 < length list → ⊥
  no_two [] d m l = omega arith
  no_two (s ∷ []) d m l = omega arith
  no_two (s ∷ t ∷ list) d m l = d.0 (subst (λ (u : List ℕ). Member (t ∷ list) u) (one t s (m t (later first)) (m s first)) first)

pub single_within : (families : List (List ℕ)) → AreSingle families → (limit : ℕ) → (limit ≡ 0 → ⊥) → (j : ℕ) → HaveMoreSets (take j families) limit → ⊥
single_within families h limit n j k =
    let l : limit < length k.list = k.more in
    no_two (take j families) (λ f m. h f (in_take j families f m)) k.list k.differ k.minimal (omega (arith, n))

module _ (families : List (List ℕ)) (cover : List ℕ) (h : IsForced families cover) where
  covers_each : SharesEach families cover
  covers_each family m =
      let r = h.single_each family m in
      (r.0, subst (λ (f : List ℕ). Member f r.0) (sym r.1) first, (h.exactly r.0).1 (subst (λ (f : List ℕ). Member families f) r.1 m))

  forced_minimal : IsMinimalSet (SharesEach families) cover
  forced_minimal = record {
    ascending = h.ascending;
    covers = covers_each;
    minimal = (λ t sub c. rises_unique (λ x y. x < y) less_not t cover (ascending_sublist sub h.ascending) h.ascending
        (λ x m. sublist_member x sub m) (λ x m. has_single families h.single_each t c x ((h.exactly x).0 m)));
  }

  pub forced_covers : AreCoverSets families (cover ∷ [])
  forced_covers = record {
    in_order = ((λ y m. elim m [ ]), tt);
    exactly = (λ s. ((λ m. is_minimal s m), (λ m. subst (λ (t : List ℕ). Member (cover ∷ []) t) (one families h.single_each cover s forced_minimal m) first)));
  }
    where
      is_minimal : (s : List ℕ) → Member (cover ∷ []) s → IsMinimalSet (SharesEach families) s
      is_minimal _ first = forced_minimal
      is_minimal s (later m) = elim m [ ]

pub forced_none : (cover : List ℕ) → cover ≡ [] → IsForced [] cover
forced_none cover e = subst (λ (c : List ℕ). IsForced [] c) (sym e) (record {
  ascending = tt;
  single_each = (λ f m. elim m [ ]);
  exactly = (λ x. ((λ m. elim m [ ]), (λ m. elim m [ ])));
})

-- one family more
pub forced_more : (families : List (List ℕ)) (cover next : List ℕ) (x : ℕ) (family : List ℕ) → IsForced families cover → family ≡ single x → Ascending next
    → ((y : ℕ) → Member next y ↔ (Member cover y ⊎ (y ≡ x))) → IsForced (families ++ family ∷ []) next
forced_more families cover next x family h e a is = record {
  ascending = a;
  single_each = (λ f m. each f (member_append families (family ∷ []) f m));
  exactly = (λ y. ((λ m. to y ((is y).0 m)), (λ m. (is y).1 (back y (member_append families (family ∷ []) (single y) m)))));
}
  where
    same : (f : List ℕ) → Member (family ∷ []) f → f ≡ family
    same _ first = refl
    same f (later m) = elim m [ ]

    each : (f : List ℕ) → Member families f ⊎ Member (family ∷ []) f → (y : ℕ) × (f ≡ single y)
    each f (inl m) = h.single_each f m
    each f (inr m) = (x, same f m ∙ e)

    here : (y : ℕ) → y ≡ x → Member (family ∷ []) (single y)
    here y k = subst (λ (f : List ℕ). Member (family ∷ []) f) (e ∙ subst (λ z. single x ≡ single z) (sym k) refl) first

    to : (y : ℕ) → Member cover y ⊎ (y ≡ x) → Member (families ++ family ∷ []) (single y)
    to y (inl m) = member_append_left (family ∷ []) (single y) ((h.exactly y).0 m)
    to y (inr k) = member_append_right families (family ∷ []) (single y) (here y k)

    back : (y : ℕ) → Member families (single y) ⊎ Member (family ∷ []) (single y) → Member cover y ⊎ (y ≡ x)
    back y (inl m) = inl ((h.exactly y).1 m)
    back y (inr m) = inr (same_single y x (same (single y) m ∙ e))

-- a number put among others, in its place
module _ (s : List ℕ) (k x : ℕ) (a : Ascending s) (before : (j : ℕ) → j < k → get_or s j 0 < x) where
  pub put_ascending : (k < length s → x < get_or s k 0) → Ascending (insert s k x)
  put_ascending after = rises_insert (λ x y. x < y) less_trans s k x
      (λ j l m. let e = get_any s j x 0 m in let h = before j l in omega arith)
      (λ l. let e = get_any s k x 0 l in let h = after l in omega arith) a

pub put_members : (s : List ℕ) (k x y : ℕ) → Member (insert s k x) y ↔ (Member s y ⊎ (y ≡ x))
put_members s k x y = ((λ m. swap (insert_from s k x y m)), (λ m. insert_has s k x y (swapped m)))
  where
    swap : (y ≡ x) ⊎ Member s y → Member s y ⊎ (y ≡ x)
    swap (inl e) = inr e
    swap (inr m) = inl m

    swapped : Member s y ⊎ (y ≡ x) → (y ≡ x) ⊎ Member s y
    swapped (inl m) = inr m
    swapped (inr e) = inl e

-- a number that is there
pub there_members : (s : List ℕ) (k x : ℕ) → k < length s → get_or s k 0 ≡ x → (y : ℕ) → Member s y ↔ (Member s y ⊎ (y ≡ x))
there_members s k x l e y = ((λ m. inl m), (λ m. back m))
  where
    back : Member s y ⊎ (y ≡ x) → Member s y
    back (inl m) = m
    back (inr f) = subst (λ z. Member s z) (e ∙ sym f) (get_member s k 0 l)

-- a list of one number
pub only_one : (family : List ℕ) (x : ℕ) → length family ≡ 1 → x ≡ get_or family 0 x → family ≡ single x
only_one [] x l e = absurd (omega arith)
only_one (y ∷ []) x l e = single_here y x (sym e)
  where
    single_here : (y x : ℕ) → y ≡ x → single y ≡ single x
    single_here y x e = cc
only_one (y ∷ z ∷ family) x l e = absurd (let k : suc (suc (length family)) ≡ 1 = l in omega arith)
