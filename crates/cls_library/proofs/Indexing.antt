-- An index, arrow after arrow.
use Rattle.std.proofs.Common.{◌≡◌, ℕ, zero, suc, ◌+◌, ◌<◌, ◌≤◌, ◌⊎◌, inl, inr, Bool, true, false, cond, List, [], ◌∷◌, ◌++◌, length, Option, None, Some, refl, sym, subst, ap, ◌∙◌, arith}
use Rattle.std.specs.Prelude.{Contains, slice_get, slice_set, IfSome, IsSomeAnd, option_copied}
use Rattle.std.specs.Borrow.{Bor}
use Rattle.std.specs.declared.vec.Vec.{Vec}
use Rattle.std.proofs.lemmas.List.Elements.{Contains-push, Contains-push_cases, Contains-append_left}
use Rattle.std.proofs.lemmas.Option.{slice_get_within}
use Rattle.cls_base.proofs.Lists.{Contains-at, Contains-nil, Contains-place}
use Rattle.std.proofs.lemmas.List.{length-append}
use Rattle.cls_library.specs.declared.ending.Ending.{Ending}
use Rattle.cls_library.specs.declared.index.Entry.{Entry}
use Rattle.cls_library.specs.declared.index.Index.{Index}
use Rattle.cls_library.specs.declared.place.Place.{Place}
use Rattle.cls_library.specs.Arrows.{MultiArrow, arity_of}
use Rattle.cls_library.specs.Endings.{ending_of}
use Rattle.cls_library.specs.Index.{AreEntriesBefore, AreInOrder, ArrowIsBefore, EndsIn, HasEntriesBefore, HoldEntries, IsEntry, IsIndex, IsIndexOf, IsNew, Merges, PutsArrow, PutsIf, Spot, arrows_in, entries_for, entries_in, is_ending, one_at, paths_in, several_at, spot_at}
use Rattle.cls_library.specs.Libraries.{Component}
use Rattle.cls_library.proofs.EndingLaws.{same-ending}
use Rattle.cls_library.proofs.Leading.{some-within, within-arity, within-library}
use Rattle.cls_library.proofs.Lone.{same-endings}
use Rattle.cls_library.specs.Families.{IsBefore}
use Rattle.cls_library.proofs.Orders.{before_itself, less-or-not, not_later, same_place}

-- of a list with one element more, each is one of the list or the new one
at-push : {A : Type 0} (xs : List A) (x : A) (i : ℕ) (y : A) → slice_get (xs ++ x ∷ []) i ≡ Some y → (slice_get xs i ≡ Some y) ⊎ ((i ≡ length xs) × (y ≡ x))
at-push [] x zero y e = inr (refl, (let s : y ≡ x = cc in s))
at-push [] x (suc i) y e = cc
at-push (z ∷ xs) x zero y e = inl e
at-push (z ∷ xs) x (suc i) y e = elim (at-push xs x i y e) [ inl l ↦ inl l | inr r ↦ inr (let k = r.0 in omega arith, r.1) ]

at-left : {A : Type 0} (xs ys : List A) (i : ℕ) (y : A) → slice_get xs i ≡ Some y → slice_get (xs ++ ys) i ≡ Some y
at-left [] ys i y e = cc
at-left (x ∷ xs) ys zero y e = e
at-left (x ∷ xs) ys (suc i) y e = at-left xs ys i y e

at-end : {A : Type 0} (xs : List A) (x : A) → slice_get (xs ++ x ∷ []) (length xs) ≡ Some x
at-end [] x = refl
at-end (y ∷ xs) x = at-end xs x

-- a list is empty or has a last one
snoc : {A : Type 0} (xs : List A) → (xs ≡ []) ⊎ ((front : List A) × (last : A) × (xs ≡ front ++ last ∷ []))
snoc [] = inl refl
snoc (x ∷ xs) = elim (snoc xs) [
  | inl e ↦ inr ([], x, ap (λ l. x ∷ l) e)
  | inr r ↦ inr (x ∷ r.0, r.1, ap (λ l. x ∷ l) r.2)
]

order-push : (entries : List Entry) (s : Entry) → AreInOrder entries → ((t : Entry) → Contains entries t → IsBefore t.place s.place) → AreInOrder (entries ++ s ∷ [])
order-push entries s h last i j a b l e f = elim (at-push entries s j b f) [
  | inl g ↦ elim (at-push entries s i a e) [
    | inl k ↦ h i j a b l k g
    | inr r ↦ absurd (let m = slice_get_within entries j b g in let n = r.0 in omega arith)
  ]
  | inr r ↦ elim (at-push entries s i a e) [
    | inl k ↦ subst (λ (t : Entry). IsBefore a.place t.place) (sym r.1) (last a (Contains-at entries i a k))
    | inr q ↦ absurd (let m = r.0 in let n = q.0 in omega arith)
  ]
]

-- the front of entries in order
order-front : (front : List Entry) (t : Entry) → AreInOrder (front ++ t ∷ []) → AreInOrder front
order-front front t h i j a b l e f = h i j a b l (at-left front (t ∷ []) i a e) (at-left front (t ∷ []) j b f)

order-last : (front : List Entry) (t : Entry) → AreInOrder (front ++ t ∷ []) → (u : Entry) → Contains front u → IsBefore u.place t.place
order-last front t h u c =
    let r = Contains-place front u c in
    let w = slice_get_within front r.0 u r.1 in
    h r.0 (length front) u t w (at-left front (t ∷ []) r.0 u r.1) (at-end front t)

-- what is before the next position of a place
before_next : (x n i : ℕ) (t : Spot) → ArrowIsBefore t (spot_at x n (i + 1)) → ArrowIsBefore t (spot_at x n i) ⊎ (t ≡ spot_at x n i)
before_next x n i t h = elim h [
  | inl b ↦ inl (inl b)
  | inr b ↦ elim (less-or-not t.position i) [
    | inl l ↦ inl (inr (b.0, l))
    | inr l ↦ inr (let p = b.0 in let m = b.1 in let e : t.position ≡ i = omega arith in (λ j. record { place = p j; position = e j }))
  ]
]

before_more : (x n i : ℕ) (t : Spot) → ArrowIsBefore t (spot_at x n i) → ArrowIsBefore t (spot_at x n (i + 1))
before_more x n i t h = elim h [ inl b ↦ inl b | inr b ↦ inr (b.0, let m = b.1 in omega arith) ]

-- arrows that count by another test
holds-same : (P Q : Spot → Type 0) → ((s : Spot) → P s → Q s) → ((s : Spot) → Q s → P s) → (entries : List Entry) → HoldEntries P entries → HoldEntries Q entries
holds-same P Q f g entries h = record {
  in_order = h.in_order;
  each = λ t c. (let r = h.each t c in record {
    some = (r.some.0, f (record { place = t.place; position = r.some.0 }) r.some.1);
    only = λ i j e q. r.only i j e (g (record { place = t.place; position = j }) q);
  });
  whole = λ s q. h.whole s (g s q);
}

-- an arrow more, behind all others
module _ (P Q : Spot → Type 0) (it : Spot) (last : (s : Spot) → P s → ArrowIsBefore s it) (grows : (s : Spot) → P s → Q s) (counts : Q it) (cases : (s : Spot) → Q s → P s ⊎ (s ≡ it)) where
  -- the place of an entry isn't behind that of the arrow
  entry-before : (entries : List Entry) → HoldEntries P entries → (t : Entry) → Contains entries t → IsBefore t.place it.place ⊎ (t.place ≡ it.place)
  entry-before entries h t c = let r = (h.each t c).some in elim (last (record { place = t.place; position = r.0 }) r.1) [ inl b ↦ inl b | inr b ↦ inr b.0 ]

  -- an entry of another place stays
  entry-stays : (t : Entry) → IsBefore t.place it.place → IsEntry P t → IsEntry Q t
  entry-stays t b h = record {
    some = (h.some.0, grows (record { place = t.place; position = h.some.0 }) h.some.1);
    only = λ i j e q. elim (cases (record { place = t.place; position = j }) q) [
      | inl p ↦ h.only i j e p
      | inr s ↦ absurd (before_itself it.place (subst (λ (p : Place). IsBefore p it.place) (ap (λ (x : Spot). x.place) s) b))
    ];
  }

  module _ (entries : List Entry) (h : HoldEntries P entries) where
    all-earlier : IsNew it.place entries → (t : Entry) → Contains entries t → IsBefore t.place it.place
    all-earlier new t c = elim (entry-before entries h t c) [
      | inl b ↦ b
      | inr e ↦ elim (snoc entries) [
        | inl none ↦ absurd (Contains-nil t (subst (λ (l : List Entry). Contains l t) none c))
        | inr r ↦ (let front = r.0 in
            let end = r.1 in
            let order : AreInOrder (front ++ end ∷ []) = subst AreInOrder r.2 h.in_order in
            absurd (elim (Contains-push_cases front end t (subst (λ (l : List Entry). Contains l t) r.2 c)) [
              | inl m ↦ (let b : IsBefore it.place end.place = subst (λ (p : Place). IsBefore p end.place) e (order-last front end order t m) in
                  elim (entry-before entries h end (subst (λ (l : List Entry). Contains l end) (sym r.2) (Contains-push front end))) [
                    | inl k ↦ not_later it.place end.place b k
                    | inr k ↦ before_itself it.place (subst (λ (p : Place). IsBefore it.place p) k b)
                  ])
              | inr m ↦ new front end r.2 (ap (λ (x : Entry). x.place) m ∙ e)
            ]))
      ]
    ]

    -- it is the first of its place
    put-new : IsNew it.place entries → HoldEntries Q (entries ++ one_at it.place it.position ∷ [])
    put-new new = record {
      in_order = order-push entries it-entry h.in_order (all-earlier new);
      each = λ t c. elim (Contains-push_cases entries it-entry t c) [
        | inl m ↦ entry-stays t (all-earlier new t m) (h.each t m)
        | inr m ↦ subst (IsEntry Q) m first
      ];
      whole = λ s q. elim (cases s q) [
        | inl p ↦ (let r = h.whole s p in (r.0, Contains-append_left entries (it-entry ∷ []) r.0 r.1, r.2))
        | inr e ↦ (it-entry, Contains-push entries it-entry, ap (λ (x : Spot). x.place) (sym e))
      ];
    }
      where
        it-entry : Entry
        it-entry = one_at it.place it.position

        first : IsEntry Q it-entry
        first = record {
          some = (it.position, counts);
          only = λ i j e q. elim (cases (record { place = it.place; position = j }) q) [
            | inl p ↦ absurd (let r = h.whole (record { place = it.place; position = j }) p in before_itself it.place (subst (λ (x : Place). IsBefore x it.place) r.2 (all-earlier new r.0 r.1)))
            | inr s ↦ ap (λ (x : Spot). x.position) s ∙ (let k : it.position ≡ i = cc in k)
          ];
        }

    -- there are others of its place
    put-merged : (new : List Entry) → Merges it.place entries new → HoldEntries Q new
    put-merged new m = subst (HoldEntries Q) (sym m.is) (record {
      in_order = order-push m.front merged (order-front m.front m.last order) earlier;
      each = λ t c. elim (Contains-push_cases m.front merged t c) [
        | inl k ↦ entry-stays t (earlier t k) (h.each t (subst (λ (l : List Entry). Contains l t) (sym m.was) (Contains-append_left m.front (m.last ∷ []) t k)))
        | inr k ↦ subst (IsEntry Q) k (record { some = (it.position, counts); only = λ i j e q. absurd (let b : None ≡ Some i = e in cc) })
      ];
      whole = λ s q. elim (cases s q) [
        | inl p ↦ (let r = h.whole s p in elim (Contains-push_cases m.front m.last r.0 (subst (λ (l : List Entry). Contains l r.0) m.was r.1)) [
          | inl k ↦ (r.0, Contains-append_left m.front (merged ∷ []) r.0 k, r.2)
          | inr k ↦ (merged, Contains-push m.front merged, sym m.here ∙ (ap (λ (x : Entry). x.place) k ∙ r.2))
        ])
        | inr e ↦ (merged, Contains-push m.front merged, ap (λ (x : Spot). x.place) (sym e))
      ];
    })
      where
        merged : Entry
        merged = several_at it.place

        order : AreInOrder (m.front ++ m.last ∷ [])
        order = subst AreInOrder m.was h.in_order

        earlier : (t : Entry) → Contains m.front t → IsBefore t.place it.place
        earlier t k = subst (λ (p : Place). IsBefore t.place p) m.here (order-last m.front m.last order t k)

    pub put-arrow : (new : List Entry) → PutsArrow it.place it.position entries new → HoldEntries Q new
    put-arrow new put = elim put [
      | inl r ↦ subst (HoldEntries Q) (sym r.1) (put-new r.0)
      | inr r ↦ put-merged new r
    ]

module _ (cs : List Component) where
  -- no arrow is before the first one
  pub entries-none : (e : Ending) → AreEntriesBefore cs (spot_at 0 0 0) e []
  entries-none e = record {
    in_order = λ i j s t l a b. absurd (let m = slice_get_within [] i s a in omega arith);
    each = λ t c. absurd (Contains-nil t c);
    whole = λ s h. absurd (elim h.1 [
      | inl b ↦ elim b [ inl l ↦ omega arith | inr l ↦ (let m = l.1 in omega arith) ]
      | inr b ↦ (let m = b.1 in omega arith)
    ]);
  }

  -- the same arrows before another one
  module _ (b c : Spot) where
    abbrev pub AreSame : Type 0
    AreSame = (e : Ending) (t : Spot) → EndsIn cs e t → (ArrowIsBefore t b → ArrowIsBefore t c) × (ArrowIsBefore t c → ArrowIsBefore t b)

    pub entries-same : AreSame → (index : Index) → HasEntriesBefore cs b index → HasEntriesBefore cs c index
    entries-same same index h = λ e.
        holds-same (λ s. EndsIn cs e s × ArrowIsBefore s b) (λ s. EndsIn cs e s × ArrowIsBefore s c)
        (λ s r. (r.0, (same e s r.0).0 r.1)) (λ s r. (r.0, (same e s r.0).1 r.1)) (entries_for index e) (h e)

  -- behind the last arrow of a place
  pub same-place_end : (x n i : ℕ) → length (arrows_in cs (record { component = x; count = n })) ≤ i → AreSame (spot_at x n i) (spot_at x (n + 1) 0)
  same-place_end x n i l e t ends = (there, back)
    where
      there : ArrowIsBefore t (spot_at x n i) → ArrowIsBefore t (spot_at x (n + 1) 0)
      there h = elim h [
        | inl b ↦ elim b [ inl m ↦ inl (inl m) | inr m ↦ inl (inr (m.0, let k = m.1 in omega arith)) ]
        | inr b ↦ inl (inr (ap (λ (p : Place). p.component) b.0, let k : t.place.count ≡ n = ap (λ (p : Place). p.count) b.0 in omega arith))
      ]

      back : ArrowIsBefore t (spot_at x (n + 1) 0) → ArrowIsBefore t (spot_at x n i)
      back h = elim h [
        | inl b ↦ elim b [
          | inl m ↦ inl (inl m)
          | inr m ↦ elim (less-or-not t.place.count n) [
            | inl k ↦ inl (inr (m.0, k))
            | inr k ↦ (let q = m.1 in
                let p : t.place ≡ record { component = x; count = n } = same_place t.place (record { component = x; count = n }) m.0 (omega arith) in
                let w : t.position < length (arrows_in cs t.place) = some-within (arrows_in cs t.place) t.position (λ a. ending_of a.target ≡ e) ends in
                let v : t.position < length (arrows_in cs (record { component = x; count = n })) = subst (λ (r : Place). t.position < length (arrows_in cs r)) p w in
                inr (p, omega arith))
          ]
        ]
        | inr b ↦ absurd (let k = b.1 in omega arith)
      ]

  -- behind the last place of a component
  pub same-component_end : (x n : ℕ) → arity_of (paths_in cs x) < n → AreSame (spot_at x n 0) (spot_at (x + 1) 0 0)
  same-component_end x n l e t ends = (there, back)
    where
      there : ArrowIsBefore t (spot_at x n 0) → ArrowIsBefore t (spot_at (x + 1) 0 0)
      there h = elim h [
        | inl b ↦ elim b [ inl m ↦ inl (inl (omega arith)) | inr m ↦ inl (inl (let k = m.0 in omega arith)) ]
        | inr b ↦ absurd (let k = b.1 in omega arith)
      ]

      back : ArrowIsBefore t (spot_at (x + 1) 0 0) → ArrowIsBefore t (spot_at x n 0)
      back h = elim h [
        | inl b ↦ elim b [
          | inl m ↦ elim (less-or-not t.place.component x) [
            | inl k ↦ inl (inl k)
            | inr k ↦ (let same : t.place.component ≡ x = omega arith in
                let w : t.place.count ≤ arity_of (paths_in cs t.place.component) = within-arity t.place.count (paths_in cs t.place.component) t.position (λ a. ending_of a.target ≡ e) ends in
                let v : t.place.count ≤ arity_of (paths_in cs x) = subst (λ (y : ℕ). t.place.count ≤ arity_of (paths_in cs y)) same w in
                inl (inr (same, omega arith)))
          ]
          | inr m ↦ absurd (let k = m.1 in omega arith)
        ]
        | inr b ↦ absurd (let k = b.1 in omega arith)
      ]

  -- all arrows are before the end
  pub index-whole : (index : Index) (x n i : ℕ) → length cs ≤ x → HasEntriesBefore cs (spot_at x n i) index → IsIndex cs index
  index-whole index x n i l h = λ e.
      holds-same (λ s. EndsIn cs e s × ArrowIsBefore s (spot_at x n i)) (EndsIn cs e)
      (λ s r. r.0)
      (λ s ends. (ends, inl (inl (let w = within-library cs s.place.component s.place.count s.position (λ a. ending_of a.target ≡ e) ends in omega arith))))
      (entries_for index e) (h e)

  -- an arrow more
  module _ (x n i : ℕ) (ending : Ending) (a : MultiArrow) (at : slice_get (arrows_in cs (record { component = x; count = n })) i ≡ Some a) (is : ending ≡ ending_of a.target) where
    abbrev it : Spot
    it = spot_at x n i

    ends-so : EndsIn cs ending it
    ends-so = subst (λ o. IsSomeAnd o (λ (b : MultiArrow). ending_of b.target ≡ ending)) (sym at) (sym is)

    ends-one : (e : Ending) → EndsIn cs e it → ending ≡ e
    ends-one e h = is ∙ subst (λ o. IsSomeAnd o (λ (b : MultiArrow). ending_of b.target ≡ e)) at h

    abbrev Old : Ending → Spot → Type 0
    Old e s = EndsIn cs e s × ArrowIsBefore s it

    abbrev New : Ending → Spot → Type 0
    New e s = EndsIn cs e s × ArrowIsBefore s (spot_at x n (i + 1))

    taken : (e : Ending) → e ≡ ending → (old new : List Entry) → AreEntriesBefore cs it e old → PutsArrow it.place i old new → AreEntriesBefore cs (spot_at x n (i + 1)) e new
    taken e same old new h put =
        put-arrow (Old e) (New e) it (λ s r. r.1) (λ s r. (r.0, before_more x n i s r.1))
        (subst (λ (f : Ending). EndsIn cs f it) (sym same) ends-so, inr (refl, omega arith))
        (λ s r. elim (before_next x n i s r.1) [ inl b ↦ inl (r.0, b) | inr m ↦ inr m ])
        old h new put

    passed : (e : Ending) → (ending ≡ e → ⊥) → (entries : List Entry) → AreEntriesBefore cs it e entries → AreEntriesBefore cs (spot_at x n (i + 1)) e entries
    passed e other entries h =
        holds-same (Old e) (New e) (λ s r. (r.0, before_more x n i s r.1))
        (λ s r. elim (before_next x n i s r.1) [
          | inl b ↦ (r.0, b)
          | inr m ↦ absurd (other (ends-one e (subst (λ (u : Spot). EndsIn cs e u) m r.0)))
        ])
        entries h

    differ : (e : Ending) → is_ending ending e ≡ false → ending ≡ e → ⊥
    differ e f same = let t : is_ending ending ending ≡ false = subst (λ (g : Ending). is_ending ending g ≡ false) (sym same) f in let u : false ≡ true = sym t ∙ same-endings ending in cc

    pub index-more : (old new : Index)
        → ((e : Ending) → PutsIf (is_ending ending e) it.place i (entries_for old e) (entries_for new e))
        → HasEntriesBefore cs it old → HasEntriesBefore cs (spot_at x n (i + 1)) new
    index-more old new put h e = by (is_ending ending e) refl (put e)
      where
        by : (b : Bool) → is_ending ending e ≡ b → PutsIf b it.place i (entries_for old e) (entries_for new e) → AreEntriesBefore cs (spot_at x n (i + 1)) e (entries_for new e)
        by true t f = taken e (sym (same-ending ending e t)) (entries_for old e) (entries_for new e) (h e) f
        by false t f = subst (λ (entries : List Entry). AreEntriesBefore cs (spot_at x n (i + 1)) e entries) (sym f) (passed e (differ e t) (entries_for old e) (h e))

-- an index that is looked up
pub index-found : (cs ds : List Component) (o : Option Index) (r : Option (Bor Index)) → cs ≡ ds → option_copied r ≡ o → IsIndexOf cs o → IfSome r (λ index. IsIndex ds index.now)
index-found cs ds o None same e h = tt
index-found cs ds o (Some i) same e h =
    let at : IsIndex cs i.now = subst (λ (p : Option Index). IsIndexOf cs p) (sym e) h in
    subst (λ (l : List Component). IsIndex l i.now) same at

-- an arrow is put behind those of its ending
pub put-list : {A : Type 0} (old new : Ending → Option (Vec Entry A)) (k : Ending) (w : Vec Entry A) (p : Place) (i : ℕ) → ((q : Ending) → new q ≡ cond (is_ending k q) (Some w) (old q)) → PutsArrow p i (entries_in (old k)) w.items
    → (q : Ending) → PutsIf (is_ending k q) p i (entries_in (old q)) (entries_in (new q))
put-list old new k w p i puts is q = by (is_ending k q) refl (ap entries_in (puts q))
  where
    by : (b : Bool) → is_ending k q ≡ b → entries_in (new q) ≡ entries_in (cond b (Some w) (old q)) → PutsIf b p i (entries_in (old q)) (entries_in (new q))
    by true e f = subst (λ (l : List Entry). PutsArrow p i (entries_in (old q)) l) (sym f) (subst (λ (x : Ending). PutsArrow p i (entries_in (old x)) w.items) (same-ending k q e) is)
    by false e f = f

-- the same where there are entries of its ending
pub put-held : {A : Type 0} (old new : Ending → Option (Vec Entry A)) (k : Ending) (v w : Vec Entry A) (p : Place) (i : ℕ) → ((q : Ending) → new q ≡ cond (is_ending k q) (Some w) (old q)) → Some v ≡ old k → PutsArrow p i v.items w.items
    → (q : Ending) → PutsIf (is_ending k q) p i (entries_in (old q)) (entries_in (new q))
put-held old new k v w p i puts held is = put-list old new k w p i puts (subst (λ (o : Option (Vec Entry _)). PutsArrow p i (entries_in o) w.items) held is)

-- the entries are empty, or their last one is of another place
pub new-empty : (p : Place) → IsNew p []
new-empty p front t e here = absurd (let n : 0 ≡ length front + 1 = ap length e ∙ length-append front (t ∷ []) in omega arith)

pub new-other : (p : Place) (entries : List Entry) (k : ℕ) (s : Entry) → length entries ≡ k + 1 → slice_get entries k ≡ Some s → (s.place ≡ p → ⊥) → IsNew p entries
new-other p entries k s long at other front t e here =
    let n : length entries ≡ length front + 1 = ap length e ∙ length-append front (t ∷ []) in
    let same : length front ≡ k = omega arith in
    let both : Some t ≡ Some s = sym (at-end front t) ∙ (ap (λ (l : List Entry). slice_get l (length front)) (sym e) ∙ (ap (slice_get entries) same ∙ at)) in
    let one : s ≡ t = cc in
    other (ap (λ (x : Entry). x.place) one ∙ here)

-- the last entry is of the place
pub merges-last : (p : Place) (entries : List Entry) (k : ℕ) (s : Entry) → length entries ≡ k + 1 → slice_get entries k ≡ Some s → s.place ≡ p → Merges p entries (slice_set entries k (several_at p))
merges-last p [] k s long at here = absurd (omega arith)
merges-last p (x ∷ []) zero s long at here = record { front = []; last = x; was = refl; here = (let e : x ≡ s = cc in ap (λ (y : Entry). y.place) e ∙ here); is = refl }
merges-last p (x ∷ y ∷ xs) zero s long at here = absurd (omega arith)
merges-last p (x ∷ xs) (suc k) s long at here =
    let m = merges-last p xs k s (omega arith) at here in
    record { front = x ∷ m.front; last = m.last; was = ap (λ l. x ∷ l) m.was; here = m.here; is = ap (λ l. x ∷ l) m.is }
