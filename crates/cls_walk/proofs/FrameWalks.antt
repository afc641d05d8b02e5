-- Steps of a walk over frames.
use Rattle.std.proofs.Common.{◌≡◌, ℕ, ◌+◌, ◌-◌, ◌<◌, ◌≤◌, List, [], ◌∷◌, ◌++◌, refl, sym, ◌∙◌, subst, inl, inr, arith, Bool, true, false, append-nil, ap}
use Rattle.std.specs.Prelude.{◌⊎◌, ◌↔◌, Option, None, Some, IfSome}
use Rattle.cls_base.specs.Languages.{IsGenerated}
use Rattle.cls_base.specs.Limits.{max_term_length}
use Rattle.cls_base.specs.Pages.{Request, IsDue}
use Rattle.cls_base.specs.Terms.{Applicative, size_of, code_of, Before, Precedes}
use Rattle.cls_base.specs.declared.rule.Rule.{Rule}
use Rattle.cls_walk.specs.Frames.{Place, Frame, IsAdvanced, IsAsking, IsComplete, await_count, ListsBy, AreLeastSizes, Settles}
use Rattle.cls_walk.specs.FrameAims.{Aim, AreAims, AreLevels, AreOffered}
use Rattle.cls_walk.specs.FrameWalks.{IsDueOn, IsOffered, BeginsWith, BeginsTo}
use Rattle.cls_walk.specs.Openings.{ComesAfter, IsEarliest}
use Rattle.cls_walk.specs.PageFronts.{IsDueCode}
use Rattle.cls_walk.specs.Walks.{IsBehind, Lists}
use Rattle.cls_walk.specs.declared.cursor.Cursor.{Cursor}
use Rattle.cls_walk.specs.declared.opening.Opening.{Opening}
use Rattle.cls_walk.specs.declared.walk.Walk.{Walk}
use Rattle.cls_walk.proofs.FrameEnds.{lists-begins, lists-whole, lists-start, start-lists}
use Rattle.cls_walk.proofs.FrameOffers.{lists-few, lists-offers, offered-opening}
use Rattle.cls_walk.proofs.FrameSettling.{settled-lists}
use Rattle.cls_walk.proofs.FrameSizes.{lists-ended}
use Rattle.cls_walk.proofs.Fronts.{earlier, front-none}
use Rattle.cls_walk.proofs.Openings.{done-before, done-here, done-later, done-or-after}
use Rattle.cls_walk.proofs.Walks.{true_no_false, lists-behind, lists-full, lists-more, lists-same}

-- codes up to an opening come before those behind it
in-order : (x k y m : ℕ) (s t v w : List ℕ) → v ≡ x ∷ k ∷ s → w ≡ y ∷ m ∷ t → (x < y) ⊎ ((x ≡ y) × (k < m)) → Precedes v w
in-order x k y m s t v w p q r =
    let P : List ℕ → Type 0 = λ u. Precedes u w in
    let Q : List ℕ → Type 0 = λ u. Precedes (x ∷ k ∷ s) u in
    subst P (sym p) (subst Q (sym q) (earlier x k y m s t r))

-- What is wanted begins with an opening that is offered. So it is listed by one opening after another.
module _ (Wanted : List ℕ → Type 0) (Offered : ℕ → ℕ → Type 0) (begins : (w : List ℕ) → Wanted w → (x : ℕ) × (k : ℕ) × (v : List ℕ) × (w ≡ x ∷ k ∷ v)) (offered : (x k : ℕ) (v : List ℕ) → Wanted (x ∷ k ∷ v) → Offered x k) where
  abbrev With : Opening → List ℕ → Type 0
  With = BeginsWith Wanted

  abbrev To : Option Opening → List ℕ → Type 0
  To = BeginsTo Wanted

  abbrev Later : Option Opening → List ℕ → Type 0
  Later last w = (x : ℕ) × (k : ℕ) × (v : List ℕ) × ((w ≡ x ∷ k ∷ v) × ComesAfter last x k) × Wanted w

  -- the codes with the next opening
  pub to-next : (last : Option Opening) (o : Opening) (a b c : Walk) (going : Bool) → IsEarliest Offered last (Some o) → b.code.items ≡ a.code.items → Lists (To last) a b true → Lists (With o) b c going → Lists (To (Some o)) a c going
  to-next last o a b c going e p l k = lists-same (λ w. To last w ⊎ With o w) (To (Some o)) a c going
      (λ w. (
        (λ q. elim q [
          | inl t ↦ record { component = t.component; count = t.count; rest = t.rest; begins = t.begins; done = done-later last o t.component t.count t.done e.after; wanted = t.wanted }
          | inr t ↦ record { component = o.component; count = o.count; rest = t.rest; begins = t.begins; done = inr (refl, omega arith); wanted = t.wanted }
        ]),
        (λ t. elim (done-or-after last t.component t.count) [
          | inl d ↦ inl (record { component = t.component; count = t.count; rest = t.rest; begins = t.begins; done = d; wanted = t.wanted })
          | inr f ↦
              let h = done-here o t.component t.count t.done (e.reached t.component t.count (offered t.component t.count t.rest (subst Wanted t.begins t.wanted)) f) in
              inr (record { rest = t.rest; begins = t.begins ∙ (λ i. h.0 i ∷ h.1 i ∷ t.rest); wanted = t.wanted })
        ]),
      ))
      (lists-more (To last) (With o) a b c going
      (λ v w t q. in-order t.component t.count o.component o.count t.rest q.rest v w t.begins q.begins (done-before last t.component t.count o.component o.count t.done e.after))
      p l k)

  -- the list is full
  pub to-stop : (last : Option Opening) (a c : Walk) → Lists (To last) a c false → Lists Wanted a c false
  to-stop last a c h = lists-same (λ w. To last w ⊎ Later last w) Wanted a c false
      (λ w. (
        (λ q. elim q [ inl t ↦ t.wanted | inr t ↦ t.4 ]),
        (λ t.
            let r = begins w t in
            elim (done-or-after last r.0 r.1) [
              | inl d ↦ inl (record { component = r.0; count = r.1; rest = r.2; begins = r.3; done = d; wanted = t })
              | inr f ↦ inr (r.0, r.1, r.2, (r.3, f), t)
            ]),
      ))
      (lists-full (To last) (Later last) a c
      (λ v w t q. in-order t.component t.count q.0 q.1 t.rest q.2 v w t.begins q.3.0 (done-before last t.component t.count q.0 q.1 t.done q.3.1))
      h)

  -- no further opening is there
  pub to-end : (last : Option Opening) (a c : Walk) (going : Bool) → IsEarliest Offered last None → Lists (To last) a c going → Lists Wanted a c going
  to-end last a c going e h = lists-same (To last) Wanted a c going
      (λ w. (
        (λ t. t.wanted),
        (λ t.
            let r = begins w t in
            elim (done-or-after last r.0 r.1) [
              | inl d ↦ record { component = r.0; count = r.1; rest = r.2; begins = r.3; done = d; wanted = t }
              | inr f ↦ absurd (e.reached r.0 r.1 (offered r.0 r.1 r.2 (subst Wanted r.3 t)) f)
            ]),
      ))
      h

  -- the codes with the opening, from those that follow it
  pub to-with : (o : Opening) (Next : List ℕ → Type 0) (old new in_old in_new : Walk) (going : Bool) → ((v : List ℕ) → Wanted (o.component ∷ o.count ∷ v) ↔ Next v) → in_old.code.items ≡ old.code.items ++ o.component ∷ o.count ∷ [] → in_old.codes ≡ old.codes → new.codes ≡ in_new.codes → Lists Next in_old in_new going → Lists (With o) old new going
  to-with o Next old new in_old in_new going s c d n l = lists-same (λ w. (v : List ℕ) × (w ≡ o.component ∷ o.count ∷ v) × Next v) (With o) old new going
      (λ w. (
        (λ p. record { rest = p.0; begins = p.1; wanted = subst Wanted (sym p.1) ((s p.0).1 p.2) }),
        (λ q. (q.rest, q.begins, (s q.rest).0 (subst Wanted q.begins q.wanted))),
      ))
      (lists-behind o.component o.count Next old new in_old in_new going c d n l)

-- The steps by the frames.
module _ (book : List (List (Rule ℕ))) (least cost : ℕ → ℕ) (sizes : AreLeastSizes book least cost) (start : ℕ) (frames : List Frame) where
  -- what is due begins with an opening
  pub due-begins : (size room : ℕ) (cursor : Cursor) (w : List ℕ) → IsAsking frames → IsDueOn book cost start frames size room cursor w → (x : ℕ) × (k : ℕ) × (v : List ℕ) × (w ≡ x ∷ k ∷ v)
  due-begins size room cursor w a d = let r = lists-begins book cost start size room frames w a d.lists in (r.0, r.1, r.2, r.3)

  module _ (most : ℕ) (levels : ℕ → List Aim) (steps : AreLevels book least most levels) (right : AreAims book least start frames (levels 0)) where
    -- which is offered
    pub due-offered : (size room spare : ℕ) (cursor : Cursor) (x k : ℕ) (v : List ℕ) → spare ≤ most → spare + await_count frames ≡ room → IsDueOn book cost start frames size room cursor (x ∷ k ∷ v) → IsOffered book least cost levels size spare x k
    due-offered size room spare cursor x k v m s d =
        let l = d.lists in
        let cheap : cost x ≤ size = omega (arith, l.sized) in
        let e : size ≡ cost x + (size - cost x) = omega (arith, cheap) in
        let P : ℕ → Type 0 = λ z. ListsBy book cost start frames z room (x ∷ k ∷ v) in
        let few : k ≤ spare = omega (arith, lists-few book start frames x k v cost size room l, s) in
        let offers = lists-offers book least start frames most levels steps right cost sizes (size - cost x) room x k (omega (arith, few, m)) v (subst P e l) in
        record { cheap = cheap; few = few; offers = offers }

    -- the step into an opening
    pub due-opened : (left room : ℕ) (cursor next : Cursor) (o : Opening) (places : List Place) → o.count ≤ most → AreOffered book least levels left o.component o.count places → ((v : List ℕ) → IsBehind cursor (o.component ∷ o.count ∷ v) ↔ IsBehind next v) → (v : List ℕ) → IsDueOn book cost start frames (cost o.component + left) (room + 1) cursor (o.component ∷ o.count ∷ v) ↔ IsDueOn book cost start (record { places = places; left = o.count } ∷ frames) left room next v
    due-opened left room cursor next o places fits r b v =
        let s = offered-opening book least start frames most levels steps right cost sizes left room o.component o.count fits places v r in (
          (λ d. record { lists = s.0 d.lists; behind = (b v).0 d.behind }),
          (λ d. record { lists = s.1 d.lists; behind = (b v).1 d.behind }),
        )

-- the step at an argument's end
module _ (book : List (List (Rule ℕ))) (start : ℕ) (above old new : Frame) (frames : List Frame) (Has : ℕ → Type 0) (adv : IsAdvanced book Has old new) (ended : above.left ≡ 0) (has : (m : ℕ) → IsComplete above m → Has m) (had : (m : ℕ) → Has m → IsComplete above m) where
  pub due-ended : (cost : ℕ → ℕ) (size room : ℕ) (cursor : Cursor) (w : List ℕ) → IsDueOn book cost start (above ∷ old ∷ frames) size room cursor w ↔ IsDueOn book cost start (new ∷ frames) size room cursor w
  due-ended cost size room cursor w =
      let s = lists-ended book start above old new frames Has adv ended has had cost size room w in (
        (λ d. record { lists = s.0 d.lists; behind = d.behind }),
        (λ d. record { lists = s.1 d.lists; behind = d.behind }),
      )

-- where arguments end
pub due-settled : (book : List (List (Rule ℕ))) (cost : ℕ → ℕ) (start size room : ℕ) (cursor : Cursor) (w : List ℕ) (f : Frame) (fs frames : List Frame) → Settles book f fs frames → IsDueOn book cost start (f ∷ fs) size room cursor w ↔ IsDueOn book cost start frames size room cursor w
due-settled book cost start size room cursor w f fs frames t =
    let s = settled-lists book cost start size room w f fs frames t in (
      (λ d. record { lists = s.0 d.lists; behind = d.behind }),
      (λ d. record { lists = s.1 d.lists; behind = d.behind }),
    )

-- Where the outermost frame is whole, the code so far is listed if it is of a term of the start, has the size, and comes
-- after the cursor.
module _ (book : List (List (Rule ℕ))) (cost : ℕ → ℕ) (start size room : ℕ) (f : Frame) (whole : f.left ≡ 0) (cursor : Cursor) (old new : Walk) (going : Bool) where
  abbrev Now : List ℕ → Type 0
  Now = IsDueOn book cost start (f ∷ []) size room cursor

  pub emit-due : size ≡ 0 → IsComplete f start → cursor.passed ≡ true → new.codes ≡ old.codes ++ old.code.items ∷ [] → Lists Now old new going
  emit-due s i p c = (
    [] ∷ [],
    record {
      ascends = ((λ v i. absurd i), tt);
      each = λ w j. elim j [
        | inl e ↦ (let P : List ℕ → Type 0 = Now in subst P e (record { lists = (lists-whole book cost start size room f whole []).1 (refl, s, i); behind = λ g. absurd (true_no_false (sym p ∙ g)) }))
        | inr z ↦ absurd z
      ];
      all = λ w q. inl (inl (sym ((lists-whole book cost start size room f whole w).0 q.lists).0));
    },
    c ∙ ap (λ (w : List ℕ). old.codes ++ w ∷ []) (sym (append-nil old.code.items)),
  )

  pub emit-undue : ((size ≡ 0 → IsComplete f start → ⊥) ⊎ (cursor.passed ≡ false)) → new.codes ≡ old.codes → Lists Now old new going
  emit-undue h c = (
    [],
    front-none Now (going ≡ false) (λ w q.
        let e = (lists-whole book cost start size room f whole w).0 q.lists in
        elim h [
          | inl n ↦ n e.1 e.2
          | inr p ↦ (let P : List ℕ → Type 0 = λ u. Precedes cursor.code.now u in none-before cursor.code.now (subst P e.0 (q.behind p)))
        ]),
    c ∙ sym (append-nil old.codes),
  )
    where
      none-before : (xs : List ℕ) → Precedes xs [] → ⊥
      none-before [] h = h
      none-before (x ∷ xs) h = h

-- What is due on no frame is the codes of the due terms of the size.
module _ (book : List (List (Rule ℕ))) (r : Request) (size : ℕ) (small : size ≤ r.max) (cursor : Cursor) (later : (e : Applicative) → size_of r.cost e ≡ size → IfSome r.after (λ a. Before r.cost a e) ↔ IsBehind cursor (code_of e)) where
  abbrev Code : List ℕ → Type 0
  Code = IsDueCode (IsDue (IsGenerated book 0) r) r.cost size

  pub due-code : (w : List ℕ) → IsDueOn book r.cost 0 [] size max_term_length cursor w → Code w
  due-code w d =
      let q = lists-start book r.cost 0 size max_term_length w d.lists in
      let e = q.0 in
      let B : List ℕ → Type 0 = IsBehind cursor in (
        e,
        record {
          typed = q.1;
          small = (let z = q.2 in omega (arith, z, small));
          short = q.3;
          later = (later e q.2).1 (subst B q.4 d.behind);
        },
        q.2,
        q.4,
      )

  pub code-due : (w : List ℕ) → Code w → IsDueOn book r.cost 0 [] size max_term_length cursor w
  code-due w h =
      let e = h.0 in
      let P : List ℕ → Type 0 = IsDueOn book r.cost 0 [] size max_term_length cursor in
      subst P (sym h.3) (record {
        lists = start-lists book r.cost 0 size max_term_length e h.1.typed h.2 h.1.short;
        behind = (later e h.2).0 h.1.later;
      })

  pub due-listed : (old new : Walk) (going : Bool) → Lists (IsDueOn book r.cost 0 [] size max_term_length cursor) old new going → Lists Code old new going
  due-listed old new going l = lists-same (IsDueOn book r.cost 0 [] size max_term_length cursor) Code old new going (λ w. (due-code w, code-due w)) l
