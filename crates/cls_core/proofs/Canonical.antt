-- The canonical numbering is one.
use Rattle.std.proofs.Common.{ℕ, zero, suc, ◌≡◌, ◌<◌, ◌≤◌, ◌++◌, refl, sym, ◌∙◌, subst, ap, ◌⊎◌, inl, inr, List, [], ◌∷◌, length, arith, Bool, Some, slice_get, append_assoc, append-nil}
use Rattle.std.specs.Prelude.{Contains}
use Rattle.std.specs.List.{AllZip}
use Rattle.std.proofs.lemmas.List.{append_cancel_left}
use Rattle.std.proofs.lemmas.List.Elements.{Contains-append_left, Contains-append_right}
use Rattle.cls_base.proofs.Lists.{Contains-nil, Contains-head, Contains-here, Contains-later, Contains-cases}
use Rattle.cls_core.specs.declared.answer.Answer.{Answer}
use Rattle.cls_core.specs.Arguments.{HasUniqueAnswers, arguments_of}
use Rattle.cls_core.specs.Machine.{numbered}
use Rattle.cls_core.specs.Rows.{Row}
use Rattle.cls_core.specs.Closure.{IsReached, at_start, at_argument, AllReached, HoldsAnswer, goals_of}
use Rattle.cls_core.specs.Canonical.{FirstOnes, no_more, fresh, again, all_arguments, IsNumbering, IsCanonical}

module _ {A : Type 0} where
  pub first-ones-unique : {seen xs ys zs : List A} → FirstOnes seen xs ys → FirstOnes seen xs zs → ys ≡ zs
  first-ones-unique no_more no_more = refl
  first-ones-unique (fresh {x = x} n h) (fresh m k) = ap (λ l. x ∷ l) (first-ones-unique h k)
  first-ones-unique (fresh n h) (again m k) = absurd (n m)
  first-ones-unique (again n h) (fresh m k) = absurd (m n)
  first-ones-unique (again n h) (again m k) = first-ones-unique h k

  -- whatever stands in a list was seen or is one of its first ones
  pub first-ones-all : {seen xs ys : List A} (x : A) → FirstOnes seen xs ys → Contains xs x → Contains seen x ⊎ Contains ys x
  first-ones-all x no_more m = inr m
  first-ones-all x (fresh {seen = seen} {xs = xs} {ys = ys} {x = y} n h) m = elim (Contains-cases y xs x m) [
    | inl e ↦ inr (Contains-head x y ys e)
    | inr k ↦ elim (first-ones-all x h k) [
      | inl l ↦ elim (Contains-cases y seen x l) [ inl e ↦ inr (Contains-head x y ys e) | inr s ↦ inl s ]
      | inr r ↦ inr (Contains-later x y ys r)
    ]
  ]
  first-ones-all x (again {seen = seen} {xs = xs} {x = y} s h) m = elim (Contains-cases y xs x m) [
    | inl e ↦ inl (subst (λ z. Contains seen z) (sym e) s)
    | inr k ↦ first-ones-all x h k
  ]

  pub not-seen : {seen xs ys : List A} (x : A) → FirstOnes seen xs ys → Contains ys x → Contains seen x → ⊥
  not-seen x no_more m n = Contains-nil x m
  not-seen x (fresh {seen = seen} {ys = ys} {x = y} f h) m n = elim (Contains-cases y ys x m) [
    | inl e ↦ f (subst (λ z. Contains seen z) e n)
    | inr k ↦ not-seen x h k (Contains-later x y seen n)
  ]
  not-seen x (again s h) m n = not-seen x h m n

  pub turned : (seen us : List A) (x y : A) → Contains seen y ⊎ Contains (x ∷ us) y → Contains (x ∷ seen) y ⊎ Contains us y
  turned seen us x y (inl n) = inl (Contains-later y x seen n)
  turned seen us x y (inr m) = elim (Contains-cases x us y m) [ inl e ↦ inl (Contains-head y x seen e) | inr n ↦ inr n ]

  -- The first ones of a list of two parts are those of the one, and then more, which are apart from these and from what was seen.
  first-ones-split : (xs ys : List A) {seen zs : List A} → FirstOnes seen (xs ++ ys) zs
      → (us : List A) × (vs : List A) × FirstOnes seen xs us × (zs ≡ us ++ vs) × ((x : A) → Contains vs x → Contains seen x ⊎ Contains us x → ⊥)
  first-ones-split [] ys {zs = zs} h = ([], zs, no_more, refl, (λ x m n. elim n [ inl u ↦ not-seen x h m u | inr u ↦ Contains-nil x u ]))
  first-ones-split (x ∷ xs) ys {seen = seen} (fresh f h) =
      let r = first-ones-split xs ys h in
      (x ∷ r.0, r.1, fresh f r.2, ap (λ l. x ∷ l) r.3, (λ y m n. r.4 y m (turned seen r.0 x y n)))
  first-ones-split (x ∷ xs) ys (again s h) = let r = first-ones-split xs ys h in (r.0, r.1, again s r.2, r.3, r.4)

  -- which of two fronts of one list is longer
  longer-front : (p s us vs : List A) → p ++ s ≡ us ++ vs
      → ((x : A) × (w : List A) × (us ≡ p ++ x ∷ w)) ⊎ ((w : List A) × (p ≡ us ++ w))
  longer-front [] s [] vs e = inr ([], refl)
  longer-front [] s (u ∷ us) vs e = inl (u, us, refl)
  longer-front (x ∷ p) s [] vs e = inr (x ∷ p, refl)
  longer-front (x ∷ p) s (u ∷ us) vs e =
      let f : x ≡ u = cc in
      let g : p ++ s ≡ us ++ vs = cc in
      elim (longer-front p s us vs g) [
        | inl r ↦ inl (r.0, r.1, ap (λ l. u ∷ l) r.2 ∙ ap (λ y. y ∷ (p ++ r.0 ∷ r.1)) (sym f))
        | inr r ↦ inr (r.0, ap (λ l. x ∷ l) r.1 ∙ ap (λ y. y ∷ (us ++ r.0)) f)
      ]

  empty-list : (xs : List A) → ((x : A) → Contains xs x → ⊥) → xs ≡ []
  empty-list [] f = refl
  empty-list (x ∷ xs) f = absurd (f x (Contains-here x xs))

module _ {G : Type 0} where
  pub arguments-append : (us vs : List (Answer G)) → all_arguments (us ++ vs) ≡ all_arguments us ++ all_arguments vs
  arguments-append [] vs = refl
  arguments-append (a ∷ us) vs =
      ap (λ l. arguments_of a ++ l) (arguments-append us vs) ∙ sym (append_assoc (arguments_of a) (all_arguments us) (all_arguments vs))

module _ {G : Type 0} (IsAnswer : G → Answer G → Type 0) where
  -- each goal of the list has an answer beside it, whose arguments are among all arguments
  beside : (gs : List G) (answers : List (Answer G)) (g : G) → AllZip IsAnswer gs answers → Contains gs g
      → (a : Answer G) × IsAnswer g a × ((h : G) → Contains (arguments_of a) h → Contains (all_arguments answers) h)
  beside [] answers g z m = absurd (Contains-nil g m)
  beside (x ∷ gs) [] g z m = absurd z
  beside (x ∷ gs) (a ∷ answers) g z m = elim (Contains-cases x gs g m) [
    | inl e ↦ (a, subst (λ y. IsAnswer y a) (sym e) z.0, λ h k. Contains-append_left (arguments_of a) (all_arguments answers) h k)
    | inr k ↦ (let r = beside gs answers g z.1 k in (r.0, r.1, λ h l. Contains-append_right (arguments_of a) (all_arguments answers) h (r.2 h l)))
  ]

  -- a list of answers beside a list of two parts is one of two parts
  pub zip-split : (us vs : List G) (answers : List (Answer G)) → AllZip IsAnswer (us ++ vs) answers
      → (xs : List (Answer G)) × (ys : List (Answer G)) × AllZip IsAnswer us xs × AllZip IsAnswer vs ys × (answers ≡ xs ++ ys)
  zip-split [] vs answers z = ([], answers, tt, z, refl)
  zip-split (u ∷ us) vs [] z = absurd z
  zip-split (u ∷ us) vs (a ∷ answers) z = let r = zip-split us vs answers z.1 in (a ∷ r.0, r.1, (z.0, r.2), r.3, ap (λ l. a ∷ l) r.4)

  pub zip-append : (us vs : List G) (xs ys : List (Answer G)) → AllZip IsAnswer us xs → AllZip IsAnswer vs ys
      → AllZip IsAnswer (us ++ vs) (xs ++ ys)
  zip-append [] vs [] ys z w = w
  zip-append [] vs (x ∷ xs) ys z w = absurd z
  zip-append (u ∷ us) vs [] ys z w = absurd z
  zip-append (u ∷ us) vs (x ∷ xs) ys z w = (z.0, zip-append us vs xs ys z.1 w)

module _ {G : Type 0} (IsAnswer : G → Answer G → Type 0) (start : G) (unique : HasUniqueAnswers IsAnswer) where
  zip-unique : (gs : List G) (xs ys : List (Answer G)) → AllZip IsAnswer gs xs → AllZip IsAnswer gs ys → xs ≡ ys
  zip-unique [] [] [] z w = refl
  zip-unique [] [] (y ∷ ys) z w = absurd w
  zip-unique [] (x ∷ xs) ys z w = absurd z
  zip-unique (g ∷ gs) [] ys z w = absurd z
  zip-unique (g ∷ gs) (x ∷ xs) [] z w = absurd w
  zip-unique (g ∷ gs) (x ∷ xs) (y ∷ ys) z w = λ k. unique g x y z.0 w.0 k ∷ zip-unique gs xs ys z.1 w.1 k

  abbrev Stream : List (Answer G) → List G → Type 0
  Stream answers us = FirstOnes [] (start ∷ all_arguments answers) us

  unseen : (us : List G) (g : G) → Contains [] g ⊎ Contains us g → Contains us g
  unseen us g (inl m) = absurd (Contains-nil g m)
  unseen us g (inr m) = m

  -- Goals that the arguments of their answers don't leave hold each reached goal. They may be a part of those that were looked at.
  pub closed-front : (gs us : List G) (answers : List (Answer G)) → AllZip IsAnswer gs answers
      → ((g : G) → Contains us g → Contains gs g) → Stream answers us → (g : G) → IsReached IsAnswer start g
      → Contains us g
  closed-front gs us answers z within f g at_start =
      unseen us start (first-ones-all start f (Contains-here start (all_arguments answers)))
  closed-front gs us answers z within f h (at_argument g m a r is k) =
      let b = beside IsAnswer gs answers g z (within g (closed-front gs us answers z within f g r)) in
      unseen us m (first-ones-all m f (Contains-later m start (all_arguments answers) (b.2 m (subst (λ c. Contains (arguments_of c) m) (unique g a b.0 is b.1) k))))

  rest-empty : (us w p s vs : List G) (answers : List (Answer G)) → p ≡ us ++ w → AllZip IsAnswer p answers
      → Stream answers us → p ++ s ≡ us ++ vs → ((g : G) → Contains vs g → Contains [] g ⊎ Contains us g → ⊥)
      → AllReached IsAnswer start (p ++ s) → p ++ s ≡ us
  rest-empty us w p s vs answers e z f g apart q =
      let known = λ (x : G) (m : Contains us x). subst (λ l. Contains l x) (sym e) (Contains-append_left us w x m) in
      let none : vs ≡ [] = empty-list vs (λ x m. apart x m (inr (closed-front p us answers z known f x (q x (subst (λ l. Contains l x) (sym g) (Contains-append_right us vs x m)))))) in
      g ∙ (ap (λ l. us ++ l) none ∙ append-nil us)

  shorter : (s : List G) (x : G) (w : List G) → s ≡ x ∷ w → length w < length s
  shorter s x w e = let f : length s ≡ suc (length w) = ap length e in omega arith

  -- goals behind a common front, with their answers, are numbered breadth first
  record GoesOn (p s : List G) (front : List (Answer G)) : Type 0 where
    rest : List (Answer G)
    answered : AllZip IsAnswer s rest
    stream : Stream (front ++ rest) (p ++ s)
    reached : AllReached IsAnswer start (p ++ s)

  -- behind a common front two numberings go on alike, if at most k goals are left
  abbrev Settles : ℕ → Type 0
  Settles k =
      (p s t : List G) (front : List (Answer G)) → length s ≤ k → AllZip IsAnswer p front → GoesOn p s front → GoesOn p t front → s ≡ t

  -- what goes on behind a front goes on behind that front and one goal more
  one-more : (p s w : List G) (x : G) (front : List (Answer G)) (a : Answer G) → IsAnswer x a → s ≡ x ∷ w
      → (n : GoesOn p s front) → GoesOn (p ++ x ∷ []) w (front ++ a ∷ [])
  one-more p s w x front a is e n = by n.rest (subst (λ l. AllZip IsAnswer l n.rest) e n.answered) n.stream
    where
      moved : p ++ s ≡ (p ++ x ∷ []) ++ w
      moved = ap (λ l. p ++ l) e ∙ sym (append_assoc p (x ∷ []) w)

      by : (rest : List (Answer G)) → AllZip IsAnswer (x ∷ w) rest → Stream (front ++ rest) (p ++ s)
          → GoesOn (p ++ x ∷ []) w (front ++ a ∷ [])
      by [] z f = absurd z
      by (b ∷ rest) z f = record {
        rest = rest;
        answered = z.1;
        stream = subst (λ l. Stream l ((p ++ x ∷ []) ++ w)) (ap (λ c. front ++ c ∷ rest) (unique x b a z.0 is) ∙ sym (append_assoc front (a ∷ []) rest)) (subst (λ l. Stream (front ++ b ∷ rest) l) moved f);
        reached = subst (AllReached IsAnswer start) moved n.reached;
      }

  first-answer : (s w : List G) (x : G) (rest : List (Answer G)) → s ≡ x ∷ w → AllZip IsAnswer s rest
      → (a : Answer G) × IsAnswer x a
  first-answer s w x rest e z = by rest (subst (λ l. AllZip IsAnswer l rest) e z)
    where
      by : (rest : List (Answer G)) → AllZip IsAnswer (x ∷ w) rest → (a : Answer G) × IsAnswer x a
      by [] z = absurd z
      by (a ∷ rest) z = (a, z.0)

  settle : (k : ℕ) → ((j : ℕ) → j < k → Settles j) → Settles k
  settle k rec p s t front l z n m =
      let a = first-ones-split (start ∷ all_arguments front) (all_arguments n.rest) (subst (λ l. FirstOnes [] (start ∷ l) (p ++ s)) (arguments-append front n.rest) n.stream) in
      let b = first-ones-split (start ∷ all_arguments front) (all_arguments m.rest) (subst (λ l. FirstOnes [] (start ∷ l) (p ++ t)) (arguments-append front m.rest) m.stream) in
      go a.0 a.1 b.1 a.2 a.3 (b.3 ∙ ap (λ us. us ++ b.1) (first-ones-unique b.2 a.2)) a.4 (λ g h u. b.4 g h (subst (λ us. Contains [] g ⊎ Contains us g) (first-ones-unique a.2 b.2) u)) (longer-front p s a.0 a.1 a.3)
    where
      go : (us va vb : List G) → FirstOnes [] (start ∷ all_arguments front) us → p ++ s ≡ us ++ va → p ++ t ≡ us ++ vb
          → ((g : G) → Contains va g → Contains [] g ⊎ Contains us g → ⊥)
          → ((g : G) → Contains vb g → Contains [] g ⊎ Contains us g → ⊥)
          → ((x : G) × (w : List G) × (us ≡ p ++ x ∷ w)) ⊎ ((w : List G) × (p ≡ us ++ w)) → s ≡ t
      go us va vb f ea eb na nb (inr r) =
          append_cancel_left p s t (rest-empty us r.0 p s va front r.1 z f ea na n.reached ∙ sym (rest-empty us r.0 p t vb front r.1 z f eb nb m.reached))
      go us va vb f ea eb na nb (inl r) =
          let es : s ≡ r.0 ∷ (r.1 ++ va) = append_cancel_left p s (r.0 ∷ (r.1 ++ va)) (ea ∙ (ap (λ q. q ++ va) r.2 ∙ append_assoc p (r.0 ∷ r.1) va)) in
          let et : t ≡ r.0 ∷ (r.1 ++ vb) = append_cancel_left p t (r.0 ∷ (r.1 ++ vb)) (eb ∙ (ap (λ q. q ++ vb) r.2 ∙ append_assoc p (r.0 ∷ r.1) vb)) in
          let size : length (r.1 ++ va) < length s = shorter s (r.0) (r.1 ++ va) es in
          let c = first-answer s (r.1 ++ va) r.0 n.rest es n.answered in
          let longer = zip-append IsAnswer p (r.0 ∷ []) front (c.0 ∷ []) z (c.1, tt) in
          es ∙ (ap (λ q. r.0 ∷ q) (rec (length (r.1 ++ va)) (omega arith) (p ++ r.0 ∷ []) (r.1 ++ va) (r.1 ++ vb) (front ++ c.0 ∷ []) (omega arith) longer (one-more p s (r.1 ++ va) r.0 front c.0 c.1 es n) (one-more p t (r.1 ++ vb) r.0 front c.0 c.1 et m)) ∙ sym et)

  below : (k : ℕ) → (j : ℕ) → j < k → Settles j
  below zero j h = absurd (omega arith)
  below (suc k) j h = settle j (λ i l. below k i (omega arith))

  -- two canonical numberings of one closure are the same
  pub numbering-unique : (goals others : List G) → IsNumbering IsAnswer start goals
      → IsNumbering IsAnswer start others → goals ≡ others
  numbering-unique goals others n m =
      settle (length goals) (λ j h. below (length goals) j h) [] goals others [] (omega arith) tt (whole goals n) (whole others m)
    where
      whole : (gs : List G) → IsNumbering IsAnswer start gs → GoesOn [] gs []
      whole gs n = record { rest = n.answers; answered = n.answered; stream = n.breadth_first; reached = n.reached }

  module _ (eq : G → G → Bool) where
    -- rows with the same goals, each with an answer of its goal, are the same
    same-rows : (gs : List G) (rows others : List (Row G)) → goals_of rows ≡ goals_of others
        → ((k : ℕ) (r : Row G) → slice_get rows k ≡ Some r → HoldsAnswer eq IsAnswer gs r)
        → ((k : ℕ) (r : Row G) → slice_get others k ≡ Some r → HoldsAnswer eq IsAnswer gs r) → rows ≡ others
    same-rows gs [] [] e f h = refl
    same-rows gs [] (o ∷ others) e f h = cc
    same-rows gs (r ∷ rows) [] e f h = cc
    same-rows gs (r ∷ rows) (o ∷ others) e f h =
        let goal : r.goal ≡ o.goal = cc in
        let rest : goals_of rows ≡ goals_of others = cc in
        let a = f zero r refl in
        let b = h zero o refl in
        let one : a.0 ≡ b.0 = unique o.goal a.0 b.0 (subst (λ g. IsAnswer g a.0) goal a.1) b.1 in
        let answers : r.answer ≡ o.answer = a.2 ∙ (ap (numbered eq gs) one ∙ sym b.2) in
        let tail = same-rows gs rows others rest (λ k. f (suc k)) (λ k. h (suc k)) in
        λ i. record { goal = goal i; answer = answers i } ∷ tail i

    -- The closure of a goal has one list of rows in the canonical numbering, whatever history it came from.
    pub canonical-unique : (rows others : List (Row G)) → IsCanonical eq IsAnswer start rows
        → IsCanonical eq IsAnswer start others → rows ≡ others
    canonical-unique rows others c d =
        let goals = numbering-unique (goals_of rows) (goals_of others) c.numbering d.numbering in
        same-rows (goals_of rows) rows others goals c.answered (λ k r e. subst (λ gs. HoldsAnswer eq IsAnswer gs r) (sym goals) (d.answered k r e))
