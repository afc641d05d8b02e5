-- There is one page.
use Rattle.std.proofs.Common.{ℕ, ◌≡◌, ◌≤◌, ◌+◌, refl, sym, ◌∙◌, ap, subst, inl, inr, List, [], ◌∷◌, ◌++◌, length, length-append, append_assoc, append-nil, Contains, Bool, true, false, arith}
use Rattle.std.specs.Prelude.{IsTrue}
use Rattle.std.proofs.lemmas.Bool.{true≢false}
use Rattle.std.proofs.lemmas.List.Elements.{Contains-append_right, Contains-append_cases}
use Rattle.cls_base.specs.Orders.{IsStrictTotalOrder}
use Rattle.cls_base.specs.Pages.{Request, IsDue, IsPage, Rises, AfterLast}
use Rattle.cls_base.specs.Terms.{Applicative, Before}
use Rattle.cls_base.proofs.Lists.{Contains-nil, Contains-here, Contains-cases}

module _ (cost : ℕ → ℕ) (order : IsStrictTotalOrder Applicative (Before cost)) where
  -- in a rising list what comes first is before the others
  head_before : (x : Applicative) (xs : List Applicative) → Rises cost (x ∷ xs) → (e : Applicative) → Contains xs e → Before cost x e
  head_before x [] h e c = absurd (Contains-nil e c)
  head_before x (y ∷ ys) h e c = elim (Contains-cases y ys e c) [
    | inl a ↦ subst (Before cost x) (sym a) h.0
    | inr a ↦ order.transitive x y e h.0 (head_before y ys h.1 e a)
  ]

  rest_rises : (x : Applicative) (xs : List Applicative) → Rises cost (x ∷ xs) → Rises cost xs
  rest_rises x [] h = tt
  rest_rises x (y ∷ ys) h = h.1

  suffix_rises : (pre xs : List Applicative) → Rises cost (pre ++ xs) → Rises cost xs
  suffix_rises [] xs h = h
  suffix_rises (p ∷ pre) xs h = suffix_rises pre xs (rest_rises p (pre ++ xs) h)

  -- what stands in front is before what follows
  front_before : (pre xs : List Applicative) → Rises cost (pre ++ xs) → (e f : Applicative) → Contains pre e → Contains xs f → Before cost e f
  front_before [] xs h e f c d = absurd (Contains-nil e c)
  front_before (p ∷ pre) xs h e f c d = elim (Contains-cases p pre e c) [
    | inl a ↦ subst (λ (z : Applicative). Before cost z f) (sym a) (head_before p (pre ++ xs) h f (Contains-append_right pre xs f d))
    | inr a ↦ front_before pre xs (rest_rises p (pre ++ xs) h) e f a d
  ]

  -- what comes after the last comes after each
  after_each : (xs : List Applicative) → Rises cost xs → (e f : Applicative) → AfterLast cost xs e → Contains xs f → Before cost f e
  after_each [] h e f a c = absurd a
  after_each (x ∷ []) h e f a c = elim (Contains-cases x [] f c) [
    | inl b ↦ subst (λ (z : Applicative). Before cost z e) (sym b) a
    | inr b ↦ absurd (Contains-nil f b)
  ]
  after_each (x ∷ y ∷ ys) h e f a c = elim (Contains-cases x (y ∷ ys) f c) [
    | inl b ↦ subst (λ (z : Applicative). Before cost z e) (sym b) (order.transitive x y e h.0 (after_each (y ∷ ys) h.1 e y a (Contains-here y ys)))
    | inr b ↦ after_each (y ∷ ys) h.1 e f a b
  ]

  -- what follows a list that isn't empty comes after its last
  follows : (p : Applicative) (pre : List Applicative) (y : Applicative) (ys : List Applicative) → Rises cost ((p ∷ pre) ++ y ∷ ys) → AfterLast cost (p ∷ pre) y
  follows p [] y ys h = h.0
  follows p (q ∷ pre) y ys h = follows q pre y ys h.1

module _ (IsListed : Applicative → Type 0) (r : Request) (order : IsStrictTotalOrder Applicative (Before r.cost)) where
  -- A page whose next term comes before the next one of another page after the same terms: the other passes it over.
  passes_over : (pre xs ys : List Applicative) (x y : Applicative) (m n : Bool) → IsPage IsListed r (pre ++ x ∷ xs) m → IsPage IsListed r (pre ++ y ∷ ys) n → Before r.cost x y → ⊥
  passes_over pre xs ys x y m n h k l =
      let due : IsDue IsListed r x = h.due x (Contains-append_right pre (x ∷ xs) x (Contains-here x xs)) in
      let behind : (e : Applicative) → Contains (y ∷ ys) e → Before r.cost x e = λ e c. elim (Contains-cases y ys e c) [
        | inl a ↦ subst (Before r.cost x) (sym a) l
        | inr a ↦ order.transitive x y e l (head_before r.cost order y ys (suffix_rises r.cost order pre (y ∷ ys) k.rises) e a)
      ] in
      elim (k.complete x due) [
        | inl c ↦ elim (Contains-append_cases pre (y ∷ ys) x c) [
          | inl a ↦ order.irreflexive x (front_before r.cost order pre (x ∷ xs) h.rises x x a (Contains-here x xs))
          | inr a ↦ order.irreflexive x (behind x a)
        ]
        | inr a ↦ order.irreflexive x (order.transitive x y x l (after_each r.cost order (pre ++ y ∷ ys) k.rises x y a (Contains-append_right pre (y ∷ ys) y (Contains-here y ys))))
      ]

  -- a page doesn't stop where another one goes on
  stops_short : (pre ys : List Applicative) (y : Applicative) (m n : Bool) → IsPage IsListed r pre m → IsPage IsListed r (pre ++ y ∷ ys) n → ⊥
  stops_short pre ys y m n h k = behind pre h k.rises k.at_most (k.due y (Contains-append_right pre (y ∷ ys) y (Contains-here y ys)))
    where
      behind : (pre : List Applicative) → IsPage IsListed r pre m → Rises r.cost (pre ++ y ∷ ys) → length (pre ++ y ∷ ys) ≤ r.take → IsDue IsListed r y → ⊥
      behind [] h s l d = elim (h.complete y d) [ inl c ↦ Contains-nil y c | inr a ↦ a ]
      behind (p ∷ pre) h s l d =
          let full : length (p ∷ pre) ≡ r.take = h.full (h.more_exactly.1 (y, d, follows r.cost order p pre y ys s)) in
          let long : length ((p ∷ pre) ++ y ∷ ys) ≡ length (p ∷ pre) + length (y ∷ ys) = length-append (p ∷ pre) (y ∷ ys) in
          omega (arith, full, long, l)

  same_rest : (pre xs ys : List Applicative) (m n : Bool) → IsPage IsListed r (pre ++ xs) m → IsPage IsListed r (pre ++ ys) n → xs ≡ ys
  same_rest pre [] [] m n h k = refl
  same_rest pre [] (y ∷ ys) m n h k = absurd (stops_short pre ys y m n (subst (λ (z : List Applicative). IsPage IsListed r z m) (append-nil pre) h) k)
  same_rest pre (x ∷ xs) [] m n h k = absurd (stops_short pre xs x n m (subst (λ (z : List Applicative). IsPage IsListed r z n) (append-nil pre) k) h)
  same_rest pre (x ∷ xs) (y ∷ ys) m n h k = elim (order.total x y) [
    | inl l ↦ absurd (passes_over pre xs ys x y m n h k l)
    | inr e ↦ elim e [
      | inl s ↦
          ap (λ (z : Applicative). z ∷ xs) s ∙ ap (λ (zs : List Applicative). y ∷ zs) (same_rest (pre ++ y ∷ []) xs ys m n
          (subst (λ (z : List Applicative). IsPage IsListed r z m) (ap (λ (z : Applicative). pre ++ z ∷ xs) s ∙ sym (append_assoc pre (y ∷ []) xs)) h)
          (subst (λ (z : List Applicative). IsPage IsListed r z n) (sym (append_assoc pre (y ∷ []) ys)) k))
      | inr l ↦ absurd (passes_over pre ys xs y x n m k h l)
    ]
  ]

  pub page_one : (a b : List Applicative) (m n : Bool) → IsPage IsListed r a m → IsPage IsListed r b n → a ≡ b
  page_one a b m n h k = same_rest [] a b m n h k

  bools : (m n : Bool) → (IsTrue m → IsTrue n) → (IsTrue n → IsTrue m) → m ≡ n
  bools true true f g = refl
  bools true false f g = absurd (true≢false (sym (f refl)))
  bools false true f g = absurd (true≢false (sym (g refl)))
  bools false false f g = refl

  pub more_one : (a b : List Applicative) (m n : Bool) → IsPage IsListed r a m → IsPage IsListed r b n → m ≡ n
  more_one a b m n h k =
      let h' = subst (λ (z : List Applicative). IsPage IsListed r z m) (page_one a b m n h k) h in
      bools m n (λ t. k.more_exactly.1 (h'.more_exactly.0 t)) (λ t. h'.more_exactly.1 (k.more_exactly.0 t))
