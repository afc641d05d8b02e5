-- Places that are begun by head rules.
use Rattle.std.proofs.Common.{◌≡◌, ℕ, zero, suc, ◌+◌, ◌^◌, ◌<◌, ◌≤◌, List, [], ◌∷◌, ◌++◌, length, map, take, get_or, refl, sym, ap, ◌∙◌, subst, inl, inr, arith}
use Rattle.std.proofs.lemmas.Bool.{cases_lt}
use Rattle.cls_enum.specs.Members.{IsIn}
use Rattle.cls_enum.proofs.Members.{take-whole}
use Rattle.cls_walk.specs.Counts.{HeadRule}
use Rattle.cls_walk.specs.FrameBegins.{aim_of, heads_in, no_head, AreBegun, AreBefore, AreFrom, AreNone, StandsBefore, Covers, IsBegunBy, IsBegunWith}
use Rattle.cls_walk.specs.FrameColumns.{head_of, place_of, Grows}
use Rattle.cls_walk.specs.Frames.{Place as SeenPlace}
use Rattle.cls_walk.specs.Orders.{InOrder, NotAfter}
use Rattle.cls_walk.specs.Tables.{capped}
use Rattle.cls_walk.specs.declared.aims.Aim.{Aim}
use Rattle.cls_walk.specs.declared.aims.Span.{Span}
use Rattle.cls_walk.specs.declared.places.Place.{Place}
use Rattle.cls_walk.specs.declared.rules.Head.{Head}
use Rattle.cls_walk.specs.declared.rules.Rules.{Rules}
use Rattle.cls_walk.proofs.FrameColumns.{grows-none, grows-push, grows-on, grows-by, more-to, more-old, more-new}

-- a sum is small if the capped one is
pub small-sum : (a t b s : ℕ) → t ≡ capped a → s < 2 ^ 32 → capped (t + b) ≤ s → a + b ≤ s
small-sum a t b s e f l = omega (arith, e, f, l)

-- the head rules, and where each stands
pub head-at : (heads : List Head) (k : ℕ) → k < length heads → IsIn (map head_of heads) (head_of (get_or heads k no_head))
head-at [] k l = absurd (omega arith)
head-at (h ∷ heads) zero l = inl refl
head-at (h ∷ heads) (suc k) l = inr (head-at heads k (omega arith))

pub at-head : (heads : List Head) (h : HeadRule) → IsIn (map head_of heads) h → (k : ℕ) × (k < length heads) × (head_of (get_or heads k no_head) ≡ h)
at-head [] h i = absurd i
at-head (g ∷ heads) h (inl e) = (zero, omega arith, e)
at-head (g ∷ heads) h (inr i) = let r = at-head heads h i in (suc r.0, (let l = r.1 in omega (arith, l)), r.2)

module _ (own : HeadRule → ℕ) (a : ℕ × ℕ) (x j size : ℕ) where
  pub begun-in : (h : HeadRule) (old new : List Place) (p : Place) → new ≡ old ++ p ∷ [] → place_of p ≡ (a.0, h.1) → h.0 ≡ x → length h.1 ≡ j → own h + a.1 ≤ size → Grows (IsBegunWith own a x j size h) old new
  begun-in h old new p e s c k l = grows-push (IsBegunWith own a x j size h) old new p e record { component = c; count = k; small = l; place = s } (λ q w. s ∙ sym w.place)

  pub begun-out : (h : HeadRule) (old : List Place) → ((q : SeenPlace) → IsBegunWith own a x j size h q → ⊥) → Grows (IsBegunWith own a x j size h) old old
  begun-out h old f = grows-none (IsBegunWith own a x j size h) old old refl (λ q w. absurd (f q w))

  -- those of the head rules from `first` to below i
  abbrev pub Begun : List Head → ℕ → ℕ → SeenPlace → Type 0
  Begun heads first i q = (k : ℕ) × (first ≤ k) × (k < i) × IsBegunWith own a x j size (head_of (get_or heads k no_head)) q

  pub begun-start : (heads : List Head) (first : ℕ) (old : List Place) → Grows (Begun heads first first) old old
  begun-start heads first old = grows-none (Begun heads first first) old old refl (λ q (k, l, m, w). absurd (omega (arith, l, m)))

  pub begun-more : (heads : List Head) (first i : ℕ) (b c d : List Place) → first ≤ i → Grows (Begun heads first i) b c → Grows (IsBegunWith own a x j size (head_of (get_or heads i no_head))) c d → Grows (Begun heads first (i + 1)) b d
  begun-more heads first i b c d l g h =
      let W : ℕ → SeenPlace → Type 0 = λ k. IsBegunWith own a x j size (head_of (get_or heads k no_head)) in
      grows-on (Begun heads first i) (W i) (Begun heads first (i + 1)) b c d g h
      (λ q (k, m, n, w). (k, m, omega (arith, n), w))
      (λ q w. (i, l, omega arith, w))
      (λ q (k, m, n, w). elim (cases_lt k i) [
        | inl o ↦ inl (k, m, o, w)
        | inr o ↦ let e : k ≡ i = omega (arith, n, o) in inr (let P : ℕ → Type 0 = λ z. W z q in subst P e w)
      ])

  pub begun-all : (heads : List Head) (s : Span) (i : ℕ) (b c : List Place) → s.end ≤ length heads → Covers s x j heads → s.end ≤ i → i ≤ s.end → Grows (Begun heads s.first i) b c → Grows (IsBegunBy own a x j size (map head_of heads)) b c
  begun-all heads s i b c l v e f g =
      grows-by (Begun heads s.first i) (IsBegunBy own a x j size (map head_of heads)) b c
      (λ q (k, m, n, w). (head_of (get_or heads k no_head), head-at heads k (omega (arith, n, l, f)), w))
      (λ q (h, o, w).
      let (k, m, r) = at-head heads h o in
      let P : HeadRule → Type 0 = λ z. IsBegunWith own a x j size z q in
      let w2 = subst P (sym r) w in
      let u = v k m w2.component w2.count in
      (k, u.0, (let z = u.1 in omega (arith, z, e)), w2)) g

-- head rules in order

order-at : (heads : List Head) (i k : ℕ) → InOrder (map head_of heads) → i < k → k < length heads → NotAfter (head_of (get_or heads i no_head)) (head_of (get_or heads k no_head))
order-at [] i k o l m = absurd (omega arith)
order-at (h ∷ heads) zero zero o l m = absurd (omega arith)
order-at (h ∷ heads) zero (suc k) o l m = o.0 (head_of (get_or heads k no_head)) (head-at heads k (omega arith))
order-at (h ∷ heads) (suc i) zero o l m = absurd (omega arith)
order-at (h ∷ heads) (suc i) (suc k) o l m = order-at heads i k o.1 (omega arith) (omega arith)

before-first : (x j : ℕ) (h g : HeadRule) → NotAfter h g → StandsBefore x j g → StandsBefore x j h
before-first x j h g (inl l) (inl m) = inl (omega (arith, l, m))
before-first x j h g (inl l) (inr m) = inl (let e = m.0 in omega (arith, l, e))
before-first x j h g (inr l) (inl m) = inl (let e = l.0 in omega (arith, e, m))
before-first x j h g (inr l) (inr m) = inr (l.0 ∙ m.0, (let a = l.1 in let b = m.1 in omega (arith, a, b)))

-- one half more of a search
pub before-half : (heads : List Head) (middle x j : ℕ) → InOrder (map head_of heads) → middle < length heads → StandsBefore x j (head_of (get_or heads middle no_head)) → AreBefore (middle + 1) x j heads
before-half heads middle x j o l b i m = elim (cases_lt i middle) [
  | inl n ↦ before-first x j (head_of (get_or heads i no_head)) (head_of (get_or heads middle no_head)) (order-at heads i middle o n l) b
  | inr n ↦ let e : middle ≡ i = omega (arith, m, n) in let P : ℕ → Type 0 = λ z. StandsBefore x j (head_of (get_or heads z no_head)) in subst P e b
]

pub from-half : (heads : List Head) (middle x j : ℕ) → InOrder (map head_of heads) → (StandsBefore x j (head_of (get_or heads middle no_head)) → ⊥) → AreFrom middle x j heads
from-half heads middle x j o f i m l b = elim (cases_lt middle i) [
  | inl n ↦ f (before-first x j (head_of (get_or heads middle no_head)) (head_of (get_or heads i no_head)) (order-at heads middle i o n l) b)
  | inr n ↦ let e : i ≡ middle = omega (arith, m, n) in let P : ℕ → Type 0 = λ z. StandsBefore x j (head_of (get_or heads z no_head)) in f (subst P e b)
]

later : (x j : ℕ) (h g : HeadRule) → NotAfter h g → (StandsBefore x j h → ⊥) → (h.0 ≡ x → length h.1 ≡ j → ⊥) → g.0 ≡ x → length g.1 ≡ j → ⊥
later x j h g (inl l) f k e r = f (inl (omega (arith, l, e)))
later x j h g (inr l) f k e r = elim (cases_lt (length h.1) j) [
  | inl n ↦ f (inr (l.0 ∙ e, n))
  | inr n ↦ k (l.0 ∙ e) (let a = l.1 in omega (arith, a, r, n))
]

pub none-behind : (heads : List Head) (first index x j : ℕ) → first ≤ index → index < length heads → InOrder (map head_of heads) → AreFrom first x j heads → ((get_or heads index no_head).component ≡ x → length (get_or heads index no_head).nodes.now ≡ j → ⊥) → AreNone index x j heads
none-behind heads first index x j a l o f k i m n e r = elim (cases_lt index i) [
  | inl z ↦ later x j (head_of (get_or heads index no_head)) (head_of (get_or heads i no_head)) (order-at heads index i o z n) (f index a l) k e r
  | inr z ↦
      let s : i ≡ index = omega (arith, m, z) in
      k (ap (λ (y : ℕ). (get_or heads y no_head).component) (sym s) ∙ e) (ap (λ (y : ℕ). length (get_or heads y no_head).nodes.now) (sym s) ∙ r)
]

pub covered : (heads : List Head) (s : Span) (x j : ℕ) → AreBefore s.first x j heads → AreNone s.end x j heads → Covers s x j heads
covered heads s x j b n i l e r = (
  elim (cases_lt i s.first) [
    | inl m ↦ elim (b i m) [ inl z ↦ absurd (omega (arith, z, e)) | inr z ↦ absurd (let y = z.1 in omega (arith, y, r)) ]
    | inr m ↦ m
  ],
  elim (cases_lt i s.end) [ inl m ↦ m | inr m ↦ absurd (n i m l e r) ],
)

module _ (own : HeadRule → ℕ) (r : Rules) (x j size : ℕ) where
  pub begun-none : (old : List Place) → Grows (AreBegun own r [] x j size) old old
  begun-none old = grows-none (AreBegun own r [] x j size) old old refl (λ q (a, i, w). absurd i)

  -- one aim more
  pub begun-aim : (level : List Aim) (i : ℕ) (d : Aim) (b c e : List Place) → i < length level → Grows (AreBegun own r (map aim_of (take i level)) x j size) b c
      → Grows (IsBegunBy own (aim_of (get_or level i d)) x j size (map head_of (heads_in r (get_or level i d).node))) c e → Grows (AreBegun own r (map aim_of (take (i + 1) level)) x j size) b e
  begun-aim level i d b c e l g h =
      let W : ℕ × ℕ → SeenPlace → Type 0 = λ a. IsBegunBy own a x j size (map head_of (heads_in r a.0)) in
      let a0 = aim_of (get_or level i d) in
      grows-on (AreBegun own r (map aim_of (take i level)) x j size) (W a0) (AreBegun own r (map aim_of (take (i + 1) level)) x j size) b c e g h
      (λ q (a, k, w). (a, more-old aim_of level i a k, w))
      (λ q w. (a0, more-new aim_of level i d l, w))
      (λ q (a, k, w). elim (more-to aim_of level i d a l k) [
        | inl m ↦ inl (a, m, w)
        | inr m ↦ inr (let P : ℕ × ℕ → Type 0 = λ z. W z q in subst P (sym m) w)
      ])

  pub begun-whole : (level : List Aim) (i : ℕ) (b c : List Place) → length level ≤ i → Grows (AreBegun own r (map aim_of (take i level)) x j size) b c → Grows (AreBegun own r (map aim_of level) x j size) b c
  begun-whole level i b c l g = let P : List Aim → Type 0 = λ zs. Grows (AreBegun own r (map aim_of zs) x j size) b c in subst P (take-whole i level l) g
