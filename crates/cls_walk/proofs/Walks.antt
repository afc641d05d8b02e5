-- Steps of the walk: what is listed by one form after another, and behind a component.
use Rattle.std.proofs.Common.{◌≡◌, ◌≢◌, ℕ, zero, suc, ◌+◌, ◌<◌, ◌≤◌, List, [], ◌∷◌, ◌++◌, length, map, take, drop, reverse, get_or, refl, sym, ap, ◌∙◌, subst, inl, inr, arith, append-nil, append_assoc, Bool, true, false}
use Rattle.std.specs.Prelude.{◌⊎◌, ◌↔◌, slice_index}
use Rattle.std.proofs.Common.{take-append-drop}
use Rattle.std.proofs.lemmas.List.{length-reverse, map-append, reverse-append, take_more}
use Rattle.cls_base.proofs.Lists.{take_whole}
use Rattle.cls_base.specs.Terms.{Precedes}
use Rattle.cls_term.specs.Costs.{cost_of}
use Rattle.cls_enum.specs.Members.{IsIn}
use Rattle.cls_enum.proofs.Members.{in_at, in_cases, in_left, in_right, in-take}
use Rattle.cls_walk.specs.Counts.{HeadRule}
use Rattle.cls_walk.specs.Filled.{forms_at, code_size, needs}
use Rattle.cls_walk.specs.Forms.{IsEarlier, AreRising}
use Rattle.cls_walk.specs.Fronts.{IsFront}
use Rattle.cls_walk.specs.Walks.{IsBehind, IsWanted, IsWantedBy, IsWantedByOne, Lists}
use Rattle.cls_walk.specs.declared.cursor.Cursor.{Cursor}
use Rattle.cls_walk.specs.declared.plan.Plan.{Plan}
use Rattle.cls_walk.specs.declared.walk.Walk.{Walk}
use Rattle.cls_walk.proofs.Filled.{filled-least, filled-first, first-filled, none-filled, needs-append}
use Rattle.cls_walk.proofs.Fronts.{front-none, front-same, front-append, front-full, front-behind}

pub true_no_false : true ≡ false → ⊥
true_no_false p = cc

-- while the walk goes on, nothing is missing
pub front-going : (P : List ℕ → Type 0) (ws : List (List ℕ)) → IsFront P (true ≡ false) ws → IsFront P ⊥ ws
front-going P ws h = record {
  ascends = h.ascends;
  each = h.each;
  all = λ w p. elim (h.all w p) [ inl i ↦ inl i | inr j ↦ absurd (true_no_false j.0) ];
}

pub lists-none : (P : List ℕ → Type 0) (w : Walk) → ((v : List ℕ) → P v → ⊥) → Lists P w w true
lists-none P w n = ([], front-none P (true ≡ false) n, sym (append-nil w.codes))

pub lists-same : (P Q : List ℕ → Type 0) (old new : Walk) (going : Bool) → ((v : List ℕ) → P v ↔ Q v) → Lists P old new going → Lists Q old new going
lists-same P Q old new going s h = (h.0, front-same P Q (going ≡ false) h.0 s h.1, h.2)

-- the same between walks that have the same code so far and the same codes
pub lists-moved : (P : List ℕ → Type 0) (a b c d : Walk) (going : Bool) → c.code.items ≡ a.code.items → c.codes ≡ a.codes → d.codes ≡ b.codes → Lists P a b going → Lists P c d going
lists-moved P a b c d going p q r h = (h.0, h.1, r ∙ h.2 ∙ (λ i. sym q i ++ map (λ w. sym p i ++ w) h.0))

-- some, and then those that come after them
pub lists-more : (P Q : List ℕ → Type 0) (a b c : Walk) (going : Bool) → ((v w : List ℕ) → P v → Q w → Precedes v w) → b.code.items ≡ a.code.items → Lists P a b true → Lists Q b c going → Lists (λ w. P w ⊎ Q w) a c going
lists-more P Q a b c going e p h k = (
  h.0 ++ k.0,
  front-append P Q (going ≡ false) h.0 k.0 e (front-going P h.0 h.1) k.1,
  k.2
      ∙ (λ i. h.2 i ++ map (λ w. p i ++ w) k.0)
      ∙ append_assoc a.codes (map (λ w. a.code.items ++ w) h.0) (map (λ w. a.code.items ++ w) k.0)
      ∙ ap (λ (ws : List (List ℕ)). a.codes ++ ws) (sym (map-append (λ w. a.code.items ++ w) h.0 k.0)),
)

-- some, and the list is full
pub lists-full : (P Q : List ℕ → Type 0) (a b : Walk) → ((v w : List ℕ) → P v → Q w → Precedes v w) → Lists P a b false → Lists (λ w. P w ⊎ Q w) a b false
lists-full P Q a b e h = (h.0, front-full P Q (false ≡ false) h.0 e refl h.1, h.2)

-- behind a component and a number
pub lists-behind : (x k : ℕ) (P : List ℕ → Type 0) (old new in_old in_new : Walk) (going : Bool) → in_old.code.items ≡ old.code.items ++ x ∷ k ∷ [] → in_old.codes ≡ old.codes → new.codes ≡ in_new.codes → Lists P in_old in_new going → Lists (λ w. (v : List ℕ) × (w ≡ x ∷ k ∷ v) × P v) old new going
lists-behind x k P old new in_old in_new going c o n h = (
  map (λ v. x ∷ k ∷ v) h.0,
  front-behind x k P (going ≡ false) h.0 h.1,
  n ∙ h.2 ∙ (λ i. o i ++ map (λ w. c i ++ w) h.0) ∙ ap (λ (ws : List (List ℕ)). old.codes ++ ws) (moved h.0),
)
  where
    moved : (ws : List (List ℕ)) → map (λ w. (old.code.items ++ x ∷ k ∷ []) ++ w) ws ≡ map (λ w. old.code.items ++ w) (map (λ v. x ∷ k ∷ v) ws)
    moved [] = refl
    moved (w ∷ ws) = λ i. append_assoc old.code.items (x ∷ k ∷ []) w i ∷ moved ws i

rising-cross : (hs gs : List HeadRule) (h g : HeadRule) → AreRising (hs ++ gs) → IsIn hs h → IsIn gs g → IsEarlier h g
rising-cross [] gs h g r i j = absurd i
rising-cross (f ∷ hs) gs h g r (inl p) j = let P : HeadRule → Type 0 = λ z. IsEarlier z g in subst P p (r.0 g (in_right hs gs g j))
rising-cross (f ∷ hs) gs h g r (inr i) j = rising-cross hs gs h g r.1 i j

rising-take : (n : ℕ) (fs : List HeadRule) → AreRising fs → AreRising (take n fs)
rising-take zero fs r = tt
rising-take (suc n) [] r = tt
rising-take (suc n) (f ∷ fs) r = ((λ g i. r.0 g (in-take n g fs i)), rising-take n fs r.1)

begins : (x k y m : ℕ) (v w : List ℕ) → (x < y) ⊎ ((x ≡ y) × (k < m)) → Precedes (x ∷ k ∷ v) (y ∷ m ∷ w)
begins x k y m v w (inl l) = inl l
begins x k y m v w (inr l) = inr (l.0, inl l.1)

module _ (plan : Plan) (ms : List ℕ) (size : ℕ) (cursor : Cursor) where
  abbrev Some : List HeadRule → List ℕ → Type 0
  Some hs w = IsWantedByOne plan hs ms size cursor w

  abbrev By : HeadRule → List ℕ → Type 0
  By h w = IsWantedBy plan h ms size cursor w

  -- codes that begin with different forms, in their order
  by-earlier : (h g : HeadRule) (v w : List ℕ) → IsEarlier h g → By h v → By g w → Precedes v w
  by-earlier h g v w e p q =
      let P : List ℕ → Type 0 = λ u. Precedes u w in
      let Q : List ℕ → Type 0 = λ u. Precedes (h.0 ∷ length h.1 ∷ p.rest) u in
      subst P (sym p.begins) (subst Q (sym q.begins) (begins h.0 (length h.1) g.0 (length g.1) p.rest q.rest e))

  one_more : (hs : List HeadRule) (h : HeadRule) (w : List ℕ) → (Some hs w ⊎ By h w) ↔ Some (hs ++ h ∷ []) w
  one_more hs h w = (
    (λ q. elim q [
      | inl p ↦ (p.0, in_left hs (h ∷ []) p.0 p.1, p.2)
      | inr p ↦ (h, in_right hs (h ∷ []) h (inl refl), p)
    ]),
    (λ p. elim (in_cases hs (h ∷ []) p.0 p.1) [
      | inl i ↦ inl (p.0, i, p.2)
      | inr j ↦ elim j [
        | inl e ↦ inr (let P : HeadRule → Type 0 = λ g. By g w in subst P (sym e) p.2)
        | inr z ↦ absurd z
      ]
    ]),
  )

  further : (hs gs : List HeadRule) (w : List ℕ) → (Some hs w ⊎ Some gs w) ↔ Some (hs ++ gs) w
  further hs gs w = (
    (λ q. elim q [ inl p ↦ (p.0, in_left hs gs p.0 p.1, p.2) | inr p ↦ (p.0, in_right hs gs p.0 p.1, p.2) ]),
    (λ p. elim (in_cases hs gs p.0 p.1) [ inl i ↦ inl (p.0, i, p.2) | inr j ↦ inr (p.0, j, p.2) ]),
  )

  pub lists-start : (w : Walk) → Lists (Some []) w w true
  lists-start w = lists-none (Some []) w (λ v p. p.1)

  pub lists-form : (hs gs : List HeadRule) (h : HeadRule) (a b c : Walk) (going : Bool) → AreRising (hs ++ h ∷ gs) → b.code.items ≡ a.code.items → Lists (Some hs) a b true → Lists (By h) b c going → Lists (Some (hs ++ h ∷ [])) a c going
  lists-form hs gs h a b c going r p l k =
      lists-same (λ w. Some hs w ⊎ By h w) (Some (hs ++ h ∷ [])) a c going (one_more hs h)
      (lists-more (Some hs) (By h) a b c going
      (λ v w x y. by-earlier x.0 h v w (rising-cross hs (h ∷ gs) x.0 h r x.1 (inl refl)) x.2 y)
      p l k)

  pub lists-stop : (hs gs : List HeadRule) (a b : Walk) → AreRising (hs ++ gs) → Lists (Some hs) a b false → Lists (Some (hs ++ gs)) a b false
  lists-stop hs gs a b r l =
      lists-same (λ w. Some hs w ⊎ Some gs w) (Some (hs ++ gs)) a b false (further hs gs)
      (lists-full (Some hs) (Some gs) a b
      (λ v w x y. by-earlier x.0 y.0 v w (rising-cross hs gs x.0 y.0 r x.1 y.1) x.2 y.2)
      l)

  -- the codes that are wanted are those by one of the forms of the first node
  pub lists-first : (n : ℕ) (a b : Walk) (going : Bool) → Lists (Some (forms_at plan.forms.now n)) a b going → Lists (IsWanted plan (n ∷ ms) size cursor) a b going
  lists-first n a b going l = lists-same (Some (forms_at plan.forms.now n)) (IsWanted plan (n ∷ ms) size cursor) a b going
      (λ w. (
        (λ p. record { filled = first-filled plan.forms.now n ms w p.0 p.2.rest p.1 p.2.begins p.2.filled; sized = p.2.sized; behind = p.2.behind }),
        (λ q. let r = filled-first plan.forms.now n ms w q.filled in (r.0, r.1, record { rest = r.2; begins = r.3; filled = r.4; sized = q.sized; behind = q.behind })),
      ))
      l

  abbrev cost : ℕ → ℕ
  cost = cost_of plan.costs.now

  begins-size : (h : HeadRule) (v w : List ℕ) → w ≡ h.0 ∷ length h.1 ∷ v → code_size cost w ≡ cost h.0 + code_size cost v
  begins-size h v w p = ap (code_size cost) p

  -- behind the component and the number of a form
  pub lists-by : (h : HeadRule) (left : ℕ) (next : Cursor) (old new in_old in_new : Walk) (going : Bool)
      → size ≡ cost h.0 + left → ((v : List ℕ) → IsBehind cursor (h.0 ∷ length h.1 ∷ v) ↔ IsBehind next v)
      → in_old.code.items ≡ old.code.items ++ h.0 ∷ length h.1 ∷ [] → in_old.codes ≡ old.codes → new.codes ≡ in_new.codes
      → Lists (IsWanted plan (h.1 ++ ms) left next) in_old in_new going → Lists (By h) old new going
  lists-by h left next old new in_old in_new going s b c o n l =
      let P : List ℕ → Type 0 = IsWanted plan (h.1 ++ ms) left next in
      let B : List ℕ → Type 0 = IsBehind cursor in
      lists-same (λ w. (v : List ℕ) × (w ≡ h.0 ∷ length h.1 ∷ v) × P v) (By h) old new going
      (λ w. (
        (λ p. record {
          rest = p.0;
          begins = p.1;
          filled = p.2.filled;
          sized = begins-size h p.0 w p.1 ∙ ap (λ (k : ℕ). cost h.0 + k) p.2.sized ∙ sym s;
          behind = subst B (sym p.1) ((b p.0).1 p.2.behind);
        }),
        (λ q. (
          q.rest,
          q.begins,
          record {
            filled = q.filled;
            sized = (let z = begins-size h q.rest w q.begins in let y = q.sized in omega (arith, z, y, s));
            behind = (b q.rest).0 (subst B q.begins q.behind);
          },
        )),
      ))
      (lists-behind h.0 (length h.1) P old new in_old in_new going c o n l)

  -- the form comes to more than is left
  pub too-much : (h : HeadRule) (own slack : ℕ) → size ≡ own + needs plan.least.now ms + slack → own + slack < cost h.0 + needs plan.least.now h.1 → (w : List ℕ) → By h w → ⊥
  too-much h own slack s l w q =
      let a = filled-least plan.forms.now cost plan.least.now plan.least_sizes (h.1 ++ ms) q.rest q.filled in
      let b = needs-append plan.least.now h.1 ms in
      let c = begins-size h q.rest w q.begins in
      let d = q.sized in
      omega (arith, a, b, c, d, s, l)

  -- the form comes before the cursor
  pub too-early : (h : HeadRule) → ((v : List ℕ) → IsBehind cursor (h.0 ∷ length h.1 ∷ v) → ⊥) → (w : List ℕ) → By h w → ⊥
  too-early h b w q = let B : List ℕ → Type 0 = IsBehind cursor in b q.rest (subst B q.begins q.behind)

  -- one form after another
  pub each-step : (fs : List HeadRule) (i : ℕ) (h : HeadRule) (a b c : Walk) (going : Bool) → AreRising fs → i < length fs → h ≡ get_or fs i h → b.code.items ≡ a.code.items → Lists (Some (take i fs)) a b true → Lists (By h) b c going → Lists (Some (take (i + 1) fs)) a c going
  each-step fs i h a b c going r l p q k m =
      let e : take (i + 1) fs ≡ take i fs ++ h ∷ [] = take_more fs i h l ∙ ap (λ (z : HeadRule). take i fs ++ z ∷ []) (sym p) in
      let P : List HeadRule → Type 0 = λ gs. AreRising gs in
      let Q : List HeadRule → Type 0 = λ gs. Lists (Some gs) a c going in
      subst Q (sym e) (lists-form (take i fs) [] h a b c going (subst P e (rising-take (i + 1) fs r)) q k m)

  -- the list is full
  pub each-stop : (fs : List HeadRule) (i n : ℕ) (a c : Walk) → AreRising fs → fs ≡ forms_at plan.forms.now n → Lists (Some (take i fs)) a c false → Lists (IsWanted plan (n ∷ ms) size cursor) a c false
  each-stop fs i n a c r p l =
      let P : List HeadRule → Type 0 = λ gs. AreRising gs in
      let Q : List HeadRule → Type 0 = λ gs. Lists (Some gs) a c false in
      lists-first n a c false (subst Q (take-append-drop i fs ∙ p) (lists-stop (take i fs) (drop i fs) a c (subst P (sym (take-append-drop i fs)) r) l))

  -- each form is done
  pub each-whole : (fs : List HeadRule) (i n : ℕ) (a c : Walk) (going : Bool) → length fs ≤ i → fs ≡ forms_at plan.forms.now n → Lists (Some (take i fs)) a c going → Lists (IsWanted plan (n ∷ ms) size cursor) a c going
  each-whole fs i n a c going l p h =
      let Q : List HeadRule → Type 0 = λ gs. Lists (Some gs) a c going in
      lists-first n a c going (subst Q (take_whole fs i l ∙ p) h)

-- the same for other names of the nodes and of the least size
pub by-same : (plan : Plan) (h : HeadRule) (cursor : Cursor) (ms ns : List ℕ) (own n slack : ℕ) (b c : Walk) (going goes : Bool) → ms ≡ ns → own ≡ slice_index plan.least.now n → going ≡ goes
    → Lists (IsWantedBy plan h (reverse ms) (own + needs plan.least.now (reverse ms) + slack) cursor) b c going
    → Lists (IsWantedBy plan h (reverse ns) (needs plan.least.now (n ∷ reverse ns) + slack) cursor) b c goes
by-same plan h cursor ms ns own n slack b c going goes p q e l =
    let P : List ℕ → Type 0 = λ xs. Lists (IsWantedBy plan h (reverse xs) (own + needs plan.least.now (reverse xs) + slack) cursor) b c going in
    let Q : ℕ → Type 0 = λ k. Lists (IsWantedBy plan h (reverse ns) (k + needs plan.least.now (reverse ns) + slack) cursor) b c going in
    let R : Bool → Type 0 = λ g. Lists (IsWantedBy plan h (reverse ns) (needs plan.least.now (n ∷ reverse ns) + slack) cursor) b c g in
    subst R e (subst Q q (subst P p l))

-- a form is one of its node
pub item-in : (forms : List (List HeadRule)) (n : ℕ) (fs : List HeadRule) (i : ℕ) (h : HeadRule) → fs ≡ forms_at forms n → i < length fs → h ≡ get_or fs i h → IsIn (forms_at forms n) h
item-in forms n fs i h p l q = let P : List HeadRule → Type 0 = λ gs. IsIn gs h in subst P p (in_at fs h i l (sym q))

-- what a form begins with, as it is kept
pub kept-form : (x k : ℕ) (ns : List ℕ) (h : HeadRule) → (x, reverse ns) ≡ h → k ≡ length ns → (Q : ℕ → ℕ → Type 0) → Q x k → Q h.0 (length h.1)
kept-form x k ns h p q Q b =
    let e : k ≡ length h.1 = q ∙ sym (length-reverse ns) ∙ ap (λ (g : HeadRule). length g.1) p in
    let R : ℕ → Type 0 = λ j. Q x j in
    let S : ℕ → Type 0 = λ y. Q y (length h.1) in
    subst S (ap (λ (g : HeadRule). g.0) p) (subst R e b)

-- the awaited nodes, once those of a form are put before them
pub awaited-next : (x : ℕ) (old ns new : List ℕ) (h : HeadRule) → (x, reverse ns) ≡ h → new ≡ old ++ ns → reverse new ≡ h.1 ++ reverse old
awaited-next x old ns new h p q = ap (λ (xs : List ℕ). reverse xs) q ∙ reverse-append old ns ∙ ap (λ (g : HeadRule). g.1 ++ reverse old) p

-- where no node is awaited
module _ (plan : Plan) (cursor : Cursor) (old new : Walk) (slack : ℕ) (going : Bool) where
  abbrev Now : List ℕ → Type 0
  Now = IsWanted plan [] slack cursor

  -- the code so far is listed
  pub emit-one : slack ≡ 0 → cursor.passed ≡ true → new.codes ≡ old.codes ++ old.code.items ∷ [] → Lists Now old new going
  emit-one s p c = (
    [] ∷ [],
    record {
      ascends = ((λ v i. absurd i), tt);
      each = λ w i. elim i [
        | inl e ↦ (let P : List ℕ → Type 0 = Now in subst P e (record { filled = tt; sized = sym s; behind = λ f. absurd (true_no_false (sym p ∙ f)) }))
        | inr z ↦ absurd z
      ];
      all = λ w q. inl (inl (sym (none-filled plan.forms.now w q.filled)));
    },
    c ∙ ap (λ (w : List ℕ). old.codes ++ w ∷ []) (sym (append-nil old.code.items)),
  )

  -- it isn't, where it doesn't come to the size or doesn't come after the cursor
  pub emit-none : (slack ≢ 0) ⊎ (cursor.passed ≡ false) → new.codes ≡ old.codes → Lists Now old new going
  emit-none h c = (
    [],
    front-none Now (going ≡ false) (λ w q.
        let e = none-filled plan.forms.now w q.filled in
        elim h [
          | inl n ↦ n (sym q.sized ∙ ap (code_size (cost_of plan.costs.now)) e)
          | inr p ↦ (let P : List ℕ → Type 0 = λ u. Precedes cursor.code.now u in none-before cursor.code.now (subst P e (q.behind p)))
        ]),
    c ∙ sym (append-nil old.codes),
  )
    where
      none-before : (xs : List ℕ) → Precedes xs [] → ⊥
      none-before [] h = h
      none-before (x ∷ xs) h = h
