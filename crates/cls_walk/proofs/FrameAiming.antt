-- Aims that the code adds to a list, and levels that it adds to levels.
use Rattle.std.proofs.Common.{◌≡◌, ℕ, zero, suc, ◌+◌, ◌-◌, ◌<◌, ◌≤◌, ◌^◌, Bool, true, false, List, [], ◌∷◌, ◌++◌, length, map, take, get_or, set, refl, sym, ap, ◌∙◌, subst, inl, inr, arith, append_assoc, append-nil}
use Rattle.std.specs.Prelude.{◌⊎◌, nat_eq, if◌then◌else◌}
use Rattle.std.specs.List.{flat_map}
use Rattle.std.proofs.lemmas.Bool.{cases_lt}
use Rattle.std.proofs.lemmas.Grind.{flat_map-append}
use Rattle.std.proofs.lemmas.List.{take_more, map-append, get_or_append_left, get_or_past}
use Rattle.std.proofs.Math.Seq.{get_or-append_seam}
use Rattle.cls_base.specs.declared.rule.Rule.{Rule}
use Rattle.cls_enum.specs.Members.{IsIn}
use Rattle.cls_enum.proofs.Members.{in_cases, in_left, in_right, take-whole}
use Rattle.cls_walk.specs.FrameAiming.{levels_from, Adds}
use Rattle.cls_walk.specs.FrameAims.{Aim, stepped, AreLevels, AreThinned}
use Rattle.cls_walk.specs.FrameBegins.{aim_of}
use Rattle.cls_walk.specs.FrameLevels.{all_levels, AreSameLevels}
use Rattle.cls_walk.specs.Frames.{least_sum}
use Rattle.cls_walk.specs.Tables.{capped}
use Rattle.cls_walk.specs.declared.aims.Aim.{Aim as CodeAim}
use Rattle.cls_walk.specs.declared.aims.Levels.{Levels}
use Rattle.cls_walk.proofs.FrameLevels.{all-length, all-same}
use Rattle.cls_walk.proofs.FrameLists.{thinned-none, thinned-append, thinned-again}
use Rattle.cls_walk.proofs.FrameSizes.{sum-append}
use Rattle.cls_walk.proofs.FrameSteps.{equal, same}

-- nothing is added
pub adds-none : (old new : List CodeAim) → new ≡ old → Adds [] old new
adds-none old new e whole h =
    let P : List Aim → Type 0 = λ z. AreThinned z (map aim_of old) in
    let Q : List CodeAim → Type 0 = λ z. AreThinned (whole ++ []) (map aim_of z) in
    subst Q (sym e) (subst P (sym (append-nil whole)) h)

-- first these and then those
pub adds-then : (m n : List Aim) (a b c : List CodeAim) → Adds m a b → Adds n b c → Adds (m ++ n) a c
adds-then m n a b c f g whole h =
    let P : List Aim → Type 0 = λ z. AreThinned z (map aim_of c) in
    subst P (append_assoc whole m n) (g (whole ++ m) (f whole h))

-- to none
pub adds-alone : (more : List Aim) (old new : List CodeAim) → old ≡ [] → Adds more old new → AreThinned more (map aim_of new)
adds-alone more old new e f =
    let P : List CodeAim → Type 0 = λ z. Adds more z new in
    subst P e f [] thinned-none

thinned-one : (a : Aim) → AreThinned (a ∷ []) (a ∷ [])
thinned-one a = record { each = λ b i. i; all = λ n b i. (b, i, omega arith) }

-- an aim is pushed
pub adds-push : (old new : List CodeAim) (x : CodeAim) → new ≡ old ++ x ∷ [] → Adds (aim_of x ∷ []) old new
adds-push old new x e whole h =
    let P : List Aim → Type 0 = λ z. AreThinned (whole ++ aim_of x ∷ []) z in
    subst P (sym (ap (map aim_of) e ∙ map-append aim_of old (x ∷ [])))
    (thinned-append whole (aim_of x ∷ []) (map aim_of old) (aim_of x ∷ []) h (thinned-one (aim_of x)))

aim-at : (xs : List CodeAim) (i : ℕ) (d : CodeAim) → i < length xs → IsIn (map aim_of xs) (aim_of (get_or xs i d))
aim-at [] i d l = absurd (omega arith)
aim-at (x ∷ xs) zero d l = inl refl
aim-at (x ∷ xs) (suc i) d l = inr (aim-at xs i d (omega arith))

-- one with the same node and no greater size is there already
pub adds-there : (xs new : List CodeAim) (i : ℕ) (d x : CodeAim) → new ≡ xs → i < length xs → (get_or xs i d).node ≡ x.node → (get_or xs i d).behind ≤ x.behind → Adds (aim_of x ∷ []) xs new
adds-there xs new i d x e l p q whole h =
    let y = get_or xs i d in
    let P : ℕ → Type 0 = λ z. IsIn (map aim_of xs) (z, y.behind) in
    let Q : List CodeAim → Type 0 = λ z. AreThinned (whole ++ aim_of x ∷ []) (map aim_of z) in
    subst Q (sym e) (thinned-again whole (map aim_of xs) x.node x.behind y.behind (subst P p (aim-at xs i d l)) q h)

set-new : (xs : List CodeAim) (i : ℕ) (x : CodeAim) → i < length xs → IsIn (map aim_of (set xs i x)) (aim_of x)
set-new [] i x l = absurd (omega arith)
set-new (y ∷ xs) zero x l = inl refl
set-new (y ∷ xs) (suc i) x l = inr (set-new xs i x (omega arith))

set-old : (xs : List CodeAim) (i : ℕ) (d x : CodeAim) (a : Aim) → IsIn (map aim_of xs) a → IsIn (map aim_of (set xs i x)) a ⊎ (aim_of (get_or xs i d) ≡ a)
set-old [] i d x a j = absurd j
set-old (y ∷ xs) zero d x a (inl e) = inr e
set-old (y ∷ xs) zero d x a (inr j) = inl (inr j)
set-old (y ∷ xs) (suc i) d x a (inl e) = inl (inl e)
set-old (y ∷ xs) (suc i) d x a (inr j) = elim (set-old xs i d x a j) [ inl k ↦ inl (inr k) | inr e ↦ inr e ]

set-each : (xs : List CodeAim) (i : ℕ) (x : CodeAim) (a : Aim) → IsIn (map aim_of (set xs i x)) a → IsIn (map aim_of xs) a ⊎ (aim_of x ≡ a)
set-each [] i x a j = absurd j
set-each (y ∷ xs) zero x a (inl e) = inr e
set-each (y ∷ xs) zero x a (inr j) = inl (inr j)
set-each (y ∷ xs) (suc i) x a (inl e) = inl (inl e)
set-each (y ∷ xs) (suc i) x a (inr j) = elim (set-each xs i x a j) [ inl k ↦ inl (inr k) | inr e ↦ inr e ]

-- one with the same node comes down to no greater size
pub adds-set : (xs new : List CodeAim) (i : ℕ) (d x : CodeAim) → new ≡ set xs i x → i < length xs → (get_or xs i d).node ≡ x.node → x.behind ≤ (get_or xs i d).behind → Adds (aim_of x ∷ []) xs new
adds-set xs new i d x e l p q whole h =
    let y = get_or xs i d in
    let w = whole ++ aim_of x ∷ [] in
    let here : (n b : ℕ) → aim_of y ≡ (n, b) → (c : ℕ) × IsIn (map aim_of (set xs i x)) (n, c) × (c ≤ b) = λ n b r.
    let P : ℕ → Type 0 = λ z. IsIn (map aim_of (set xs i x)) (z, x.behind) in
    let s : y.behind ≡ b = ap (λ (z : Aim). z.1) r in
    (x.behind, subst P (sym p ∙ ap (λ (z : Aim). z.0) r) (set-new xs i x l), omega (arith, q, s)) in
    let lower : (n b c : ℕ) → c ≤ b → IsIn (map aim_of xs) (n, c) → (c : ℕ) × IsIn (map aim_of (set xs i x)) (n, c) × (c ≤ b) = λ n b c m j.
    elim (set-old xs i d x (n, c) j) [
      | inl k ↦ (c, k, m)
      | inr r ↦ let s = here n c r in (s.0, s.1, (let t = s.2 in omega (arith, t, m)))
    ] in
    let Q : List CodeAim → Type 0 = λ z. AreThinned w (map aim_of z) in
    subst Q (sym e) record {
      each = λ a j. elim (set-each xs i x a j) [
        | inl k ↦ in_left whole (aim_of x ∷ []) a (h.each a k)
        | inr r ↦ in_right whole (aim_of x ∷ []) a (inl r)
      ];
      all = λ n b j. elim (in_cases whole (aim_of x ∷ []) (n, b) j) [
        | inl k ↦ let r = h.all n b k in lower n b r.0 r.2 r.1
        | inr (inl r) ↦
            let P : ℕ → Type 0 = λ z. IsIn (map aim_of (set xs i x)) (z, x.behind) in
            let s : x.behind ≡ b = ap (λ (z : Aim). z.1) r in
            (x.behind, subst P (ap (λ (z : Aim). z.0) r) (set-new xs i x l), omega (arith, s))
        | inr (inr r) ↦ absurd r
      ];
    }

-- one more of those that are gone through
pub adds-more : {A B : Type 0} (f : B → List Aim) (g : A → B) (xs : List A) (i : ℕ) (x d : A) (a b c : List CodeAim) → i < length xs → x ≡ get_or xs i d
    → Adds (flat_map f (map g (take i xs))) a b → Adds (f (g x)) b c → Adds (flat_map f (map g (take (i + 1) xs))) a c
adds-more {A} {B} f g xs i x d a b c l p h k =
    let q : take (i + 1) xs ≡ take i xs ++ x ∷ [] = take_more xs i d l ∙ ap (λ (z : A). take i xs ++ z ∷ []) (sym p) in
    let e : flat_map f (map g (take (i + 1) xs)) ≡ flat_map f (map g (take i xs)) ++ f (g x) =
    ap (λ (zs : List A). flat_map f (map g zs)) q
    ∙ ap (flat_map f) (map-append g (take i xs) (x ∷ []))
    ∙ flat_map-append f (map g (take i xs)) (g x ∷ [])
    ∙ ap (λ (zs : List Aim). flat_map f (map g (take i xs)) ++ zs) (append-nil (f (g x))) in
    let P : List Aim → Type 0 = λ zs. Adds zs a c in
    subst P (sym e) (adds-then (flat_map f (map g (take i xs))) (f (g x)) a b c h k)

-- the same where each adds one
pub adds-one : {A B : Type 0} (f : B → Aim) (g : A → B) (xs : List A) (i : ℕ) (x d : A) (a b c : List CodeAim) → i < length xs → x ≡ get_or xs i d
    → Adds (map f (map g (take i xs))) a b → Adds (f (g x) ∷ []) b c → Adds (map f (map g (take (i + 1) xs))) a c
adds-one {A} {B} f g xs i x d a b c l p h k =
    let q : take (i + 1) xs ≡ take i xs ++ x ∷ [] = take_more xs i d l ∙ ap (λ (z : A). take i xs ++ z ∷ []) (sym p) in
    let e : map f (map g (take (i + 1) xs)) ≡ map f (map g (take i xs)) ++ f (g x) ∷ [] =
    ap (λ (zs : List A). map f (map g zs)) q
    ∙ ap (map f) (map-append g (take i xs) (x ∷ []))
    ∙ map-append f (map g (take i xs)) (g x ∷ []) in
    let P : List Aim → Type 0 = λ zs. Adds zs a c in
    subst P (sym e) (adds-then (map f (map g (take i xs))) (f (g x) ∷ []) a b c h k)

-- all are gone through
pub adds-all : {A B : Type 0} (f : B → List Aim) (g : A → B) (xs : List A) (i : ℕ) (a b : List CodeAim) → length xs ≤ i → Adds (flat_map f (map g (take i xs))) a b → Adds (flat_map f (map g xs)) a b
adds-all {A} f g xs i a b l h = let P : List A → Type 0 = λ zs. Adds (flat_map f (map g zs)) a b in subst P (take-whole i xs l) h

if-so : (t : Bool) (xs : List Aim) → t ≡ true → (if t then xs else []) ≡ xs
if-so true xs e = refl
if-so false xs e = absurd (cc)

if-not : (t : Bool) (xs : List Aim) → t ≡ false → (if t then xs else []) ≡ []
if-not true xs e = absurd (cc)
if-not false xs e = refl

unequal : (m n : ℕ) → (m ≡ n → ⊥) → nat_eq m n ≡ false
unequal m n f = elim (bool (nat_eq m n)) [ inl e ↦ absurd (f (same m n e)) | inr e ↦ e ]
  where
    bool : (t : Bool) → (t ≡ true) ⊎ (t ≡ false)
    bool true = inl refl
    bool false = inr refl

-- one is added if the nodes are the same
pub adds-in : (m n : ℕ) (a : Aim) (b c : List CodeAim) → m ≡ n → Adds (a ∷ []) b c → Adds (if nat_eq m n then a ∷ [] else []) b c
adds-in m n a b c e h = let P : List Aim → Type 0 = λ zs. Adds zs b c in subst P (sym (if-so (nat_eq m n) (a ∷ []) (equal m n e))) h

pub adds-out : (m n : ℕ) (a : Aim) (b c : List CodeAim) → (m ≡ n → ⊥) → c ≡ b → Adds (if nat_eq m n then a ∷ [] else []) b c
adds-out m n a b c f e = let P : List Aim → Type 0 = λ zs. Adds zs b c in subst P (sym (if-not (nat_eq m n) (a ∷ []) (unequal m n f))) (adds-none b c e)

-- a sum that isn't capped
pub uncapped : (s n : ℕ) → s ≡ capped n → (s ≡ 2 ^ 64 - 1 → ⊥) → s ≡ n
uncapped s n e f = elim (cases_lt n (2 ^ 64 - 1)) [
  | inl l ↦ omega (arith, e, l)
  | inr l ↦ absurd (f (omega (arith, e, l)))
]

-- one more node of a sum
pub sum-next : (least : ℕ → ℕ) (ns : List ℕ) (i n x total new : ℕ) → i < length ns → n ≡ get_or ns i 0 → total ≡ capped (least_sum least (take i ns)) → x ≡ least n → new ≡ capped (total + x) → new ≡ capped (least_sum least (take (i + 1) ns))
sum-next least ns i n x total new l p h q r =
    let m = get_or ns i 0 in
    let b : least_sum least (take (i + 1) ns) ≡ least_sum least (take i ns ++ m ∷ []) = ap (least_sum least) (take_more ns i 0 l) in
    let c = sum-append least (take i ns) (m ∷ []) in
    let d : x ≡ least m = q ∙ ap least p in
    omega (arith, b, c, h, d, r)

-- levels behind others
pub level-front : (old : List (List Aim)) (last : List Aim) (first q : ℕ) → first + q < length old → levels_from (old ++ last ∷ []) first q ≡ levels_from old first q
level-front old last first q l = get_or_append_left old (last ∷ []) [] (first + q) l

pub level-last : (old : List (List Aim)) (last : List Aim) (first q : ℕ) → first + q ≡ length old → levels_from (old ++ last ∷ []) first q ≡ last
level-last old last first q e = ap (λ (k : ℕ). get_or (old ++ last ∷ []) k []) e ∙ get_or-append_seam old last [] []

module _ (book : List (List (Rule ℕ))) (least : ℕ → ℕ) where
  -- one more level
  pub steps-next : (old : List (List Aim)) (last : List Aim) (first i : ℕ) → first + i + 1 ≡ length old → AreLevels book least i (levels_from old first)
      → AreThinned (flat_map (stepped book least) (levels_from old first i)) last → AreLevels book least (i + 1) (levels_from (old ++ last ∷ []) first)
  steps-next old last first i n h t q l = elim (cases_lt q i) [
    | inl m ↦
        let a = level-front old last first q (omega (arith, m, n)) in
        let b = level-front old last first (suc q) (omega (arith, m, n)) in
        thinned-by (levels_from old first q) (levels_from (old ++ last ∷ []) first q) (levels_from old first (suc q)) (levels_from (old ++ last ∷ []) first (suc q)) a b (h q m)
    | inr m ↦
        let e : i ≡ q = omega (arith, l, m) in
        let a = ap (levels_from (old ++ last ∷ []) first) (sym e) ∙ level-front old last first i (omega (arith, n)) in
        let b = level-last old last first (suc q) (omega (arith, n, e)) in
        thinned-by (levels_from old first i) (levels_from (old ++ last ∷ []) first q) last (levels_from (old ++ last ∷ []) first (suc q)) a b t
  ]
    where
      thinned-by : (a b c d : List Aim) → b ≡ a → d ≡ c → AreThinned (flat_map (stepped book least) a) c → AreThinned (flat_map (stepped book least) b) d
      thinned-by a b c d e f t =
          let P : List Aim → Type 0 = λ z. AreThinned (flat_map (stepped book least) z) d in
          let Q : List Aim → Type 0 = λ z. AreThinned (flat_map (stepped book least) a) z in
          subst P (sym e) (subst Q (sym f) t)

  -- no aims are in the next level, and so none are in those behind it
  pub steps-end : (levels : List (List Aim)) (first i most : ℕ) (last : List Aim) → first + i + 1 ≡ length levels → AreLevels book least i (levels_from levels first)
      → AreThinned (flat_map (stepped book least) (levels_from levels first i)) last → length last ≡ 0 → AreLevels book least most (levels_from levels first)
  steps-end levels first i most last n h t z q l = elim (cases_lt q i) [
    | inl m ↦ h q m
    | inr m ↦ elim (cases_lt i q) [
      | inl k ↦
          let P : List Aim → Type 0 = λ z. AreThinned (flat_map (stepped book least) z) (levels_from levels first (suc q)) in
          let Q : List Aim → Type 0 = λ z. AreThinned [] z in
          subst P (sym (past q k)) (subst Q (sym (past (suc q) (omega (arith, k)))) thinned-none)
      | inr k ↦
          let e : i ≡ q = omega (arith, m, k) in
          let P : ℕ → Type 0 = λ j. AreThinned (flat_map (stepped book least) (levels_from levels first j)) (levels_from levels first (suc q)) in
          let Q : List Aim → Type 0 = λ z. AreThinned (flat_map (stepped book least) (levels_from levels first i)) z in
          subst P e (subst Q (none last z ∙ sym (past (suc q) (omega (arith, e)))) t)
    ]
  ]
    where
      past : (j : ℕ) → i < j → levels_from levels first j ≡ []
      past j k = get_or_past levels (first + j) [] (omega (arith, k, n))

      none : (xs : List Aim) → length xs ≡ 0 → xs ≡ []
      none [] e = refl
      none (x ∷ xs) e = absurd (omega arith)

  -- the same for the levels of the code, where the last one is number i from the first one of a stack on
  last-level : (old here : Levels) (i : ℕ) (last : List Aim) → length here.ends.items ≡ length old.ends.items + i → 1 ≤ length old.ends.items
      → AreThinned (flat_map (stepped book least) (levels_from (all_levels here) (length here.ends.items - 1) 0)) last
      → AreThinned (flat_map (stepped book least) (levels_from (all_levels here) (length old.ends.items - 1) i)) last
  last-level old here i last n s t =
      let e : length here.ends.items - 1 + 0 ≡ length old.ends.items - 1 + i = omega (arith, n, s) in
      let P : ℕ → Type 0 = λ k. AreThinned (flat_map (stepped book least) (get_or (all_levels here) k [])) last in
      subst P e t

  pub climb-next : (old here mid new : Levels) (i : ℕ) (last : List Aim) → AreSameLevels here mid → length here.ends.items ≡ length old.ends.items + i → 1 ≤ length old.ends.items
      → AreLevels book least i (levels_from (all_levels here) (length old.ends.items - 1))
      → AreThinned (flat_map (stepped book least) (levels_from (all_levels here) (length here.ends.items - 1) 0)) last
      → all_levels new ≡ all_levels mid ++ last ∷ []
      → AreLevels book least (i + 1) (levels_from (all_levels new) (length old.ends.items - 1))
  climb-next old here mid new i last r n s h t e =
      let first = length old.ends.items - 1 in
      let P : List (List Aim) → Type 0 = λ ls. AreLevels book least (i + 1) (levels_from ls first) in
      let q = e ∙ ap (λ (ls : List (List Aim)). ls ++ last ∷ []) (all-same here mid r) in
      subst P (sym q) (steps-next (all_levels here) last first i (let k = all-length here in omega (arith, k, n, s)) h (last-level old here i last n s t))

  pub climb-end : (old here mid : Levels) (i most : ℕ) (last : List Aim) → AreSameLevels here mid → length here.ends.items ≡ length old.ends.items + i → 1 ≤ length old.ends.items
      → AreLevels book least i (levels_from (all_levels here) (length old.ends.items - 1))
      → AreThinned (flat_map (stepped book least) (levels_from (all_levels here) (length here.ends.items - 1) 0)) last
      → length last ≡ 0
      → AreLevels book least most (levels_from (all_levels mid) (length old.ends.items - 1))
  climb-end old here mid i most last r n s h t z =
      let first = length old.ends.items - 1 in
      let P : List (List Aim) → Type 0 = λ ls. AreLevels book least most (levels_from ls first) in
      subst P (sym (all-same here mid r)) (steps-end (all_levels here) first i most last (let k = all-length here in omega (arith, k, n, s)) h (last-level old here i last n s t) z)

  -- the same levels by another function
  pub levels-by : (f g : ℕ → List Aim) (most : ℕ) → ((q : ℕ) → g q ≡ f q) → AreLevels book least most f → AreLevels book least most g
  levels-by f g most e h q l =
      let P : List Aim → Type 0 = λ z. AreThinned (flat_map (stepped book least) z) (g (suc q)) in
      let Q : List Aim → Type 0 = λ z. AreThinned (flat_map (stepped book least) (f q)) z in
      subst P (sym (e q)) (subst Q (sym (e (suc q))) (h q l))
