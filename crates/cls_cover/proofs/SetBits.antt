-- Sets of positions as numbers: what their bits say.
use Rattle.std.proofs.Common.{ℕ, zero, suc, ◌≡◌, ◌+◌, ◌*◌, ◌-◌, ◌/◌, ◌%◌, ◌^◌, ◌<◌, ◌≤◌, ◌↔◌, min, max, refl, sym, ◌∙◌, subst, ap, ◌⊎◌, inl, inr, List, [], ◌∷◌, ◌++◌, get_or, arith, Bool, true, false, not, cond, ◌==◌, eqb-true, eq-eqb}
use Rattle.std.specs.Int.{bit_at, bit_not, w128}
use Rattle.std.specs.Int.RustNames.{bit_or}
use Rattle.std.specs.Int.Bits.{bit_and}
use Rattle.std.specs.Int.Count.{count_leading_zeros}
use Rattle.std.proofs.lemmas.Nat.{and_le_l, shl-shr, pow-add, leading_top, le-div, mod-mul-add, shr_below, pow_pos, pow_below, and_mask}
use Rattle.std.proofs.lemmas.Nat.Bits.{bit_at_and, bit_at_or, bit_at_not, bit_at-zero, bit_at-lt, bit_at_above, bit_at-pow_same, bit_at-pow_other, same_from_bits_below}
use native.Mathlib.Decide.{ℕ_discrete, dec_lt}
use Rattle.cls_cover.specs.Flags.{is_one}
use Rattle.cls_cover.specs.Members.{Member, first, later, Ascending}
use Rattle.cls_cover.specs.MemberCovers.{Shares}
use Rattle.cls_cover.specs.Sets.{IsIn, lowest, members, IsSetOf, IsSingle, MeetsAlone}
use Rattle.cls_cover.proofs.Lists.{member_append, member_append_left, member_append_right, rises_unique}

one_of_max : (p q : ℕ) → max p q ≡ 1 → (p ≡ 1) ⊎ (q ≡ 1)
one_of_max p q e = go (ℕ_discrete p 1)
  where
    go : Dec (p ≡ 1) → (p ≡ 1) ⊎ (q ≡ 1)
    go (yes f) = inl f
    go (no n) = inr (omega (arith, n))

max_one_left : (p q : ℕ) → q < 2 → p ≡ 1 → max p q ≡ 1
max_one_left p q l e = omega arith

max_one_right : (p q : ℕ) → p < 2 → q ≡ 1 → max p q ≡ 1
max_one_right p q l e = omega arith

both_of_min : (p q : ℕ) → p < 2 → q < 2 → min p q ≡ 1 → (p ≡ 1) × (q ≡ 1)
both_of_min p q l m e = (omega arith, omega arith)

min_one : (p q : ℕ) → p ≡ 1 → q ≡ 1 → min p q ≡ 1
min_one p q e f = omega arith

pub in_or : (a b x : ℕ) → IsIn (bit_or a b) x ↔ (IsIn a x ⊎ IsIn b x)
in_or a b x = ((λ h. to h.0 (one_of_max _ _ (sym (bit_at_or a b (127 - x)) ∙ h.1))), back)
  where
    to : x < 128 → (bit_at a (127 - x) ≡ 1) ⊎ (bit_at b (127 - x) ≡ 1) → IsIn a x ⊎ IsIn b x
    to l (inl e) = inl (l, e)
    to l (inr e) = inr (l, e)

    back : IsIn a x ⊎ IsIn b x → IsIn (bit_or a b) x
    back (inl h) = (h.0, bit_at_or a b (127 - x) ∙ max_one_left (bit_at a (127 - x)) (bit_at b (127 - x)) (bit_at-lt b (127 - x)) h.1)
    back (inr h) = (h.0, bit_at_or a b (127 - x) ∙ max_one_right (bit_at a (127 - x)) (bit_at b (127 - x)) (bit_at-lt a (127 - x)) h.1)

pub in_and : (a b x : ℕ) → IsIn (bit_and a b) x ↔ (IsIn a x × IsIn b x)
in_and a b x = (
  (λ h.
      let r = both_of_min (bit_at a (127 - x)) (bit_at b (127 - x)) (bit_at-lt a (127 - x)) (bit_at-lt b (127 - x)) (sym (bit_at_and a b (127 - x)) ∙ h.1) in
      ((h.0, r.0), (h.0, r.1))),
  (λ h. (h.0.0, bit_at_and a b (127 - x) ∙ min_one (bit_at a (127 - x)) (bit_at b (127 - x)) h.0.1 h.1.1)),
)

less_one : (p : ℕ) → p < 2 → 1 - p ≡ 1 → p ≡ 1 → ⊥
less_one p l e f = omega arith

one_less : (p : ℕ) → p < 2 → (p ≡ 1 → ⊥) → 1 - p ≡ 1
one_less p l n = omega (arith, n)

place_below : (x : ℕ) → x < 128 → 127 - x < 128
place_below x l = omega arith

in_not : (n x : ℕ) → n < 2 ^ 128 → IsIn (bit_not w128 n) x ↔ ((x < 128) × (IsIn n x → ⊥))
in_not n x l = (
  (λ h. (h.0, (λ k. less_one (bit_at n (127 - x)) (bit_at-lt n (127 - x)) (sym (bit_at_not w128 n (127 - x) l (place_below x h.0)) ∙ h.1) k.1))),
  (λ h. (h.0, bit_at_not w128 n (127 - x) l (place_below x h.0) ∙ one_less (bit_at n (127 - x)) (bit_at-lt n (127 - x)) (λ e. h.1 (h.0, e)))),
)

pub none_in : (n x : ℕ) → n ≡ 0 → IsIn n x → ⊥
none_in n x e h =
    let d : bit_at 0 (127 - x) ≡ 1 = subst (λ k. bit_at k (127 - x) ≡ 1) e h.1 in
    let f = bit_at-zero (127 - x) in omega arith

-- a power of two is the set of one position
in_power : (k y : ℕ) → k < 128 → IsIn (2 ^ k) y ↔ (y ≡ 127 - k)
in_power k y l = (to, back)
  where
    to : IsIn (2 ^ k) y → y ≡ 127 - k
    to h = go (ℕ_discrete (127 - y) k)
      where
        go : Dec (127 - y ≡ k) → y ≡ 127 - k
        go (yes e) = let m : y < 128 = h.0 in omega arith
        go (no n) = let e = bit_at-pow_other k (127 - y) n in let f = h.1 in absurd (omega arith)

    back : y ≡ 127 - k → IsIn (2 ^ k) y
    back e = let f : 127 - y ≡ k = omega arith in (omega arith, subst (λ i. bit_at (2 ^ k) i ≡ 1) (sym f) (bit_at-pow_same k))

shifted : (x : ℕ) → x < 128 → 170141183460469231731687303715884105728 / 2 ^ x ≡ 2 ^ (127 - x)
shifted x l =
    let e : (127 - x) + x ≡ 127 = omega arith in
    let f : 170141183460469231731687303715884105728 ≡ 2 ^ ((127 - x) + x) = subst (λ n. 170141183460469231731687303715884105728 ≡ 2 ^ n) (sym e) refl in
    ap (λ n. n / 2 ^ x) (f ∙ pow-add 2 (127 - x) x) ∙ shl-shr (2 ^ (127 - x)) x

pub in_alone : (x y : ℕ) → x < 128 → IsIn (170141183460469231731687303715884105728 / 2 ^ x) y ↔ (y ≡ x)
in_alone x y l =
    let e : 127 - (127 - x) ≡ x = omega arith in
    subst (λ z. IsIn (170141183460469231731687303715884105728 / 2 ^ x) y ↔ (y ≡ z)) e
    (subst (λ n. IsIn n y ↔ (y ≡ 127 - (127 - x))) (sym (shifted x l)) (in_power (127 - x) y (place_below x l)))

top_bit : (n j : ℕ) → 2 ^ j ≤ n → n < 2 ^ suc j → bit_at n j ≡ 1
top_bit n j l m =
    let a : 1 ≤ n / 2 ^ j = le-div 1 n (2 ^ j) (pow_pos j) (omega arith) in
    let b : n / 2 ^ j < 2 ^ 1 = shr_below n 1 j (subst (λ i. n < 2 ^ i) (let e : suc j ≡ 1 + j = omega arith in e) m) in
    let c : n / 2 ^ j ≡ 1 = omega arith in
    ap (λ q. q % 2) c

-- the least position of a set that isn't empty
pub first_in : (n : ℕ) → n < 2 ^ 128 → (n ≡ 0 → ⊥) → IsIn n (count_leading_zeros 128 n) × ((y : ℕ) → IsIn n y → count_leading_zeros 128 n ≤ y)
first_in n l z =
    let t = leading_top 128 n (omega (arith, z)) l in
    let e : 127 - count_leading_zeros 128 n ≡ t.0 = (let f = t.1 in omega arith) in
    (((let f = t.1 in omega arith), subst (λ i. bit_at n i ≡ 1) (sym e) (top_bit n t.0 t.2 t.3)), (λ y h. go t.0 t.1 t.3 y h (dec_lt y (count_leading_zeros 128 n))))
  where
    go : (j : ℕ) → count_leading_zeros 128 n + suc j ≡ 128 → n < 2 ^ suc j → (y : ℕ) → IsIn n y → Dec (y < count_leading_zeros 128 n) → count_leading_zeros 128 n ≤ y
    go j e m y h (no k) = omega (arith, k)
    go j e m y h (yes k) = let f = bit_at_above n (suc j) (127 - y) m (omega arith) in let g = h.1 in absurd (omega arith)

-- sets with the same positions are one
pub same_set : (a b : ℕ) → a < 2 ^ 128 → b < 2 ^ 128 → ((x : ℕ) → IsIn a x ↔ IsIn b x) → a ≡ b
same_set a b l m f = same_from_bits_below 128 a b l m each
  where
    equal : (p q : ℕ) → p < 2 → q < 2 → (p ≡ 1 → q ≡ 1) → (q ≡ 1 → p ≡ 1) → p ≡ q
    equal p q l m g h = go (ℕ_discrete p 1)
      where
        go : Dec (p ≡ 1) → p ≡ q
        go (yes e) = e ∙ sym (g e)
        go (no n) = other (ℕ_discrete q 1)
          where
            other : Dec (q ≡ 1) → p ≡ q
            other (yes e) = absurd (n (h e))
            other (no k) = omega (arith, n, k)

    at : (i : ℕ) → i < 128 → 127 - (127 - i) ≡ i
    at i k = omega arith

    one : (c d i : ℕ) → ((x : ℕ) → IsIn c x → IsIn d x) → i < 128 → bit_at c i ≡ 1 → bit_at d i ≡ 1
    one c d i g k e =
        subst (λ j. bit_at d j ≡ 1) (at i k) (g (127 - i) ((omega arith), subst (λ j. bit_at c j ≡ 1) (sym (at i k)) e)).1

    each : (i : ℕ) → i < 128 → bit_at a i ≡ bit_at b i
    each i k = equal (bit_at a i) (bit_at b i) (bit_at-lt a i) (bit_at-lt b i) (one a b i (λ x. (f x).0) k) (one b a i (λ x. (f x).1) k)

-- a number is a power of two exactly if it shares no bit with the one below it
power_from : (n k : ℕ) → n ≡ 2 ^ k → bit_and n (n - 1) ≡ 0
power_from n k e = subst (λ m. bit_and m (m - 1) ≡ 0) (sym e) (and_mask (2 ^ k) k ∙ mod_self (2 ^ k) (pow_pos k))
  where
    mod_self : (m : ℕ) → 0 < m → m % m ≡ 0
    mod_self m l = subst (λ n. n % m ≡ 0) (let e : 1 * m + 0 ≡ m = omega arith in e) (mod-mul-add 1 m 0 l)

power_to : (n : ℕ) → n < 2 ^ 128 → 0 < n → bit_and n (n - 1) ≡ 0 → (k : ℕ) × (k < 128) × (n ≡ 2 ^ k)
power_to n l p e = let t = leading_top 128 n p l in (t.0, (let f = t.1 in omega arith), go t.0 t.2 t.3 (dec_lt (2 ^ t.0) n))
  where
    clash : (j : ℕ) → bit_at n j ≡ 1 → bit_at (n - 1) j ≡ 1 → ⊥
    clash j f g =
        let a : bit_at (bit_and n (n - 1)) j ≡ 1 = bit_at_and n (n - 1) j ∙ min_one (bit_at n j) (bit_at (n - 1) j) f g in
        let b : bit_at 0 j ≡ 1 = subst (λ m. bit_at m j ≡ 1) e a in
        let c = bit_at-zero j in omega arith

    go : (j : ℕ) → 2 ^ j ≤ n → n < 2 ^ suc j → Dec (2 ^ j < n) → n ≡ 2 ^ j
    go j a b (no k) = omega (arith, k)
    go j a b (yes k) = absurd (clash j (top_bit n j a b) (top_bit (n - 1) j (omega arith) (omega arith)))

-- The members of a set as a list.
-- the position is in the set and is one of the last n ones
abbrev IsLow : ℕ → ℕ → ℕ → Type 0
IsLow set n x = (x < 128) × (127 - x < n) × (bit_at set (127 - x) ≡ 1)

lowest_in : (set n x : ℕ) → n ≤ 128 → Member (lowest set n) x → IsLow set n x
unfolding lowest
lowest_in set zero x l m = elim m [ ]
lowest_in set (suc n) x l m = go (λ k. lowest_in set n x (omega arith) k) (is_one (bit_at set n)) refl m
  where
    one : (k : ℕ) → is_one k ≡ true → k < 2 → k ≡ 1
    one zero e l = absurd (let f : false ≡ true = e in cc)
    one (suc zero) e l = refl
    one (suc (suc k)) e l = absurd (omega arith)

    old : (Member (lowest set n) x → IsLow set n x) → Member (lowest set n) x → IsLow set (suc n) x
    old f k = let r = f k in (r.0, (let q = r.1 in omega arith), r.2)

    here : (Member (lowest set n) x → IsLow set n x) → is_one (bit_at set n) ≡ true → (y : ℕ) → y ≡ 127 - n → Member (y ∷ lowest set n) x → IsLow set (suc n) x
    here f e _ d first = let g : 127 - x ≡ n = omega arith in ((omega arith), (omega arith), subst (λ i. bit_at set i ≡ 1) (sym g) (one (bit_at set n) e (bit_at-lt set n)))
    here f e y d (later k) = old f k

    go : (Member (lowest set n) x → IsLow set n x) → (b : Bool) → is_one (bit_at set n) ≡ b → Member (cond b ((127 - n) ∷ lowest set n) (lowest set n)) x → IsLow set (suc n) x
    go f true e k = here f e (127 - n) refl k
    go f false e k = old f k

in_lowest : (set n x : ℕ) → n ≤ 128 → IsIn set x → 127 - x < n → Member (lowest set n) x
unfolding lowest
in_lowest set zero x l h m = absurd (omega arith)
in_lowest set (suc n) x l h m = go (λ k. in_lowest set n x (omega arith) h (less k)) (is_one (bit_at set n)) refl (ℕ_discrete (127 - x) n)
  where
    less : (127 - x ≡ n → ⊥) → 127 - x < n
    less k = grind (arith, k, m)

    at : 127 - x ≡ n → 127 - n ≡ x
    at e = let p : x < 128 = h.0 in omega arith

    go : ((127 - x ≡ n → ⊥) → Member (lowest set n) x) → (b : Bool) → is_one (bit_at set n) ≡ b → Dec (127 - x ≡ n) → Member (cond b ((127 - n) ∷ lowest set n) (lowest set n)) x
    go old true e (yes f) = subst (λ y. Member (y ∷ lowest set n) x) (sym (at f)) first
    go old true e (no k) = later (old k)
    go old false e (yes f) = absurd (let g : is_one (bit_at set n) ≡ true = ap is_one (subst (λ i. bit_at set i ≡ 1) f h.1) in let d : true ≡ false = sym g ∙ e in cc)
    go old false e (no k) = old k

-- they come after the position of the next bit
pub low_above : (set n : ℕ) → n < 128 → (y : ℕ) → Member (lowest set n) y → 127 - n < y
low_above set n l y m = let r = lowest_in set n y (omega arith) m in let p = r.0 in let q = r.1 in omega arith

lowest_rises : (set n : ℕ) → n ≤ 128 → Ascending (lowest set n)
unfolding lowest
lowest_rises set zero l = tt
lowest_rises set (suc n) l = go (lowest_rises set n (omega arith)) (is_one (bit_at set n))
  where
    go : Ascending (lowest set n) → (b : Bool) → Ascending (cond b ((127 - n) ∷ lowest set n) (lowest set n))
    go r true = (low_above set n (omega arith), r)
    go r false = r

pub members_in : (set x : ℕ) → Member (members set) x ↔ IsIn set x
unfolding members
members_in set x = (
  (λ m. let r = lowest_in set 128 x (omega arith) m in (r.0, r.2)),
  (λ h. in_lowest set 128 x (omega arith) h (omega arith)),
)

pub members_rise : (set : ℕ) → Ascending (members set)
unfolding members
members_rise set = lowest_rises set 128 (omega arith)

less_not : (x y : ℕ) → x < y → y < x → ⊥
less_not x y l m = omega arith

-- an ascending list of a set's positions has all its members
pub members_are : (xs : List ℕ) (set : ℕ) → Ascending xs → ((x : ℕ) → IsIn set x ↔ Member xs x) → xs ≡ members set
members_are xs set a f = rises_unique (λ x y. x < y) less_not xs (members set) a (members_rise set) (λ x m. (members_in set x).1 ((f x).1 m)) (λ x m. (f x).0 ((members_in set x).0 m))

pub members_none : members 0 ≡ []
members_none = sym (members_are [] 0 tt (λ x. ((λ h. absurd (none_in 0 x refl h)), (λ m. elim m [ ]))))

pub rises_last : (xs : List ℕ) (x : ℕ) → Ascending xs → ((y : ℕ) → Member xs y → y < x) → Ascending (xs ++ x ∷ [])
rises_last [] x a f = ((λ y m. elim m [ ]), tt)
rises_last (y ∷ xs) x a f = ((λ z m. above z (member_append xs (x ∷ []) z m)), rises_last xs x a.1 (λ z m. f z (later m)))
  where
    only : (z : ℕ) → Member (x ∷ []) z → y < z
    only _ first = f y first
    only z (later m) = elim m [ ]

    above : (z : ℕ) → Member xs z ⊎ Member (x ∷ []) z → y < z
    above z (inl m) = a.0 z m
    above z (inr m) = only z m

-- the set of one position
pub is_single : (n : ℕ) → n < 2 ^ 128 → 0 < n → bit_and n (n - 1) ≡ 0 → IsSingle n
is_single n l p e =
    let r = power_to n l p e in
    (127 - r.0, (λ y. subst (λ m. IsIn m y ↔ (y ≡ 127 - r.0)) (sym r.2) (in_power r.0 y r.1)))

pub single_power : (n : ℕ) → n < 2 ^ 128 → IsSingle n → (0 < n) × (bit_and n (n - 1) ≡ 0)
single_power n l s =
    let h : IsIn n s.0 = (s.1 s.0).1 refl in
    let b : s.0 < 128 = h.0 in
    let e : n ≡ 2 ^ (127 - s.0) = same_set n (2 ^ (127 - s.0)) l (below (127 - s.0) (omega arith)) (λ y. ((λ k. (in_power (127 - s.0) y (omega arith)).1 ((s.1 y).0 k ∙ turned b)), (λ k. (s.1 y).1 ((in_power (127 - s.0) y (omega arith)).0 k ∙ sym (turned b))))) in
    (subst (λ m. 0 < m) (sym e) (pow_pos (127 - s.0)), power_from n (127 - s.0) e)
  where
    turned : s.0 < 128 → s.0 ≡ 127 - (127 - s.0)
    turned l = omega arith

    below : (k : ℕ) → k < 128 → 2 ^ k < 2 ^ 128
    below k l = pow_below k 128 l

-- the positions that are found to meet a set alone, where one set more is looked at
module _ (sets : List ℕ) (i set found : ℕ) (inv : (x : ℕ) → IsIn found x ↔ (IsIn set x × MeetsAlone sets i set x)) where
  wider : (x : ℕ) → MeetsAlone sets i set x → MeetsAlone sets (i + 1) set x
  wider x m = record { place = m.place; within = (let l = m.within in omega arith); has = m.has; alone = m.alone }

  cases : (x : ℕ) → (m : MeetsAlone sets (i + 1) set x) → MeetsAlone sets i set x ⊎ (m.place ≡ i)
  cases x m = go (dec_lt m.place i)
    where
      go : Dec (m.place < i) → MeetsAlone sets i set x ⊎ (m.place ≡ i)
      go (yes l) = inl (record { place = m.place; within = l; has = m.has; alone = m.alone })
      go (no n) = inr (let l = m.within in omega (arith, n))

  pub alone_yes : IsSingle (bit_and (get_or sets i 0) set) → (x : ℕ) → IsIn (bit_or found (bit_and (get_or sets i 0) set)) x ↔ (IsIn set x × MeetsAlone sets (i + 1) set x)
  alone_yes s x = ((λ h. to ((in_or found (bit_and (get_or sets i 0) set) x).0 h)), (λ h. (in_or found (bit_and (get_or sets i 0) set) x).1 (back h.0 h.1 (cases x h.1))))
    where
      to : IsIn found x ⊎ IsIn (bit_and (get_or sets i 0) set) x → IsIn set x × MeetsAlone sets (i + 1) set x
      to (inl h) = let r = (inv x).0 h in (r.0, wider x r.1)
      to (inr h) =
          let r = (in_and (get_or sets i 0) set x).0 h in
          (r.1, record { place = i; within = omega arith; has = r.0; alone = (λ z a b. (s.1 z).0 ((in_and (get_or sets i 0) set z).1 (a, b)) ∙ sym ((s.1 x).0 h)) })

      back : IsIn set x → (m : MeetsAlone sets (i + 1) set x) → MeetsAlone sets i set x ⊎ (m.place ≡ i) → IsIn found x ⊎ IsIn (bit_and (get_or sets i 0) set) x
      back a m (inl o) = inl ((inv x).1 (a, o))
      back a m (inr e) = inr ((in_and (get_or sets i 0) set x).1 (subst (λ k. IsIn (get_or sets k 0) x) e m.has, a))

  pub alone_no : (IsSingle (bit_and (get_or sets i 0) set) → ⊥) → (x : ℕ) → IsIn found x ↔ (IsIn set x × MeetsAlone sets (i + 1) set x)
  alone_no n x = ((λ h. let r = (inv x).0 h in (r.0, wider x r.1)), (λ h. back h.0 h.1 (cases x h.1)))
    where
      single : IsIn set x → (m : MeetsAlone sets (i + 1) set x) → m.place ≡ i → IsSingle (bit_and (get_or sets i 0) set)
      single a m e = (
        x,
        (λ y. (
          (λ h. let r = (in_and (get_or sets i 0) set y).0 h in m.alone y (subst (λ k. IsIn (get_or sets k 0) y) (sym e) r.0) r.1),
          (λ f. subst (λ z. IsIn (bit_and (get_or sets i 0) set) z) (sym f) ((in_and (get_or sets i 0) set x).1 (subst (λ k. IsIn (get_or sets k 0) x) e m.has, a))),
        )),
      )

      back : IsIn set x → (m : MeetsAlone sets (i + 1) set x) → MeetsAlone sets i set x ⊎ (m.place ≡ i) → IsIn found x
      back a m (inl o) = (inv x).1 (a, o)
      back a m (inr e) = absurd (n (single a m e))

-- all are found exactly if the numbers are the same
pub alone_all : (sets : List ℕ) (n set found : ℕ) → found < 2 ^ 128 → set < 2 ^ 128 → ((x : ℕ) → IsIn found x ↔ (IsIn set x × MeetsAlone sets n set x)) → (found == set) ≡ true ↔ ((x : ℕ) → IsIn set x → MeetsAlone sets n set x)
alone_all sets n set found l m inv = (
  (λ e x h. ((inv x).0 (subst (λ k. IsIn k x) (sym (eqb-true found set e)) h)).1),
  (λ f. eq-eqb found set (same_set found set l m (λ x. ((λ h. ((inv x).0 h).0), (λ h. (inv x).1 (h, f x h)))))),
)

-- Positions of a set are taken one by one, the first one first.
cleared : (rest x y : ℕ) → rest < 2 ^ 128 → x < 128 → IsIn (bit_and rest (bit_not w128 (170141183460469231731687303715884105728 / 2 ^ x))) y ↔ (IsIn rest y × (y ≡ x → ⊥))
cleared rest x y l m = (
  (λ h.
      let r = (in_and rest (bit_not w128 (170141183460469231731687303715884105728 / 2 ^ x)) y).0 h in
      (r.0, (λ e. ((in_not (170141183460469231731687303715884105728 / 2 ^ x) y small).0 r.1).1 ((in_alone x y m).1 e)))),
  (λ h. (in_and rest (bit_not w128 (170141183460469231731687303715884105728 / 2 ^ x)) y).1 (h.0, (in_not (170141183460469231731687303715884105728 / 2 ^ x) y small).1 (h.0.0, (λ k. h.1 ((in_alone x y m).0 k))))),
)
  where
    small : 170141183460469231731687303715884105728 / 2 ^ x < 2 ^ 128
    small = subst (λ n. n < 2 ^ 128) (sym (shifted x m)) (pow_below (127 - x) 128 (omega arith))

-- the positions of the set are those of the list and, after these, those of the rest
pub record IsSplit (set : ℕ) (list : List ℕ) (rest : ℕ) : Type 0 where
  pub ascending : Ascending list
  pub exactly : (x : ℕ) → IsIn set x ↔ (Member list x ⊎ IsIn rest x)
  pub below : (x y : ℕ) → Member list x → IsIn rest y → x < y

pub split_none : (set : ℕ) (list : List ℕ) → list ≡ [] → IsSplit set list set
split_none set list e = subst (λ (xs : List ℕ). IsSplit set xs set) (sym e) (record { ascending = tt; exactly = (λ x. ((λ h. inr h), (λ m. one x m))); below = (λ x y m h. elim m [ ]) })
  where
    one : (x : ℕ) → Member [] x ⊎ IsIn set x → IsIn set x
    one x (inl m) = elim m [ ]
    one x (inr h) = h

pub split_all : (set : ℕ) (list : List ℕ) (rest : ℕ) → rest ≡ 0 → IsSplit set list rest → list ≡ members set
split_all set list rest e s = members_are list set s.ascending (λ x. ((λ h. all x ((s.exactly x).0 h)), (λ m. (s.exactly x).1 (inl m))))
  where
    all : (x : ℕ) → Member list x ⊎ IsIn rest x → Member list x
    all x (inl m) = m
    all x (inr h) = absurd (none_in rest x e h)

module _ (set rest : ℕ) (list : List ℕ) (l : rest < 2 ^ 128) (z : rest ≡ 0 → ⊥) where
  abbrev least : ℕ
  least = count_leading_zeros 128 rest

  abbrev rest_after : ℕ
  rest_after = bit_and rest (bit_not w128 (170141183460469231731687303715884105728 / 2 ^ least))

  least_in : IsIn rest least
  least_in = (first_in rest l z).0

  least_below : least < 128
  least_below = least_in.0

  pub rest_smaller : rest_after < rest
  rest_smaller = smaller rest_after rest (and_le_l rest (bit_not w128 (170141183460469231731687303715884105728 / 2 ^ least))) (λ e. ((cleared rest least least l least_below).0 (subst (λ n. IsIn n least) (sym e) least_in)).1 refl)
    where
      smaller : (a b : ℕ) → a ≤ b → (a ≡ b → ⊥) → a < b
      smaller a b h n = grind (arith, h, n)

  taken_ascending : Ascending list → ((x y : ℕ) → Member list x → IsIn rest y → x < y) → Ascending (list ++ least ∷ [])
  taken_ascending a f = rises_last list least a (λ y m. f y least m least_in)

  taken_exactly : ((x : ℕ) → IsIn set x ↔ (Member list x ⊎ IsIn rest x)) → (x : ℕ) → IsIn set x ↔ (Member (list ++ least ∷ []) x ⊎ IsIn rest_after x)
  taken_exactly f x = ((λ h. to ((f x).0 h)), (λ h. (f x).1 (back h)))
    where
      to : Member list x ⊎ IsIn rest x → Member (list ++ least ∷ []) x ⊎ IsIn rest_after x
      to (inl m) = inl (member_append_left (least ∷ []) x m)
      to (inr h) = go (ℕ_discrete x least)
        where
          go : Dec (x ≡ least) → Member (list ++ least ∷ []) x ⊎ IsIn rest_after x
          go (yes e) = inl (member_append_right list (least ∷ []) x (subst (λ y. Member (y ∷ []) x) e first))
          go (no n) = inr ((cleared rest least x l least_below).1 (h, n))

      last : (y : ℕ) → Member (least ∷ []) y → IsIn rest y
      last _ first = least_in
      last y (later m) = elim m [ ]

      one : Member list x ⊎ Member (least ∷ []) x → Member list x ⊎ IsIn rest x
      one (inl m) = inl m
      one (inr m) = inr (last x m)

      back : Member (list ++ least ∷ []) x ⊎ IsIn rest_after x → Member list x ⊎ IsIn rest x
      back (inl m) = one (member_append list (least ∷ []) x m)
      back (inr h) = inr ((cleared rest least x l least_below).0 h).0

  taken_below : ((x y : ℕ) → Member list x → IsIn rest y → x < y) → (x y : ℕ) → Member (list ++ least ∷ []) x → IsIn rest_after y → x < y
  taken_below f x y m h = go (member_append list (least ∷ []) x m) ((cleared rest least y l least_below).0 h)
    where
      less : (a b : ℕ) → a ≤ b → (b ≡ a → ⊥) → a < b
      less a b h n = grind (arith, h, n)

      last : (x : ℕ) → Member (least ∷ []) x → IsIn rest y × (y ≡ least → ⊥) → x < y
      last _ first k = less least y ((first_in rest l z).1 y k.0) k.1
      last x (later m) k = elim m [ ]

      go : Member list x ⊎ Member (least ∷ []) x → IsIn rest y × (y ≡ least → ⊥) → x < y
      go (inl m) k = f x y m k.0
      go (inr m) k = last x m k

  pub split_more : IsSplit set list rest → IsSplit set (list ++ least ∷ []) rest_after
  split_more s = record { ascending = taken_ascending s.ascending s.below; exactly = taken_exactly s.exactly; below = taken_below s.below }

-- one position more of a family
pub set_more : (xs : List ℕ) (x set one : ℕ) → IsSetOf xs set → ((y : ℕ) → IsIn one y ↔ (y ≡ x)) → IsSetOf (xs ++ x ∷ []) (bit_or set one)
set_more xs x set one f g y = ((λ h. to ((in_or set one y).0 h)), (λ m. (in_or set one y).1 (back (member_append xs (x ∷ []) y m))))
  where
    to : IsIn set y ⊎ IsIn one y → Member (xs ++ x ∷ []) y
    to (inl h) = member_append_left (x ∷ []) y ((f y).0 h)
    to (inr h) = member_append_right xs (x ∷ []) y (subst (λ z. Member (z ∷ []) y) ((g y).0 h) first)

    last : (z : ℕ) → Member (x ∷ []) z → IsIn one z
    last _ first = (g x).1 refl
    last z (later m) = elim m [ ]

    back : Member xs y ⊎ Member (x ∷ []) y → IsIn set y ⊎ IsIn one y
    back (inl m) = inl ((f y).1 m)
    back (inr m) = inr (last y m)

pub members_more : (set one x : ℕ) → ((y : ℕ) → IsIn one y ↔ (y ≡ x)) → (y : ℕ) → Member (members (bit_or set one)) y ↔ (Member (members set) y ⊎ (y ≡ x))
members_more set one x g y = ((λ m. to ((in_or set one y).0 ((members_in (bit_or set one) y).0 m))), (λ h. (members_in (bit_or set one) y).1 ((in_or set one y).1 (back h))))
  where
    to : IsIn set y ⊎ IsIn one y → Member (members set) y ⊎ (y ≡ x)
    to (inl h) = inl ((members_in set y).1 h)
    to (inr h) = inr ((g y).0 h)

    back : Member (members set) y ⊎ (y ≡ x) → IsIn set y ⊎ IsIn one y
    back (inl m) = inl ((members_in set y).0 m)
    back (inr e) = inr ((g y).1 e)

-- a cover meets a family exactly if their sets share a bit
pub shares_sets : (family : List ℕ) (cover set : ℕ) → cover < 2 ^ 128 → IsSetOf family set → not (bit_and cover set == 0) ≡ true ↔ Shares family (members cover)
shares_sets family cover set l f = ((λ e. to (first_in (bit_and cover set) small (λ z. off e z))), (λ h. on (bit_and cover set == 0) refl h))
  where
    small : bit_and cover set < 2 ^ 128
    small = let h = and_le_l cover set in omega arith

    clash : true ≡ false → ⊥
    clash e = cc

    off : not (bit_and cover set == 0) ≡ true → bit_and cover set ≡ 0 → ⊥
    off e z = clash (sym e ∙ ap not (eq-eqb (bit_and cover set) 0 z))

    to : IsIn (bit_and cover set) (count_leading_zeros 128 (bit_and cover set)) × ((y : ℕ) → IsIn (bit_and cover set) y → count_leading_zeros 128 (bit_and cover set) ≤ y) → Shares family (members cover)
    to h =
        let x = count_leading_zeros 128 (bit_and cover set) in
        let r = (in_and cover set x).0 h.0 in
        (x, (f x).0 r.1, (members_in cover x).1 r.0)

    on : (b : Bool) → (bit_and cover set == 0) ≡ b → Shares family (members cover) → not b ≡ true
    on false e h = refl
    on true e h = absurd (none_in (bit_and cover set) h.0 (eqb-true (bit_and cover set) 0 e) ((in_and cover set h.0).1 ((members_in cover h.0).0 h.2, (f h.0).1 h.1)))
