-- Sets in falling order are lists in lexicographic order.
use Rattle.std.proofs.Common.{ℕ, zero, suc, ◌≡◌, ◌+◌, ◌*◌, ◌-◌, ◌%◌, ◌^◌, ◌<◌, ◌≤◌, ◌↔◌, refl, sym, ◌∙◌, subst, ap, ◌⊎◌, inl, inr, List, [], ◌∷◌, ◌++◌, length, get_or, map, reverse, append_assoc, arith, Bool, true, false, cond}
use Rattle.std.specs.Int.{bit_at}
use Rattle.std.proofs.lemmas.Nat.{mod-pow-add, mod_below, pow_pos}
use Rattle.std.proofs.lemmas.Nat.Bits.{bit_at-lt}
use Rattle.std.proofs.lemmas.List.{reverse-append}
use Rattle.std.specs.Ordering.{nat_cmp, is_lt}
use Rattle.std.specs.List.Sorted.{IsPermutation, IsSortedBy}
use Rattle.std.proofs.lemmas.List.Sorted.{IsPermutation-sym, IsPermutation-reverse}
use native.Mathlib.Decide.{dec_lt}
use Rattle.cls_base.specs.Terms.{Precedes}
use Rattle.cls_cover.specs.Flags.{is_one}
use Rattle.cls_cover.specs.Lists.{Sublist, ends, keeps, drops}
use Rattle.cls_cover.specs.Members.{Member, first, later, Rises, Differ}
use Rattle.cls_cover.specs.Sets.{lowest, members}
use Rattle.cls_cover.specs.Choosing.{AreApart}
use Rattle.cls_cover.proofs.Lists.{member_append, member_contains, get_any}
use Rattle.cls_cover.proofs.Grouping.{permuted_member}
use Rattle.cls_cover.proofs.Sorting.{nat_cmp-less, permuted, permuted_differ}
use Rattle.cls_cover.proofs.SetBits.{low_above, members_in, same_set}

none_in : (s : List ℕ) → Sublist [] s
none_in [] = ends
none_in (x ∷ s) = drops (none_in s)

split_top : (a n : ℕ) → a % 2 ^ suc n ≡ bit_at a n * 2 ^ n + a % 2 ^ n
split_top a n = subst (λ i. a % 2 ^ i ≡ bit_at a n * 2 ^ n + a % 2 ^ n) (let e : 1 + n ≡ suc n = omega arith in e) (mod-pow-add a 1 n)

on : (k : ℕ) → is_one k ≡ true → k < 2 → k ≡ 1
on zero e l = absurd (let f : false ≡ true = e in cc)
on (suc zero) e l = refl
on (suc (suc k)) e l = absurd (omega arith)

off : (k : ℕ) → is_one k ≡ false → k ≡ 0
off zero e = refl
off (suc k) e = absurd (let f : true ≡ false = e in cc)

-- Of two numbers the list of the greater one comes first, unless the other list is a part of it.
compared : (a b n : ℕ) → n ≤ 128 → b % 2 ^ n < a % 2 ^ n → Precedes (lowest a n) (lowest b n) ⊎ Sublist (lowest b n) (lowest a n)
unfolding lowest
compared a b zero l h = inr ends
compared a b (suc n) l h = go (is_one (bit_at a n)) (is_one (bit_at b n)) refl refl (λ k. compared a b n (omega arith) k)
  where
    less : (p : ℕ) → bit_at a n ≡ p → bit_at b n ≡ p → b % 2 ^ n < a % 2 ^ n
    less p e f =
        let x : a % 2 ^ suc n ≡ p * 2 ^ n + a % 2 ^ n = subst (λ q. a % 2 ^ suc n ≡ q * 2 ^ n + a % 2 ^ n) e (split_top a n) in
        let y : b % 2 ^ suc n ≡ p * 2 ^ n + b % 2 ^ n = subst (λ q. b % 2 ^ suc n ≡ q * 2 ^ n + b % 2 ^ n) f (split_top b n) in omega arith

    wrong : bit_at a n ≡ 0 → bit_at b n ≡ 1 → ⊥
    wrong e f =
        let x : a % 2 ^ suc n ≡ 0 * 2 ^ n + a % 2 ^ n = subst (λ q. a % 2 ^ suc n ≡ q * 2 ^ n + a % 2 ^ n) e (split_top a n) in
        let y : b % 2 ^ suc n ≡ 1 * 2 ^ n + b % 2 ^ n = subst (λ q. b % 2 ^ suc n ≡ q * 2 ^ n + b % 2 ^ n) f (split_top b n) in
        let m = mod_below a (2 ^ n) (pow_pos n) in omega arith

    ahead : (xs ys : List ℕ) → ((y : ℕ) → Member ys y → 127 - n < y) → Precedes ((127 - n) ∷ xs) ys ⊎ Sublist ys ((127 - n) ∷ xs)
    ahead xs [] f = inr (none_in ((127 - n) ∷ xs))
    ahead xs (y ∷ ys) f = inl (inl (f y first))

    along : Precedes (lowest a n) (lowest b n) ⊎ Sublist (lowest b n) (lowest a n) → Precedes ((127 - n) ∷ lowest a n) ((127 - n) ∷ lowest b n) ⊎ Sublist ((127 - n) ∷ lowest b n) ((127 - n) ∷ lowest a n)
    along (inl p) = inl (inr (refl, p))
    along (inr s) = inr (keeps s)

    go : (p q : Bool) → is_one (bit_at a n) ≡ p → is_one (bit_at b n) ≡ q → (b % 2 ^ n < a % 2 ^ n → Precedes (lowest a n) (lowest b n) ⊎ Sublist (lowest b n) (lowest a n)) → Precedes (cond p ((127 - n) ∷ lowest a n) (lowest a n)) (cond q ((127 - n) ∷ lowest b n) (lowest b n)) ⊎ Sublist (cond q ((127 - n) ∷ lowest b n) (lowest b n)) (cond p ((127 - n) ∷ lowest a n) (lowest a n))
    go true true e f r = along (r (less 1 (on (bit_at a n) e (bit_at-lt a n)) (on (bit_at b n) f (bit_at-lt b n))))
    go true false e f r = ahead (lowest a n) (lowest b n) (low_above b n l)
    go false true e f r = absurd (wrong (off (bit_at a n) e) (on (bit_at b n) f (bit_at-lt b n)))
    go false false e f r = r (less 0 (off (bit_at a n) e) (off (bit_at b n) f))

same_members : (a b : ℕ) → a < 2 ^ 128 → b < 2 ^ 128 → members a ≡ members b → a ≡ b
same_members a b l m e = same_set a b l m (λ x. ((λ h. (members_in b x).0 (subst (λ (s : List ℕ). Member s x) e ((members_in a x).1 h))), (λ h. (members_in a x).0 (subst (λ (s : List ℕ). Member s x) (sym e) ((members_in b x).1 h)))))

small : (a : ℕ) → a < 2 ^ 128 → a % 2 ^ 128 ≡ a
small a l = omega arith

falls_precedes : (a b : ℕ) → a < 2 ^ 128 → b < 2 ^ 128 → b < a → (Sublist (members b) (members a) → members b ≡ members a) → Precedes (members a) (members b)
unfolding members
falls_precedes a b l m h f = go (compared a b 128 (omega arith) (let x = small a l in let y = small b m in omega arith))
  where
    go : Precedes (lowest a 128) (lowest b 128) ⊎ Sublist (lowest b 128) (lowest a 128) → Precedes (lowest a 128) (lowest b 128)
    go (inl p) = p
    go (inr s) = let e : b ≡ a = same_members b a m l (f s) in absurd (omega arith)

in_map : (xs : List ℕ) (t : List ℕ) → Member (map members xs) t → (x : ℕ) × Member xs x × (members x ≡ t)
in_map [] t m = elim m [ ]
in_map (x ∷ xs) _ first = (x, first, refl)
in_map (x ∷ xs) t (later m) = let r = in_map xs t m in (r.0, later r.1, r.2)

map_in : (xs : List ℕ) (x : ℕ) → Member xs x → Member (map members xs) (members x)
map_in (x ∷ xs) _ first = first
map_in (y ∷ xs) x (later m) = later (map_in xs x m)
map_in [] x m = elim m [ ]

falling_rises : (xs : List ℕ) → ((x : ℕ) → Member xs x → x < 2 ^ 128) → Rises (λ a b. b < a) xs → AreApart (map members xs) → Rises Precedes (map members xs)
falling_rises [] s r f = tt
falling_rises (x ∷ xs) s r f = (
  (λ t m.
      let o = in_map xs t m in
      subst (λ (u : List ℕ). Precedes (members x) u) o.2
      (falls_precedes x o.0 (s x first) (s o.0 (later o.1)) (r.0 o.0 o.1) (λ h. f (members o.0) (members x) (later (map_in xs o.0 o.1)) first h))),
  falling_rises xs (λ y m. s y (later m)) r.1 (λ u v k n h. f u v (later k) (later n) h),
)

-- a list from its end
reverse_cons : (x : ℕ) (xs : List ℕ) → reverse (x ∷ xs) ≡ reverse xs ++ x ∷ []
reverse_cons x xs = reverse-append (x ∷ []) xs

pub in_reverse : (xs : List ℕ) (y : ℕ) → Member (reverse xs) y → Member xs y
in_reverse [] y m = m
in_reverse (x ∷ xs) y m = go (in_reverse xs y) (member_append (reverse xs) (x ∷ []) y (subst (λ (l : List ℕ). Member l y) (reverse_cons x xs) m))
  where
    only : (y : ℕ) → Member (x ∷ []) y → Member (x ∷ xs) y
    only _ first = first
    only y (later m) = elim m [ ]

    go : (Member (reverse xs) y → Member xs y) → Member (reverse xs) y ⊎ Member (x ∷ []) y → Member (x ∷ xs) y
    go f (inl m) = later (f m)
    go f (inr m) = only y m

rises_end : (R : ℕ → ℕ → Type 0) (xs : List ℕ) (x : ℕ) → Rises R xs → ((y : ℕ) → Member xs y → R y x) → Rises R (xs ++ x ∷ [])
rises_end R [] x r f = ((λ y m. elim m [ ]), tt)
rises_end R (y ∷ xs) x r f = ((λ z m. above z (member_append xs (x ∷ []) z m)), rises_end R xs x r.1 (λ z m. f z (later m)))
  where
    only : (z : ℕ) → Member (x ∷ []) z → R y z
    only _ first = f y first
    only z (later m) = elim m [ ]

    above : (z : ℕ) → Member xs z ⊎ Member (x ∷ []) z → R y z
    above z (inl m) = r.0 z m
    above z (inr m) = only z m

reverse_falls : (xs : List ℕ) → Rises (λ a b. a < b) xs → Rises (λ a b. b < a) (reverse xs)
reverse_falls [] r = tt
reverse_falls (x ∷ xs) r = subst (λ (l : List ℕ). Rises (λ a b. b < a) l) (sym (reverse_cons x xs)) (rises_end (λ a b. b < a) (reverse xs) x (reverse_falls xs r.1) (λ y m. r.0 y (in_reverse xs y m)))

-- what the list is made of, where its last set is taken
pub taken_last : (done all : List (List ℕ)) (sets rest : List ℕ) (set : ℕ) → sets ≡ rest ++ set ∷ [] → done ++ map members (reverse sets) ≡ all → (done ++ members set ∷ []) ++ map members (reverse rest) ≡ all
taken_last done all sets rest set e f =
    let g : reverse sets ≡ set ∷ reverse rest = ap (λ (l : List ℕ). reverse l) e ∙ reverse-append rest (set ∷ []) in
    append_assoc done (members set ∷ []) (map members (reverse rest))
    ∙ (sym (ap (λ (l : List ℕ). done ++ map members l) g) ∙ f)

-- Numbers that are sorted, and no two of them the same, rise.
abbrev less : ℕ → ℕ → Bool
less a b = is_lt (nat_cmp a b)

at_most : (x y : ℕ) → less y x ≡ false → x ≤ y
at_most x y e = go (dec_lt y x)
  where
    go : Dec (y < x) → x ≤ y
    go (yes l) = absurd (let f : less y x ≡ true = ap is_lt (nat_cmp-less y x l) in let g : true ≡ false = sym f ∙ e in cc)
    go (no n) = omega (arith, n)

sorted_rest : (x : ℕ) (xs : List ℕ) → IsSortedBy less (x ∷ xs) → IsSortedBy less xs
sorted_rest x xs s = λ k d l m.
    let e : suc k + 1 ≡ suc (k + 1) = omega arith in
    let P : ℕ → Type 0 = λ j. less (get_or (x ∷ xs) j d) (get_or (x ∷ xs) (suc k) d) ≡ false in
    subst P e (s (suc k) d (omega arith) (omega arith))

sorted_rising : (xs : List ℕ) → IsSortedBy less xs → Differ (map members xs) → Rises (λ a b. a < b) xs
sorted_rising [] s d = tt
sorted_rising (x ∷ []) s d = ((λ y m. elim m [ ]), tt)
sorted_rising (x ∷ y ∷ xs) s d =
    let r = sorted_rising (y ∷ xs) (sorted_rest x (y ∷ xs) s) d.1 in
    let l : x < y = strict (at_most x y (s 0 x (omega arith) (omega arith))) (λ e. d.0 (subst (λ z. Member (map members (y ∷ xs)) (members z)) (sym e) first)) in
    ((λ z m. after z m l r.0), r)
  where
    strict : x ≤ y → (x ≡ y → ⊥) → x < y
    strict h n = grind (arith, h, n)

    after : (z : ℕ) → Member (y ∷ xs) z → x < y → ((w : ℕ) → Member xs w → y < w) → x < z
    after _ first l f = l
    after z (later m) l f = let h = f z m in omega arith

-- sets that were sorted, from the greatest one on
module _ (xs ys : List ℕ) (p : IsPermutation xs ys) where
  pub ordered_same : (s : List ℕ) → Member (map members (reverse ys)) s ↔ Member (map members xs) s
  ordered_same s = (
    (λ m. permuted members ys xs s (IsPermutation-sym xs ys p) (permuted members (reverse ys) ys s (IsPermutation-sym ys (reverse ys) (IsPermutation-reverse ys)) m)),
    (λ m. permuted members ys (reverse ys) s (IsPermutation-reverse ys) (permuted members xs ys s p m)),
  )

  pub ordered : ((i : ℕ) → i < length xs → get_or xs i 0 < 2 ^ 128) → IsSortedBy less ys → Differ (map members xs) → AreApart (map members xs) → Rises Precedes (map members (reverse ys))
  ordered small s d f =
      falling_rises (reverse ys) (λ x m. fits x (in_reverse ys x m)) (reverse_falls ys (sorted_rising ys s (permuted_differ members xs ys p d)))
      (λ u v m n h. f u v ((ordered_same u).0 m) ((ordered_same v).0 n) h)
    where
      fits : (x : ℕ) → Member ys x → x < 2 ^ 128
      fits x m =
          let r = member_contains (permuted_member ys xs x (IsPermutation-sym xs ys p) m) in
          subst (λ y. y < 2 ^ 128) (get_any xs r.0 0 x r.1 ∙ r.2) (small r.0 r.1)
