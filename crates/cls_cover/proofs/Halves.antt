-- Sets of positions by halves of 64 bits.
use Rattle.std.proofs.Common.{ℕ, zero, suc, ◌≡◌, ◌+◌, ◌*◌, ◌-◌, ◌/◌, ◌%◌, ◌^◌, ◌<◌, ◌≤◌, min, refl, sym, ◌∙◌, subst, ap, ◌⊎◌, inl, inr, List, [], ◌∷◌, ◌++◌, map, append_assoc, arith}
use Rattle.std.specs.Int.{bit_at, bit_not, w64, w128}
use Rattle.std.specs.Int.Bits.{bit_and}
use Rattle.std.specs.Int.Count.{count_leading_zeros, leading_unique}
use Rattle.std.proofs.lemmas.List.{map-append}
use Rattle.std.proofs.lemmas.Nat.{and_le_l, shl-shr, pow-add, leading_length, pow_below, and_mask, shr_below}
use Rattle.std.proofs.lemmas.Nat.Bits.{bit_at_and, bit_at_not, bit_at_above, bit_at_cat_low, bit_at_cat_high, same_from_bits_below}
use native.Mathlib.Decide.{dec_lt}
use Rattle.cls_cover.specs.Members.{Member, first, later, Ascending}
use Rattle.cls_cover.specs.Sets.{IsIn, members, members_of_half}
use Rattle.cls_cover.proofs.Grouping.{append_none}
use Rattle.cls_cover.proofs.Lists.{member_append, member_append_left, member_append_right}
use Rattle.cls_cover.proofs.SetBits.{IsSplit, split_none, split_more, split_all, rest_smaller, members_in, members_rise, members_are}

-- the numbers of the calls on 64 bits are those of the calls on 128
zeros_of_half : (n : ℕ) → n < 2 ^ 64 → count_leading_zeros 64 n + 64 ≡ count_leading_zeros 128 n
zeros_of_half n l =
    let t = leading_length 64 n l in
    leading_unique 128 n (count_leading_zeros 64 n + 64) t.0 (let e = t.1 in omega arith) t.2 t.3

one_of_half : (x : ℕ) → x < 64 → 9223372036854775808 / 2 ^ x ≡ 2 ^ (63 - x)
one_of_half x l =
    let e : (63 - x) + x ≡ 63 = omega arith in
    let f : 9223372036854775808 ≡ 2 ^ ((63 - x) + x) = subst (λ n. 9223372036854775808 ≡ 2 ^ n) (sym e) refl in
    ap (λ n. n / 2 ^ x) (f ∙ pow-add 2 (63 - x) x) ∙ shl-shr (2 ^ (63 - x)) x

one_of_whole : (x : ℕ) → x < 64 → 170141183460469231731687303715884105728 / 2 ^ (x + 64) ≡ 2 ^ (63 - x)
one_of_whole x l =
    let e : (63 - x) + (x + 64) ≡ 127 = omega arith in
    let f : 170141183460469231731687303715884105728 ≡ 2 ^ ((63 - x) + (x + 64)) = subst (λ n. 170141183460469231731687303715884105728 ≡ 2 ^ n) (sym e) refl in
    ap (λ n. n / 2 ^ (x + 64)) (f ∙ pow-add 2 (63 - x) (x + 64)) ∙ shl-shr (2 ^ (63 - x)) (x + 64)

clears : (n m : ℕ) → n < 2 ^ 64 → m < 2 ^ 64 → bit_and n (bit_not w64 m) ≡ bit_and n (bit_not w128 m)
clears n m l k = same_from_bits_below 64 _ _ (below (and_le_l n (bit_not w64 m))) (below (and_le_l n (bit_not w128 m))) each
  where
    below : {a : ℕ} → a ≤ n → a < 2 ^ 64
    below h = omega arith

    each : (i : ℕ) → i < 64 → bit_at (bit_and n (bit_not w64 m)) i ≡ bit_at (bit_and n (bit_not w128 m)) i
    each i h =
        bit_at_and n (bit_not w64 m) i
        ∙ (ap (λ b. min (bit_at n i) b) (bit_at_not w64 m i k h ∙ sym (bit_at_not w128 m i (omega arith) (omega arith)))
        ∙ sym (bit_at_and n (bit_not w128 m) i))

after_half : (n x : ℕ) → n < 2 ^ 64 → x < 64 → bit_and n (bit_not w64 (9223372036854775808 / 2 ^ x)) ≡ bit_and n (bit_not w128 (170141183460469231731687303715884105728 / 2 ^ (x + 64)))
after_half n x l k =
    ap (λ m. bit_and n (bit_not w64 m)) (one_of_half x k)
    ∙ (clears n (2 ^ (63 - x)) l (pow_below (63 - x) 64 (omega arith))
    ∙ ap (λ m. bit_and n (bit_not w128 m)) (sym (one_of_whole x k)))

-- the positions of a half that are put, and the rest of the half
pub record IsPartlyPut (half begin : ℕ) (old new : List ℕ) (rest : ℕ) : Type 0 where
  pub done : List ℕ
  pub split : IsSplit half done rest
  pub put : new ≡ old ++ map (λ x. x + begin - 64) done

pub put_none : (half begin : ℕ) (old : List ℕ) → IsPartlyPut half begin old old half
put_none half begin old = record { done = []; split = split_none half [] refl; put = sym (append_none old) }

pub put_all : (half begin : ℕ) (old new : List ℕ) (rest : ℕ) → rest ≡ 0 → IsPartlyPut half begin old new rest → new ≡ old ++ members_of_half half begin
put_all half begin old new rest e p = p.put ∙ ap (λ (l : List ℕ). old ++ map (λ x. x + begin - 64) l) (split_all half p.done rest e p.split)

module _ (half begin rest : ℕ) (l : rest < 2 ^ 64) (z : rest ≡ 0 → ⊥) where
  abbrev left : ℕ
  left = bit_and rest (bit_not w64 (9223372036854775808 / 2 ^ count_leading_zeros 64 rest))

  within : count_leading_zeros 64 rest < 64
  within = let t = leading_length 64 rest l in go t.0 t.1 t.2
    where
      go : (m : ℕ) → count_leading_zeros 64 rest + m ≡ 64 → rest < 2 ^ m → count_leading_zeros 64 rest < 64
      go zero e k = absurd (z (omega arith))
      go (suc m) e k = omega arith

  wide : rest < 2 ^ 128
  wide = omega arith

  same_left : bit_and rest (bit_not w128 (170141183460469231731687303715884105728 / 2 ^ count_leading_zeros 128 rest)) ≡ left
  same_left = ap (λ x. bit_and rest (bit_not w128 (170141183460469231731687303715884105728 / 2 ^ x))) (sym (zeros_of_half rest l)) ∙ sym (after_half rest (count_leading_zeros 64 rest) l within)

  pub left_smaller : left < rest
  left_smaller = subst (λ n. n < rest) same_left (rest_smaller half rest [] wide z)

  pub put_more : (old new : List ℕ) → IsPartlyPut half begin old new rest → IsPartlyPut half begin old (new ++ (begin + count_leading_zeros 64 rest) ∷ []) left
  put_more old new p = record {
    done = p.done ++ count_leading_zeros 128 rest ∷ [];
    split = subst (λ n. IsSplit half (p.done ++ count_leading_zeros 128 rest ∷ []) n) same_left (split_more half rest p.done wide z p.split);
    put = ap (λ (k : List ℕ). k ++ (begin + count_leading_zeros 64 rest) ∷ []) p.put
        ∙ (append_assoc old (map (λ x. x + begin - 64) p.done) ((begin + count_leading_zeros 64 rest) ∷ [])
        ∙ ap (λ (k : List ℕ). old ++ k) (ap (λ x. map (λ x. x + begin - 64) p.done ++ x ∷ []) same_place ∙ sym (map-append (λ x. x + begin - 64) p.done (count_leading_zeros 128 rest ∷ []))));
  }
    where
      same_place : begin + count_leading_zeros 64 rest ≡ count_leading_zeros 128 rest + begin - 64
      same_place = let e = zeros_of_half rest l in omega arith

-- the members of a set are those of its upper half and then those of its lower half
in_map : (f : ℕ → ℕ) (xs : List ℕ) (y : ℕ) → Member (map f xs) y → (x : ℕ) × Member xs x × (y ≡ f x)
in_map f [] y m = elim m [ ]
in_map f (x ∷ xs) _ first = (x, first, refl)
in_map f (x ∷ xs) y (later m) = let r = in_map f xs y m in (r.0, later r.1, r.2)

map_in : (f : ℕ → ℕ) (xs : List ℕ) (x : ℕ) → Member xs x → Member (map f xs) (f x)
map_in f _ x first = first
map_in f (y ∷ xs) x (later m) = later (map_in f xs x m)

rises_map : (f : ℕ → ℕ) (xs : List ℕ) → ((x y : ℕ) → Member xs x → x < y → f x < f y) → Ascending xs → Ascending (map f xs)
rises_map f [] g a = tt
rises_map f (x ∷ xs) g a = (
  (λ y m. let r = in_map f xs y m in subst (λ z. f x < z) (sym r.2) (g x r.0 first (a.0 r.0 r.1))),
  rises_map f xs (λ z y m l. g z y (later m) l) a.1,
)

rises_join : (xs ys : List ℕ) → Ascending xs → Ascending ys → ((x y : ℕ) → Member xs x → Member ys y → x < y) → Ascending (xs ++ ys)
rises_join [] ys a b f = b
rises_join (x ∷ xs) ys a b f = (
  (λ y m. elim (member_append xs ys y m) [ inl k ↦ a.0 y k | inr k ↦ f x y first k ]),
  rises_join xs ys a.1 b (λ z y m n. f z y (later m) n),
)

-- the positions of a half, as a set
half_from : (half x : ℕ) → half < 2 ^ 64 → IsIn half x → 64 ≤ x
half_from half x l h = go (dec_lt x 64)
  where
    go : Dec (x < 64) → 64 ≤ x
    go (no n) = omega (arith, n)
    go (yes k) = let e = bit_at_above half 64 (127 - x) l (omega arith) in let f = h.1 in absurd (omega arith)

half_in : (half begin y : ℕ) → half < 2 ^ 64 → Member (members_of_half half begin) y → (x : ℕ) × IsIn half x × (64 ≤ x) × (y ≡ x + begin - 64)
half_in half begin y l m =
    let r = in_map (λ x. x + begin - 64) (members half) y m in
    let h = (members_in half r.0).0 r.1 in
    (r.0, h, half_from half r.0 l h, r.2)

in_half : (half begin x y : ℕ) → IsIn half x → x + begin - 64 ≡ y → Member (members_of_half half begin) y
in_half half begin x y h e = subst (λ z. Member (members_of_half half begin) z) e (map_in (λ x. x + begin - 64) (members half) x ((members_in half x).1 h))

half_rises : (half begin : ℕ) → half < 2 ^ 64 → Ascending (members_of_half half begin)
half_rises half begin l = rises_map (λ x. x + begin - 64) (members half) (λ x y m k. less x y (half_from half x l ((members_in half x).0 m)) k) (members_rise half)
  where
    less : (x y : ℕ) → 64 ≤ x → x < y → x + begin - 64 < y + begin - 64
    less x y h k = omega arith

module _ (upper lower : ℕ) (u : upper < 2 ^ 64) (l : lower < 2 ^ 64) where
  abbrev whole : ℕ
  whole = upper * 2 ^ 64 + lower

  high : (x y : ℕ) → IsIn upper x → y ≡ x + 0 - 64 → 64 ≤ x → IsIn whole y
  high x y h e k =
      let b : x < 128 = h.0 in
      let i : 127 - y - 64 ≡ 127 - x = omega arith in
      ((omega arith), bit_at_cat_high upper 64 lower (127 - y) l (omega arith) ∙ (ap (λ j. bit_at upper j) i ∙ h.1))

  low : (x y : ℕ) → IsIn lower x → y ≡ x + 64 - 64 → 64 ≤ x → IsIn whole y
  low x y h e k =
      let b : x < 128 = h.0 in
      let i : 127 - y ≡ 127 - x = omega arith in
      ((omega arith), bit_at_cat_low upper 64 lower (127 - y) (omega arith) ∙ (ap (λ j. bit_at lower j) i ∙ h.1))

  split : (y : ℕ) → IsIn whole y → Member (members_of_half upper 0 ++ members_of_half lower 64) y
  split y h = go (dec_lt y 64)
    where
      bound : y < 128
      bound = h.0

      go : Dec (y < 64) → Member (members_of_half upper 0 ++ members_of_half lower 64) y
      go (yes k) =
          let i : 127 - y - 64 ≡ 127 - (y + 64) = omega arith in
          let b : bit_at upper (127 - (y + 64)) ≡ 1 = ap (λ j. bit_at upper j) (sym i) ∙ (sym (bit_at_cat_high upper 64 lower (127 - y) l (omega arith)) ∙ h.1) in
          member_append_left (members_of_half lower 64) y (in_half upper 0 (y + 64) y ((omega arith), b) (omega arith))
      go (no n) =
          let k : 64 ≤ y = omega (arith, n) in
          let b = bound in
          member_append_right (members_of_half upper 0) (members_of_half lower 64) y
          (in_half lower 64 y y (bound, sym (bit_at_cat_low upper 64 lower (127 - y) (omega arith)) ∙ h.1) (omega arith))

  join : (y : ℕ) → Member (members_of_half upper 0) y ⊎ Member (members_of_half lower 64) y → IsIn whole y
  join y (inl m) = let r = half_in upper 0 y u m in high r.0 y r.1 r.3 r.2
  join y (inr m) = let r = half_in lower 64 y l m in low r.0 y r.1 r.3 r.2

  apart : (x y : ℕ) → Member (members_of_half upper 0) x → Member (members_of_half lower 64) y → x < y
  apart x y m n =
      let r = half_in upper 0 x u m in
      let s = half_in lower 64 y l n in
      less r.0 s.0 r.1.0 r.3 s.3 s.2
    where
      less : (a b : ℕ) → a < 128 → x ≡ a + 0 - 64 → y ≡ b + 64 - 64 → 64 ≤ b → x < y
      less a b h e f k = omega arith

  of_halves : members_of_half upper 0 ++ members_of_half lower 64 ≡ members whole
  of_halves = members_are (members_of_half upper 0 ++ members_of_half lower 64) whole (rises_join _ _ (half_rises upper 0 u) (half_rises lower 64 l) apart)
      (λ y. (split y, (λ m. join y (member_append (members_of_half upper 0) (members_of_half lower 64) y m))))

pub members_by_halves : (set : ℕ) → set < 2 ^ 128 → (old mid new : List ℕ) → mid ≡ old ++ members_of_half (set / 2 ^ 64) 0 → new ≡ mid ++ members_of_half (bit_and set 18446744073709551615) 64 → new ≡ old ++ members set
members_by_halves set l old mid new e f =
    f
    ∙ (ap (λ (k : List ℕ). k ++ members_of_half (bit_and set 18446744073709551615) 64) e
    ∙ (append_assoc old (members_of_half (set / 2 ^ 64) 0) (members_of_half (bit_and set 18446744073709551615) 64)
    ∙ ap (λ (k : List ℕ). old ++ k) (of_halves (set / 2 ^ 64) (bit_and set 18446744073709551615) upper lower ∙ ap members same)))
  where
    cut : bit_and set 18446744073709551615 ≡ set % 2 ^ 64
    cut = and_mask set 64

    upper : set / 2 ^ 64 < 2 ^ 64
    upper = shr_below set 64 64 l

    lower : bit_and set 18446744073709551615 < 2 ^ 64
    lower = omega (arith, cut)

    same : set / 2 ^ 64 * 2 ^ 64 + bit_and set 18446744073709551615 ≡ set
    same = omega (arith, cut)
