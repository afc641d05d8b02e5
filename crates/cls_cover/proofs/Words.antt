-- Flags in words: what the bits of words say.
use Rattle.std.proofs.Common.{ℕ, zero, suc, ◌≡◌, ◌+◌, ◌*◌, ◌-◌, ◌/◌, ◌%◌, ◌^◌, ◌<◌, ◌≤◌, ◌↔◌, min, max, refl, sym, ◌∙◌, ap, ◌⊎◌, inl, inr, List, length, get_or, set, replicate, arith, Bool, true, false, IsTrue, ◌&&◌, ◌||◌, not, w64, ◌==◌}
use Rattle.std.specs.Int.{bit_at, bit_not, trailing_zeros}
use Rattle.std.specs.Int.RustNames.{bit_or}
use Rattle.std.specs.Int.Bits.{bit_and}
use Rattle.std.proofs.lemmas.Nat.{and_le_l, and_le_r}
use Rattle.std.proofs.lemmas.Nat.Bits.{bit_at_and, bit_at_or, bit_at_not, bit_at-zero, bit_at-lt, bit_at-trailing_zeros, bit_at_set_same, bit_at_set_other, shr_and_one}
use Rattle.std.proofs.lemmas.List.{get_or_past, get_or-replicate, length-replicate, get_or-set_other, get_or-set_same, length-set}
use native.Mathlib.Decide.{ℕ_discrete, dec_lt}
use Rattle.cls_cover.specs.Flags.{is_one, bit, AreShared, AreSharedApart, AreJoined}

zero_or_more : (n : ℕ) → (n ≡ 0) ⊎ ((m : ℕ) × (n ≡ suc m))
zero_or_more zero = inl refl
zero_or_more (suc n) = inr (n, refl)

none_at : (n : ℕ) → n ≡ 0 → is_one n ≡ false
none_at n e = ap is_one e

one_at : (n m : ℕ) → n ≡ suc m → is_one n ≡ true
one_at n m e = ap is_one e

one_min : (x y : ℕ) → is_one (min x y) ≡ (is_one x && is_one y)
one_min zero y = none_at (min 0 y) (omega arith)
one_min (suc x) zero = none_at (min (suc x) 0) (omega arith)
one_min (suc x) (suc y) = one_at (min (suc x) (suc y)) (min x y) (omega arith)

one_max : (x y : ℕ) → is_one (max x y) ≡ (is_one x || is_one y)
one_max zero y = ap is_one (let e : max 0 y ≡ y = omega arith in e)
one_max (suc x) zero = one_at (max (suc x) 0) x (omega arith)
one_max (suc x) (suc y) = one_at (max (suc x) (suc y)) (max x y) (omega arith)

one_less : (x : ℕ) → is_one (1 - x) ≡ not (is_one x)
one_less zero = refl
one_less (suc x) = none_at (1 - suc x) (omega arith)

one_and : (a b i : ℕ) → is_one (bit_at (bit_and a b) i) ≡ (is_one (bit_at a i) && is_one (bit_at b i))
one_and a b i = ap is_one (bit_at_and a b i) ∙ one_min (bit_at a i) (bit_at b i)

one_or : (a b i : ℕ) → is_one (bit_at (bit_or a b) i) ≡ (is_one (bit_at a i) || is_one (bit_at b i))
one_or a b i = ap is_one (bit_at_or a b i) ∙ one_max (bit_at a i) (bit_at b i)

one_not : (n i : ℕ) → n < 2 ^ 64 → i < 64 → is_one (bit_at (bit_not w64 n) i) ≡ not (is_one (bit_at n i))
one_not n i l m = ap is_one (bit_at_not w64 n i l m) ∙ one_less (bit_at n i)

no_bit : (n i : ℕ) → n ≡ 0 → is_one (bit_at n i) ≡ false
no_bit n i e = ap (λ k. is_one (bit_at k i)) e ∙ ap is_one (bit_at-zero i)

some_bit : (n : ℕ) → n < 2 ^ 64 → (n ≡ 0 → ⊥) → (i : ℕ) × (i < 64) × (is_one (bit_at n i) ≡ true)
some_bit n l z = let t = bit_at-trailing_zeros w64 n (omega (arith, z)) l in (trailing_zeros w64 n, t.0, ap is_one t.1)

word_place : (k i : ℕ) → i < 64 → (k * 64 + i) / 64 ≡ k
word_place k i l = omega arith

bit_place : (k i : ℕ) → i < 64 → (k * 64 + i) % 64 ≡ i
bit_place k i l = omega arith

below_64 : (f : ℕ) → f % 64 < 64
below_64 f = omega arith

-- a flag as a bit of a word
flag_there : (words : List ℕ) (k i : ℕ) → i < 64 → bit words (k * 64 + i) ≡ is_one (bit_at (get_or words k 0) i)
flag_there words k i l = ap (λ q. is_one (bit_at (get_or words q 0) ((k * 64 + i) % 64))) (word_place k i l) ∙ ap (λ r. is_one (bit_at (get_or words k 0) r)) (bit_place k i l)

pub flag_past : (words : List ℕ) (f : ℕ) → length words ≤ f / 64 → bit words f ≡ false
flag_past words f l = no_bit (get_or words (f / 64) 0) (f % 64) (get_or_past words (f / 64) 0 l)

both : (a b : Bool) → (a && b) ≡ true → (a ≡ true) × (b ≡ true)
both true b e = (refl, e)
both false b e = absurd (let f : false ≡ true = e in cc)

join : (a b : Bool) → a ≡ true → b ≡ true → (a && b) ≡ true
join a b e f = ap (λ c. c && b) e ∙ f

negated : (a : Bool) → not a ≡ true → a ≡ true → ⊥
negated true e f = let g : false ≡ true = e in cc
negated false e f = let g : false ≡ true = f in cc

negate : (a : Bool) → (a ≡ true → ⊥) → not a ≡ true
negate true f = absurd (f refl)
negate false f = refl

clash : (a : Bool) → a ≡ true → a ≡ false → ⊥
clash a e f = let g : true ≡ false = sym e ∙ f in cc

module _ (a b c : List ℕ) where
  abbrev triple : ℕ → ℕ
  triple k = bit_and (bit_and (get_or a k 0) (get_or b k 0)) (get_or c k 0)

  triple_bits : (k i : ℕ) → is_one (bit_at (triple k) i) ≡ ((is_one (bit_at (get_or a k 0) i) && is_one (bit_at (get_or b k 0) i)) && is_one (bit_at (get_or c k 0) i))
  triple_bits k i = one_and (bit_and (get_or a k 0) (get_or b k 0)) (get_or c k 0) i ∙ ap (λ r. r && is_one (bit_at (get_or c k 0) i)) (one_and (get_or a k 0) (get_or b k 0) i)

  triple_small : (k : ℕ) → get_or a k 0 < 2 ^ 64 → triple k < 2 ^ 64
  triple_small k l = let h = and_le_l (bit_and (get_or a k 0) (get_or b k 0)) (get_or c k 0) in let g = and_le_l (get_or a k 0) (get_or b k 0) in omega arith

  -- a word that isn't 0 has a flag that is set in all three
  pub shared_yes : (k : ℕ) → get_or a k 0 < 2 ^ 64 → (bit_and (bit_and (get_or a k 0) (get_or b k 0)) (get_or c k 0) ≡ 0 → ⊥) → AreShared a b c
  shared_yes k l z =
      let r = some_bit (triple k) (triple_small k l) z in
      let u = both (is_one (bit_at (get_or a k 0) r.0) && is_one (bit_at (get_or b k 0) r.0)) (is_one (bit_at (get_or c k 0) r.0)) (sym (triple_bits k r.0) ∙ r.2) in
      let v = both (is_one (bit_at (get_or a k 0) r.0)) (is_one (bit_at (get_or b k 0) r.0)) u.0 in
      (k * 64 + r.0, flag_there a k r.0 r.1 ∙ v.0, flag_there b k r.0 r.1 ∙ v.1, flag_there c k r.0 r.1 ∙ u.1)

  pub shared_no : ((k : ℕ) → k < length a → bit_and (bit_and (get_or a k 0) (get_or b k 0)) (get_or c k 0) ≡ 0) → AreShared a b c → ⊥
  shared_no z h = go (dec_lt (h.0 / 64) (length a))
    where
      go : Dec (h.0 / 64 < length a) → ⊥
      go (yes l) = clash (is_one (bit_at (triple (h.0 / 64)) (h.0 % 64))) (triple_bits (h.0 / 64) (h.0 % 64) ∙ join (is_one (bit_at (get_or a (h.0 / 64) 0) (h.0 % 64)) && is_one (bit_at (get_or b (h.0 / 64) 0) (h.0 % 64))) (bit c h.0) (join (bit a h.0) (bit b h.0) h.1 h.2) h.3) (no_bit (triple (h.0 / 64)) (h.0 % 64) (z (h.0 / 64) l))
      go (no n) = clash (bit a h.0) h.1 (flag_past a h.0 (omega (arith, n)))

  module _ (d : List ℕ) where
    abbrev quad : ℕ → ℕ
    quad k = bit_and (triple k) (bit_not w64 (get_or d k 0))

    quad_bits : (k i : ℕ) → get_or d k 0 < 2 ^ 64 → i < 64 → is_one (bit_at (quad k) i) ≡ (((is_one (bit_at (get_or a k 0) i) && is_one (bit_at (get_or b k 0) i)) && is_one (bit_at (get_or c k 0) i)) && not (is_one (bit_at (get_or d k 0) i)))
    quad_bits k i l m =
        one_and (triple k) (bit_not w64 (get_or d k 0)) i ∙ (ap (λ r. r && is_one (bit_at (bit_not w64 (get_or d k 0)) i)) (triple_bits k i) ∙ ap (λ r. ((is_one (bit_at (get_or a k 0) i) && is_one (bit_at (get_or b k 0) i)) && is_one (bit_at (get_or c k 0) i)) && r) (one_not (get_or d k 0) i l m))

    pub apart_yes : (k : ℕ) → get_or a k 0 < 2 ^ 64 → get_or d k 0 < 2 ^ 64 → (bit_and (bit_and (bit_and (get_or a k 0) (get_or b k 0)) (get_or c k 0)) (bit_not w64 (get_or d k 0)) ≡ 0 → ⊥) → AreSharedApart a b c d
    apart_yes k l m z =
        let s : quad k < 2 ^ 64 = (let g = and_le_l (triple k) (bit_not w64 (get_or d k 0)) in let h = triple_small k l in omega arith) in
        let r = some_bit (quad k) s z in
        let w = both ((is_one (bit_at (get_or a k 0) r.0) && is_one (bit_at (get_or b k 0) r.0)) && is_one (bit_at (get_or c k 0) r.0)) (not (is_one (bit_at (get_or d k 0) r.0))) (sym (quad_bits k r.0 m r.1) ∙ r.2) in
        let u = both (is_one (bit_at (get_or a k 0) r.0) && is_one (bit_at (get_or b k 0) r.0)) (is_one (bit_at (get_or c k 0) r.0)) w.0 in
        let v = both (is_one (bit_at (get_or a k 0) r.0)) (is_one (bit_at (get_or b k 0) r.0)) u.0 in
        (k * 64 + r.0, flag_there a k r.0 r.1 ∙ v.0, flag_there b k r.0 r.1 ∙ v.1, flag_there c k r.0 r.1 ∙ u.1, (λ h. negated (is_one (bit_at (get_or d k 0) r.0)) w.1 (sym (flag_there d k r.0 r.1) ∙ h)))

    pub apart_no : ((k : ℕ) → get_or d k 0 < 2 ^ 64) → ((k : ℕ) → k < length a → bit_and (bit_and (bit_and (get_or a k 0) (get_or b k 0)) (get_or c k 0)) (bit_not w64 (get_or d k 0)) ≡ 0) → AreSharedApart a b c d → ⊥
    apart_no small z h = go (dec_lt (h.0 / 64) (length a))
      where
        go : Dec (h.0 / 64 < length a) → ⊥
        go (yes l) = clash (is_one (bit_at (quad (h.0 / 64)) (h.0 % 64))) (quad_bits (h.0 / 64) (h.0 % 64) (small (h.0 / 64)) (below_64 h.0) ∙ join ((bit a h.0 && bit b h.0) && bit c h.0) (not (bit d h.0)) (join (bit a h.0 && bit b h.0) (bit c h.0) (join (bit a h.0) (bit b h.0) h.1 h.2) h.3) (negate (bit d h.0) h.4)) (no_bit (quad (h.0 / 64)) (h.0 % 64) (z (h.0 / 64) l))
        go (no n) = clash (bit a h.0) h.1 (flag_past a h.0 (omega (arith, n)))

-- a position joins, word by word
abbrev pub once_word : ℕ → ℕ → ℕ → ℕ
once_word o m r = bit_and (bit_or o r) (bit_not w64 (bit_and m r))

pub record IsJoinedTo (once met row : List ℕ) (n : ℕ) (once' met' : List ℕ) : Type 0 where
  pub once_done : (k : ℕ) → k < n → get_or once' k 0 ≡ once_word (get_or once k 0) (get_or met k 0) (get_or row k 0)
  pub met_done : (k : ℕ) → k < n → get_or met' k 0 ≡ bit_or (get_or met k 0) (get_or row k 0)
  pub once_left : (k : ℕ) → n ≤ k → get_or once' k 0 ≡ get_or once k 0
  pub met_left : (k : ℕ) → n ≤ k → get_or met' k 0 ≡ get_or met k 0
  pub once_len : length once' ≡ length once
  pub met_len : length met' ≡ length met

pub joined_more : (once met row : List ℕ) (n : ℕ) (once' met' once'' met'' : List ℕ) → n < length once → n < length met
    → once'' ≡ set once' n (once_word (get_or once' n 0) (get_or met' n 0) (get_or row n 0)) → met'' ≡ set met' n (bit_or (get_or met' n 0) (get_or row n 0))
    → IsJoinedTo once met row n once' met' → IsJoinedTo once met row (n + 1) once'' met''
joined_more once met row n once' met' once'' met'' l m e d j = record {
  once_done = (λ k h. ap (λ (q : List ℕ). get_or q k 0) e ∙ once_at k (ℕ_discrete k n) h);
  met_done = (λ k h. ap (λ (q : List ℕ). get_or q k 0) d ∙ met_at k (ℕ_discrete k n) h);
  once_left = (λ k h. ap (λ (q : List ℕ). get_or q k 0) e ∙ (get_or-set_other once' n k _ 0 (λ g. past k h g) ∙ j.once_left k (omega arith)));
  met_left = (λ k h. ap (λ (q : List ℕ). get_or q k 0) d ∙ (get_or-set_other met' n k _ 0 (λ g. past k h g) ∙ j.met_left k (omega arith)));
  once_len = ap (λ (q : List ℕ). length q) e ∙ (length-set once' n _ ∙ j.once_len);
  met_len = ap (λ (q : List ℕ). length q) d ∙ (length-set met' n _ ∙ j.met_len);
}
  where
    past : (k : ℕ) → n + 1 ≤ k → k ≡ n → ⊥
    past k h g = omega arith

    less : (k : ℕ) → k < n + 1 → (k ≡ n → ⊥) → k < n
    less k h g = grind (arith, h, g)

    once_at : (k : ℕ) → Dec (k ≡ n) → k < n + 1 → get_or (set once' n (once_word (get_or once' n 0) (get_or met' n 0) (get_or row n 0))) k 0 ≡ once_word (get_or once k 0) (get_or met k 0) (get_or row k 0)
    once_at k (yes g) h =
        ap (λ q. get_or (set once' n (once_word (get_or once' n 0) (get_or met' n 0) (get_or row n 0))) q 0) g
        ∙ (get_or-set_same once' n (once_word (get_or once' n 0) (get_or met' n 0) (get_or row n 0)) 0 (let w = j.once_len in omega arith)
        ∙ (ap (λ o. once_word o (get_or met' n 0) (get_or row n 0)) (j.once_left n (omega arith))
        ∙ (ap (λ o. once_word (get_or once n 0) o (get_or row n 0)) (j.met_left n (omega arith))
        ∙ ap (λ q. once_word (get_or once q 0) (get_or met q 0) (get_or row q 0)) (sym g))))
    once_at k (no g) h = get_or-set_other once' n k (once_word (get_or once' n 0) (get_or met' n 0) (get_or row n 0)) 0 g ∙ j.once_done k (less k h g)

    met_at : (k : ℕ) → Dec (k ≡ n) → k < n + 1 → get_or (set met' n (bit_or (get_or met' n 0) (get_or row n 0))) k 0 ≡ bit_or (get_or met k 0) (get_or row k 0)
    met_at k (yes g) h =
        ap (λ q. get_or (set met' n (bit_or (get_or met' n 0) (get_or row n 0))) q 0) g
        ∙ (get_or-set_same met' n (bit_or (get_or met' n 0) (get_or row n 0)) 0 (let w = j.met_len in omega arith)
        ∙ (ap (λ o. bit_or o (get_or row n 0)) (j.met_left n (omega arith))
        ∙ ap (λ q. bit_or (get_or met q 0) (get_or row q 0)) (sym g)))
    met_at k (no g) h = get_or-set_other met' n k (bit_or (get_or met' n 0) (get_or row n 0)) 0 g ∙ j.met_done k (less k h g)

pub joined_flags : (once met row : List ℕ) (n : ℕ) (once' met' : List ℕ) → length row ≤ n → length once ≡ length row → length met ≡ length row
    → ((k : ℕ) → get_or row k 0 < 2 ^ 64) → IsJoinedTo once met row n once' met' → AreJoined once met row once' met'
joined_flags once met row n once' met' w a b small_row j f = go (dec_lt (f / 64) n)
  where
    small : (k : ℕ) → bit_and (get_or met k 0) (get_or row k 0) < 2 ^ 64
    small k = let h = and_le_r (get_or met k 0) (get_or row k 0) in let g = small_row k in omega arith

    same : (x y z : Bool) → ((x || y) && not (z && y)) ≡ ((x && not y) || (y && not z))
    same true true true = refl
    same true true false = refl
    same true false true = refl
    same true false false = refl
    same false true true = refl
    same false true false = refl
    same false false true = refl
    same false false false = refl

    off : (x y z : Bool) → x ≡ false → y ≡ false → ((x && not y) || (y && not z)) ≡ false
    off x y z d e = ap (λ x. (x && not y) || (y && not z)) d ∙ ap (λ y. y && not z) e

    off_met : (x y : Bool) → x ≡ false → y ≡ false → (x || y) ≡ false
    off_met x y d e = ap (λ x. x || y) d ∙ e

    go : Dec (f / 64 < n) → (bit once' f ≡ ((bit once f && not (bit row f)) || (bit row f && not (bit met f)))) × (bit met' f ≡ (bit met f || bit row f))
    go (yes l) = (
      ap (λ q. is_one (bit_at q (f % 64))) (j.once_done (f / 64) l)
          ∙ (one_and (bit_or (get_or once (f / 64) 0) (get_or row (f / 64) 0)) (bit_not w64 (bit_and (get_or met (f / 64) 0) (get_or row (f / 64) 0))) (f % 64)
          ∙ (ap (λ q. q && is_one (bit_at (bit_not w64 (bit_and (get_or met (f / 64) 0) (get_or row (f / 64) 0))) (f % 64))) (one_or (get_or once (f / 64) 0) (get_or row (f / 64) 0) (f % 64))
          ∙ (ap (λ q. (bit once f || bit row f) && q) (one_not (bit_and (get_or met (f / 64) 0) (get_or row (f / 64) 0)) (f % 64) (small (f / 64)) (below_64 f) ∙ ap not (one_and (get_or met (f / 64) 0) (get_or row (f / 64) 0) (f % 64)))
          ∙ same (bit once f) (bit row f) (bit met f)))),
      ap (λ q. is_one (bit_at q (f % 64))) (j.met_done (f / 64) l) ∙ one_or (get_or met (f / 64) 0) (get_or row (f / 64) 0) (f % 64),
    )
    go (no g) =
        let past : n ≤ f / 64 = omega (arith, g) in
        let row_off = flag_past row f (omega arith) in
        let once_off = flag_past once f (omega arith) in
        let met_off = flag_past met f (omega arith) in (
          flag_past once' f (let e = j.once_len in omega arith) ∙ sym (off (bit once f) (bit row f) (bit met f) once_off row_off),
          flag_past met' f (let e = j.met_len in omega arith) ∙ sym (off_met (bit met f) (bit row f) met_off row_off),
        )

-- one flag more
abbrev pub with_bit : ℕ → ℕ → ℕ
with_bit word i = bit_or word (1 * 2 ^ i % 2 ^ 64)

pub flag_set : (words : List ℕ) (f : ℕ) → f / 64 < length words → (g : ℕ) → IsTrue (bit (set words (f / 64) (with_bit (get_or words (f / 64) 0) (f % 64))) g) ↔ (IsTrue (bit words g) ⊎ (g ≡ f))
flag_set words f l g = go (ℕ_discrete (g / 64) (f / 64)) (ℕ_discrete (g % 64) (f % 64))
  where
    same_flag : g / 64 ≡ f / 64 → g % 64 ≡ f % 64 → g ≡ f
    same_flag a b = omega arith

    other_flag : (g % 64 ≡ f % 64 → ⊥) → g ≡ f → ⊥
    other_flag n e = n (ap (λ q. q % 64) e)

    other_word : (g / 64 ≡ f / 64 → ⊥) → g ≡ f → ⊥
    other_word n e = n (ap (λ q. q / 64) e)

    from : {A : Type 0} → (A → ⊥) → IsTrue (bit words g) ⊎ A → IsTrue (bit words g)
    from n (inl h) = h
    from n (inr h) = absurd (n h)

    same : (b : Bool) → b ≡ bit words g → (g ≡ f → ⊥) → IsTrue b ↔ (IsTrue (bit words g) ⊎ (g ≡ f))
    same b e n = ((λ h. inl (sym e ∙ h)), (λ h. e ∙ from n h))

    go : Dec (g / 64 ≡ f / 64) → Dec (g % 64 ≡ f % 64) → IsTrue (bit (set words (f / 64) (with_bit (get_or words (f / 64) 0) (f % 64))) g) ↔ (IsTrue (bit words g) ⊎ (g ≡ f))
    go (yes a) (yes b) =
        let e : bit (set words (f / 64) (with_bit (get_or words (f / 64) 0) (f % 64))) g ≡ true = ap (λ q. is_one (bit_at (get_or (set words (f / 64) (with_bit (get_or words (f / 64) 0) (f % 64))) q 0) (g % 64))) a ∙ (ap (λ q. is_one (bit_at q (g % 64))) (get_or-set_same words (f / 64) (with_bit (get_or words (f / 64) 0) (f % 64)) 0 l) ∙ (ap (λ r. is_one (bit_at (with_bit (get_or words (f / 64) 0) (f % 64)) r)) b ∙ ap is_one (bit_at_set_same w64 (get_or words (f / 64) 0) (f % 64) (below_64 f)))) in
        ((λ h. inr (same_flag a b)), (λ h. e))
    go (yes a) (no n) =
        same (bit (set words (f / 64) (with_bit (get_or words (f / 64) 0) (f % 64))) g)
        (ap (λ q. is_one (bit_at (get_or (set words (f / 64) (with_bit (get_or words (f / 64) 0) (f % 64))) q 0) (g % 64))) a ∙ (ap (λ q. is_one (bit_at q (g % 64))) (get_or-set_same words (f / 64) (with_bit (get_or words (f / 64) 0) (f % 64)) 0 l) ∙ (ap is_one (bit_at_set_other w64 (get_or words (f / 64) 0) (f % 64) (below_64 f) (g % 64) n) ∙ ap (λ q. is_one (bit_at (get_or words q 0) (g % 64))) (sym a))))
        (other_flag n)
    go (no n) d = same (bit (set words (f / 64) (with_bit (get_or words (f / 64) 0) (f % 64))) g) (ap (λ q. is_one (bit_at q (g % 64))) (get_or-set_other words (f / 64) (g / 64) (with_bit (get_or words (f / 64) 0) (f % 64)) 0 n)) (other_word n)

pub flag_none : (n f : ℕ) → IsTrue (bit (replicate n 0) f) → ⊥
flag_none n f h = clash (bit (replicate n 0) f) h (go (dec_lt (f / 64) n))
  where
    go : Dec (f / 64 < n) → bit (replicate n 0) f ≡ false
    go (yes l) = no_bit (get_or (replicate n 0) (f / 64) 0) (f % 64) (get_or-replicate n (f / 64) 0 0 l)
    go (no k) = flag_past (replicate n 0) f (let e = length-replicate {A = ℕ} n 0 in omega (arith, k, e))

one_eq : (n : ℕ) → n < 2 → (n == 1) ≡ is_one n
one_eq zero l = refl
one_eq (suc zero) l = refl
one_eq (suc (suc n)) l = absurd (omega arith)

-- the test `(word >> i) & 1 == 1`
pub flag_read : (words : List ℕ) (f : ℕ) → (bit_and (get_or words (f / 64) 0 / 2 ^ (f % 64)) 1 == 1) ≡ bit words f
flag_read words f = ap (λ n. n == 1) (shr_and_one (get_or words (f / 64) 0) (f % 64)) ∙ one_eq (bit_at (get_or words (f / 64) 0) (f % 64)) (bit_at-lt (get_or words (f / 64) 0) (f % 64))

-- the word of a flag is there
pub word_there : (words : List ℕ) (n f : ℕ) → length words ≡ n / 64 + 1 → f < n → f / 64 < length words
word_there words n f e l = omega arith
