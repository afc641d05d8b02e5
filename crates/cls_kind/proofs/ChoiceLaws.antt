-- The choices by their numbers.
use Rattle.std.proofs.Common.{◌≡◌, ℕ, zero, suc, ◌+◌, ◌*◌, ◌/◌, ◌%◌, ◌<◌, List, [], ◌∷◌, ◌++◌, length, map, drop, get_or, refl, sym, subst, ap, ◌∙◌, arith, append_assoc}
use Rattle.std.specs.List.{flat_map}
use Rattle.std.proofs.Math.Nat.{lt_of_mul-lt-mul_left, mul-div_cancel_left}
use Rattle.std.proofs.lemmas.List.{get_or_append_left, get_or-append-add, get_or-map, length-append, length-map, drop_more}
use Rattle.cls_base.specs.Types.{ClosedType}
use Rattle.cls_kind.specs.Instances.{choices_from, count_of}

-- each type before each choice
abbrev blocks : ℕ → List (List (ℕ × ClosedType)) → List ClosedType → List (List (ℕ × ClosedType))
blocks v cs ts = flat_map (λ t. map (λ c. (v, t) ∷ c) cs) ts

blocks-length : (v : ℕ) (cs : List (List (ℕ × ClosedType))) (ts : List ClosedType) → length (blocks v cs ts) ≡ length ts * length cs
blocks-length v cs [] = omega arith
blocks-length v cs (t ∷ ts) =
    let f : List (ℕ × ClosedType) → List (ℕ × ClosedType) = λ c. (v, t) ∷ c in
    let one = length-map cs f in
    let both = length-append (map f cs) (blocks v cs ts) in
    let rest = blocks-length v cs ts in
    omega arith

pub choices-length : (rs : List (ℕ × List ClosedType)) → length (choices_from rs) ≡ count_of rs
choices-length [] = refl
choices-length (r ∷ rs) = blocks-length r.0 (choices_from rs) r.1 ∙ ap (λ n. length r.1 * n) (choices-length rs)

block_at : (v : ℕ) (cs : List (List (ℕ × ClosedType))) (ts : List ClosedType) (i j : ℕ) (d : ClosedType) → i < length ts → j < length cs → get_or (blocks v cs ts) (i * length cs + j) [] ≡ (v, get_or ts i d) ∷ get_or cs j []
block_at v cs [] i j d h k = absurd (omega arith)
block_at v cs (t ∷ ts) zero j d h k =
    let f : List (ℕ × ClosedType) → List (ℕ × ClosedType) = λ c. (v, t) ∷ c in
    let same : zero * length cs + j ≡ j = omega arith in
    let short : j < length (map f cs) = omega (arith, length-map cs f) in
    ap (λ n. get_or (blocks v cs (t ∷ ts)) n []) same ∙ get_or_append_left (map f cs) (blocks v cs ts) [] j short ∙ get_or-map f cs j [] [] k
block_at v cs (t ∷ ts) (suc i) j d h k =
    let f : List (ℕ × ClosedType) → List (ℕ × ClosedType) = λ c. (v, t) ∷ c in
    let same : suc i * length cs + j ≡ length (map f cs) + (i * length cs + j) = omega (arith, length-map cs f) in
    ap (λ n. get_or (blocks v cs (t ∷ ts)) n []) same ∙ get_or-append-add (map f cs) (blocks v cs ts) (i * length cs + j) [] ∙ block_at v cs ts i j d (omega arith) k

-- where a number is below a product
pub quotient-within : (k m n : ℕ) → 0 < n → k < m * n → k / n < m
quotient-within k m n p h = lt_of_mul-lt-mul_left n (omega arith)

pub product-positive : (k m n : ℕ) → k < m * n → (0 < m) × (0 < n)
product-positive k zero n h = absurd (omega arith)
product-positive k (suc m) zero h = absurd (omega arith)
product-positive k (suc m) (suc n) h = (omega arith, omega arith)

pub choice_at : (r : ℕ × List ClosedType) (rs : List (ℕ × List ClosedType)) (k : ℕ) (d : ClosedType) → k < count_of (r ∷ rs)
    → get_or (choices_from (r ∷ rs)) k [] ≡ (r.0, get_or r.1 (k / count_of rs) d) ∷ get_or (choices_from rs) (k % count_of rs) []
choice_at r rs k d h =
    let n = count_of rs in
    let p = product-positive k (length r.1) n h in
    let i : k / n < length r.1 = quotient-within k (length r.1) n p.1 h in
    let l : length (choices_from rs) ≡ n = choices-length rs in
    let j : k % n < n = omega arith in
    let whole : (k / n) * n + k % n ≡ k = omega arith in
    ap (λ m. get_or (choices_from (r ∷ rs)) m []) (sym whole) ∙ subst (λ m. get_or (choices_from (r ∷ rs)) ((k / n) * m + k % n) [] ≡ (r.0, get_or r.1 (k / n) d) ∷ get_or (choices_from rs) (k % n) []) l
    (block_at r.0 (choices_from rs) r.1 (k / n) (k % n) d i (omega arith))

-- the types for the first variables are chosen, and a number of the others' choices is left
pub record Chooses (rs : List (ℕ × List ClosedType)) (number i : ℕ) (done : List (ℕ × ClosedType)) (block rest : ℕ) : Type 0 where
  pub counted : block ≡ count_of (drop i rs)
  pub within : rest < block
  pub chosen : done ++ get_or (choices_from (drop i rs)) rest [] ≡ get_or (choices_from rs) number []

pub chooses-all : (rs : List (ℕ × List ClosedType)) (number count : ℕ) → count ≡ count_of rs → number < count → Chooses rs number 0 [] count number
chooses-all rs number count e h = record { counted = e; within = h; chosen = refl }

module _ (rs : List (ℕ × List ClosedType)) (number i : ℕ) (done : List (ℕ × ClosedType)) (block rest : ℕ) (h : Chooses rs number i done block rest) (r : ℕ × List ClosedType) (at : i < length rs) (is : get_or rs i r ≡ r) where
  whole : drop i rs ≡ r ∷ drop (i + 1) rs
  whole = drop_more rs i r at ∙ ap (λ x. x ∷ drop (i + 1) rs) is

  counts : block ≡ length r.1 * count_of (drop (i + 1) rs)
  counts = h.counted ∙ ap count_of whole

  positive : (0 < length r.1) × (0 < count_of (drop (i + 1) rs))
  positive = product-positive rest (length r.1) (count_of (drop (i + 1) rs)) (let e = counts in let l = h.within in omega arith)

  pub length-positive : 0 < length r.1
  length-positive = positive.0

  pub smaller : block / length r.1 ≡ count_of (drop (i + 1) rs)
  smaller = ap (λ k. k / length r.1) counts ∙ mul-div_cancel_left (count_of (drop (i + 1) rs)) positive.0

  pub block-positive : 0 < block / length r.1
  block-positive = subst (λ n. 0 < n) (sym smaller) positive.1

  pub number-within : rest / (block / length r.1) < length r.1
  number-within = quotient-within rest (length r.1) (block / length r.1) block-positive
      (let e : length r.1 * (block / length r.1) ≡ block = ap (λ n. length r.1 * n) smaller ∙ sym counts in let l = h.within in omega arith)

  pub chooses-more : (t : ClosedType) → get_or r.1 (rest / (block / length r.1)) t ≡ t → Chooses rs number (i + 1) (done ++ (r.0, t) ∷ []) (block / length r.1) (rest % (block / length r.1))
  chooses-more t e = record {
    counted = smaller;
    within = let p = block-positive in omega arith;
    chosen =
        append_assoc done ((r.0, t) ∷ []) (get_or (choices_from (drop (i + 1) rs)) (rest % (block / length r.1)) [])
        ∙ ap (λ c. done ++ c) (sym next) ∙ h.chosen;
  }
    where
      next : get_or (choices_from (drop i rs)) rest [] ≡ (r.0, t) ∷ get_or (choices_from (drop (i + 1) rs)) (rest % (block / length r.1)) []
      next =
          ap (λ x. get_or (choices_from x) rest []) whole
          ∙ choice_at r (drop (i + 1) rs) rest t (let e = counts in let l = h.within in omega arith)
          ∙ (λ j. (r.0, (ap (λ n. get_or r.1 (rest / n) t) (sym smaller) ∙ e) j) ∷ get_or (choices_from (drop (i + 1) rs)) (rest % sym smaller j) [])
