-- What a template counts of its segments, and the length that follows from it.
use Rattle.std.proofs.Common.{◌≡◌, ℕ, ◌+◌, ◌-◌, ◌*◌, ◌<◌, ◌≤◌, List, [], ◌∷◌, ◌++◌, length, max, get_or, set, refl, sym, ap, ◌∙◌, subst, arith, suc, zero, inl, inr, string_bytes}
use Rattle.std.specs.Prelude.{◌==◌, true, false}
use Rattle.std.specs.List.{AllByRecursion}
use Rattle.std.proofs.lemmas.Bool.{cases_lt, cases_eq, eq-eqb, ne_eqb}
use Rattle.std.proofs.lemmas.List.{get_or-set_other, get_or_default, length-set}
use Rattle.std.proofs.lemmas.Grind.{get_or-set_at}
use Rattle.std.proofs.Math.Nat.{mul-zero, zero-mul, mul-one, mul-add, mul_comm, le-mul_of_pos_right}
use Rattle.cls_assemble.specs.declared.piece.Piece.TheVariants.{Hole}
use Rattle.cls_assemble.specs.declared.counts.Counts.{Counts}
use Rattle.cls_assemble.specs.declared.template.Segment.{Segment}
use Rattle.cls_assemble.specs.Segments.{pieces_in}
use Rattle.cls_assemble.specs.Texts.{greatest_hole}
use Rattle.cls_assemble.specs.Lengths.{pieces_length, capped_length}
use Rattle.cls_assemble.specs.Counts.{bytes_in, holes_in, AreCounted, products}
use Rattle.cls_assemble.proofs.Lengths.{pieces_length-bytes, pieces_length-all_bytes, greatest_hole-bytes}

abbrev pub zeros : List ℕ
zeros = 0 ∷ 0 ∷ 0 ∷ 0 ∷ 0 ∷ 0 ∷ 0 ∷ 0 ∷ 0 ∷ 0 ∷ 0 ∷ 0 ∷ 0 ∷ 0 ∷ 0 ∷ 0 ∷ []

zeros_from : (xs : List ℕ) → AllByRecursion (λ (x : ℕ). x ≡ 0) xs → (k : ℕ) → get_or xs k 0 ≡ 0
zeros_from [] h k = refl
zeros_from (x ∷ xs) h zero = h.0
zeros_from (x ∷ xs) h (suc k) = zeros_from xs h.1 k

zeros_at : (k : ℕ) → ◌≡◌ {A = ℕ} (get_or zeros k 0) 0
zeros_at k = zeros_from zeros (refl, (refl, (refl, (refl, (refl, (refl, (refl, (refl, (refl, (refl, (refl, (refl, (refl, (refl, (refl, (refl, tt)))))))))))))))) k

pub AreCounted-none : AreCounted (record { bytes = 0; holes = zeros; greatest = 0 }) []
AreCounted-none = record { size = refl; bytes = refl; holes = λ k m. zeros_at k; greatest = refl }

holes_in-same : (n : ℕ) (s : Segment) (ss : List Segment) → s.number ≡ n → holes_in n (s ∷ ss) ≡ 1 + holes_in n ss
holes_in-same n s ss e = let t : (s.number == n) ≡ true = eq-eqb s.number n e in rw t refl

holes_in-other : (n : ℕ) (s : Segment) (ss : List Segment) → (s.number ≡ n → ⊥) → holes_in n (s ∷ ss) ≡ holes_in n ss
holes_in-other n s ss e = let t : (s.number == n) ≡ false = ne_eqb s.number n e in rw t (omega arith)

-- one more segment at the end
holes_in-push : (n : ℕ) (ss : List Segment) (s : Segment) → holes_in n (ss ++ s ∷ []) ≡ holes_in n ss + holes_in n (s ∷ [])
holes_in-push n [] s = omega arith
holes_in-push n (t ∷ ss) s = omega (arith, holes_in-push n ss s)

bytes_in-push : (ss : List Segment) (s : Segment) → bytes_in (ss ++ s ∷ []) ≡ bytes_in ss + length (string_bytes s.text)
bytes_in-push [] s = omega arith
bytes_in-push (t ∷ ss) s = omega (arith, bytes_in-push ss s)

greatest_hole-push : (ss : List Segment) (s : Segment) → greatest_hole (pieces_in (ss ++ s ∷ []) []) ≡ max (greatest_hole (pieces_in ss [])) s.number
greatest_hole-push [] s = let one = greatest_hole-bytes (string_bytes s.text) (Hole s.number ∷ []) in omega (arith, one)
greatest_hole-push (t ∷ ss) s =
    let before = greatest_hole-bytes (string_bytes t.text) (Hole t.number ∷ pieces_in ss []) in
    let behind = greatest_hole-bytes (string_bytes t.text) (Hole t.number ∷ pieces_in (ss ++ s ∷ []) []) in
    omega (arith, before, behind, greatest_hole-push ss s)

hole-counted : (c d : Counts) (ss : List Segment) (s : Segment) → AreCounted c ss → d.holes ≡ set c.holes (s.number - 1) (capped_length (get_or c.holes (s.number - 1) 0 + 1)) → (k : ℕ) → k < 16 → get_or d.holes k 0 ≡ capped_length (holes_in (k + 1) (ss ++ s ∷ []))
hole-counted c d ss s h holes k m =
    let new : ℕ = capped_length (get_or c.holes (s.number - 1) 0 + 1) in
    let read = ap (λ (xs : List ℕ). get_or xs k 0) holes in
    let old = h.holes k m in
    let more = holes_in-push (k + 1) ss s in
    elim (cases_eq s.number (k + 1)) as (λ _. get_or d.holes k 0 ≡ capped_length (holes_in (k + 1) (ss ++ s ∷ []))) [
      | inl same ↦
          let place : k ≡ s.number - 1 = omega arith in
          let there = get_or-set_at c.holes (s.number - 1) k new 0 place (omega (arith, h.size, place, m)) in
          let before = ap (λ (i : ℕ). get_or c.holes i 0) place in
          omega (arith, read, old, more, there, before, holes_in-same (k + 1) s [] same)
      | inr other ↦
          let place : k ≡ s.number - 1 → ⊥ = λ e. other (omega (arith, e, s.least)) in
          let there = get_or-set_other c.holes (s.number - 1) k new 0 place in
          omega (arith, read, old, more, there, holes_in-other (k + 1) s [] other)
    ]

pub AreCounted-more : (c d : Counts) (ss items : List Segment) (s : Segment) → items ≡ ss ++ s ∷ [] → AreCounted c ss → d.bytes ≡ capped_length (c.bytes + length (string_bytes s.text)) → d.holes ≡ set c.holes (s.number - 1) (capped_length (get_or c.holes (s.number - 1) 0 + 1)) → d.greatest ≡ max c.greatest s.number → AreCounted d items
AreCounted-more c d ss items s e h bytes holes greatest =
    let counted : AreCounted d (ss ++ s ∷ []) = record {
      size = ap length holes ∙ (length-set c.holes (s.number - 1) (capped_length (get_or c.holes (s.number - 1) 0 + 1)) ∙ h.size);
      bytes = omega (arith, bytes, h.bytes, bytes_in-push ss s);
      holes = λ k m. hole-counted c d ss s h holes k m;
      greatest = omega (arith, greatest, h.greatest, greatest_hole-push ss s);
    } in
    subst (λ (xs : List Segment). AreCounted d xs) (sym e) counted

-- sums that are equal part by part
capped_length-sum : (a b x y : ℕ) → capped_length a ≡ capped_length b → capped_length x ≡ capped_length y → capped_length (a + x) ≡ capped_length (b + y)
capped_length-sum a b x y h k = omega (arith, h, k)

sum-none : (a x : ℕ) → a ≡ 0 → x ≡ 0 → a + x ≡ 0
sum-none a x h k = omega arith

sum-under : (a b g x y : ℕ) → a ≡ g + b → x ≡ y → a + x ≡ g + (b + y)
sum-under a b g x y h k = omega arith

sum-last : (a b g l m x y : ℕ) → a ≡ b → x ≡ m + y → m ≡ l → g ≡ l → a + x ≡ g + (b + y)
sum-last a b g l m x y h k e p = omega arith

-- a count over the limit may count as one more than it
mul-over : (n b : ℕ) → 0 < n → 65537 ≤ b → capped_length (n * b) ≡ 65537
mul-over n b p h =
    let more : b ≤ b * n = le-mul_of_pos_right {m = n} b p in
    let same : n * b ≡ b * n = mul_comm n b in
    omega (arith, more, same)

mul-capped : (n c : ℕ) → capped_length (n * capped_length c) ≡ capped_length (n * c)
mul-capped n c =
    elim (cases_lt 65537 c) as (λ _. capped_length (n * capped_length c) ≡ capped_length (n * c)) [
      | inl more ↦ elim (cases_lt 0 n) as (λ _. capped_length (n * capped_length c) ≡ capped_length (n * c)) [
        | inl some ↦ mul-over n (capped_length c) some (omega arith) ∙ sym (mul-over n c some (omega arith))
        | inr none ↦
            let nothing : n ≡ 0 = omega arith in
            let left = ap (λ (k : ℕ). k * capped_length c) nothing ∙ zero-mul (capped_length c) in
            let right = ap (λ (k : ℕ). k * c) nothing ∙ zero-mul c in
            ap capped_length (left ∙ sym right)
      ]
      | inr most ↦ let same : capped_length c ≡ c = omega arith in ap (λ (k : ℕ). capped_length (n * k)) same
    ]

-- the lengths of the first holes, so many, each as often as it stands among the segments
abbrev pub counted_length : List Segment → List ℕ → ℕ → ℕ
counted_length ss lengths zero = 0
counted_length ss lengths (suc k) = counted_length ss lengths k + get_or lengths k 0 * holes_in (k + 1) ss

pub products-counted : (c : Counts) (ss : List Segment) (lengths : List ℕ) (k : ℕ) → k ≤ 16 → AreCounted c ss → capped_length (products lengths c.holes k) ≡ capped_length (counted_length ss lengths k)
products-counted c ss lengths zero m h = refl
products-counted c ss lengths (suc k) m h =
    let one = ap (λ (n : ℕ). get_or lengths k 0 * n) (h.holes k (omega arith)) in
    let cap = mul-capped (get_or lengths k 0) (holes_in (k + 1) ss) in
    capped_length-sum (products lengths c.holes k) (counted_length ss lengths k) (get_or lengths k 0 * get_or c.holes k 0) (get_or lengths k 0 * holes_in (k + 1) ss) (products-counted c ss lengths k (omega arith) h) (ap capped_length one ∙ cap)

counted_length-none : (lengths : List ℕ) (k : ℕ) → counted_length [] lengths k ≡ 0
counted_length-none lengths zero = refl
counted_length-none lengths (suc k) = sum-none (counted_length [] lengths k) (get_or lengths k 0 * 0) (counted_length-none lengths k) (mul-zero (get_or lengths k 0))

-- one more segment in front
counted_length-over : (s : Segment) (ss : List Segment) (lengths : List ℕ) (k : ℕ) → k < s.number → counted_length (s ∷ ss) lengths k ≡ counted_length ss lengths k
counted_length-over s ss lengths zero l = refl
counted_length-over s ss lengths (suc k) l =
    let one = ap (λ (n : ℕ). get_or lengths k 0 * n) (holes_in-other (k + 1) s ss (λ e. omega (arith, e))) in
    let before = counted_length-over s ss lengths k (omega arith) in
    λ i. before i + one i

counted_length-under : (s : Segment) (ss : List Segment) (lengths : List ℕ) (k : ℕ) → s.number ≤ k → counted_length (s ∷ ss) lengths k ≡ get_or lengths (s.number - 1) 0 + counted_length ss lengths k
counted_length-under s ss lengths zero l = absurd (omega (arith, s.least))
counted_length-under s ss lengths (suc k) l =
    elim (cases_lt k s.number) as (λ _. counted_length (s ∷ ss) lengths (suc k) ≡ get_or lengths (s.number - 1) 0 + counted_length ss lengths (suc k)) [
      | inl last ↦
          let same : s.number ≡ k + 1 = omega arith in
          let place : s.number - 1 ≡ k = omega arith in
          let one = ap (λ (n : ℕ). get_or lengths k 0 * n) (holes_in-same (k + 1) s ss same) ∙ mul-add (get_or lengths k 0) 1 (holes_in (k + 1) ss) in
          sum-last (counted_length (s ∷ ss) lengths k) (counted_length ss lengths k) (get_or lengths (s.number - 1) 0) (get_or lengths k 0) (get_or lengths k 0 * 1) (get_or lengths k 0 * holes_in (k + 1) (s ∷ ss)) (get_or lengths k 0 * holes_in (k + 1) ss) (counted_length-over s ss lengths k last) one (mul-one (get_or lengths k 0)) (ap (λ (i : ℕ). get_or lengths i 0) place)
      | inr less ↦
          let one = ap (λ (n : ℕ). get_or lengths k 0 * n) (holes_in-other (k + 1) s ss (λ e. omega (arith, e))) in
          sum-under (counted_length (s ∷ ss) lengths k) (counted_length ss lengths k) (get_or lengths (s.number - 1) 0) (get_or lengths k 0 * holes_in (k + 1) (s ∷ ss)) (get_or lengths k 0 * holes_in (k + 1) ss) (counted_length-under s ss lengths k less) one
    ]

pub pieces_length-segments : (lengths : List ℕ) (ss : List Segment) (tail : List ℕ) → length lengths ≡ 16 → pieces_length lengths (pieces_in ss tail) ≡ bytes_in ss + (counted_length ss lengths (length lengths) + length tail)
pieces_length-segments lengths [] tail size = omega (arith, pieces_length-all_bytes lengths tail, counted_length-none lengths (length lengths))
pieces_length-segments lengths (s ∷ ss) tail size =
    let text = pieces_length-bytes lengths (string_bytes s.text) (Hole s.number ∷ pieces_in ss tail) in
    let place = get_or_default lengths (s.number - 1) 0 1 (omega (arith, s.least, s.most, size)) in
    let one = counted_length-under s ss lengths (length lengths) (omega (arith, s.most, size)) in
    omega (arith, text, place, one, pieces_length-segments lengths ss tail size)
