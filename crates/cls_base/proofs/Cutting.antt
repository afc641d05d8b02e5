-- Lists that are cut from one column.
use Rattle.std.proofs.Common.{◌≡◌, ℕ, zero, suc, ◌+◌, ◌-◌, ◌<◌, ◌≤◌, List, [], ◌∷◌, ◌++◌, length, length-append, take, drop, get_or, refl, sym, ap, ◌∙◌, subst, arith}
use Rattle.std.specs.Prelude.{slice_index, slice_index_or}
use Rattle.std.proofs.Math.Seq.{take-append_seam, drop-append_seam}
use Rattle.std.proofs.lemmas.List.{length-take-le, take_all}
use Rattle.cls_base.specs.Cuts.{cut, AreEnds}

pub ends-rise : (start last : ℕ) (ends : List ℕ) → AreEnds start last ends → start ≤ last
ends-rise start last [] h = omega (arith, h)
ends-rise start last (e ∷ ends) h = omega (arith, h.0, ends-rise e last ends h.1)

pub ends-push : (start last end : ℕ) (ends : List ℕ) → AreEnds start last ends → last ≤ end → AreEnds start end (ends ++ end ∷ [])
ends-push start last end [] h l = (omega (arith, h, l), refl)
ends-push start last end (e ∷ ends) h l = (h.0, ends-push e last end ends h.1 l)

-- the places of a list are in their order, and within
pub ends-at : (start last : ℕ) (ends : List ℕ) (i : ℕ) → AreEnds start last ends → i < length ends → (slice_index (start ∷ ends) i ≤ slice_index ends i) × (slice_index ends i ≤ last)
ends-at start last [] i h l = absurd (omega arith)
ends-at start last (e ∷ ends) zero h l = (h.0, ends-rise e last ends h.1)
ends-at start last (e ∷ ends) (suc i) h l = ends-at e last ends i h.1 (omega arith)

pub place-at : (ends : List ℕ) (i x : ℕ) → i < length ends → x ≡ get_or ends i x → x ≡ slice_index ends i
place-at [] i x l p = absurd (omega arith)
place-at (e ∷ ends) zero x l p = p
place-at (e ∷ ends) (suc i) x l p = place-at ends i x (omega arith) p

-- where the first lists end
pub ends-front : (start last : ℕ) (ends : List ℕ) (k : ℕ) → AreEnds start last ends → k ≤ length ends → AreEnds start (slice_index (start ∷ ends) k) (take k ends) × (slice_index (start ∷ ends) k ≤ last)
ends-front start last ends zero h l = (refl, ends-rise start last ends h)
ends-front start last [] (suc k) h l = absurd (omega arith)
ends-front start last (e ∷ ends) (suc k) h l =
    let r = ends-front e last ends k h.1 (omega arith) in
    ((h.0, r.0), r.1)

module _ {A : Type 0} where
  pub length-cut : (xs : List A) (start : ℕ) (ends : List ℕ) → length (cut xs start ends) ≡ length ends
  length-cut xs start [] = refl
  length-cut xs start (e ∷ ends) = ap suc (length-cut xs e ends)

  -- a part of a front
  take-front : (k m : ℕ) (xs : List A) → k ≤ m → take k (take m xs) ≡ take k xs
  take-front zero m xs l = refl
  take-front (suc k) zero xs l = absurd (omega arith)
  take-front (suc k) (suc m) [] l = refl
  take-front (suc k) (suc m) (x ∷ xs) l = ap (λ (ys : List A). x ∷ ys) (take-front k m xs (omega arith))

  part-front : (s k m : ℕ) (xs : List A) → s + k ≤ m → take k (drop s (take m xs)) ≡ take k (drop s xs)
  part-front zero k m xs l = take-front k m xs (omega arith)
  part-front (suc s) k zero xs l = absurd (omega arith)
  part-front (suc s) k (suc m) [] l = refl
  part-front (suc s) k (suc m) (x ∷ xs) l = part-front s k m xs (omega arith)

  -- lists that end within a front are cut from the front alone
  pub cut-front : (xs : List A) (m start : ℕ) (ends : List ℕ) → AreEnds start m ends → cut (take m xs) start ends ≡ cut xs start ends
  cut-front xs m start [] h = refl
  cut-front xs m start (e ∷ ends) h =
      let l = ends-rise e m ends h.1 in
      λ i. part-front start (e - start) m xs (omega (arith, h.0, l)) i ∷ cut-front xs m e ends h.1 i

  cut-last : (xs ys : List A) (end start : ℕ) (ends : List ℕ) → AreEnds start (length xs) ends → end ≡ length (xs ++ ys) → cut (xs ++ ys) start (ends ++ end ∷ []) ≡ cut (xs ++ ys) start ends ++ ys ∷ []
  cut-last xs ys end start [] h p =
      let q : end - start ≡ length ys = omega (arith, h, p, length-append xs ys) in
      let P : ℕ → ℕ → Type 0 = λ k s. take k (drop s (xs ++ ys)) ≡ ys in
      let a : take (length ys) (drop (length xs) (xs ++ ys)) ≡ ys = ap (take (length ys)) (drop-append_seam xs ys) ∙ take_all (length ys) ys (omega arith) in
      let b : P (end - start) (length xs) = subst (λ (k : ℕ). P k (length xs)) (sym q) a in
      ap (λ (zs : List A). zs ∷ []) (subst (λ (s : ℕ). P (end - start) s) (sym h) b)
  cut-last xs ys end start (e ∷ ends) h p =
      ap (λ (zs : List (List A)). take (e - start) (drop start (xs ++ ys)) ∷ zs) (cut-last xs ys end e ends h.1 p)

  -- one list more
  pub cut-push : (xs ys : List A) (end : ℕ) (ends : List ℕ) → AreEnds 0 (length xs) ends → end ≡ length (xs ++ ys) → cut (xs ++ ys) 0 (ends ++ end ∷ []) ≡ cut xs 0 ends ++ ys ∷ []
  cut-push xs ys end ends h p =
      let f = cut-front (xs ++ ys) (length xs) 0 ends h in
      let g : cut xs 0 ends ≡ cut (xs ++ ys) 0 ends = ap (λ (zs : List A). cut zs 0 ends) (sym (take-append_seam xs ys)) ∙ f in
      cut-last xs ys end 0 ends h p ∙ ap (λ (zs : List (List A)). zs ++ ys ∷ []) (sym g)

  -- the list at a place
  pub cut-at : (xs : List A) (start : ℕ) (ends : List ℕ) (i : ℕ) → i < length ends → slice_index_or (cut xs start ends) i [] ≡ take (slice_index ends i - slice_index (start ∷ ends) i) (drop (slice_index (start ∷ ends) i) xs)
  cut-at xs start [] i l = absurd (omega arith)
  cut-at xs start (e ∷ ends) zero l = refl
  cut-at xs start (e ∷ ends) (suc i) l = cut-at xs e ends i (omega arith)

  cut-take : (xs : List A) (start : ℕ) (ends : List ℕ) (k : ℕ) → cut xs start (take k ends) ≡ take k (cut xs start ends)
  cut-take xs start ends zero = refl
  cut-take xs start [] (suc k) = refl
  cut-take xs start (e ∷ ends) (suc k) = ap (λ (zs : List (List A)). take (e - start) (drop start xs) ∷ zs) (cut-take xs e ends k)

  -- the first lists alone
  pub cut-fewer : (xs : List A) (ends : List ℕ) (k m : ℕ) → AreEnds 0 (length xs) ends → k ≤ length ends → m ≡ slice_index (0 ∷ ends) k → cut (take m xs) 0 (take k ends) ≡ take k (cut xs 0 ends)
  cut-fewer xs ends k m h l p =
      let r = ends-front 0 (length xs) ends k h l in
      cut-front xs m 0 (take k ends) (subst (λ (j : ℕ). AreEnds 0 j (take k ends)) (sym p) r.0) ∙ cut-take xs 0 ends k

  pub ends-fewer : (xs : List A) (ends : List ℕ) (k m : ℕ) → AreEnds 0 (length xs) ends → k ≤ length ends → m ≡ slice_index (0 ∷ ends) k → AreEnds 0 (length (take m xs)) (take k ends)
  ends-fewer xs ends k m h l p =
      let r = ends-front 0 (length xs) ends k h l in
      let q : slice_index (0 ∷ ends) k ≡ length (take m xs) = sym p ∙ sym (length-take-le m xs (omega (arith, p, r.1))) in
      subst (λ (j : ℕ). AreEnds 0 j (take k ends)) q r.0

  -- where there are no more
  pub cut-no_more : (xs : List A) (ends : List ℕ) (k : ℕ) → length ends ≤ k → cut xs 0 ends ≡ take k (cut xs 0 ends)
  cut-no_more xs ends k l = sym (take_all k (cut xs 0 ends) (omega (arith, l, length-cut xs 0 ends)))

pub ruleset cuts = (length-cut, cut-push, ends-push, cut-at, ends-at, cut-fewer, ends-fewer, cut-no_more, length-append)
