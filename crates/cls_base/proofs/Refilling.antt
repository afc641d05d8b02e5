-- Lists that are cut from one column, and other elements in that column.
use Rattle.std.proofs.Common.{◌≡◌, ℕ, zero, suc, ◌+◌, ◌-◌, List, [], ◌∷◌, ◌++◌, length, map, take, drop, refl, sym, ap, ◌∙◌, arith}
use Rattle.std.specs.List.{concat, flat_map}
use Prim.Native.Nat.{min}
use Rattle.std.proofs.lemmas.List.{take-append-drop, length-take, length-drop, take-map, drop-map}
use Rattle.std.proofs.lemmas.List.Concat.{concat_is}
use Rattle.std.proofs.Math.ListN.{drop_of_length-le}
use Rattle.cls_base.specs.Cuts.{cut, AreEnds}

module _ {A : Type 0} where
  drop-drop : (m k n : ℕ) (xs : List A) → n ≡ m + k → drop k (drop m xs) ≡ drop n xs
  drop-drop zero k n xs p = ap (λ (j : ℕ). drop j xs) (omega (arith, p))
  drop-drop (suc m) k zero xs p = absurd (omega (arith, p))
  drop-drop (suc m) k (suc n) [] p = drop_of_length-le [] (omega arith)
  drop-drop (suc m) k (suc n) (x ∷ xs) p = drop-drop m k n xs (omega (arith, p))

  joined-from : (xs : List A) (start : ℕ) (ends : List ℕ) → AreEnds start (length xs) ends → flat_map (λ ys. ys) (cut xs start ends) ≡ drop start xs
  joined-from xs start [] h = sym (drop_of_length-le xs (omega (arith, h)))
  joined-from xs start (e ∷ ends) h =
      ap (λ (ys : List A). take (e - start) (drop start xs) ++ ys) (joined-from xs e ends h.1 ∙ sym (drop-drop start (e - start) e xs (omega (arith, h.0))))
      ∙ take-append-drop (e - start) (drop start xs)

  -- all elements of the lists are the column
  pub joined-cut : (xs : List A) (ends : List ℕ) → AreEnds 0 (length xs) ends → flat_map (λ ys. ys) (cut xs 0 ends) ≡ xs
  joined-cut xs ends h = joined-from xs 0 ends h

pub concat-cut : (ns ends : List ℕ) → AreEnds 0 (length ns) ends → concat (cut ns 0 ends) ≡ ns
concat-cut ns ends h = concat_is (cut ns 0 ends) ∙ joined-cut ns ends h

module _ {A B : Type 0} where
  -- other elements by a function
  pub cut-map : (f : A → B) (xs : List A) (start : ℕ) (ends : List ℕ) → cut (map f xs) start ends ≡ map (map f) (cut xs start ends)
  cut-map f xs start [] = refl
  cut-map f xs start (e ∷ ends) =
      let p : take (e - start) (drop start (map f xs)) ≡ map f (take (e - start) (drop start xs)) = ap (take (e - start)) (drop-map f start xs) ∙ take-map f (e - start) (drop start xs) in
      λ i. p i ∷ cut-map f xs e ends i

  -- the lengths depend on the ends alone
  pub cut-lengths : (ys : List B) (xs : List A) (start : ℕ) (ends : List ℕ) → length ys ≡ length xs → map length (cut ys start ends) ≡ map length (cut xs start ends)
  cut-lengths ys xs start [] p = refl
  cut-lengths ys xs start (e ∷ ends) p =
      let q : length (take (e - start) (drop start ys)) ≡ min (e - start) (length ys - start) = length-take (e - start) (drop start ys) ∙ ap (min (e - start)) (length-drop start ys) in
      let r : length (take (e - start) (drop start xs)) ≡ min (e - start) (length xs - start) = length-take (e - start) (drop start xs) ∙ ap (min (e - start)) (length-drop start xs) in
      let s = q ∙ (ap (λ (n : ℕ). min (e - start) (n - start)) p ∙ sym r) in
      λ i. s i ∷ cut-lengths ys xs e ends p i
