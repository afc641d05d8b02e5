-- Codes that begin as the forms of nodes say are those of terms of the nodes, and none is smaller than the least sizes.
use Rattle.std.proofs.Common.{◌≡◌, ℕ, ◌+◌, ◌≤◌, List, [], ◌∷◌, ◌++◌, length, refl, sym, ap, ◌∙◌, subst, arith, append_assoc, append-nil, length-append}
use Rattle.cls_base.specs.Terms.{Applicative, component, apply, size_of, head_of, argument_codes, code_of}
use Rattle.cls_base.specs.Spines.{sizes_of, codes_of}
use Rattle.cls_base.specs.declared.rule.Rule.{Rule}
use Rattle.cls_base.specs.Languages.{IsGenerated}
use Rattle.cls_enum.specs.Members.{IsIn}
use Rattle.cls_enum.proofs.CellLaws.{costs_something}
use Rattle.cls_walk.specs.Counts.{HeadRule}
use Rattle.cls_walk.specs.Forms.{HasForm, Fills, AreForms}
use Rattle.cls_walk.specs.Filled.{forms_at, IsFilled, code_size, needs, AreLeast}
use Rattle.cls_walk.proofs.Forms.{as_many, fills-first, first-fills, none-fills, one-fills, fills-one}

pub needs-append : (least ms ns : List ℕ) → needs least (ms ++ ns) ≡ needs least ms + needs least ns
needs-append least [] ns = omega arith
needs-append least (m ∷ ms) ns = omega (arith, needs-append least ms ns)

pub filled-least : (forms : List (List HeadRule)) (cost : ℕ → ℕ) (least : List ℕ) → AreLeast forms cost least → (ns w : List ℕ) → IsFilled forms ns w → needs least ns ≤ code_size cost w
filled-least forms cost least l [] [] h = omega arith
filled-least forms cost least l [] (x ∷ w) h = absurd h
filled-least forms cost least l (n ∷ ns) [] h = absurd h
filled-least forms cost least l (n ∷ ns) (x ∷ []) h = absurd h
filled-least forms cost least l (n ∷ ns) (x ∷ k ∷ w) h =
    let ms = h.0 in
    let a = l n (x, ms) h.1 in
    let b = filled-least forms cost least l (ms ++ ns) w h.3 in
    let c = needs-append least ms ns in
    omega (arith, a, b, c)

-- what fills a node and further ones begins with one of the forms
pub filled-first : (forms : List (List HeadRule)) (n : ℕ) (ns w : List ℕ) → IsFilled forms (n ∷ ns) w → (h : HeadRule) × IsIn (forms_at forms n) h × (v : List ℕ) × (w ≡ h.0 ∷ length h.1 ∷ v) × IsFilled forms (h.1 ++ ns) v
filled-first forms n ns [] h = absurd h
filled-first forms n ns (x ∷ []) h = absurd h
filled-first forms n ns (x ∷ k ∷ w) h = ((x, h.0), h.1, w, ap (λ (j : ℕ). x ∷ j ∷ w) (sym h.2), h.3)

pub first-filled : (forms : List (List HeadRule)) (n : ℕ) (ns w : List ℕ) (h : HeadRule) (v : List ℕ) → IsIn (forms_at forms n) h → w ≡ h.0 ∷ length h.1 ∷ v → IsFilled forms (h.1 ++ ns) v → IsFilled forms (n ∷ ns) w
first-filled forms n ns w h v i p f =
    let P : List ℕ → Type 0 = λ u. IsFilled forms (n ∷ ns) u in
    subst P (sym p) (h.1, i, refl, f)

pub none-filled : (forms : List (List HeadRule)) (w : List ℕ) → IsFilled forms [] w → w ≡ []
none-filled forms [] h = refl
none-filled forms (x ∷ w) h = absurd h

-- a term's code has its size
arguments-size : (cost : ℕ → ℕ) (e : Applicative) (w : List ℕ) → cost (head_of e) + code_size cost (argument_codes e ++ w) ≡ size_of cost e + code_size cost w
arguments-size cost (component x) w = refl
arguments-size cost (apply f a) w =
    let p : code_size cost ((argument_codes f ++ code_of a) ++ w) ≡ code_size cost (argument_codes f ++ (code_of a ++ w)) = ap (code_size cost) (append_assoc (argument_codes f) (code_of a) w) in
    omega (arith, p, arguments-size cost f (code_of a ++ w), arguments-size cost a w)

code-size : (cost : ℕ → ℕ) (e : Applicative) (w : List ℕ) → code_size cost (code_of e ++ w) ≡ size_of cost e + code_size cost w
code-size cost e w = arguments-size cost e w

codes-size : (cost : ℕ → ℕ) (es : List Applicative) → code_size cost (codes_of es) ≡ sizes_of cost es
codes-size cost [] = refl
codes-size cost (e ∷ es) = omega (arith, code-size cost e (codes_of es), codes-size cost es)

one-size : (cost : ℕ → ℕ) (e : Applicative) → code_size cost (code_of e) ≡ size_of cost e
one-size cost e =
    let p : code_size cost (code_of e) ≡ code_size cost (code_of e ++ []) = ap (code_size cost) (sym (append-nil (code_of e))) in
    omega (arith, p, code-size cost e [])

-- equal numbers in front
first_same : (x y k m : ℕ) (v w : List ℕ) → x ∷ k ∷ v ≡ y ∷ m ∷ w → x ≡ y
first_same x y k m v w p = cc

second_same : (x y k m : ℕ) (v w : List ℕ) → x ∷ k ∷ v ≡ y ∷ m ∷ w → k ≡ m
second_same x y k m v w p = cc

rest_same : (x y k m : ℕ) (v w : List ℕ) → x ∷ k ∷ v ≡ y ∷ m ∷ w → v ≡ w
rest_same x y k m v w p = cc

module _ (book : List (List (Rule ℕ))) (cost : ℕ → ℕ) (positive : (x : ℕ) → 1 ≤ cost x) (forms : List (List HeadRule)) (most : ℕ) (o : (n : ℕ) → AreForms book most n (forms_at forms n)) where
  filled-fills : (ns w : List ℕ) → IsFilled forms ns w → Fills book ns w
  filled-fills [] [] h = ([], tt, refl)
  filled-fills [] (x ∷ w) h = absurd h
  filled-fills (n ∷ ns) [] h = absurd h
  filled-fills (n ∷ ns) (x ∷ []) h = absurd h
  filled-fills (n ∷ ns) (x ∷ k ∷ w) h =
      let ms = h.0 in
      let P : ℕ → Type 0 = λ j. Fills book (n ∷ ns) (x ∷ j ∷ w) in
      subst P h.2 (first-fills book n x ms ns w ((o n).each (x, ms) h.1) (filled-fills (ms ++ ns) w h.3))

  sizes-many : (es : List Applicative) → length es ≤ sizes_of cost es
  sizes-many [] = omega arith
  sizes-many (e ∷ es) = omega (arith, costs_something cost positive e, sizes-many es)

  fills-many : (ns w : List ℕ) → Fills book ns w → length ns ≤ code_size cost w
  fills-many ns w h =
      let es = h.0 in
      let p : code_size cost w ≡ code_size cost (codes_of es) = ap (code_size cost) h.2 in
      omega (arith, as_many book ns es h.1, sizes-many es, codes-size cost es, p)

  fills-filled : (ns w : List ℕ) → Fills book ns w → code_size cost w ≤ most + 1 → IsFilled forms ns w
  fills-filled [] [] h l = tt
  fills-filled [] (x ∷ w) h l = absurd (let p = none-fills book (x ∷ w) h in cc)
  fills-filled (n ∷ ns) [] h l = absurd (let p = (fills-first book n ns [] h).4 in cc)
  fills-filled (n ∷ ns) (x ∷ []) h l = absurd (let p = (fills-first book n ns (x ∷ []) h).4 in cc)
  fills-filled (n ∷ ns) (x ∷ k ∷ w) h l =
      let r = fills-first book n ns (x ∷ k ∷ w) h in
      let y = r.0 in
      let ms = r.1 in
      let v = r.2 in
      let P : List ℕ → Type 0 = λ u. Fills book (ms ++ ns) u in
      let Q : ℕ → Type 0 = λ u. HasForm book n u ms in
      let f : Fills book (ms ++ ns) w = subst P (sym (rest_same x y k (length ms) w v r.4)) r.5 in
      let c = fills-many (ms ++ ns) w f in
      let few : length ms ≤ most = omega (arith, c, length-append ms ns, positive x, l) in (
        ms,
        (o n).all x ms (subst Q (sym (first_same x y k (length ms) w v r.4)) r.3) few,
        sym (second_same x y k (length ms) w v r.4),
        fills-filled (ms ++ ns) w f (omega (arith, positive x, l)),
      )

  -- where one node is awaited, the codes of its terms of the size fill it
  pub filled-one : (n size : ℕ) (w : List ℕ) → IsFilled forms (n ∷ []) w → code_size cost w ≡ size → (e : Applicative) × IsGenerated book n e × (size_of cost e ≡ size) × (w ≡ code_of e)
  filled-one n size w h s =
      let r = one-fills book n w (filled-fills (n ∷ []) w h) in
      (r.0, r.1, sym (one-size cost r.0) ∙ ap (code_size cost) (sym r.2) ∙ s, r.2)

  pub one-filled : (n size : ℕ) (e : Applicative) → IsGenerated book n e → size_of cost e ≡ size → size ≤ most + 1 → IsFilled forms (n ∷ []) (code_of e) × (code_size cost (code_of e) ≡ size)
  one-filled n size e g s l =
      let p : code_size cost (code_of e) ≡ size = one-size cost e ∙ s in
      (fills-filled (n ∷ []) (code_of e) (fills-one book n e g) (omega (arith, p, l)), p)
