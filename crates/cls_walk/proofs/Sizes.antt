-- What forms come to, as it is kept beside them.
use Rattle.std.proofs.Common.{◌≡◌, ℕ, zero, suc, ◌+◌, ◌<◌, ◌≤◌, ◌^◌, List, [], ◌∷◌, ◌++◌, length, map, take, get_or, refl, sym, ap, ◌∙◌, subst, arith}
use Rattle.std.specs.Prelude.{slice_index, slice_index_or}
use Rattle.std.proofs.lemmas.List.{map-append, take_more}
use Rattle.cls_base.proofs.Lists.{take_whole}
use Rattle.cls_walk.specs.Counts.{HeadRule}
use Rattle.cls_walk.specs.Filled.{form_size, forms_at}
use Rattle.cls_walk.specs.Sizes.{sizes_of, HasSizes}
use Rattle.cls_walk.specs.Tables.{capped}
use Rattle.cls_walk.proofs.Building.{at-map, same-length}

-- what is left behind a form of a node, where the terms of the node may come to `slack` more than its least size
pub left-whole : (n size least slack left : ℕ) → least < 2 ^ 32 → slack < 2 ^ 32 → size ≡ capped n → least + slack ≡ size + left → least + slack ≡ n + left
left-whole n size least slack left k l p q = omega (arith, k, l, p, q)

module _ (cost : ℕ → ℕ) (least : List ℕ) where
  -- one form more
  pub sizes-next : (hs : List HeadRule) (i : ℕ) (h : HeadRule) (old new : List ℕ) (x : ℕ) → i < length hs → h ≡ get_or hs i h → old ≡ sizes_of cost least (take i hs) → x ≡ capped (form_size cost least h) → new ≡ old ++ x ∷ [] → new ≡ sizes_of cost least (take (i + 1) hs)
  sizes-next hs i h old new x l p o q n =
      let f : HeadRule → ℕ = λ g. capped (form_size cost least g) in
      let t : take (i + 1) hs ≡ take i hs ++ h ∷ [] = take_more hs i h l ∙ ap (λ (z : HeadRule). take i hs ++ z ∷ []) (sym p) in
      n ∙ (λ j. o j ++ q j ∷ []) ∙ sym (map-append f (take i hs) (h ∷ [])) ∙ ap (λ (gs : List HeadRule). map f gs) (sym t)

  -- all forms
  pub sizes-whole : (hs : List HeadRule) (i : ℕ) (sizes : List ℕ) → length hs ≤ i → sizes ≡ sizes_of cost least (take i hs) → sizes ≡ sizes_of cost least hs
  sizes-whole hs i sizes l p = p ∙ ap (λ (gs : List HeadRule). sizes_of cost least gs) (take_whole hs i l)

  -- one node more
  pub table-next : {A : Type 0} (f : A → List HeadRule) (vs : List A) (forms : List (List HeadRule)) (i : ℕ) (v : A) (fs : List HeadRule) (old new : List (List ℕ)) (x : List ℕ)
      → map f vs ≡ forms → i < length vs → v ≡ get_or vs i v → fs ≡ f v → HasSizes cost least (take i forms) old → x ≡ sizes_of cost least fs → new ≡ old ++ x ∷ [] → HasSizes cost least (take (i + 1) forms) new
  table-next f vs forms i v fs old new x p l q e o y n =
      let S : List HeadRule → List ℕ = λ hs. sizes_of cost least hs in
      let m : i < length forms = (let a = same-length f vs in let b = ap (λ (zs : List (List HeadRule)). length zs) p in omega (arith, a, b, l)) in
      let g : slice_index_or forms i [] ≡ fs = ap (λ (zs : List (List HeadRule)). slice_index_or zs i []) (sym p) ∙ at-map f vs i v l q ∙ sym e in
      let t : take (i + 1) forms ≡ take i forms ++ fs ∷ [] = take_more forms i [] m ∙ ap (λ (z : List HeadRule). take i forms ++ z ∷ []) g in
      n ∙ (λ j. o j ++ y j ∷ []) ∙ sym (map-append S (take i forms) (fs ∷ [])) ∙ ap (λ (zs : List (List HeadRule)). map S zs) (sym t)

  -- all nodes
  pub table-whole : {A : Type 0} (f : A → List HeadRule) (vs : List A) (forms : List (List HeadRule)) (i : ℕ) (table : List (List ℕ)) → map f vs ≡ forms → length vs ≤ i → HasSizes cost least (take i forms) table → HasSizes cost least forms table
  table-whole f vs forms i table p l h =
      let m : length forms ≤ i = (let a = same-length f vs in let b = ap (λ (zs : List (List HeadRule)). length zs) p in omega (arith, a, b, l)) in
      h ∙ ap (λ (zs : List (List HeadRule)). map (λ hs. sizes_of cost least hs) zs) (take_whole forms i m)

  column-of : (forms : List (List HeadRule)) (n : ℕ) → slice_index_or (map (λ hs. sizes_of cost least hs) forms) n [] ≡ sizes_of cost least (forms_at forms n)
  column-of [] zero = refl
  column-of [] (suc n) = refl
  column-of (hs ∷ forms) zero = refl
  column-of (hs ∷ forms) (suc n) = column-of forms n

  in-column : (hs : List HeadRule) (i : ℕ) (h : HeadRule) → i < length hs → h ≡ get_or hs i h → slice_index (sizes_of cost least hs) i ≡ capped (form_size cost least h)
  in-column [] i h l p = absurd (omega arith)
  in-column (g ∷ hs) zero h l p = ap (λ (z : HeadRule). capped (form_size cost least z)) (sym p)
  in-column (g ∷ hs) (suc i) h l p = in-column hs i h (omega arith) p

  -- what is kept for the form at a place of a node
  pub size-at : (forms : List (List HeadRule)) (table : List (List ℕ)) (column : List ℕ) (n : ℕ) (fs : List HeadRule) (i : ℕ) (h : HeadRule) (size : ℕ)
      → HasSizes cost least forms table → column ≡ slice_index_or table n [] → fs ≡ forms_at forms n → i < length fs → h ≡ get_or fs i h → size ≡ slice_index column i → size ≡ capped (form_size cost least h)
  size-at forms table column n fs i h size t c f l p s =
      let P : List HeadRule → Type 0 = λ gs. slice_index (sizes_of cost least gs) i ≡ capped (form_size cost least h) in
      let q : column ≡ sizes_of cost least (forms_at forms n) = c ∙ ap (λ (zs : List (List ℕ)). slice_index_or zs n []) t ∙ column-of forms n in
      s ∙ ap (λ (xs : List ℕ). slice_index xs i) q ∙ subst P f (in-column fs i h l p)
