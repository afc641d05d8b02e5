-- Plans as they are first made, and their rules.
use Rattle.std.proofs.Common.{◌≡◌, ℕ, zero, suc, ◌+◌, ◌<◌, List, [], ◌∷◌, ◌++◌, length, map, take, get_or, refl, sym, ap, ◌∙◌, inl, inr, arith, min}
use Rattle.std.specs.Prelude.{Some, slice_get, slice_index}
use Rattle.std.proofs.lemmas.List.{take_more, map-append, length-map}
use Rattle.std.proofs.lemmas.Bool.{cases_lt}
use Rattle.std.proofs.lemmas.Option.{get_or_from_slice_get, slice_get_within}
use Rattle.cls_base.specs.declared.rule.Rule.{Rule}
use Rattle.cls_base.specs.Languages.{rules_at}
use Rattle.cls_enum.specs.Plans.{nodes_of, AreFree, AreBounds, IsReady, AreReady, AllReady, rules_of, book_of}
use Rattle.cls_enum.specs.declared.plan.Place.{Place}
use Rattle.cls_enum.specs.declared.plan.Plan.{Plan}
use Rattle.cls_enum.proofs.CellLaws.{applied_length}
use Rattle.cls_enum.proofs.Members.{take-whole}

pub AreFree-push : (ps : List Place) (p : Place) → AreFree ps → p.least.items ≡ [] → AreFree (ps ++ p ∷ [])
AreFree-push [] p h e = (e, tt)
AreFree-push (q ∷ ps) p h e = (h.0, AreFree-push ps p h.1 e)

pub nodes_of-push : (ps : List Place) (p : Place) (nodes : List ℕ) (i : ℕ) → i < length nodes → nodes_of ps ≡ take i nodes → p.node ≡ get_or nodes i 0 → nodes_of (ps ++ p ∷ []) ≡ take (i + 1) nodes
nodes_of-push ps p nodes i l h e = map-append (λ (x : Place). x.node) ps (p ∷ []) ∙ (λ j. h j ++ e j ∷ []) ∙ sym (take_more nodes i 0 l)

-- places that say nothing bound nothing
pub AreFree-bounds : (book : List (List (Rule ℕ))) (cost : ℕ → ℕ) (s : ℕ) (ps : List Place) → AreFree ps → AreBounds book cost s ps
AreFree-bounds book cost s [] h = tt
AreFree-bounds book cost s (p ∷ ps) h = (
  omega (arith, ap length h.0),
  (λ rest f e a z.
      let q : slice_index p.least.items rest ≡ 0 = ap (λ (l : List ℕ). slice_index l rest) h.0 in
      inl (omega (arith, q, applied_length book cost a))),
  AreFree-bounds book cost s ps h.1,
)

pub AreReady-push : (book : List (List (Rule ℕ))) (cost : ℕ → ℕ) (s : ℕ) (ps : List Plan) (p : Plan) → AreReady book cost s ps → IsReady book cost s p → AreReady book cost s (ps ++ p ∷ [])
AreReady-push book cost s [] p h e = (e, tt)
AreReady-push book cost s (q ∷ ps) p h e = (h.0, AreReady-push book cost s ps p h.1 e)

pub AllReady-push : (book : List (List (Rule ℕ))) (cost : ℕ → ℕ) (s : ℕ) (ps : List (List Plan)) (p : List Plan) → AllReady book cost s ps → AreReady book cost s p → AllReady book cost s (ps ++ p ∷ [])
AllReady-push book cost s [] p h e = (e, tt)
AllReady-push book cost s (q ∷ ps) p h e = (h.0, AllReady-push book cost s ps p h.1 e)

pub take-map : {A B : Type 0} (f : A → B) (n : ℕ) (xs : List A) → map f (take n xs) ≡ take n (map f xs)
take-map f zero xs = refl
take-map f (suc n) [] = refl
take-map f (suc n) (x ∷ xs) = ap (λ ys. f x ∷ ys) (take-map f n xs)

pub take-least : {A : Type 0} (m n : ℕ) (xs : List A) → m ≡ min (length xs) n → take m xs ≡ take n xs
take-least m n xs p = elim (cases_lt n (length xs)) [
  | inl l ↦ let q : m ≡ n = omega arith in ap (λ (k : ℕ). take k xs) q
  | inr l ↦ take-whole m xs (omega arith) ∙ sym (take-whole n xs l)
]

-- a list that is made of another element by element
pub map-next : {A B C : Type 0} (f : A → C) (g : B → C) (xs : List A) (x : A) (ys : List B) (i : ℕ) (y : B) → i < length ys → y ≡ get_or ys i y → map f xs ≡ map g (take i ys) → f x ≡ g y → map f (xs ++ x ∷ []) ≡ map g (take (i + 1) ys)
map-next f g xs x ys i y l e p q =
    map-append f xs (x ∷ []) ∙ (λ j. p j ++ q j ∷ []) ∙ ap (λ z. map g (take i ys) ++ g z ∷ []) e
    ∙ sym (ap (map g) (take_more ys i y l) ∙ map-append g (take i ys) (get_or ys i y ∷ []))

pub map-taken : {A B : Type 0} (f : A → B) (xs : List A) (x : A) (ys : List B) (i : ℕ) (y : B) → slice_get ys i ≡ Some y → map f xs ≡ take i ys → f x ≡ y → map f (xs ++ x ∷ []) ≡ take (i + 1) ys
map-taken f xs x ys i y e p q =
    map-append f xs (x ∷ []) ∙ (λ j. p j ++ (q ∙ sym (get_or_from_slice_get ys i y y e)) j ∷ []) ∙ sym (take_more ys i y (slice_get_within ys i y e))

pub book_of-push : (plans : List (List Plan)) (ps : List Plan) (book : List (List (Rule ℕ))) (i : ℕ) → i < length book → book_of plans ≡ take i book → rules_of ps ≡ rules_at book i → book_of (plans ++ ps ∷ []) ≡ take (i + 1) book
book_of-push plans ps book i l p q = map-append rules_of plans (ps ∷ []) ∙ (λ j. p j ++ q j ∷ []) ∙ sym (take_more book i [] l)

pub one-place : (ps : List Place) (n : ℕ) → nodes_of ps ≡ n ∷ [] → length ps ≡ 1
one-place ps n p = omega (arith, length-map ps (λ (x : Place). x.node), ap length p)
