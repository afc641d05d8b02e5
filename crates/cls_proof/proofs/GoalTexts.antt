-- What a text spells by a table that grows, and its spread by any table.
use Rattle.std.proofs.Common.{◌≡◌, ℕ, ◌+◌, ◌*◌, ◌<◌, ◌≤◌, true, false, cond, not, List, [], ◌∷◌, ◌++◌, refl, ap, sym, ◌∙◌, subst, length, arith, length-append}
use Rattle.std.specs.Prelude.{max, if◌then◌else◌}
use Rattle.std.specs.List.{list_any}
use Rattle.std.specs.Str.{bytes_eq}
use Rattle.cls_base.specs.Types as types
use Rattle.cls_base.specs.Types.{ClosedType, path_count, spread}
use Rattle.cls_base.specs.Schemas as schema
use Rattle.cls_base.specs.Schemas.{OpenType}
use Rattle.cls_lexer.specs.Names.{number_of, with_text, with_texts}
use Rattle.cls_syntax.specs.ClosedTypes.{opened, Spells}
use Rattle.cls_syntax.specs.TypePrinting.{HasNamesBelow}
use Rattle.cls_syntax.specs.TypeSchemas.{type_schema, meet_schema, product_schema, atom_schema}
use Rattle.cls_syntax.specs.TypeTexts.{TypeText, MeetText, ProductText, AtomText, only_meet, arrow, only_product, meet, only_atom, product, named, applied, variable, inside}
use Rattle.cls_syntax.specs.TypeTexts as grammar

-- the number of paths and the spread of a type that may have variables
abbrev of_constructor : ℕ × ℕ → ℕ × ℕ
of_constructor s = (max 1 s.0, s.1 + max 1 s.0)

abbrev of_product : ℕ × ℕ → ℕ × ℕ → ℕ × ℕ
of_product s t = (max 1 (s.0 + t.0), s.1 + t.1 + max 1 (s.0 + t.0))

abbrev of_arrow : ℕ × ℕ → ℕ × ℕ → ℕ × ℕ
of_arrow s t = (t.0, t.1 + t.0 * (1 + s.1))

abbrev of_meet : ℕ × ℕ → ℕ × ℕ → ℕ × ℕ
of_meet s t = (s.0 + t.0, s.1 + t.1)

abbrev weight : OpenType → ℕ × ℕ
weight schema.omega = (0, 0)
weight (schema.constructor c s) = of_constructor (weight s)
weight (schema.product s t) = of_product (weight s) (weight t)
weight (schema.arrow s t) = of_arrow (weight s) (weight t)
weight (schema.meet s t) = of_meet (weight s) (weight t)
weight (schema.variable v) = (0, 0)

closed_weight : (t : ClosedType) → weight (opened t) ≡ (path_count t, spread t)
closed_weight types.omega = refl
closed_weight (types.constructor c s) = λ i. of_constructor (closed_weight s i)
closed_weight (types.product s t) = λ i. of_product (closed_weight s i) (closed_weight t i)
closed_weight (types.arrow s t) = λ i. of_arrow (closed_weight s i) (closed_weight t i)
closed_weight (types.meet s t) = λ i. of_meet (closed_weight s i) (closed_weight t i)

module _ (c c' v : List ℕ → ℕ) where
  mutual
    type_weight : (t : TypeText) → weight (type_schema c v t) ≡ weight (type_schema c' v t)
    type_weight (only_meet m) = meet_weight m
    type_weight (arrow m t) = λ i. of_arrow (meet_weight m i) (type_weight t i)

    meet_weight : (m : MeetText) → weight (meet_schema c v m) ≡ weight (meet_schema c' v m)
    meet_weight (only_product p) = product_weight p
    meet_weight (meet m p) = λ i. of_meet (meet_weight m i) (product_weight p i)

    product_weight : (p : ProductText) → weight (product_schema c v p) ≡ weight (product_schema c' v p)
    product_weight (only_atom a) = atom_weight a
    product_weight (product p a) = λ i. of_product (product_weight p i) (atom_weight a i)

    atom_weight : (a : AtomText) → weight (atom_schema c v a) ≡ weight (atom_schema c' v a)
    atom_weight grammar.omega = refl
    atom_weight (named x) = refl
    atom_weight (applied x t) = λ i. of_constructor (type_weight t i)
    atom_weight (variable x) = refl
    atom_weight (inside t) = type_weight t

-- the spread of what a text spells, whatever numbers constructors have
pub one_spread : (c c' : List ℕ → ℕ) (text : TypeText) (s t : ClosedType) → Spells c text s → Spells c' text t → spread s ≡ spread t
one_spread c c' text s t h k =
    let v : List ℕ → ℕ = λ x. 0 in
    let e : weight (opened s) ≡ weight (opened t) = ap weight (h v) ∙ (type_weight c c' v text ∙ sym (ap weight (k v))) in
    ap (λ (w : ℕ × ℕ). w.1) (sym (closed_weight s) ∙ (e ∙ closed_weight t))

-- a text that is held keeps its number
number_more : (texts : List (List ℕ)) (x y : List ℕ) → number_of texts x < length texts → number_of (texts ++ y ∷ []) x ≡ number_of texts x
number_more [] x y h = absurd (omega (arith, h))
number_more (t ∷ texts) x y h =
    (elim (bytes_eq x t) as (λ b. cond (not b) (1 + number_of texts x) 0 < length (t ∷ texts) → cond (not b) (1 + number_of (texts ++ y ∷ []) x) 0 ≡ cond (not b) (1 + number_of texts x) 0) [
      | true ↦ λ k. refl
      | false ↦ λ k. ap (λ n. 1 + n) (number_more texts x y (omega (arith, k)))
    ]) h

number_next : (texts : List (List ℕ)) (x y : List ℕ) → number_of texts x < length texts → number_of (with_text texts y) x ≡ number_of texts x
number_next texts x y h = elim (list_any (bytes_eq y) texts) as (λ b. number_of (if b then texts else texts ++ y ∷ []) x ≡ number_of texts x) [ true ↦ refl | false ↦ number_more texts x y h ]

pub longer : (texts : List (List ℕ)) (y : List ℕ) → length texts ≤ length (with_text texts y)
longer texts y = elim (list_any (bytes_eq y) texts) as (λ b. length texts ≤ length (if b then texts else texts ++ y ∷ [])) [ true ↦ omega arith | false ↦ omega (arith, length-append texts (y ∷ [])) ]

pub number_stays : (texts later : List (List ℕ)) (x : List ℕ) → number_of texts x < length texts → number_of (with_texts texts later) x ≡ number_of texts x
number_stays texts [] x h = refl
number_stays texts (y ∷ later) x h =
    let e = number_next texts x y h in
    let l = longer texts y in
    number_stays (with_text texts y) later x (omega (arith, e, l, h)) ∙ e

-- each constructor has a number below this
abbrev AreBelow : ℕ → OpenType → Type 0
AreBelow n schema.omega = Unit {0}
AreBelow n (schema.constructor c s) = (c < n) × AreBelow n s
AreBelow n (schema.product s t) = AreBelow n s × AreBelow n t
AreBelow n (schema.arrow s t) = AreBelow n s × AreBelow n t
AreBelow n (schema.meet s t) = AreBelow n s × AreBelow n t
AreBelow n (schema.variable v) = Unit {0}

opened_below : (n : ℕ) (t : ClosedType) → HasNamesBelow n t → AreBelow n (opened t)
opened_below n types.omega h = tt
opened_below n (types.constructor c s) h = (h.0, opened_below n s h.1)
opened_below n (types.product s t) h = (opened_below n s h.0, opened_below n t h.1)
opened_below n (types.arrow s t) h = (opened_below n s h.0, opened_below n t h.1)
opened_below n (types.meet s t) h = (opened_below n s h.0, opened_below n t h.1)

module _ (texts later : List (List ℕ)) (v : List ℕ → ℕ) where
  abbrev before : List ℕ → ℕ
  before = number_of texts

  abbrev behind : List ℕ → ℕ
  behind = number_of (with_texts texts later)

  mutual
    type_stays : (t : TypeText) → AreBelow (length texts) (type_schema before v t) → type_schema before v t ≡ type_schema behind v t
    type_stays (only_meet m) h = meet_stays m h
    type_stays (arrow m t) h = λ i. schema.arrow (meet_stays m h.0 i) (type_stays t h.1 i)

    meet_stays : (m : MeetText) → AreBelow (length texts) (meet_schema before v m) → meet_schema before v m ≡ meet_schema behind v m
    meet_stays (only_product p) h = product_stays p h
    meet_stays (meet m p) h = λ i. schema.meet (meet_stays m h.0 i) (product_stays p h.1 i)

    product_stays : (p : ProductText) → AreBelow (length texts) (product_schema before v p) → product_schema before v p ≡ product_schema behind v p
    product_stays (only_atom a) h = atom_stays a h
    product_stays (product p a) h = λ i. schema.product (product_stays p h.0 i) (atom_stays a h.1 i)

    atom_stays : (a : AtomText) → AreBelow (length texts) (atom_schema before v a) → atom_schema before v a ≡ atom_schema behind v a
    atom_stays grammar.omega h = refl
    atom_stays (named x) h = ap (λ (n : ℕ). schema.constructor n schema.omega) (sym (number_stays texts later x h.0))
    atom_stays (applied x t) h = λ i. schema.constructor (sym (number_stays texts later x h.0) i) (type_stays t h.1 i)
    atom_stays (variable x) h = refl
    atom_stays (inside t) h = type_stays t h

-- a text spells the same by a later table
pub later_spells : (texts later : List (List ℕ)) (text : TypeText) (t : ClosedType) → HasNamesBelow (length texts) t → Spells (number_of texts) text t → Spells (number_of (with_texts texts later)) text t
later_spells texts later text t below h = λ v.
    h v ∙ type_stays texts later v text (subst (λ (o : OpenType). AreBelow (length texts) o) (h v) (opened_below (length texts) t below))
