-- A head above which no other one is below: one ending alone may lead there.
use Rattle.std.proofs.Common.{◌≡◌, ℕ, ◌+◌, ◌⊎◌, inl, inr, min, Bool, true, false, refl, sym, subst, ap, ◌∙◌, arith, IsTrue, eqb-true}
use Rattle.std.specs.Prelude.{if◌then◌else◌, ◌==◌, ◌&&◌, not}
use Rattle.cls_base.specs.Limits.{max_arity}
use Rattle.cls_taxon.specs.DecisionLaws.{is_below-reflexive, is_below-one_class}
use Rattle.cls_taxon.specs.Decisions.{is_below}
use Rattle.cls_taxon.specs.Orders.{Declared, stands_in, class_by}
use Rattle.cls_library.specs.declared.ending.Head.{Head}
use Rattle.cls_library.specs.declared.ending.Head.TheVariants.{Covariant, Product, Sealed}
use Rattle.cls_library.specs.declared.ending.Ending.{Ending}
use Rattle.cls_library.specs.contracts.ending.HeadPartialEq.TheImpl as heads
use Rattle.cls_library.specs.contracts.ending.EndingPartialEq.TheImpl.{eq-value}
use Rattle.cls_library.specs.Endings.{ending_behind, is_alone, may_be_below, may_end_below}
use Rattle.cls_library.proofs.EndingLaws.{equal, both, same-ending}

differs : false ≡ true → ⊥
differs e = cc

pub not-zero : (k : ℕ) → not (k == 0) ≡ true → k ≡ 0 → ⊥
not-zero k n e = differs (subst (λ b. not b ≡ true) (equal k 0 e) n)

class-of : (d : Declared) (a : ℕ) → (class_by d.pairs a ≡ 0) ⊎ (class_by d.pairs a ≡ a + 1)
class-of d a = go (stands_in d.pairs a)
  where
    go : (b : Bool) → ((if b then 0 else a + 1) ≡ 0) ⊎ ((if b then 0 else a + 1) ≡ a + 1)
    go true = inl refl
    go false = inr refl

-- a name with a class of its own is above itself alone
pub alone : (d : Declared) (a b : ℕ) → (class_by d.pairs b ≡ 0 → ⊥) → IsTrue (is_below d a b) → a ≡ b
alone d a b n l = elim (class-of d b) [
  | inl e ↦ absurd (n e)
  | inr e ↦ elim (class-of d a) [
    | inl f ↦ absurd (let g : 0 ≡ b + 1 = sym f ∙ (is_below-one_class d a b l ∙ e) in omega arith)
    | inr f ↦ (let g : a + 1 ≡ b + 1 = sym f ∙ (is_below-one_class d a b l ∙ e) in omega arith)
  ]
]

pub head-alone : (d : Declared) (x y : Head) → is_alone (class_by d.pairs) y ≡ true → may_be_below (is_below d) x y ≡ true → x ≡ y
head-alone d (Covariant a) (Covariant b) n l = ap (λ (k : ℕ). Covariant (record { 0 = k })) (alone d a.0 b.0 (not-zero (class_by d.pairs b.0) n) l)
head-alone d (Covariant a) Product n l = cc
head-alone d (Covariant a) (Sealed b) n l = cc
head-alone d Product (Covariant b) n l = cc
head-alone d Product Product n l = refl
head-alone d Product (Sealed b) n l = cc
head-alone d (Sealed a) (Covariant b) n l = cc
head-alone d (Sealed a) Product n l = cc
head-alone d (Sealed a) (Sealed b) n l = ap (λ (k : ℕ). Sealed (record { 0 = k })) (alone d a.0 b.0 (not-zero (class_by d.pairs b.0) n) l)

head-itself : (d : Declared) (x : Head) → may_be_below (is_below d) x x ≡ true
head-itself d (Covariant c) = is_below-reflexive d c.0
head-itself d Product = refl
head-itself d (Sealed c) = is_below-reflexive d c.0

same-heads : (x : Head) → heads.eq-value.it x x ≡ true
same-heads (Covariant c) = equal c.0 c.0 refl
same-heads Product = refl
same-heads (Sealed c) = equal c.0 c.0 refl

pub same-endings : (x : Ending) → eq-value.it x x ≡ true
same-endings x = (λ j. equal x.arrows x.arrows refl j && same-heads x.head j)

same-bool : (a b : Bool) → (a ≡ true → b ≡ true) → (b ≡ true → a ≡ true) → a ≡ b
same-bool true b f g = sym (f refl)
same-bool false true f g = g refl
same-bool false false f g = refl

module _ (d : Declared) (n : ℕ) (f : Ending) (h : is_alone (class_by d.pairs) f.head ≡ true) where
  abbrev wanted : Ending
  wanted = ending_behind n f

  leads-itself : may_end_below (is_below d) n wanted f ≡ true
  leads-itself = (λ j. equal (min (max_arity + 1) (n + f.arrows)) (min (max_arity + 1) (n + f.arrows)) refl j && head-itself d f.head j)

  -- one ending alone may be below
  pub one-leads : (e : Ending) → may_end_below (is_below d) n e f ≡ eq-value.it wanted e
  one-leads e = same-bool (may_end_below (is_below d) n e f) (eq-value.it wanted e)
      (λ l.
      let r = both (e.arrows == min (max_arity + 1) (n + f.arrows)) (may_be_below (is_below d) e.head f.head) l in
      let a = eqb-true e.arrows (min (max_arity + 1) (n + f.arrows)) r.0 in
      let b = head-alone d e.head f.head h r.1 in
      let same : e ≡ wanted = (λ j. record { arrows = a j; head = b j }) in
      subst (λ (x : Ending). eq-value.it wanted x ≡ true) (sym same) (same-endings wanted))
      (λ l. subst (λ (x : Ending). may_end_below (is_below d) n x f ≡ true) (same-ending wanted e l) leads-itself)
