-- The terms of a page, as their lines are made.
use Rattle.std.proofs.Common.{◌≡◌, ℕ, ◌<◌, List, length, sym, subst, arith, get_or}
use Rattle.std.specs.Prelude.{All, Bool}
use Rattle.std.proofs.lemmas.List.Elements.{Contains-get_or}
use Rattle.cls_base.specs.Terms.{Applicative, component, apply, IsTermOver}
use Rattle.cls_base.specs.Types.{ClosedType}
use Rattle.cls_base.specs.Typing.{by_instance, by_application, by_intersection, by_subsumption}
use Rattle.cls_base.specs.Pages.{Request, IsPage}
use Rattle.cls_library.specs.Libraries.{Library}
use Rattle.cls_library.specs.Typing.{HasTypeIn}
use Rattle.cls_term.specs.Banks.{at}
use Rattle.cls_term.specs.Components.{greatest_of}

-- the greatest component of a term is among the components
pub greatest_within : (n : ℕ) (e : Applicative) → IsTermOver n e → greatest_of e < n
greatest_within n (component x) o = o
greatest_within n (apply f a) o = omega (arith, greatest_within n f o.0, greatest_within n a o.1)

-- the element at a place
pub at_place : (P : Applicative → Type 0) (es : List Applicative) (i : ℕ) (e : Applicative) → All P es → i < length es → e ≡ get_or es i e → P e
at_place P es i e all l is = subst P (sym is) (all i e l)

-- the term at a place of a list whose terms all have the property
pub at_index : (P : Applicative → Type 0) (es : List Applicative) (i : ℕ) → All P es → i < length es → P (at es i)
at_index P es i all l = all i (component 0) l

pub ruleset lines = (at_place, at_index)

-- a term that has a type is one over the components
pub over : (l : Library) (e : Applicative) (t : ClosedType) → HasTypeIn l e t → IsTermOver (length l.components) e
over l (component x) t (by_instance h) = h.0
over l (apply f a) t (by_application h k) = (over l f _ h, over l a _ k)
over l e t (by_intersection h k) = over l e _ h
over l e t (by_subsumption h k) = over l e _ h

-- and so is each term of a page
pub page_over : (l : Library) (t : ClosedType) (n : ℕ) (r : Request) (terms : List Applicative) (more : Bool) → length l.components ≡ n → IsPage (λ e. HasTypeIn l e t) r terms more → All (IsTermOver n) terms
page_over l t n r terms more same p = λ i d less.
    let e = get_or terms i d in
    subst (λ k. IsTermOver k e) same (over l e t (let due = p.due e (Contains-get_or terms i d less) in due.typed))
