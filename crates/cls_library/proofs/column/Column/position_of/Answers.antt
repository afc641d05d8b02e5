use Rattle.std.proofs.Common.{◌≡◌, ◌+◌, ℕ, List, Some, sym, subst, ap, ◌∙◌, arith}
use Rattle.std.specs.Prelude.{Contains, MatchOption, slice_get}
use Rattle.std.specs.List.Sorted.{IsStrictlyIncreasing}
use Rattle.cls_library.specs.Splits.{numbers_from, places_in}
use Rattle.cls_library.proofs.Columns.{numbers-at, numbers-below}
use Rattle.cls_library.proofs.column.Column.position_of.Goals as goal

pub returns-then-place-count : goal.returns-then-place-count
returns-then-place-count c =
    let n = c.in-All.count in
    let seen : numbers_from 0 n ≡ c.args.self.now = ap places_in (sym c.in-All.is) ∙ c.self.view_is in
    let p = c.args.place in
    let same : 0 + p ≡ p = omega arith in
    subst (λ (l : List ℕ). slice_get l p ≡ Some p) seen (numbers-at 0 n p c.if-place-count.true ∙ ap (λ (k : ℕ). Some k) same)

pub returns-else-place-count : goal.returns-else-place-count
returns-else-place-count c = λ h.
    let n = c.in-All.count in
    let seen : numbers_from 0 n ≡ c.args.self.now = ap places_in (sym c.in-All.is) ∙ c.self.view_is in
    let w = numbers-below 0 n c.args.place (subst (λ (l : List ℕ). Contains l c.args.place) (sym seen) h) in
    let f = c.if-place-count.false in
    omega arith

pub position_in-requires : goal.position_in-requires
position_in-requires c =
    let seen : c.as_slice.result.now ≡ c.args.self.now = c.as_slice.ensures.value ∙ (ap places_in (sym c.in-Listed.is) ∙ c.self.view_is) in
    subst (λ (l : List ℕ). IsStrictlyIncreasing l) (sym seen) c.requires

pub returns-in-Listed : goal.returns-in-Listed
returns-in-Listed c =
    let seen : c.as_slice.result.now ≡ c.args.self.now = c.as_slice.ensures.value ∙ (ap places_in (sym c.in-Listed.is) ∙ c.self.view_is) in
    subst (λ (l : List ℕ). MatchOption c.position_in.result (Contains l c.args.place → ⊥) (λ i. slice_get l i ≡ Some c.args.place)) seen c.position_in.ensures
