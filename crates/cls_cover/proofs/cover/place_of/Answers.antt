use Rattle.std.proofs.Common.{ℕ, ◌≡◌, ◌<◌, ◌≤◌, arith, subst, length, get_or, List, Result, Ok, Err}
use Rattle.std.specs.Prelude.{MatchResult}
use Rattle.std.proofs.lemmas.List.Sorted.{searched}
use Rattle.cls_cover.proofs.Lists.{ascending_get, ascending_order}
use Rattle.cls_cover.proofs.cover.place_of.Goals as goal

abbrev IsPlace : List ℕ → ℕ → Result ℕ ℕ → Type 0
IsPlace xs x r = MatchResult r (λ i. (i < length xs) × (get_or xs i 0 ≡ x)) (λ i. (i ≤ length xs) × ((k : ℕ) → k < i → get_or xs k 0 < x) × ((k : ℕ) → i ≤ k → k < length xs → x < get_or xs k 0))

pub returns-in-Ok-clause-within : goal.returns-in-Ok-clause-within
returns-in-Ok-clause-within c =
    let s : IsPlace c.args.positions.now c.args.x (Ok c.in-Ok.i) = subst (λ r. IsPlace c.args.positions.now c.args.x r) c.in-Ok.is (searched c.args.positions.now c.args.x c.binary_search.result c.binary_search.ensures.position (ascending_order c.args.positions.now c.requires)) in
    let l = s.0 in omega arith

pub returns-in-Ok-clause-before : goal.returns-in-Ok-clause-before
returns-in-Ok-clause-before c = λ k h.
    let s : IsPlace c.args.positions.now c.args.x (Ok c.in-Ok.i) = subst (λ r. IsPlace c.args.positions.now c.args.x r) c.in-Ok.is (searched c.args.positions.now c.args.x c.binary_search.result c.binary_search.ensures.position (ascending_order c.args.positions.now c.requires)) in
    let e = s.1 in let g = ascending_get c.args.positions.now c.requires k c.in-Ok.i h s.0 in omega arith

pub returns-in-Ok-clause-here : goal.returns-in-Ok-clause-here
returns-in-Ok-clause-here c = λ h.
    let s : IsPlace c.args.positions.now c.args.x (Ok c.in-Ok.i) = subst (λ r. IsPlace c.args.positions.now c.args.x r) c.in-Ok.is (searched c.args.positions.now c.args.x c.binary_search.result c.binary_search.ensures.position (ascending_order c.args.positions.now c.requires)) in
    let e = s.1 in omega arith

pub returns-in-Err-clause-within : goal.returns-in-Err-clause-within
returns-in-Err-clause-within c =
    let s : IsPlace c.args.positions.now c.args.x (Err c.in-Err.i) = subst (λ r. IsPlace c.args.positions.now c.args.x r) c.in-Err.is (searched c.args.positions.now c.args.x c.binary_search.result c.binary_search.ensures.position (ascending_order c.args.positions.now c.requires)) in s.0

pub returns-in-Err-clause-before : goal.returns-in-Err-clause-before
returns-in-Err-clause-before c =
    let s : IsPlace c.args.positions.now c.args.x (Err c.in-Err.i) = subst (λ r. IsPlace c.args.positions.now c.args.x r) c.in-Err.is (searched c.args.positions.now c.args.x c.binary_search.result c.binary_search.ensures.position (ascending_order c.args.positions.now c.requires)) in s.1

pub returns-in-Err-clause-here : goal.returns-in-Err-clause-here
returns-in-Err-clause-here c = λ h.
    let s : IsPlace c.args.positions.now c.args.x (Err c.in-Err.i) = subst (λ r. IsPlace c.args.positions.now c.args.x r) c.in-Err.is (searched c.args.positions.now c.args.x c.binary_search.result c.binary_search.ensures.position (ascending_order c.args.positions.now c.requires)) in
    let g = s.2 c.in-Err.i (omega arith) h in omega arith
