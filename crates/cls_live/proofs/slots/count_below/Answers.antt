use Rattle.std.proofs.Common.{ℕ, ◌≡◌, ◌<◌, ◌≤◌, arith, subst, length, get_or, List, Result, Ok, Err}
use Rattle.std.specs.Prelude.{MatchResult}
use Rattle.std.proofs.lemmas.List.Sorted.{searched}
use Rattle.cls_live.proofs.SlotLaws.{in_order, strictly}
use Rattle.cls_live.proofs.slots.count_below.Goals as goal

abbrev IsPlace : List ℕ → ℕ → Result ℕ ℕ → Type 0
IsPlace xs x r = MatchResult r (λ i. (i < length xs) × (get_or xs i 0 ≡ x)) (λ i. (i ≤ length xs) × ((k : ℕ) → k < i → get_or xs k 0 < x) × ((k : ℕ) → i ≤ k → k < length xs → x < get_or xs k 0))

pub returns-in-Ok-clause-within : goal.returns-in-Ok-clause-within
returns-in-Ok-clause-within c =
    let xs = c.args.live.now in
    let s : IsPlace xs c.args.slot (Ok c.in-Ok.place) = subst (λ r. IsPlace xs c.args.slot r) c.in-Ok.is (searched xs c.args.slot c.binary_search.result c.binary_search.ensures.position (in_order 0 xs c.requires)) in
    let l = s.0 in omega arith

pub returns-in-Ok-clause-before : goal.returns-in-Ok-clause-before
returns-in-Ok-clause-before c = λ k h.
    let xs = c.args.live.now in
    let s : IsPlace xs c.args.slot (Ok c.in-Ok.place) = subst (λ r. IsPlace xs c.args.slot r) c.in-Ok.is (searched xs c.args.slot c.binary_search.result c.binary_search.ensures.position (in_order 0 xs c.requires)) in
    let e = s.1 in let g = strictly 0 xs c.requires k c.in-Ok.place h s.0 in omega arith

pub returns-in-Ok-clause-here : goal.returns-in-Ok-clause-here
returns-in-Ok-clause-here c = λ k h m.
    let xs = c.args.live.now in
    let s : IsPlace xs c.args.slot (Ok c.in-Ok.place) = subst (λ r. IsPlace xs c.args.slot r) c.in-Ok.is (searched xs c.args.slot c.binary_search.result c.binary_search.ensures.position (in_order 0 xs c.requires)) in
    let e = s.1 in let g = in_order 0 xs c.requires c.in-Ok.place k h m in omega arith

pub returns-in-Err-clause-within : goal.returns-in-Err-clause-within
returns-in-Err-clause-within c =
    let xs = c.args.live.now in
    let s : IsPlace xs c.args.slot (Err c.in-Err.place) = subst (λ r. IsPlace xs c.args.slot r) c.in-Err.is (searched xs c.args.slot c.binary_search.result c.binary_search.ensures.position (in_order 0 xs c.requires)) in s.0

pub returns-in-Err-clause-before : goal.returns-in-Err-clause-before
returns-in-Err-clause-before c =
    let xs = c.args.live.now in
    let s : IsPlace xs c.args.slot (Err c.in-Err.place) = subst (λ r. IsPlace xs c.args.slot r) c.in-Err.is (searched xs c.args.slot c.binary_search.result c.binary_search.ensures.position (in_order 0 xs c.requires)) in s.1

pub returns-in-Err-clause-here : goal.returns-in-Err-clause-here
returns-in-Err-clause-here c = λ k h m.
    let xs = c.args.live.now in
    let s : IsPlace xs c.args.slot (Err c.in-Err.place) = subst (λ r. IsPlace xs c.args.slot r) c.in-Err.is (searched xs c.args.slot c.binary_search.result c.binary_search.ensures.position (in_order 0 xs c.requires)) in
    let g = s.2 k h m in omega arith
