use Rattle.std.proofs.Common.{ℕ, ◌≡◌, ◌<◌, ◌≤◌, ◌↔◌, ◌⊎◌, arith, sym, subst, length, get_or, List, Result, Ok, Err}
use Rattle.std.specs.Prelude.{MatchResult}
use Rattle.std.proofs.lemmas.List.Sorted.{searched}
use Rattle.cls_cover.specs.Members.{Member, Ascending}
use Rattle.cls_cover.proofs.Lists.{ascending_order}
use Rattle.cls_cover.proofs.SingleFamilies.{put_ascending, put_members, there_members}
use Rattle.cls_cert.proofs.forced.put.Goals as goal

abbrev IsPlace : List ℕ → ℕ → Result ℕ ℕ → Type 0
IsPlace xs x r = MatchResult r (λ i. (i < length xs) × (get_or xs i 0 ≡ x)) (λ i. (i ≤ length xs) × ((k : ℕ) → k < i → get_or xs k 0 < x) × ((k : ℕ) → i ≤ k → k < length xs → x < get_or xs k 0))

pub returns-in-Ok-clause-members : goal.returns-in-Ok-clause-members
returns-in-Ok-clause-members c =
    let s = c.args.positions.now in
    let e : c.as_slice.result.now ≡ s = c.as_slice.ensures in
    let a : Ascending c.as_slice.result.now = subst (λ (l : List ℕ). Ascending l) (sym e) c.requires in
    let p : IsPlace c.as_slice.result.now c.args.x (Ok c.in-Ok.field-0) = subst (λ r. IsPlace c.as_slice.result.now c.args.x r) c.in-Ok.is
    (searched c.as_slice.result.now c.args.x c.binary_search.result c.binary_search.ensures.position (ascending_order c.as_slice.result.now a)) in
    let q : IsPlace s c.args.x (Ok c.in-Ok.field-0) = subst (λ (l : List ℕ). IsPlace l c.args.x (Ok c.in-Ok.field-0)) e p in
    there_members s c.in-Ok.field-0 c.args.x q.0 q.1

pub returns-in_ok-insert-in-Err-clause-ascending : goal.returns-in_ok-insert-in-Err-clause-ascending
returns-in_ok-insert-in-Err-clause-ascending c =
    let s = c.args.positions.now in
    let e : c.as_slice.result.now ≡ s = c.as_slice.ensures in
    let a : Ascending c.as_slice.result.now = subst (λ (l : List ℕ). Ascending l) (sym e) c.requires in
    let p : IsPlace c.as_slice.result.now c.args.x (Err c.in-Err.place) = subst (λ r. IsPlace c.as_slice.result.now c.args.x r) c.in-Err.is
    (searched c.as_slice.result.now c.args.x c.binary_search.result c.binary_search.ensures.position (ascending_order c.as_slice.result.now a)) in
    let q : IsPlace s c.args.x (Err c.in-Err.place) = subst (λ (l : List ℕ). IsPlace l c.args.x (Err c.in-Err.place)) e p in
    let same : c.in-Err.place ≤ c.in-Err.place = omega arith in
    subst (λ (xs : List ℕ). Ascending xs) (sym c.in_ok-insert-in-Err.ensures)
    (put_ascending s c.in-Err.place c.args.x c.requires q.1 (λ l. q.2 c.in-Err.place same l))

pub returns-in_ok-insert-in-Err-clause-members : goal.returns-in_ok-insert-in-Err-clause-members
returns-in_ok-insert-in-Err-clause-members c = λ y.
    subst (λ (xs : List ℕ). Member xs y ↔ (Member c.args.positions.now y ⊎ (y ≡ c.args.x))) (sym c.in_ok-insert-in-Err.ensures)
    (put_members c.args.positions.now c.in-Err.place c.args.x y)
