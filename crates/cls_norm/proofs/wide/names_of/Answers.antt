use Rattle.std.proofs.Common.{◌≡◌, sym, ◌∙◌, ap, subst, ◌+◌, ◌++◌, List, ℕ, Bor, drop, append_assoc, append-nil}
use Rattle.std.specs.List.Sorted.{IsPermutation}
use Rattle.std.proofs.lemmas.List.{drop_all}
use Rattle.std.proofs.lemmas.List.Sorted.{IsNonDecreasingBy-from_sort}
use Rattle.cls_base.specs.Ty.{type_of}
use Rattle.cls_norm.specs.Names.{name_of, names_of_all}
use Rattle.cls_norm.proofs.Parts.{drop_item}
use Rattle.cls_norm.proofs.wide.names_of.Goals as goal

pub loop-ty-preserved : goal.loop-ty-preserved
loop-ty-preserved c =
    let i = c.loop-ty.ty-index in
    let ts = c.args.types.now in
    let x = c.ty-item.result in
    let old = c.loop-ty.names.items in
    let n = name_of (type_of x.now) in
    let rest = names_of_all (drop (i + 1) ts) in
    ap (λ (l : List ℕ). l ++ rest) c.in_ok-put_name.ensures ∙ (append_assoc old n rest ∙ (ap (λ (l : List (Bor _)). old ++ names_of_all l) (sym (drop_item ts i x c.loop-ty-test.true c.ty-item.is)) ∙ c.loop-ty.invariant))

pub returns-clause-names : goal.returns-clause-names
returns-clause-names c =
    let ts = c.args.types.now in
    let old = c.loop-ty.names.items in
    let none = drop_all c.loop-ty.ty-index ts c.loop-ty-test.false in
    let e : old ≡ names_of_all ts = sym (append-nil old) ∙ (ap (λ (l : List (Bor _)). old ++ names_of_all l) (sym none) ∙ c.loop-ty.invariant) in
    subst (λ (l : List ℕ). IsPermutation l c.sort_unstable.new.self.items) e c.sort_unstable.ensures.permutation

pub returns-clause-sorted : goal.returns-clause-sorted
returns-clause-sorted c = IsNonDecreasingBy-from_sort (λ x. x) _ c.sort_unstable.ensures.sorted
