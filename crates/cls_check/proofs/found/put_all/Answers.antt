use Rattle.std.proofs.Common.{List, ℕ, [], ◌∷◌, ◌++◌, sym, take, ap, ◌∙◌}
use Rattle.std.specs.Prelude.{slice_index_or}
use Rattle.std.proofs.lemmas.List.{append_assoc, take_all, take_more}
use Rattle.cls_check.proofs.found.put_all.Goals as goal

pub loop-number-preserved : goal.loop-number-preserved
loop-number-preserved c =
    let xs = c.args.numbers.now in
    let i = c.loop-number.number-index in
    let old = c.args.positions.now.items in
    let x = slice_index_or xs i 0 in
    c.in_ok-push.ensures.ok ∙ (ap (λ (ys : List ℕ). ys ++ x ∷ []) c.loop-number.invariant ∙ (append_assoc old (take i xs) (x ∷ [])
    ∙ ap (λ (ys : List ℕ). old ++ ys) (sym (take_more xs i 0 c.loop-number-test.true))))

pub returns : goal.returns
returns c = c.loop-number.invariant ∙ ap (λ (ys : List ℕ). c.args.positions.now.items ++ ys) (take_all c.loop-number.number-index c.args.numbers.now c.loop-number-test.false)
