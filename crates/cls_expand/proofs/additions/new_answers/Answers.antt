use Rattle.std.proofs.Common.{arith, ap, refl, sym, ◌∙◌, ◌≡◌, ◌<◌, ◌+◌, ◌++◌, ◌∷◌, [], ℕ, List, length, take, slice_get, slice_index_or}
use Rattle.std.specs.List.{position_or_len}
use Rattle.indexmap.specs.IndexSet.{insert_all}
use Rattle.cls_core.specs.declared.answer.Answer.{Answer}
use Rattle.cls_core.specs.Arguments.{map_answer}
use Rattle.cls_core.specs.Closure.{goals_of}
use Rattle.cls_core.proofs.Columns.{get-some}
use Rattle.cls_core.proofs.Insertion.{numbers-count}
use Rattle.cls_expand.proofs.Adding.{goals-count, number-at, up-to, with-answer, row-new, row-old}
use Rattle.cls_expand.proofs.additions.new_answers.Goals as goal
use Rattle.cls_expand.proofs.additions.new_answers.Goals.{then-numbers-row+in_ok-renumber_answer+in_ok-push, else-numbers-row}

pub bounds-numbers-row : goal.bounds-numbers-row
bounds-numbers-row g c =
    let eq = g.G.PartialEq.eq in
    let t : c.loop-row.row < c.count-row-end.result = c.loop-row-test.true in
    let n : c.count-row-end.result ≡ length c.args.rows.now = c.count-row-end.ensures in
    omega (arith, ap length c.requires.numbers, numbers-count eq c.args.goals.now.keys (goals_of c.args.rows.now), goals-count c.args.rows.now)

pub loop-row-preserved : goal.loop-row-preserved
loop-row-preserved g c =
    let eq = g.G.PartialEq.eq in
    let gs = c.args.goals.now.keys in
    let rows = c.args.rows.now in
    let i = c.loop-row.row in
    let ks = insert_all eq gs (take i (goals_of rows)) in
    let t : i < c.count-row-end.result = c.loop-row-test.true in
    let n : c.count-row-end.result ≡ length rows = c.count-row-end.ensures in
    let r = get-some rows i (omega arith) in
    let up = up-to rows i r.0 r.1 in
    let is : slice_index_or c.args.numbers.now i 0 ≡ position_or_len (eq r.0.goal) ks = ap (λ (l : List ℕ). slice_index_or l i 0) c.requires.numbers ∙ number-at eq gs (goals_of rows) i r.0.goal up.2 in
    let many : c.len.result ≡ length gs = c.len.ensures.len in
    let so : c.len-in-loop-row.result ≡ length c.loop-row.answers.items = omega (arith, c.len-in-loop-row.ensures, c.loop-row.answers.ok.0) in
    let change : Answer ℕ → Answer ℕ = λ a. map_answer (λ i. slice_index_or c.args.numbers.now i 0) a in
    elim c.if-numbers-row.branch [
      | then-numbers-row+in_ok-renumber_answer+in_ok-push w ↦ (
          let e = w.in_ok-push.ensures.items ∙ ap (λ a. c.loop-row.answers.items ++ a ∷ []) (w.in_ok-renumber_answer.ensures ∙ ap change (sym (with-answer (slice_get rows i) r.0 w.answer.result.now r.1 w.answer.ensures))) in
          row-new eq change gs ks rows i r.0 up.0 up.1 refl c.loop-row.answers.items c.loop-row.invariant.0 c.loop-row.invariant.1 (slice_index_or c.args.numbers.now i 0) c.if-numbers-row.answers.items is (let same : slice_index_or c.args.numbers.now i 0 ≡ c.len.result + c.len-in-loop-row.result = w.if-numbers-row.true in omega arith) (ap (λ v. v.items) w.answers-is ∙ e))
      | else-numbers-row w ↦
          row-old eq change gs ks rows i r.0 up.0 up.1 refl c.loop-row.answers.items c.loop-row.invariant.0 c.loop-row.invariant.1 (slice_index_or c.args.numbers.now i 0) c.if-numbers-row.answers.items is (λ same. w.if-numbers-row.false (omega (arith, same))) (ap (λ v. v.items) w.answers-is)
    ]
