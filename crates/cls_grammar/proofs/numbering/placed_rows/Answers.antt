use Rattle.std.proofs.Common.{ℕ, ◌≡◌, ◌≤◌, Some, length, map, slice_get, sym, ap, subst, ◌∙◌, arith, get_or}
use Rattle.std.specs.List.{filter_map}
use Rattle.std.proofs.lemmas.Option.{slice_get_within, get_or_from_slice_get}
use Rattle.cls_core.specs.Renumbering.{placed}
use Rattle.cls_grammar.specs.Grammars.{ruled_rows, book_of, first_wide, BookHasNodesBelow}
use Rattle.cls_grammar.proofs.Places.{found-row, found-known, found-few, found-some, one-placed, wide-next, all-placed, none-first, none-wide}
use Rattle.cls_grammar.proofs.numbering.placed_rows.Goals as goal
use Rattle.cls_grammar.proofs.Climbing.{get-read}

pub goal-requires : goal.goal-requires
goal-requires c =
    let items = c.as_slice-row-items.result.now in
    let i = c.loop-row.row-index in
    let at = subst (λ l. slice_get l i ≡ Some (get_or items i 0)) c.as_slice-row-items.ensures (get-read items i c.loop-row-test.true) in
    found-row c.args.rows.now c.requires.grammar c.args.found.now.order c.requires.order i (get_or items i 0) at

pub answer-requires : goal.answer-requires
answer-requires c =
    let items = c.as_slice-row-items.result.now in
    let i = c.loop-row.row-index in
    let at = subst (λ l. slice_get l i ≡ Some (get_or items i 0)) c.as_slice-row-items.ensures (get-read items i c.loop-row-test.true) in
    found-row c.args.rows.now c.requires.grammar c.args.found.now.order c.requires.order i (get_or items i 0) at

pub returns-in_default-clause-wide : goal.returns-in_default-clause-wide
returns-in_default-clause-wide c =
    let items = c.as_slice-row-items.result.now in
    let keys = c.args.found.now.order in
    let rows = c.args.rows.now in
    let i = c.loop-row.row-index in
    let row = get_or items i 0 in
    let at = subst (λ l. slice_get l i ≡ Some row) c.as_slice-row-items.ensures (get-read items i c.loop-row-test.true) in
    let g = c.in_ok-goal.goal in
    let wide = wide-next rows keys i row c.loop-row.goals.items c.loop-row.rules.items g (slice_get_within keys i row at) (sym (get_or_from_slice_get keys i row row at)) (c.goal.ensures ∙ ap Some (sym c.in_ok-goal.ensures)) (c.answer.ensures ∙ ap Some c.in_default.ensures.wide) c.loop-row.invariant in
    subst (λ ks. first_wide (map (placed ks) (filter_map (slice_get rows) ks)) ≡ Some g) c.requires.order wide

pub place_rules-requires : goal.place_rules-requires
place_rules-requires c = λ n h.
    let items = c.as_slice-row-items.result.now in
    let i = c.loop-row.row-index in
    let at = subst (λ l. slice_get l i ≡ Some (get_or items i 0)) c.as_slice-row-items.ensures (get-read items i c.loop-row-test.true) in
    found-known c.args.rows.now c.requires.grammar c.args.found.now.order c.requires.order i (get_or items i 0) c.in-Some.old.now at (c.answer.ensures ∙ ap Some c.in-Some.ensures.rules) n h

pub loop-row-preserved : goal.loop-row-preserved
loop-row-preserved c =
    let items = c.as_slice-row-items.result.now in
    let keys = c.args.found.now.order in
    let rows = c.args.rows.now in
    let i = c.loop-row.row-index in
    let row = get_or items i 0 in
    let at = subst (λ l. slice_get l i ≡ Some row) c.as_slice-row-items.ensures (get-read items i c.loop-row-test.true) in
    let is = c.answer.ensures ∙ ap Some c.in-Some.ensures.rules in
    one-placed rows keys i row c.loop-row.goals.items c.push-in-loop-row.new.self.items c.loop-row.rules.items c.push.new.self.items c.in_ok-goal.goal c.in-Some.old.now c.in_ok-new.new
    (slice_get_within keys i row at) (sym (get_or_from_slice_get keys i row row at))
    (c.goal.ensures ∙ ap Some (sym c.in_ok-goal.ensures)) is
    (found-known rows c.requires.grammar keys c.requires.order i row c.in-Some.old.now at is)
    c.in_ok-new.ensures c.in_ok-push-2.ensures.items c.in_ok-push.ensures.items
    c.loop-row.invariant

pub invariant_of-result : goal.invariant_of-result
invariant_of-result c =
    let items = c.as_slice-row-items.result.now in
    let p = c.loop-row.invariant in
    let keys = c.args.found.now.order in
    let rows = c.args.rows.now in
    let within : c.loop-row.row-index ≤ length items = c.loop-row.auto.row-index-end in
    let whole : length keys ≡ length c.loop-row.goals.items = omega (arith, within, c.loop-row-test.false, p.goals_are, ap length c.as_slice-row-items.ensures) in
    record {
      paired = omega (arith, p.goals_are, p.lists_are);
      some = omega (arith, whole, found-some rows c.requires.grammar keys c.requires.order);
      few = omega (arith, whole, found-few rows c.requires.grammar keys c.requires.order, c.count-count.ensures, c.count-count.type_inv);
      within = (let P : ℕ → Type 0 = λ n. BookHasNodesBelow n (book_of (ruled_rows c.loop-row.goals.items c.loop-row.rules.items)) in subst P whole p.within);
    }

pub returns-clause-ok : goal.returns-clause-ok
returns-clause-ok c =
    let keys = c.args.found.now.order in
    let rows = c.args.rows.now in
    let over : length keys ≤ c.loop-row.row-index = omega (arith, c.loop-row-test.false, ap length c.as_slice-row-items.ensures) in
    all-placed rows keys c.loop-row.goals.items c.loop-row.rules.items c.loop-row.row-index over c.loop-row.invariant
    ∙ ap (λ ks. map (placed ks) (filter_map (slice_get rows) ks)) c.requires.order

pub returns-clause-none_wide : goal.returns-clause-none_wide
returns-clause-none_wide c =
    let keys = c.args.found.now.order in
    let rows = c.args.rows.now in
    let over : length keys ≤ c.loop-row.row-index = omega (arith, c.loop-row-test.false, ap length c.as_slice-row-items.ensures) in
    let same = all-placed rows keys c.loop-row.goals.items c.loop-row.rules.items c.loop-row.row-index over c.loop-row.invariant ∙ ap (λ ks. map (placed ks) (filter_map (slice_get rows) ks)) c.requires.order in
    none-wide rows c.requires.grammar (ap first_wide (sym same) ∙ none-first c.loop-row.goals.items c.loop-row.rules.items)
