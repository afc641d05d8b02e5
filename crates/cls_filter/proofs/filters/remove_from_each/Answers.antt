use Rattle.std.proofs.Common.{◌<◌, ◌≤◌, ◌++◌, List, length, ap, ◌∙◌, append-nil, arith, get_or}
use Rattle.std.specs.Prelude.{map}
use Rattle.std.proofs.lemmas.List.{drop_all, get_or_default, length-set, take_all}
use Rattle.std.proofs.lemmas.List.Edits.{map_over_more}
use Rattle.cls_filter.specs.Automata.{Automaton}
use Rattle.cls_filter.specs.Lines.{no_lines, without_leaf}
use Rattle.cls_filter.proofs.filters.remove_from_each.Goals as goal

pub remove_from-requires : goal.remove_from-requires
remove_from-requires c = omega (arith, c.loop-number-test.true, c.loop-number.invariant.count, c.len-number-end.ensures, c.args.filters.now.ok.0)

pub loop-number-preserved : goal.loop-number-preserved
loop-number-preserved c =
    let i = c.loop-number.number in
    let old = c.args.filters.now.items in
    let now = c.loop-number.filters.items in
    let inv = c.loop-number.invariant in
    let without : Automaton → Automaton = λ a. without_leaf a c.args.component in
    let within : i < length old = omega (arith, c.loop-number-test.true, c.len-number-end.ensures, c.args.filters.now.ok.0) in
    let here : i < length now = omega (arith, within, inv.count) in
    let own = get_or now i no_lines in
    record {
      count = ap (λ (fs : List Automaton). length fs) c.remove_from.ensures ∙ (length-set now i (without own) ∙ inv.count);
      so_far = c.remove_from.ensures ∙ map_over_more without old now i own within inv.so_far (get_or_default now i no_lines own here);
    }

pub returns : goal.returns
returns c =
    let n = c.loop-number.number in
    let old = c.args.filters.now.items in
    let without : Automaton → Automaton = λ a. without_leaf a c.args.component in
    let past : length old ≤ n = omega (arith, c.loop-number-test.false, c.len-number-end.ensures, c.args.filters.now.ok.0) in
    c.loop-number.invariant.so_far
    ∙ ((λ i. map without (take_all n old past i) ++ drop_all n old past i) ∙ append-nil (map without old))
