use Rattle.std.specs.Prelude.{replicate, IfSome}
use Rattle.std.specs.Vec.{vec_capacity}
use Rattle.std.specs.List.{position_or_len}
use Rattle.indexmap.specs.IndexSet.{insert_all}
use Rattle.cls_core.specs.Arguments.{arguments_of, rule_count}
use Rattle.cls_core.specs.Numbers.{numbers_from}
use Rattle.std.proofs.lemmas.Option.{slice_get_within}
use Rattle.std.proofs.Common.{arith, length-append, take, ap, refl, sym, subst, Some, slice_get, ◌≡◌, ◌≤◌, ◌+◌, ◌-◌, ◌++◌, ◌∙◌, length}
use Rattle.cls_core.specs.declared.state.RowState.TheVariants.{Free, Held}
use Rattle.cls_core.specs.declared.entry.Entry.TheVariants.{File}
use Rattle.cls_core.specs.Machine.{grown, filed}
use Rattle.cls_core.specs.Rows.{machine}
use Rattle.cls_core.proofs.Closure.{mapped-count}
use Rattle.cls_core.proofs.Columns.{held-counts, kept-file}
use Rattle.cls_core.proofs.AfterFiling.{filed-rows}
use Rattle.cls_core.proofs.Insertion.{all-front, all-length, numbers-count, numbers-kept, goes_cut}
use Rattle.cls_core.proofs.machine.Core.file.Goals as goal

pub overflow_sub-count : goal.overflow_sub-count
overflow_sub-count g c =
    let eq = g.G.PartialEq.eq in
    let goals = c.self.inside.goals.keys in
    let args = c.goals.result.now in
    let new = c.number_whole.new.rows.keys in
    let more = subst (λ r. IfSome r (λ _. new ≡ insert_all eq goals args)) c.in-Some.is c.in-Ok.ensures.added in
    omega (arith, ap length more, c.len.ensures.len, c.len-rows.ensures, c.self.invariant.paired, all-length eq goals args)

pub returns-in_default-reserve-clause-err : goal.returns-in_default-reserve-clause-err
returns-in_default-reserve-clause-err g c =
    let eq = g.G.PartialEq.eq in
    let i = c.self.inside in
    let goals = i.goals.keys in
    let args = c.goals.result.now in
    let new = c.number_whole.new.rows.keys in
    let more = subst (λ r. IfSome r (λ _. new ≡ insert_all eq goals args)) c.in-Some.is c.in-Ok.ensures.added in
    let behind = all-front eq goals args in
    let rows : c.len-rows.result ≡ length goals = omega (arith, c.len-rows.ensures, c.self.invariant.paired) in
    let keys : c.truncate.new.self.keys ≡ goals = c.truncate.ensures.keys ∙ (ap (λ n. take n new) rows ∙ goes_cut goals new (record { more = behind.0; is = more ∙ behind.1 })) in
    let states : c.reserve.new.self.items ≡ i.states.items = c.in_default-reserve.ensures.items in
    (refl, (λ k. record { rows = machine (keys k) (states k); history = i.history.items }) ∙ c.self.view_is)

pub number_answer-numbered-requires : goal.number_answer-numbered-requires
number_answer-numbered-requires g c =
    let eq = g.G.PartialEq.eq in
    let goals = c.self.inside.goals.keys in
    let args = c.goals.result.now in
    let given = subst (λ r. IfSome r (λ n. n.items ≡ numbers_from eq goals args)) c.in-Some.is c.in-Ok.ensures.numbers in
    ap length given ∙ (numbers-count eq goals args ∙ ap length c.goals.ensures)

pub index_mut-requires : goal.index_mut-requires
index_mut-requires g c =
    let i = c.self.inside in
    let held = subst (λ v. slice_get v.rows.states c.args.row ≡ Some (Held c.args.worker)) (sym c.self.view_is) c.requires.held in
    let within = slice_get_within i.states.items c.args.row (Held c.args.worker) held in
    let n = c.len.result - c.len-rows.result in
    omega (arith, within, ap length c.add_free.ensures, ap length c.in-Ok-reserve.ensures.items, length-append c.reserve.new.self.items (replicate n Free))

pub overflow_sub-self : goal.overflow_sub-self
overflow_sub-self g c =
    let i = c.self.inside in
    let k = c.self.invariant in
    let held = subst (λ v. slice_get v.rows.states c.args.row ≡ Some (Held c.args.worker)) (sym c.self.view_is) c.requires.held in
    let some = held-counts i.states.items c.args.row c.args.worker held in
    omega (arith, k.held_counted)

pub push_reserved-requires : goal.push_reserved-requires
push_reserved-requires g c =
    let i = c.self.inside in
    let k = c.self.invariant in
    let held = subst (λ v. slice_get v.rows.states c.args.row ≡ Some (Held c.args.worker)) (sym c.self.view_is) c.requires.held in
    let some = held-counts i.states.items c.args.row c.args.worker held in
    omega (arith, k.held_counted, k.entries_fit, i.history.ok.0)

pub invariant_of-self-2 : goal.invariant_of-self-2
invariant_of-self-2 g c =
    let eq = g.G.PartialEq.eq in
    let i = c.self.inside in
    let k = c.self.invariant in
    let goals = i.goals.keys in
    let answer = c.args.answer in
    let args = c.goals.result.now in
    let held = subst (λ v. slice_get v.rows.states c.args.row ≡ Some (Held c.args.worker)) (sym c.self.view_is) c.requires.held in
    let some = held-counts i.states.items c.args.row c.args.worker held in
    let new = c.number_whole.new.rows.keys in
    let more = subst (λ r. IfSome r (λ _. new ≡ insert_all eq goals args)) c.in-Some.is c.in-Ok.ensures.added in
    let given = subst (λ r. IfSome r (λ n. n.items ≡ numbers_from eq goals args)) c.in-Some.is c.in-Ok.ensures.numbers in
    let few = subst (λ r. IfSome r (λ _. length new ≤ c.args.most)) c.in-Some.is c.in-Ok.ensures.few in
    let place = λ (a : g.row.G.Denot). position_or_len (eq a) (grown eq goals answer) in
    let are = c.number_answer-numbered.ensures.answer place (given ∙ (ap (numbers_from eq goals) c.goals.ensures ∙ numbers-kept eq g.met.G.Eq.laws.refl goals (arguments_of answer))) in
    let long : length new ≡ length goals + (c.len.result - c.len-rows.result) = omega (arith, ap length more, c.len.ensures.len, c.len-rows.ensures, c.self.invariant.paired, all-length eq goals args) in
    kept-file goals i.states.items i.first i.held i.rules (vec_capacity i.history) i.history.items c.args.row c.args.worker (c.len.result - c.len-rows.result) c.number_answer-numbered.result.0 new c.add_free.new.states.items (File c.args.worker c.args.row) c.push_reserved.new.self.items
    k held long (omega (arith, few, c.ranges.most.fits))
    (c.add_free.ensures ∙ ap (λ l. l ++ replicate (c.len.result - c.len-rows.result) Free) c.in-Ok-reserve.ensures.items)
    c.push_reserved.ensures.items
    (i.held - 1) (i.rules + c.rule_count.result) (vec_capacity c.push_reserved.new.self)
    (omega (arith, k.held_counted))
    (ap (λ n. i.rules + n) (c.rule_count.ensures ∙ sym (ap rule_count are ∙ mapped-count place answer)))
    c.push_reserved.ensures.capacity

pub returns-clause-rows : goal.returns-clause-rows
returns-clause-rows g c =
    let eq = g.G.PartialEq.eq in
    let i = c.self.inside in
    let goals = i.goals.keys in
    let answer = c.args.answer in
    let args = c.goals.result.now in
    let held = subst (λ v. slice_get v.rows.states c.args.row ≡ Some (Held c.args.worker)) (sym c.self.view_is) c.requires.held in
    let new = c.number_whole.new.rows.keys in
    let added = subst (λ r. IfSome r (λ _. new ≡ insert_all eq goals args)) c.in-Some.is c.in-Ok.ensures.added in
    let more : new ≡ grown eq goals answer = added ∙ ap (insert_all eq goals) c.goals.ensures in
    let given = subst (λ r. IfSome r (λ n. n.items ≡ numbers_from eq goals args)) c.in-Some.is c.in-Ok.ensures.numbers in
    let place = λ (a : g.row.G.Denot). position_or_len (eq a) (grown eq goals answer) in
    let are = c.number_answer-numbered.ensures.answer place (given ∙ (ap (numbers_from eq goals) c.goals.ensures ∙ numbers-kept eq g.met.G.Eq.laws.refl goals (arguments_of answer))) in
    let long : length (grown eq goals answer) ≡ length goals + (c.len.result - c.len-rows.result) = omega (arith, ap length more, c.len.ensures.len, c.len-rows.ensures, c.self.invariant.paired, all-length eq goals (arguments_of answer)) in
    let behind = c.add_free.ensures ∙ ap (λ l. l ++ replicate (c.len.result - c.len-rows.result) Free) c.in-Ok-reserve.ensures.items in
    filed-rows eq goals i.states.items answer new c.add_free.new.states.items c.number_answer-numbered.result.0 (c.len.result - c.len-rows.result) c.args.row (Held c.args.worker) more long behind are held
    ∙ ap (λ v. filed eq v.rows c.args.row answer) c.self.view_is
