use Rattle.std.proofs.Common.{ℕ, ◌≡◌, ◌≤◌, length, Some, sym, ap, subst, ◌∙◌, arith}
use Rattle.cls_grammar.specs.Grammars.{ruled_rows, book_of, BookHasNodesBelow}
use Rattle.cls_grammar.proofs.Trims.{one-useful, all-rows-useful}
use Rattle.cls_grammar.proofs.trimming.useful_rows.Goals as goal

pub loop-i-preserved : goal.loop-i-preserved
loop-i-preserved c =
    one-useful c.args.flags.now c.args.grammar.now c.loop-i.i c.loop-i.goals.items c.push-in-loop-i.new.self.items c.loop-i.rules.items c.push.new.self.items c.in_ok-goal.goal c.rules.result.now c.in_ok-useful.useful
    (c.goal.ensures ∙ ap Some (sym c.in_ok-goal.ensures)) c.rules.ensures.rules c.rules.ensures.within
    c.in_ok-useful.ensures c.in_ok-push-2.ensures.items c.in_ok-push.ensures.items c.loop-i.invariant

pub invariant_of-result : goal.invariant_of-result
invariant_of-result c =
    let p = c.loop-i.invariant in
    let within : c.loop-i.i ≤ c.count-count.result = c.loop-i.auto.i-end in
    let whole : length c.args.grammar.now ≡ length c.loop-i.goals.items = omega (arith, within, c.loop-i-test.false, p.goals_are, c.count-count.ensures.count) in
    record {
      paired = omega (arith, p.goals_are, p.lists_are);
      some = omega (arith, whole, c.count-count.ensures.count, c.count-count.ensures.some);
      few = omega (arith, whole, c.count-count.ensures.count, c.count-count.type_inv);
      within = (let P : ℕ → Type 0 = λ n. BookHasNodesBelow n (book_of (ruled_rows c.loop-i.goals.items c.loop-i.rules.items)) in subst P whole p.within);
    }

pub returns : goal.returns
returns c = all-rows-useful c.args.flags.now c.args.grammar.now c.loop-i.i c.loop-i.goals.items c.loop-i.rules.items (omega (arith, c.loop-i-test.false, c.count-count.ensures.count)) c.loop-i.invariant
