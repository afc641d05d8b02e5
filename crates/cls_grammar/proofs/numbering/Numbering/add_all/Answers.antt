use Rattle.std.proofs.Common.{arith, sym, ◌∙◌, nat_eq}
use Rattle.std.proofs.lemmas.Option.{get_or_from_slice_get}
use Rattle.cls_base.proofs.Lists.{Contains-at}
use Rattle.cls_core.proofs.Insertion.{goal-step}
use Rattle.cls_grammar.proofs.Climbing.{get-read}
use Rattle.cls_grammar.proofs.numbering.Numbering.add_all.Goals as goal

pub add-requires : goal.add-requires
add-requires c =
    let xs = c.args.numbers.now in
    let i = c.loop-number.number-index in
    let below = c.requires _ (Contains-at xs i _ (get-read xs i c.loop-number-test.true)) in
    omega (arith, below, c.loop-number.invariant.bound)

pub loop-number-preserved : goal.loop-number-preserved
loop-number-preserved c =
    let xs = c.args.numbers.now in
    let i = c.loop-number.number-index in
    record {
      order = c.in_ok-add.ensures.order ∙ goal-step nat_eq c.args.self.now.order xs _ i _ c.loop-number-test.true c.loop-number.invariant.order (sym (get_or_from_slice_get xs i _ _ (get-read xs i c.loop-number-test.true)));
      bound = c.in_ok-add.ensures.bound ∙ c.loop-number.invariant.bound;
    }
