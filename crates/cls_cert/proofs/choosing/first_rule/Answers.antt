use Rattle.std.proofs.Common.{length, sym, ◌∙◌, arith}
use Rattle.cls_base.specs.Columns.{rule_of}
use Rattle.cls_cert.specs.Building.{HasLess}
use Rattle.cls_cert.proofs.Lists.{none_so_far, past_end, differs}
use Rattle.cls_cert.proofs.RowMaking.{nodes_at}
use Rattle.cls_cert.proofs.choosing.first_rule.Goals as goal

pub has_less-requires : goal.has_less-requires
has_less-requires c = nodes_at (length c.args.ranks.now) c.args.rules.now c.loop-place.place (rule_of c.get-rule.result) c.requires c.get-rule.ensures

pub returns-then-has_less : goal.returns-then-has_less
returns-then-has_less c = record {
  place = c.loop-place.place;
  there = c.get-rule.ensures;
  holds = c.has_less.ensures.0 c.if-has_less.true;
  none_before = c.loop-place.invariant;
}

pub loop-place-preserved : goal.loop-place-preserved
loop-place-preserved c = none_so_far (HasLess c.args.ranks.now c.args.rank) c.args.rules.now c.loop-place.place (rule_of c.get-rule.result) c.get-rule.ensures
    (λ h. differs (sym c.if-has_less.false ∙ c.has_less.ensures.1 h)) c.loop-place.invariant

pub returns : goal.returns
returns c = λ j r e h. c.loop-place.invariant j r (past_end c.args.rules.now c.loop-place.place j r (let t = c.loop-place-test.false in let n = c.len-place-end.ensures in omega arith) e) e h
