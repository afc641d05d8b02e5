use Rattle.std.proofs.Common.{◌<◌, ◌≤◌, length, sym, ◌∙◌, arith}
use Rattle.cls_base.proofs.Lists.{Contains-place}
use Rattle.cls_cert.specs.Building.{GivesRule}
use Rattle.cls_cert.specs.Conditions.{forms_of}
use Rattle.cls_cert.proofs.Lists.{got_list, got_list_item, none_so_far, past_end, differs}
use Rattle.cls_cert.proofs.choosing.first_giving.Goals as goal

pub gives-requires-clause-below : goal.gives-requires-clause-below
gives-requires-clause-below c =
    let low : c.loop-i.i < length c.args.covers.now = omega arith in
    λ i m. c.requires.below c.get.result.now (got_list c.args.covers.now c.loop-i.i c.get.result.now c.get.ensures low) i m

pub returns-then-branch : goal.returns-then-branch
returns-then-branch c =
    let low : c.loop-i.i < length c.args.covers.now = omega arith in
    record {
      element = c.get.result.now;
      there = got_list_item c.args.covers.now c.loop-i.i c.get.result.now c.get.ensures low;
      holds = c.in_ok-gives.ensures.0 c.if-branch.true;
      none_before = c.loop-i.invariant;
    }

pub loop-i-preserved : goal.loop-i-preserved
loop-i-preserved c =
    let low : c.loop-i.i < length c.args.covers.now = omega arith in
    none_so_far (GivesRule c.args.lib.now (forms_of c.args.grammar.now) c.args.x c.args.args.now) c.args.covers.now c.loop-i.i c.get.result.now
    (got_list_item c.args.covers.now c.loop-i.i c.get.result.now c.get.ensures low) (λ g. differs (sym c.if-branch.false ∙ c.in_ok-gives.ensures.1 g)) c.loop-i.invariant

pub returns : goal.returns
returns c =
    let over : length c.args.covers.now ≤ c.loop-i.i = omega arith in
    λ s m g.
    let p = Contains-place c.args.covers.now s m in
    c.loop-i.invariant p.0 s (past_end c.args.covers.now c.loop-i.i p.0 s over p.1) p.1 g
