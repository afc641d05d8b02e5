-- Behind an operator an operand is to come.
use Rattle.std.proofs.Common.{◌∙◌}
use Rattle.cls_syntax.specs.WaitingStacks.{with_times, with_and, with_to}
use Rattle.cls_syntax.proofs.Outcomes.{times_on, and_on, to_on}
use Rattle.cls_syntax.proofs.schema_builder.operator.Goals.{in-Times+in_ok-put_product-in-Times, in-And+in_ok-put_meet-in-And, in-To+in_ok-put_source-in-To}
use Rattle.cls_syntax.proofs.schema_builder.operator.Goals as goal

pub returns-in-loop-place-clause-read : goal.returns-in-loop-place-clause-read
returns-in-loop-place-clause-read g c = λ cs vs o l h.
    let leaf = g.T.Tree.leaf in
    let ls = c.args.tokens.now in
    let i = c.loop-place.place in
    let x = c.index-tokens-place.result in
    let t = g.T.Tree.tree c.loop-place.read in
    let at = c.loop-place.invariant.read cs vs o l h in
    elim c.match-kind.branch [
      | in-Times+in_ok-put_product-in-Times w ↦ record {
        outer = at.outer;
        level = with_times at.level t;
        stands = rw w.stack-is (w.in_ok-put_product-in-Times.ensures at.outer at.level at.stands);
        is = times_on leaf cs vs at.outer at.level t ls i x c.loop-place-test.true w.in-Times.is ∙ at.is;
      }
      | in-And+in_ok-put_meet-in-And w ↦ record {
        outer = at.outer;
        level = with_and at.level t;
        stands = rw w.stack-is (w.in_ok-put_meet-in-And.ensures at.outer at.level at.stands);
        is = and_on leaf cs vs at.outer at.level t ls i x c.loop-place-test.true w.in-And.is ∙ at.is;
      }
      | in-To+in_ok-put_source-in-To w ↦ record {
        outer = at.outer;
        level = with_to at.level t;
        stands = rw w.stack-is (w.in_ok-put_source-in-To.ensures at.outer at.level at.stands);
        is = to_on leaf cs vs at.outer at.level t ls i x c.loop-place-test.true w.in-To.is ∙ at.is;
      }
    ]
