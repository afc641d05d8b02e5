use Rattle.std.proofs.Common.{List, ap, ◌∙◌, arith}
use Rattle.std.specs.Prelude.{None, Option, slice_index_or}
use Rattle.cls_walk.specs.declared.stretch.Stretch.{Stretch}
use Rattle.cls_walk.proofs.Stretches.{on_ok, column-same, columns-other}
use Rattle.cls_walk.proofs.stretch.Stretches.keep.Goals as goal

pub returns-clause-kept : goal.returns-clause-kept
returns-clause-kept c = on_ok c.keep_in.result
    (λ h. ap (λ (ys : List (Option Stretch)). slice_index_or ys c.args.slack None) (column-same (λ v. v.items) c.loop-self.self-inside.columns.items c.args.node c.keep_in.new.column (omega (arith, c.loop-self-test.false, c.len.ensures))) ∙ h)
    c.keep_in.ensures.kept

pub returns-clause-others : goal.returns-clause-others
returns-clause-others c = on_ok c.keep_in.result
    (λ h n s other.
    columns-other (λ v. v.items) c.loop-self.self-inside.columns.items c.args.node c.args.slack c.index_mut.result.now c.keep_in.new.column None
    (omega (arith, c.loop-self-test.false, c.len.ensures)) c.index_mut.ensures.value h n s other
    ∙ ap (λ (ys : List (Option Stretch)). slice_index_or ys s None) (c.loop-self.invariant n))
    c.keep_in.ensures.others
