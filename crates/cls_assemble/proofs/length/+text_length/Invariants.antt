use Rattle.cls_base.specs.Terms.{length_of}
use Rattle.cls_assemble.specs.Texts.{template_at}
use Rattle.cls_assemble.proofs.Counting.{AreKnown, IsSurplus, argument_lengths}
use Rattle.cls_assemble.proofs.length.+text_length.Given as goal

abbrev pub decreases-text_length : goal.decreases-text_length
decreases-text_length l = length_of l.term.now

abbrev pub invariant-loop-index : goal.invariant-loop-index
invariant-loop-index l = record {
  known : AreKnown (argument_lengths (template_at l.templates) l.argument-items) l.index l.lengths;
  surplus : IsSurplus (argument_lengths (template_at l.templates) l.argument-items) l.greatest l.index l.surplus;
}
