use Rattle.std.proofs.Common.{◌∙◌}
use Rattle.cls_session.proofs.Writing.{part_written}
use Rattle.cls_session.proofs.output.write_all.Goals as goal

pub loop-rest-preserved : goal.loop-rest-preserved
loop-rest-preserved g c = record {
  part = part_written _ _ c.loop-rest.invariant.part c.in_ok-count.ensures.within c.in_ok-count.ensures.bytes c.in_ok-count.ensures.room c.split_at.ensures.back;
  faults = c.in_ok-count.ensures.no_fault ∙ c.loop-rest.invariant.faults;
}
