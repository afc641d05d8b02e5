use Rattle.cls_laws.proofs.SameLine.{one_unless_audit, goes_same, ends_same}
use Rattle.cls_laws.proofs.OneTranscript.{answered_apart}
use Rattle.cls_laws.proofs.laws.replies_are_determined.Goals as goal

pub returns : goal.returns
returns c = record {
  goes = λ s distinct n. goes_same n s distinct;
  ends = λ s distinct n. ends_same n s distinct;
  free = one_unless_audit;
  distinct = answered_apart;
}
