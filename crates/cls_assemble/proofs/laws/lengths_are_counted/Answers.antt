use Rattle.cls_assemble.proofs.Counting.{filled_length-texts}
use Rattle.cls_assemble.proofs.laws.lengths_are_counted.Goals as goal

pub returns : goal.returns
returns c = filled_length-texts
