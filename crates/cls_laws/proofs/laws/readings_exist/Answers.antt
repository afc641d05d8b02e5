use Rattle.cls_laws.proofs.Readings.{readings_exist}
use Rattle.cls_laws.proofs.laws.readings_exist.Goals as goal

pub returns : goal.returns
returns c = readings_exist
