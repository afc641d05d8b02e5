use Rattle.cls_laws.proofs.Beginnings.{room_for_outputs_is_enough}
use Rattle.cls_laws.proofs.laws.room_for_outputs_is_enough.Goals as goal

pub returns : goal.returns
returns c = room_for_outputs_is_enough
