use Rattle.cls_library.proofs.Along.{found-nowhere}
use Rattle.cls_library.proofs.column.position_in.Goals as goal

pub returns-in-Err : goal.returns-in-Err
returns-in-Err c = found-nowhere c.args.places.now c.args.place c.in-Err.field-0 c.requires c.in-Err.ensures.position
