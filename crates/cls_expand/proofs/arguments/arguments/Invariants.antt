use Rattle.std.proofs.Common.{take}
use Rattle.std.specs.Prelude.{map}
use Rattle.std.specs.List.{AllZip}
use Rattle.cls_path.specs.Paths.{listed}
use Rattle.cls_library.specs.Libraries.{arrows_at}
use Rattle.cls_library.specs.Reaching.{IsReduced, columns}
use Rattle.cls_expand.specs.Making.{picked_of}
use Rattle.cls_expand.proofs.arguments.arguments.Given as goal

abbrev pub invariant-loop-place : goal.invariant-loop-place
invariant-loop-place l = AllZip (IsReduced l.lib) (take l.place (columns l.count (picked_of (arrows_at l.lib l.x l.count) l.cover))) (map listed l.args.items)
