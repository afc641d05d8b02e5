use Rattle.std.proofs.Common.{refl}
use Rattle.cls_cert.proofs.blocks.listed_families.Goals as goal

pub returns-in-Single : goal.returns-in-Single
returns-in-Single c = rw c.in-Single.is c.lone_families.ensures

pub returns-in-Several : goal.returns-in-Several
returns-in-Several c = rw c.in-Several.is refl
