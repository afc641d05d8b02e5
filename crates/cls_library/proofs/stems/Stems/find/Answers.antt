use Rattle.cls_library.proofs.Stemming.{of-pairs}
use Rattle.cls_library.proofs.stems.Stems.find.Goals as goal

pub returns-in-Some-clause-table : goal.returns-in-Some-clause-table
returns-in-Some-clause-table c = λ ps h. c.in-Some.ensures.table ps h.1

pub returns-in-None-clause-table : goal.returns-in-None-clause-table
returns-in-None-clause-table c = of-pairs c.args.self.now c.told-in-None.result c.told-in-None.ensures.table
