use Rattle.std.proofs.Common.{length, ap, arith}
use Rattle.cls_taxon.proofs.Rows.{rows-count}
use Rattle.cls_taxon.proofs.graph.Graph.count.Goals as goal

pub returns : goal.returns
returns c = omega (arith, c.len.ensures, rows-count c.self.inside.starts.items c.self.inside.targets.items, ap length c.self.view_is)
