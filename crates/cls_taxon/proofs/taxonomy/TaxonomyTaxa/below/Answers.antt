use Rattle.cls_taxon.specs.DecisionLaws.{chain_answer}
use Rattle.cls_taxon.proofs.taxonomy.TaxonomyTaxa.below.Goals as goal

pub returns : goal.returns
returns c = record { is = chain_answer c.args.self.now c.below.ensures.order c.args.lower.0 c.args.upper.0 c.below.result c.below.ensures.chain }
