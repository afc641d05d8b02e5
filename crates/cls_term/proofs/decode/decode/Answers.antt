use Rattle.cls_term.proofs.Decodes.{alone}
use Rattle.cls_term.proofs.decode.decode.Goals as goal

pub returns : goal.returns
returns c = alone c.args.code.now c.in_ok-term._rest.now c.requires.0 c.in_ok-term.term c.requires.1 c.in_ok-term.ensures
