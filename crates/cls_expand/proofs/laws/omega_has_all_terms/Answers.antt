use Rattle.cls_expand.proofs.Languages.{omega_has_all_terms}
use Rattle.cls_expand.proofs.laws.omega_has_all_terms.Goals as goal

pub returns : goal.returns
returns c = omega_has_all_terms
