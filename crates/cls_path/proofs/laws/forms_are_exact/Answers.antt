use Rattle.cls_path.proofs.PathLaws.{forms_are_exact}
use Rattle.cls_path.proofs.laws.forms_are_exact.Goals as goal

pub returns : goal.returns
returns c = forms_are_exact
