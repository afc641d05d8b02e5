use Rattle.cls_path.proofs.PathLaws.{forms_are_equivalent}
use Rattle.cls_path.proofs.laws.forms_are_equivalent.Goals as goal

pub returns : goal.returns
returns c = forms_are_equivalent
