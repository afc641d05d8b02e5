use Rattle.cls_path.proofs.Existence.{forms_exist}
use Rattle.cls_path.proofs.laws.forms_exist.Goals as goal

pub returns : goal.returns
returns c = forms_exist
