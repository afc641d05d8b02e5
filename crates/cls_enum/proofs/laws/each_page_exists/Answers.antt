use Rattle.cls_enum.proofs.Existence.{each_page-exists}
use Rattle.cls_enum.proofs.laws.each_page_exists.Goals as goal

pub returns : goal.returns
returns c = each_page-exists
