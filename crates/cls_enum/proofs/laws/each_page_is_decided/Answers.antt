use Rattle.cls_enum.proofs.Existence.{each_page-decided}
use Rattle.cls_enum.proofs.laws.each_page_is_decided.Goals as goal

pub returns : goal.returns
returns c = each_page-decided
