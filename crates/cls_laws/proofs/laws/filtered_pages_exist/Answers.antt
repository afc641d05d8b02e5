use Rattle.cls_laws.proofs.FilteredBooks.{filtered_pages_exist}
use Rattle.cls_laws.proofs.laws.filtered_pages_exist.Goals as goal

pub returns : goal.returns
returns c = filtered_pages_exist
