use Rattle.cls_filtered.proofs.FilteredLaws.{filtered_books_generate}
use Rattle.cls_filtered.proofs.laws.filtered_books_generate.Goals as goal

pub returns : goal.returns
returns c = filtered_books_generate
