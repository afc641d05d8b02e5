use Rattle.cls_filtered.proofs.FilteredLaws.{filtered_books_are_one}
use Rattle.cls_filtered.proofs.laws.filtered_books_are_one.Goals as goal

pub returns : goal.returns
returns c = filtered_books_are_one
