use Rattle.cls_base.proofs.Books.{omega_book-language}
use Rattle.cls_base.proofs.laws.omega_book_generates_all_terms.Goals as goal

pub returns : goal.returns
returns c = omega_book-language
