use Rattle.std.proofs.Common.{◌≡◌, List, ℕ, arith}
use Rattle.cls_finite.specs.declared.answer.FiniteAnswer.TheVariants.{Finite, Over}
use Rattle.cls_replies.specs.Texts.{sizes_text}
use Rattle.cls_replies.proofs.Portions.{printing_as}
use Rattle.cls_replies.proofs.printing.sizes_printing.Goals as goal

pub returns-in-Finite-clause-text : goal.returns-in-Finite-clause-text
returns-in-Finite-clause-text c = λ s.
    rw c.in-Finite.is (printing_as c.print_size.result c.text_printing.result s (λ (t : List ℕ). t ≡ sizes_text (Finite c.in-Finite.size)) c.text_printing.ensures.text c.print_size.ensures)

pub returns-in-Over-clause-text : goal.returns-in-Over-clause-text
returns-in-Over-clause-text c = λ s.
    rw c.in-Over.is (printing_as c.print_over.result c.text_printing-in-Over.result s (λ (t : List ℕ). t ≡ sizes_text Over) c.text_printing-in-Over.ensures.text c.print_over.ensures)

pub begun_printing-requires : goal.begun_printing-requires
begun_printing-requires c = λ e. cc

pub returns-in-Infinite-clause-text : goal.returns-in-Infinite-clause-text
returns-in-Infinite-clause-text c = λ s. rw c.in-Infinite.is (c.begun_printing.ensures.text s)

pub returns-in-Infinite-clause-printable : goal.returns-in-Infinite-clause-printable
returns-in-Infinite-clause-printable c = λ s. c.begun_printing.ensures.printable s (omega arith)
