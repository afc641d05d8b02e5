use Rattle.std.proofs.Common.{◌≡◌, ◌∙◌, ◌++◌, sym, subst}
use Rattle.std.specs.Prelude.{codes}
use Rattle.std.proofs.lemmas.Result.{IfOk-weaker}
use Rattle.cls_cert.specs.Conditions.{forms_of}
use Rattle.cls_cert.specs.declared.making.CertificateLeft.{CertificateLeft}
use Rattle.cls_cert.specs.Left.{AreMembersLeft, IsCertificateLeft, certificate_left, first_line, members_left}
use Rattle.cls_cert.specs.Making.{IsMadeFor}
use Rattle.cls_library.specs.Libraries.{Library}
use Rattle.cls_proof.specs.Certificates.{Certificate}
use Rattle.cls_proof.specs.Texts.{certificate_text, line}
use Rattle.cls_replies.specs.declared.printing.Lines.TheVariants as lines
use Rattle.cls_replies.specs.Printing.{left_lines, left_of}
use Rattle.cls_replies.specs.Rests.{IsCertificateText}
use Rattle.cls_replies.proofs.printing.certificate_printing.Goals as goal

pub begun_printing-requires : goal.begun_printing-requires
begun_printing-requires c = λ e. cc

pub returns-in-Rows-clause-text : goal.returns-in-Rows-clause-text
returns-in-Rows-clause-text c = λ s same.
    let lib = c.args.lib.now in
    let grammar = c.args.grammar in
    let made = subst (λ (v : CertificateLeft). (x : Certificate) × IsMadeFor lib grammar x × (certificate_text s.names s.components x ≡ first_line v ++ certificate_left s.names s.components lib (forms_of grammar) v)) c.in-Rows.is (c.in_ok-left.ensures.made s.names s.components) in
    IfOk-weaker c.begun_printing.result (λ p. left_of s p ≡ line (codes "inhabited") ++ left_lines s (lines.Rows grammar c.in-Rows.rows)) (λ p. IsCertificateText lib grammar s.names s.components (left_of s p))
    (λ p e. (made.0, made.1, e ∙ sym made.2)) (c.begun_printing.ensures.text s)

pub returns-in-Rows-clause-printable : goal.returns-in-Rows-clause-printable
returns-in-Rows-clause-printable c = λ s same of_goal.
    let left = subst (λ (v : CertificateLeft). IsCertificateLeft c.args.lib.now c.args.grammar v) c.in-Rows.is c.in_ok-left.ensures.left in
    c.begun_printing.ensures.printable s (left, of_goal)

pub begun_printing-requires-in-Members : goal.begun_printing-requires-in-Members
begun_printing-requires-in-Members c = λ e. cc

pub returns-in-Members-clause-text : goal.returns-in-Members-clause-text
returns-in-Members-clause-text c = λ s same.
    let lib = c.args.lib.now in
    let grammar = c.args.grammar in
    let members = c.in-Members.members in
    let made = subst (λ (v : CertificateLeft). (x : Certificate) × IsMadeFor lib grammar x × (certificate_text s.names s.components x ≡ first_line v ++ certificate_left s.names s.components lib (forms_of grammar) v)) c.in-Members.is (c.in_ok-left.ensures.made s.names s.components) in
    let text = subst (λ (l : Library). certificate_text s.names s.components made.0 ≡ line (codes "empty") ++ members_left s.names s.components l (forms_of grammar) members) (sym same) made.2 in
    IfOk-weaker c.begun_printing-in-Members.result (λ p. left_of s p ≡ line (codes "empty") ++ left_lines s (lines.Members grammar members)) (λ p. IsCertificateText lib grammar s.names s.components (left_of s p))
    (λ p e. (made.0, made.1, e ∙ sym text)) (c.begun_printing-in-Members.ensures.text s)

pub returns-in-Members-clause-printable : goal.returns-in-Members-clause-printable
returns-in-Members-clause-printable c = λ s same of_goal.
    let left = subst (λ (v : CertificateLeft). IsCertificateLeft c.args.lib.now c.args.grammar v) c.in-Members.is c.in_ok-left.ensures.left in
    c.begun_printing-in-Members.ensures.printable s (subst (λ (l : Library). AreMembersLeft l c.args.grammar c.in-Members.members) (sym same) left, of_goal)
