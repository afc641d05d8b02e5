use Rattle.std.proofs.Common.{◌≡◌, ◌≤◌, length, refl, subst, arith}
use Rattle.std.specs.Prelude.{Some, IfOk, string_bytes}
use Rattle.std.specs.Option.{option_map}
use Rattle.std.proofs.lemmas.Result.{IfOk-weaker}
use Rattle.cls_base.specs.Ty.{type_of}
use Rattle.cls_check.specs.Verdicts.{rows_in}
use Rattle.cls_proof.specs.Seen.{certificate_of}
use Rattle.cls_query.specs.Queries.{Query, verify}
use Rattle.cls_query.specs.ReadQueries.{ReadsQuery}
use Rattle.cls_query.specs.ReadQueries as queries
use Rattle.cls_replies.specs.Answering.{Judges, Verifies, Verified}
use Rattle.cls_replies.specs.Answering as answering
use Rattle.cls_replies.specs.Errors.{proof_words}
use Rattle.cls_replies.specs.Responder.{Responder, responder_of, tables_in}
use Rattle.cls_replies.specs.Steps.{held_lines}
use Rattle.cls_replies.specs.Texts.{error_line}
use Rattle.cls_replies.proofs.Asking.{misreads, bads}
use Rattle.cls_replies.proofs.Counting.{rows_few}
use Rattle.cls_replies.proofs.responder.Responder.verify.Goals as goal

pub returns-in-Err-clause-verified : goal.returns-in-Err-clause-verified
returns-in-Err-clause-verified c =
    let i = c.self.inside in
    let s = responder_of i.names i.variables i.components i.kinds i.templates i.filter_names i.filters i.engine (held_lines i.held) in
    let m = responder_of c.read_query.new.constructors c.read_query.new.variables i.components i.kinds i.templates i.filter_names i.filters i.engine (held_lines i.held) in
    subst (λ (z : Responder). IfOk c.line_fault.result (λ text. Verified z c.args.line.now c.args.certificate (string_bytes text) m)) c.self.view_is
    (IfOk-weaker c.line_fault.result (λ text. option_map error_line (queries.fault_words c.in-Err.fault) ≡ Some (string_bytes text)) (λ text. Verified s c.args.line.now c.args.certificate (string_bytes text) m)
    (λ text e. answering.Verified.misread (misreads s m c.args.line.now (string_bytes text) (queries.fault_words c.in-Err.fault) c.in-Err.ensures.fault e
    (λ k. responder_of (c.in-Err.ensures.stay k) (c.in-Err.ensures.variables_stay k) i.components i.kinds i.templates i.filter_names i.filters i.engine (held_lines i.held)))) c.line_fault.ensures)

pub verified-goal-requires : goal.verified-goal-requires
verified-goal-requires c = c.in-Ok.ensures.verify.1 c.requires.opens.begins

pub judge-requires : goal.judge-requires
judge-requires c =
    let h : rows_in (certificate_of c.in-Ok-read_certificate.read) ≤ length c.args.certificate = rows_few _ _ _ _ _ c.in-Ok-read_certificate.ensures.exact in
    omega (arith, h, c.requires.few)

pub returns-in-Ok-read_certificate-clause-verified : goal.returns-in-Ok-read_certificate-clause-verified
returns-in-Ok-read_certificate-clause-verified c =
    let i = c.self.inside in
    let s = responder_of i.names i.variables i.components i.kinds i.templates i.filter_names i.filters i.engine (held_lines i.held) in
    let m = responder_of c.read_query.new.constructors c.read_query.new.variables i.components i.kinds i.templates i.filter_names i.filters i.engine (held_lines i.held) in
    let n = responder_of c.read_certificate.new.names c.read_query.new.variables i.components i.kinds i.templates i.filter_names i.filters i.engine (held_lines i.held) in
    let t = type_of c.verified-goal.result in
    let p = certificate_of c.in-Ok-read_certificate.read in
    let reads : ReadsQuery (tables_in s) c.args.line.now (verify t) (tables_in m) = subst (λ (q : Query). ReadsQuery (tables_in s) c.args.line.now q (tables_in m)) c.verified-goal.ensures c.in-Ok.ensures.query in
    subst (λ (z : Responder). IfOk c.judge.result (λ text. Verified z c.args.line.now c.args.certificate (string_bytes text) n)) c.self.view_is
    (IfOk-weaker c.judge.result (λ text. Judges n t p (string_bytes text)) (λ text. Verified s c.args.line.now c.args.certificate (string_bytes text) n)
    (λ text j. answering.Verified.asked t m (reads, refl) (answering.Verifies.read p c.in-Ok-read_certificate.ensures.exact refl j)) c.judge.ensures)

pub returns-clause-verified : goal.returns-clause-verified
returns-clause-verified c =
    let i = c.self.inside in
    let s = responder_of i.names i.variables i.components i.kinds i.templates i.filter_names i.filters i.engine (held_lines i.held) in
    let m = responder_of c.read_query.new.constructors c.read_query.new.variables i.components i.kinds i.templates i.filter_names i.filters i.engine (held_lines i.held) in
    let n = responder_of c.read_certificate.new.names c.read_query.new.variables i.components i.kinds i.templates i.filter_names i.filters i.engine (held_lines i.held) in
    let t = type_of c.verified-goal.result in
    let reads : ReadsQuery (tables_in s) c.args.line.now (verify t) (tables_in m) = subst (λ (q : Query). ReadsQuery (tables_in s) c.args.line.now q (tables_in m)) c.verified-goal.ensures c.in-Ok.ensures.query in
    subst (λ (z : Responder). IfOk c.proof_fault.result (λ text. Verified z c.args.line.now c.args.certificate (string_bytes text) n)) c.self.view_is
    (IfOk-weaker c.proof_fault.result (λ text. option_map error_line (proof_words c.in-Err-read_certificate.fault) ≡ Some (string_bytes text)) (λ text. Verified s c.args.line.now c.args.certificate (string_bytes text) n)
    (λ text e. answering.Verified.asked t m (reads, refl) (bads m n t c.args.certificate (string_bytes text) c.in-Err-read_certificate.fault (proof_words c.in-Err-read_certificate.fault) refl c.in-Err-read_certificate.ensures.exact e
    (λ k. responder_of (c.in-Err-read_certificate.ensures.names_stay k) c.read_query.new.variables i.components i.kinds i.templates i.filter_names i.filters i.engine (held_lines i.held)))) c.proof_fault.ensures)
