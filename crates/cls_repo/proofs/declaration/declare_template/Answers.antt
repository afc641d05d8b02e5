use Rattle.std.proofs.Common.{ℕ, List, ◌-◌, length, ap, subst, arith}
use Rattle.std.specs.Prelude.{Some, ◌≡◌}
use Rattle.cls_assemble.specs.Faults.{IsFaultOf}
use Rattle.cls_assemble.specs.Spelling.{IsTemplate}
use Rattle.cls_base.specs.Firsts.{First}
use Rattle.cls_repo.specs.Declarations.{template_text}
use Rattle.cls_repo.specs.Directives.{text}
use Rattle.cls_repo.specs.LineFaults.{template_words, directive_faults}
use Rattle.cls_repo.specs.Written.{draft_of}
use Rattle.cls_repo.proofs.Findings.{held_at, place_of}
use Rattle.cls_repo.proofs.Taking.{on_words}
use Rattle.cls_repo.proofs.TemplateTexts.{text_shorter}
use Rattle.cls_repo.proofs.Wrong.{template_first, text_right}
use Rattle.cls_repo.proofs.declaration.declare_template.Goals as goal

pub read-requires : goal.read-requires
read-requires c =
    let line = c.args.line.now.text.now in
    let same = ap length c.template_text-template.ensures in
    let shorter = text_shorter line in
    let few = c.args.line.now.few in
    omega (arith, same, shorter, few)

pub set_template-requires : goal.set_template-requires
set_template-requires c = place_of c.args.draft.now.component_names c.args.component.now c.in-Some.number.0 c.in-Some.ensures.stands

pub overflow_sub-line : goal.overflow_sub-line
overflow_sub-line c =
    let same = ap length c.template_text-template.ensures in
    let shorter = text_shorter c.args.line.now.text.now in
    omega (arith, same, shorter)

pub template_fault-requires-clause-few : goal.template_fault-requires-clause-few
template_fault-requires-clause-few c =
    let same = ap length c.template_text-template.ensures in
    let shorter = text_shorter c.args.line.now.text.now in
    let few = c.args.line.now.few in
    omega (arith, same, shorter, few)

pub returns-in-Ok-clause-taken : goal.returns-in-Ok-clause-taken
returns-in-Ok-clause-taken c ws =
    let d = draft_of c.args.draft.now in
    let line = c.args.line.now.text.now in
    let x = c.args.component.now in
    let template = c.in-Ok.template in
    let is : IsTemplate (template_text line) template = subst (λ (bs : List ℕ). IsTemplate bs template) c.template_text-template.ensures c.in-Ok.ensures.template in
    let held = held_at c.args.draft.now.component_names x c.in-Some.number.0 c.in-Some.ensures.stands in
    record { declared = (template, is, c.set_template.ensures x c.in-Some.ensures.number); silent = text_right d line x ws template held is }

pub returns-in-Err-clause-fault : goal.returns-in-Err-clause-fault
returns-in-Err-clause-fault c ws =
    let d = draft_of c.args.draft.now in
    let line = c.args.line.now.text.now in
    let x = c.args.component.now in
    let fault = c.in-Err.fault in
    let same = c.template_text-template.ensures in
    let is : IsFaultOf (template_text line) fault = subst (λ (bs : List ℕ). IsFaultOf bs fault) same c.in-Err.ensures.fault in
    let held = held_at c.args.draft.now.component_names x c.in-Some.number.0 c.in-Some.ensures.stands in
    on_words (λ (words : List ℕ). template_words (length line - length c.template_text-template.result.now) fault ≡ Some words) (First (directive_faults d line (text x ws)))
    (λ words e. template_first d line x ws fault words held is (subst (λ (bs : List ℕ). template_words (length line - length bs) fault ≡ Some words) same e)) c.template_fault.result c.template_fault.ensures
