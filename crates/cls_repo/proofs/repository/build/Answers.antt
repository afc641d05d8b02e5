use Rattle.std.proofs.Common.{◌≡◌, ℕ, List, map, ap, ◌∙◌, arith}
use Rattle.std.specs.Prelude.{Some}
use Rattle.cls_base.specs.Firsts.{First}
use Rattle.cls_base.specs.Schemas.{schema_of}
use Rattle.cls_repo.specs.EndFaults.{library_words, end_faults}
use Rattle.cls_repo.specs.Written.{draft_of, IsOrderFault}
use Rattle.cls_repo.proofs.Building.{library_of, refused_line, refused_first}
use Rattle.cls_repo.proofs.Endings.{order_first, end_silent}
use Rattle.cls_repo.proofs.Taking.{on_words}
use Rattle.cls_repo.proofs.repository.build.Goals as goal

pub returns-in-Err-clause-fault : goal.returns-in-Err-clause-fault
returns-in-Err-clause-fault c =
    let d = draft_of c.args.draft in
    on_words (IsOrderFault d) (λ words. First (end_faults d c.args.line) (c.args.line, words)) (order_first d c.args.line) c.in-Err.kind c.in-Err.ensures.fault

pub index-requires : goal.index-requires
index-requires c =
    let d = draft_of c.args.draft in
    let columns = c.in-Ok-columns_of.ensures in
    let schemas = ap (map schema_of) c.deref.ensures.value ∙ columns.schemas in
    let lines = c.in-Ok-columns_of.columns.lines in
    let there = refused_line d c.in-Ok.taxonomy (map schema_of c.deref.result.now) c.in-Ok.ensures.declared schemas c.in-Err-build.fault c.in-Err-build.ensures.refused lines.items columns.lines in
    let many = lines.ok.0 in
    omega (arith, there, many)

pub returns-in-Ok-build-clause-silent : goal.returns-in-Ok-build-clause-silent
returns-in-Ok-build-clause-silent c =
    let d = draft_of c.args.draft in
    let schemas = ap (map schema_of) c.deref.ensures.value ∙ c.in-Ok-columns_of.ensures.schemas in
    let l = c.in-Ok-build.library in
    end_silent d c.args.line l c.in-Ok.ensures.order (library_of d c.in-Ok.taxonomy (map schema_of c.deref.result.now) c.in-Ok.ensures.declared schemas l c.in-Ok-build.ensures.library)

pub returns-in-Err-build-clause-fault : goal.returns-in-Err-build-clause-fault
returns-in-Err-build-clause-fault c =
    let d = draft_of c.args.draft in
    let columns = c.in-Ok-columns_of.ensures in
    let schemas = ap (map schema_of) c.deref.ensures.value ∙ columns.schemas in
    let x = c.text_at-component.result.now in
    let fault = c.in-Err-build.fault in
    let line = c.index.result.now in
    on_words (λ (words : List ℕ). library_words d.variables x fault.kind ≡ Some words) (λ words. First (end_faults d c.args.line) (line, words))
    (λ words said. refused_first d c.in-Ok.taxonomy (map schema_of c.deref.result.now) c.in-Ok.ensures.declared schemas fault c.in-Err-build.ensures.refused c.args.line line line c.in-Ok-columns_of.columns.lines.items x words
    c.in-Ok.ensures.order columns.lines c.index.ensures c.text_at-component.ensures said) c.library_fault.result c.library_fault.ensures
