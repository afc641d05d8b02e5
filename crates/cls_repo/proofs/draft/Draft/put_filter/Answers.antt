use Rattle.std.proofs.Common.{List, [], ◌∷◌, ◌++◌, length, length-append, ap, ◌∙◌, map, subst, arith}
use Rattle.std.proofs.lemmas.Result.{err_from_is_err_and}
use Rattle.cls_base.proofs.Lists.{map_last}
use Rattle.cls_repo.specs.declared.draft_filter.DraftFilter as code_filter
use Rattle.cls_repo.specs.Declarations.{with_own_line}
use Rattle.cls_repo.specs.Drafts.{DraftFilter}
use Rattle.cls_repo.specs.FaultWords.{OnWords}
use Rattle.cls_repo.specs.Written.{directive_of, draft_of, filter_seen, is_full}
use Rattle.cls_repo.proofs.FilterLines.{filter_put}
use Rattle.cls_repo.proofs.Putting.{with_new}
use Rattle.cls_repo.proofs.draft.Draft.put_filter.Goals as goal

pub returns-in_err-take_line-clause-fault : goal.returns-in_err-take_line-clause-fault
returns-in_err-take_line-clause-fault c =
    let p = err_from_is_err_and c.from_residual.result c.from_residual.ensures.1 in
    rw (p.1, p.2) (subst (λ (g : DraftFilter). OnWords (is_full g.states (directive_of c.args.said) c.args.filter.now) c.in_err-take_line.field-0.0) c.new-made.ensures c.in_err-take_line.ensures.fault)

pub returns-clause-put : goal.returns-clause-put
returns-clause-put c =
    let old = c.args.self.now in
    let says = directive_of c.args.said in
    let made = c.take_line.new.self in
    filter_put (draft_of old) says c.args.filter.now c.number_name.new.names (filter_seen made) (map filter_seen c.push_reserved.new.self.items)
    (c.in_ok-number_name.ensures.table ∙ with_new old.filter_names c.args.filter.now c.requires)
    (c.in_ok-take_line.ensures.taken ∙ ap (with_own_line old.component_names says) c.new-made.ensures)
    (ap (map filter_seen) (c.push_reserved.ensures.items ∙ ap (λ (fs : List code_filter.DraftFilter). fs ++ made ∷ []) c.in_ok-reserve.ensures.items) ∙ map_last filter_seen old.filters.items made)
    c.in_ok-take_line.ensures.few

pub invariant_of-self-2 : goal.invariant_of-self-2
invariant_of-self-2 c =
    let old = c.args.self.now in
    let made = c.take_line.new.self in
    let filters = ap length (c.push_reserved.ensures.items ∙ ap (λ (fs : List code_filter.DraftFilter). fs ++ made ∷ []) c.in_ok-reserve.ensures.items) ∙ length-append old.filters.items (made ∷ []) in
    let names = ap length (c.in_ok-number_name.ensures.table ∙ with_new old.filter_names c.args.filter.now c.requires) ∙ length-append old.filter_names (c.args.filter.now ∷ []) in
    let before = old.filtered in
    record { counted = old.counted; filtered = omega (arith, filters, names, before) }
