use Rattle.std.proofs.Common.{arith}
use Rattle.std.proofs.lemmas.Result.{IfErr-weaker}
use Rattle.cls_repo.specs.FaultWords.{OnWords}
use Rattle.cls_repo.specs.LineFaults.{too_many_states}
use Rattle.cls_repo.specs.Written.{directive_of, draft_of, is_full}
use Rattle.cls_repo.proofs.FilterLines.{line_put, own_full}
use Rattle.cls_repo.proofs.Findings.{held_at, place_of, on_both}
use Rattle.cls_repo.proofs.Taking.{on_words}
use Rattle.cls_repo.proofs.draft.Draft.put_filter_line.Goals as goal

pub index_mut-own-requires : goal.index_mut-own-requires
index_mut-own-requires c =
    let own = c.args.self.now in
    let count = own.filters.ok.0 in
    let named = own.filtered in
    let l = place_of own.filter_names c.args.filter.now c.args.number.0 c.requires.stands in
    omega (arith, count, named, l)

pub returns-clause-put : goal.returns-clause-put
returns-clause-put c =
    let old = c.args.self.now in
    let f = c.args.filter.now in
    let l = place_of old.filter_names f c.args.number.0 c.requires.stands in
    on_both c.take_line.result
    (λ e few. line_put old c.args.number.0 f c.index_mut-own.result.now l c.requires.numbered c.index_mut-own.ensures.value (directive_of c.args.said) c.requires.own c.take_line.new.self (held_at old.filter_names f c.args.number.0 c.requires.stands) e few)
    c.take_line.ensures.taken c.take_line.ensures.few

pub returns-clause-fault : goal.returns-clause-fault
returns-clause-fault c =
    let old = c.args.self.now in
    let f = c.args.filter.now in
    let says = directive_of c.args.said in
    let was = c.index_mut-own.result.now in
    let l = place_of old.filter_names f c.args.number.0 c.requires.stands in
    IfErr-weaker c.take_line.result (OnWords (is_full was.states says f)) (OnWords (too_many_states (draft_of old) says))
    (λ kind h. on_words (is_full was.states says f) (too_many_states (draft_of old) says) (λ words w. own_full old c.args.number.0 f was l c.requires.numbered c.index_mut-own.ensures.value says c.requires.own words w) kind h)
    c.take_line.ensures.fault
