use Rattle.std.proofs.Common.{ℕ, List, ◌++◌, ap, sym, ◌∙◌, refl, length, Contains}
use Rattle.std.specs.Prelude.{[], codes, string_bytes}
use Rattle.std.proofs.lemmas.Bool.{true≢false}
use Rattle.std.proofs.lemmas.List.{length-map}
use Rattle.std.proofs.lemmas.Result.{on_ok_weaker, IfErr-weaker}
use Rattle.cls_base.specs.Firsts.{First}
use Rattle.cls_syntax.specs.TokenTexts.{texts}
use Rattle.cls_repo.specs.Directives.{filter}
use Rattle.cls_repo.specs.FaultWords.{OnWords, IsFirst}
use Rattle.cls_repo.specs.LineFaults.{directive_faults}
use Rattle.cls_repo.specs.Written.{draft_of, filter_seen, is_full}
use Rattle.cls_repo.proofs.FilterLines.{new_few, new_full}
use Rattle.cls_repo.proofs.Taking.{on_words}
use Rattle.cls_repo.proofs.Wrong.{filter_first, filter_full, filter_right}
use Rattle.cls_repo.proofs.declaration.declare_filter.Goals as goal

pub returns-then-has_filter-clause-fault : goal.returns-then-has_filter-clause-fault
returns-then-has_filter-clause-fault c =
    filter_first (draft_of c.args.draft.now) c.args.line.now.text.now c.args.name.now c.args.first.now (texts c.args.others.now) (codes "duplicate-filter " ++ string_bytes c.in_ok-from_str.field-0)
    (c.has_filter.ensures.0 c.if-has_filter.true) (ap (λ (ys : List ℕ). codes "duplicate-filter " ++ ys) c.in_ok-from_str.ensures.ok)

pub put_filter-requires : goal.put_filter-requires
put_filter-requires c = λ h. true≢false (sym (c.has_filter.ensures.1 h) ∙ c.if-has_filter.false)

pub returns-clause-taken : goal.returns-clause-taken
returns-clause-taken c =
    let old = c.args.draft.now in
    let f = c.args.name.now in
    let qs = texts c.args.others.now in
    let said = filter f c.args.first.now qs in
    let new : Contains old.filter_names f → ⊥ = λ h. true≢false (sym (c.has_filter.ensures.1 h) ∙ c.if-has_filter.false) in
    let named = length-map old.filters.items filter_seen ∙ old.filtered in
    on_ok_weaker c.put_filter.result
    (λ t. record { declared = t.put; silent = filter_right (draft_of old) c.args.line.now.text.now f c.args.first.now qs new (new_few (draft_of old) said f refl new named t.few) })
    c.put_filter.ensures.put

pub returns-clause-fault : goal.returns-clause-fault
returns-clause-fault c =
    let old = c.args.draft.now in
    let line = c.args.line.now.text.now in
    let f = c.args.name.now in
    let qs = texts c.args.others.now in
    let said = filter f c.args.first.now qs in
    let new : Contains old.filter_names f → ⊥ = λ h. true≢false (sym (c.has_filter.ensures.1 h) ∙ c.if-has_filter.false) in
    let named = length-map old.filters.items filter_seen ∙ old.filtered in
    IfErr-weaker c.put_filter.result (OnWords (is_full [] said f)) (IsFirst (directive_faults (draft_of old) line said))
    (λ kind h. on_words (is_full [] said f) (First (directive_faults (draft_of old) line said)) (λ words w. filter_full (draft_of old) line f c.args.first.now qs words new (new_full (draft_of old) said f refl new named words w)) kind h)
    c.put_filter.ensures.fault
