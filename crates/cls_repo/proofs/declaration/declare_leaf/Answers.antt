use Rattle.std.proofs.Common.{ℕ, List, ◌++◌, ap, sym, ◌∙◌, refl}
use Rattle.std.specs.Prelude.{codes, string_bytes}
use Rattle.std.proofs.lemmas.Bool.{true≢false}
use Rattle.std.proofs.lemmas.Result.{on_ok_weaker, IfErr-weaker}
use Rattle.cls_base.specs.Firsts.{First}
use Rattle.cls_repo.specs.Directives.{leaf}
use Rattle.cls_repo.specs.FaultWords.{IsFirst}
use Rattle.cls_repo.specs.LineFaults.{directive_faults}
use Rattle.cls_repo.specs.Written.{draft_of, own_faults}
use Rattle.cls_repo.proofs.Taking.{on_words}
use Rattle.cls_repo.proofs.Wrong.{unknown_leaf_first, leaf_first, leaf_right, own_silent}
use Rattle.cls_repo.proofs.declaration.declare_leaf.Goals as goal

pub returns-then-not-has_component-clause-fault : goal.returns-then-not-has_component-clause-fault
returns-then-not-has_component-clause-fault c =
    unknown_leaf_first (draft_of c.args.draft.now) c.args.line.now.text.now c.args.name.now c.args.component.now c.args.state.now (codes "unknown-component " ++ string_bytes c.in_ok-from_str.field-0)
    (λ h. true≢false (sym (c.has_component.ensures.1 h) ∙ c.if-not-has_component.true)) (ap (λ (ys : List ℕ). codes "unknown-component " ++ ys) c.in_ok-from_str.ensures.ok)

pub declare_own-requires : goal.declare_own-requires
declare_own-requires c = refl

pub returns-clause-taken : goal.returns-clause-taken
returns-clause-taken c =
    let d = draft_of c.args.draft.now in
    let f = c.args.name.now in
    let x = c.args.component.now in
    let said = leaf f x c.args.state.now in
    on_ok_weaker c.declare_own.result
    (λ t. record { declared = t.put; silent = leaf_right d c.args.line.now.text.now f x c.args.state.now (c.has_component.ensures.0 c.if-not-has_component.false) (own_silent d c.args.line.now.text.now said f t.held t.few) })
    c.declare_own.ensures.taken

pub returns-clause-fault : goal.returns-clause-fault
returns-clause-fault c =
    let d = draft_of c.args.draft.now in
    let line = c.args.line.now.text.now in
    let f = c.args.name.now in
    let x = c.args.component.now in
    let said = leaf f x c.args.state.now in
    IfErr-weaker c.declare_own.result (IsFirst (own_faults d said f)) (IsFirst (directive_faults d line said))
    (λ kind h. on_words (First (own_faults d said f)) (First (directive_faults d line said)) (λ words w. leaf_first d line f x c.args.state.now words (c.has_component.ensures.0 c.if-not-has_component.false) w) kind h)
    c.declare_own.ensures.fault
