use Rattle.std.proofs.Common.{refl}
use Rattle.std.proofs.lemmas.Result.{on_ok_weaker, IfErr-weaker}
use Rattle.cls_base.specs.Firsts.{First}
use Rattle.cls_repo.specs.Directives.{other}
use Rattle.cls_repo.specs.FaultWords.{IsFirst}
use Rattle.cls_repo.specs.LineFaults.{directive_faults}
use Rattle.cls_repo.specs.Written.{draft_of, own_faults}
use Rattle.cls_repo.proofs.Taking.{on_words}
use Rattle.cls_repo.proofs.Wrong.{other_first, other_right, own_silent}
use Rattle.cls_repo.proofs.declaration.declare_other.Goals as goal

pub declare_own-requires : goal.declare_own-requires
declare_own-requires c = refl

pub returns-clause-taken : goal.returns-clause-taken
returns-clause-taken c =
    let d = draft_of c.args.draft.now in
    let f = c.args.name.now in
    let said = other f c.args.state.now in
    on_ok_weaker c.declare_own.result
    (λ t. record { declared = t.put; silent = other_right d c.args.line.now.text.now f c.args.state.now (own_silent d c.args.line.now.text.now said f t.held t.few) }) c.declare_own.ensures.taken

pub returns-clause-fault : goal.returns-clause-fault
returns-clause-fault c =
    let d = draft_of c.args.draft.now in
    let line = c.args.line.now.text.now in
    let f = c.args.name.now in
    let said = other f c.args.state.now in
    IfErr-weaker c.declare_own.result (IsFirst (own_faults d said f)) (IsFirst (directive_faults d line said))
    (λ kind h. on_words (First (own_faults d said f)) (First (directive_faults d line said)) (λ words w. other_first d line f c.args.state.now words w) kind h) c.declare_own.ensures.fault
