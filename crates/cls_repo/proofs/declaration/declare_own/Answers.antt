use Rattle.std.proofs.Common.{inl, inr}
use Rattle.std.proofs.lemmas.Result.{IfErr-weaker}
use Rattle.cls_base.specs.Firsts.{First}
use Rattle.cls_repo.specs.FaultWords.{OnWords, IsFirst}
use Rattle.cls_repo.specs.LineFaults.{too_many_states}
use Rattle.cls_repo.specs.Written.{directive_of, draft_of, own_faults}
use Rattle.cls_repo.proofs.Findings.{held_at}
use Rattle.cls_repo.proofs.Taking.{on_words}
use Rattle.cls_repo.proofs.declaration.declare_own.Goals as goal

pub returns-clause-fault : goal.returns-clause-fault
returns-clause-fault c =
    let d = draft_of c.args.draft.now in
    let f = c.args.name.now in
    let said = directive_of c.args.said in
    let held = held_at c.args.draft.now.filter_names f c.in-Some.number.0 c.in-Some.ensures.stands in
    IfErr-weaker c.put_filter_line.result (OnWords (too_many_states d said)) (IsFirst (own_faults d said f))
    (λ kind h. on_words (too_many_states d said) (First (own_faults d said f)) (λ words w. inr ((λ us k. k.0 held), inl w)) kind h) c.put_filter_line.ensures.fault
