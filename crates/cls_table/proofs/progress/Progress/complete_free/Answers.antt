use Rattle.std.proofs.Common.{refl}
use Rattle.std.proofs.lemmas.Result.{IfOk-weaker}
use Rattle.cls_table.specs.Completing.{Continues}
use Rattle.cls_table.proofs.Completing.{continues-trans, continues-claim}
use Rattle.cls_table.proofs.progress.Progress.complete_free.Goals as goal

pub returns-clause-continues : goal.returns-clause-continues
returns-clause-continues g c =
    let p = c.args.self.now in
    let q = c.claim_row.new.self in
    let r = c.file_held.new.self in
    let e = c.in_ok-claim_row.ensures in
    let claimed = continues-claim p q _ c.args.row refl c.requires.free e.tag e.rows e.history in
    IfOk-weaker c.file_held.result (λ _. Continues q r) (λ _. Continues p r)
    (λ _ more. continues-trans p q r claimed more) c.file_held.ensures.continues
