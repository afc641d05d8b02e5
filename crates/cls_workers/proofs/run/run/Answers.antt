use Rattle.std.proofs.Common.{◌≡◌, ◌∙◌, sym, subst, Some, IfOk, IfErr, OnOk}
use Rattle.std.proofs.lemmas.Result.{IfOk-weaker}
use Rattle.cls_table.specs.Lawful.{IsLarge}
use Rattle.cls_table.specs.Tags.{tag_for}
use Rattle.cls_table.specs.Completing.{IsComplete, IsCompletion}
use Rattle.cls_table.specs.Seen.{progress_of}
use Rattle.cls_table.specs.declared.tag.Tag.{Tag}
use Rattle.cls_table.specs.declared.fault.ExpandFault.TheVariants.{TooLarge}
use Rattle.cls_workers.proofs.SameTag.{same-tag}
use Rattle.cls_workers.proofs.run.run.Goals as goal

pub returns-in-Ok-close-clause-within : goal.returns-in-Ok-close-clause-within
returns-in-Ok-close-clause-within g c =
    let B : Type 0 = g.row.E-Tag.Denot in
    let G : Type 0 = g.row.E-Goal.Denot in
    let tag : Tag B G = tag_for (g.E.Expand.tag c.args.by.now) c.args.start c.args.limits c.args.workers in
    (c.in-Ok-close.ensures.complete tag (c.share_out-seat.ensures.tag ∙ c.in-Ok.ensures.tag)).not_large

pub returns-in-Err-clause-complete : goal.returns-in-Err-clause-complete
returns-in-Err-clause-complete g c =
    let B : Type 0 = g.row.E-Tag.Denot in
    let G : Type 0 = g.row.E-Goal.Denot in
    let eq = g.E.Goal.PartialEq.eq in
    let IsAnswer = g.E.Expand.answers in
    let t = c.in-Err.unfinished.table in
    let tag : Tag B G = tag_for (g.E.Expand.tag c.args.by.now) c.args.start c.args.limits c.args.workers in
    let same : Some t.tag ≡ Some tag = sym c.in-Err.ensures.tag ∙ (c.share_out-seat.ensures.tag ∙ c.in-Ok.ensures.tag) in
    subst (λ (u : Tag B G). IfOk c.complete.result (IsComplete eq IsAnswer u)) (same-tag t.tag tag same)
    (IfOk-weaker c.complete.result (IsCompletion eq IsAnswer (progress_of t)) (IsComplete eq IsAnswer t.tag)
    (λ f h. h.complete) c.complete.ensures.completion)

pub returns-in-Err-clause-within : goal.returns-in-Err-clause-within
returns-in-Err-clause-within g c =
    let B : Type 0 = g.row.E-Tag.Denot in
    let G : Type 0 = g.row.E-Goal.Denot in
    let t = c.in-Err.unfinished.table in
    let tag : Tag B G = tag_for (g.E.Expand.tag c.args.by.now) c.args.start c.args.limits c.args.workers in
    let same : Some t.tag ≡ Some tag = sym c.in-Err.ensures.tag ∙ (c.share_out-seat.ensures.tag ∙ c.in-Ok.ensures.tag) in
    subst (λ (u : Tag B G). OnOk c.complete.result (IsLarge g.E.Expand.answers u → ⊥)) (same-tag t.tag tag same)
    c.complete.ensures.within

pub returns-in-Err-clause-large : goal.returns-in-Err-clause-large
returns-in-Err-clause-large g c =
    let B : Type 0 = g.row.E-Tag.Denot in
    let G : Type 0 = g.row.E-Goal.Denot in
    let t = c.in-Err.unfinished.table in
    let tag : Tag B G = tag_for (g.E.Expand.tag c.args.by.now) c.args.start c.args.limits c.args.workers in
    let same : Some t.tag ≡ Some tag = sym c.in-Err.ensures.tag ∙ (c.share_out-seat.ensures.tag ∙ c.in-Ok.ensures.tag) in
    subst (λ (u : Tag B G). IfErr c.complete.result (λ e. e ≡ TooLarge → IsLarge g.E.Expand.answers u))
    (same-tag t.tag tag same) c.complete.ensures.large
