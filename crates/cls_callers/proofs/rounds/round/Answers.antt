use Rattle.std.proofs.Common.{◌≡◌, ℕ, sym, ◌∙◌, ap, subst}
use Rattle.std.proofs.lemmas.List.Elements.{All-weaker}
use Rattle.cls_table.specs.declared.tag.Tag.{Tag}
use Rattle.cls_table.specs.Batches.{IsBatchFor, IsClaimBy}
use Rattle.cls_table.specs.Seen.{ClaimSeen}
use Rattle.cls_callers.proofs.rounds.round.Goals as goal

pub expand-requires : goal.expand-requires
expand-requires g c =
    let m = c.requires.meaning in
    All-weaker (IsClaimBy m.0 c.args.seat.now.worker) (λ (d : ClaimSeen g.row.E-Tag.Denot g.row.E-Goal.Denot). g.E.Expand.tag c.args.by.now ≡ d.tag.by)
    (λ d h. sym m.2 ∙ sym (ap (λ (t : Tag g.row.E-Tag.Denot g.row.E-Goal.Denot). t.by) h.same_tag)) c.exchange-told.new.batch.claims
    (c.exchange-told.ensures.batch m.0 m.1).claims

pub returns-in-Ok-clause-batch : goal.returns-in-Ok-clause-batch
returns-in-Ok-clause-batch g c tag is =
    let same = c.exchange-told.ensures.seat in
    let was = c.exchange-told.ensures.batch tag (sym (ap (λ s. s.tag) same) ∙ is) in
    subst (λ (w : ℕ). IsBatchFor tag w c.expand.new.self) (sym (ap (λ s. s.worker) same))
    (c.in-Ok.ensures.batch tag c.args.seat.now.worker was)

pub returns-in-Ok-clause-large : goal.returns-in-Ok-clause-large
returns-in-Ok-clause-large g c told tag is =
    c.exchange-told.ensures.large told tag (sym (ap (λ s. s.tag) c.exchange-told.ensures.seat) ∙ is)
