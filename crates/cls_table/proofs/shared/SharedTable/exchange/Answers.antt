use Rattle.std.proofs.Common.{arith, ◌≡◌, ◌∙◌, ap, sym, subst, ℕ, ◌≤◌, ◌+◌, List, length, inl, inr}
use Rattle.std.specs.Prelude.{All, reverse}
use Rattle.cls_table.specs.Batches.{FilesEach, IsBatchFor}
use Rattle.cls_table.specs.Lawful.{IsLarge}
use Rattle.cls_table.specs.Seen.{FiledSeen}
use Rattle.cls_table.specs.Tags.{tag_of}
use Rattle.cls_table.specs.declared.tag.Tag.{Tag}
use Rattle.cls_table.proofs.Batches.{tagged}
use Rattle.cls_table.proofs.Seating.{stays-seated, stays-known, seen-after, tag-seen, tag-known}
use Rattle.cls_table.proofs.shared.SharedTable.exchange.Goals as goal

pub file-requires : goal.file-requires
file-requires g c =
    let s = c.seat.invariant in
    let b = c.requires.batch s.tag (tag-seen _ _ _ _ _ s c.seat.view_is) in
    subst (λ (t : Tag g.row.E-Tag.Denot g.row.E-Goal.Denot). All (λ f. f.claim.tag ≡ t) c.args.batch.now.filings)
    (sym (c.take-table.ensures.before s.tag s.knows)) (tagged s.tag c.args.seat.now.worker c.args.batch.now b)

pub claim-told-requires-clause-batch : goal.claim-told-requires-clause-batch
claim-told-requires-clause-batch g c =
    let s = c.seat.invariant in
    let b = c.requires.batch s.tag (tag-seen _ _ _ _ _ s c.seat.view_is) in
    let begun = subst (λ (t : Tag g.row.E-Tag.Denot g.row.E-Goal.Denot). IsBatchFor t c.args.seat.now.worker c.args.batch.now)
    (sym (c.take-table.ensures.before s.tag s.knows)) b in
    let same : c.args.seat.now.worker ≡ c.seat.inside.worker = sym (ap (λ v. v.worker) c.seat.view_is) in
    let filed = c.file.ensures.batch c.args.seat.now.worker begun in
    subst (λ (w : ℕ). IsBatchFor c.file.new.table.tag w c.file.new.self) same
    (subst (λ (t : Tag g.row.E-Tag.Denot g.row.E-Goal.Denot). IsBatchFor t c.args.seat.now.worker c.file.new.self) (sym c.file.ensures.tag) filed)

pub claim-told-requires-clause-worker : goal.claim-told-requires-clause-worker
claim-told-requires-clause-worker g c =
    let s = c.seat.invariant in
    subst (λ (t : Tag g.row.E-Tag.Denot g.row.E-Goal.Denot). c.seat.inside.worker ≤ t.workers)
    (sym (c.file.ensures.tag ∙ c.take-table.ensures.before s.tag s.knows)) s.worker_named

pub put-requires-clause-taken : goal.put-requires-clause-taken
put-requires-clause-taken g c =
    (tag_of c.take-table.result, c.take-table.ensures.taken, c.claim-told.ensures.tag ∙ c.file.ensures.tag)

pub invariant_of-seat : goal.invariant_of-seat
invariant_of-seat g c =
    let s = c.seat.invariant in
    let same = c.claim-told.ensures.tag ∙ (c.file.ensures.tag ∙ c.take-table.ensures.before s.tag s.knows) in
    stays-seated c.put.new.seat c.seat.inside.seat _ _ _ _ s same c.put.ensures.knows
    (omega (arith, s.some_part, c.claim-told.ensures.parts))

pub returns-clause-batch : goal.returns-clause-batch
returns-clause-batch g c tag has =
    let s = c.seat.invariant in
    let same = c.file.ensures.tag ∙ (c.take-table.ensures.before s.tag s.knows
    ∙ tag-known _ _ _ _ _ s c.seat.view_is tag has) in
    let worker : c.seat.inside.worker ≡ c.args.seat.now.worker = ap (λ v. v.worker) c.seat.view_is in
    subst (λ (w : ℕ). IsBatchFor tag w c.claim-told.new.self) worker
    (subst (λ (t : Tag g.row.E-Tag.Denot g.row.E-Goal.Denot). IsBatchFor t c.seat.inside.worker c.claim-told.new.self) same
    c.claim-told.ensures.batch)

pub returns-clause-filed : goal.returns-clause-filed
returns-clause-filed g c memory tag has =
    let s = c.seat.invariant in
    let same = c.take-table.ensures.before s.tag s.knows ∙ tag-known _ _ _ _ _ s c.seat.view_is tag has in
    let files : FilesEach g.E.Goal.PartialEq.eq c.take-table.result (reverse c.args.batch.now.filings) c.file.new.self.filings c.file.new.table =
    elim c.file.ensures.files [ inl stopped ↦ absurd (memory (c.claim-told.ensures.stopped stopped)) | inr h ↦ h ] in
    record {
      before = c.take-table.result;
      after = c.file.new.table;
      same_tag = same;
      lawful = c.facts.ensures;
      files = subst (λ (l : List (FiledSeen g.row.E-Tag.Denot g.row.E-Goal.Denot)). FilesEach g.E.Goal.PartialEq.eq c.take-table.result (reverse c.args.batch.now.filings) l c.file.new.table)
          (sym c.claim-told.ensures.filings) files;
    }

pub returns-clause-large : goal.returns-clause-large
returns-clause-large g c told tag has =
    let s = c.seat.invariant in
    let same = c.file.ensures.tag ∙ (c.take-table.ensures.before s.tag s.knows
    ∙ tag-known _ _ _ _ _ s c.seat.view_is tag has) in
    subst (λ (t : Tag g.row.E-Tag.Denot g.row.E-Goal.Denot). IsLarge g.E.Expand.answers t) same (c.claim-told.ensures.large told)

pub returns-clause-seat : goal.returns-clause-seat
returns-clause-seat g c =
    let s = c.seat.invariant in
    let same = c.claim-told.ensures.tag ∙ (c.file.ensures.tag ∙ c.take-table.ensures.before s.tag s.knows) in
    seen-after c.put.new.seat c.seat.inside.seat _ _ _ _ _ _ _ c.seat.view_is
    (c.put.ensures.same_turn ∙ c.take-table.ensures.same_turn)
    (stays-known c.put.new.seat c.seat.inside.seat _ _ _ s same c.put.ensures.knows) c.claim-told.ensures.parts
    (c.claim-told.ensures.amount ∙ ap (λ v. v.amount + length c.claim-told.new.self.claims) c.seat.view_is)
