use Rattle.std.proofs.Common.{◌≡◌, refl, sym, ◌∙◌, ap, subst, ◌⊎◌, inl, inr, true, List, Some}
use Rattle.std.specs.Prelude.{reverse}
use Rattle.std.proofs.lemmas.List.Elements.{All-nil, All-pop, All-push, All-same}
use Rattle.cls_table.specs.Batches.{FilesEach, IsClaimBy}
use Rattle.cls_table.specs.Seen.{FiledSeen}
use Rattle.cls_table.proofs.Filing.{Goes, goes-begin, goes-on, goes-through, nothing-left}
use Rattle.cls_table.proofs.batch.Batch.file.Goals as goal

pub loop-filed-init : goal.loop-filed-init
loop-filed-init g c =
    let eq = g.E.Goal.PartialEq.eq in
    let table = c.args.table.now in
    let all = c.args.self.now.filings in
    let filings = ap (λ v. v.filings) c.self.view_is in
    let none = c.new-others.ensures.items in record {
      claims = ap (λ v. v.claims) c.self.view_is;
      tagged = All-same (λ f. f.claim.tag ≡ table.tag) _ _ filings c.requires;
      by_one = λ worker was.
          (All-same (λ f. IsClaimBy table.tag worker f.claim) _ _ filings was, All-same (λ f. IsClaimBy table.tag worker f.claim) _ _ none (All-nil (λ f. IsClaimBy table.tag worker f.claim)));
      goes = subst (λ (l : List (FiledSeen g.row.E-Tag.Denot g.row.E-Goal.Denot)). Goes eq table all table l c.new-others.result.items) (sym filings)
          (subst (λ (l : List (FiledSeen g.row.E-Tag.Denot g.row.E-Goal.Denot)). Goes eq table all table all l) (sym none) (goes-begin eq table all));
      same_tag = refl;
    }

pub loop-filed-preserved : goal.loop-filed-preserved
loop-filed-preserved g c =
    let tag = c.args.table.now.tag in
    let P : FiledSeen g.row.E-Tag.Denot g.row.E-Goal.Denot → Type 0 = λ f. f.claim.tag ≡ tag in
    let i = c.loop-filed.invariant in
    let popped = c.in-Some.ensures.items in
    let e = c.file_one.ensures in record {
      claims = i.claims;
      tagged = (All-pop P _ _ (Some c.in-Some.filed) popped i.tagged).0;
      by_one = λ worker was.
          (let Q : FiledSeen g.row.E-Tag.Denot g.row.E-Goal.Denot → Type 0 = λ f. IsClaimBy tag worker f.claim in
          let both = i.by_one worker was in
          let left = All-pop Q _ _ (Some c.in-Some.filed) popped both.0 in (
            left.0,
            elim e.others [
              | inl same ↦ All-same Q _ _ same both.1
              | inr more ↦ All-same Q _ _ more (All-push Q _ _ both.1 left.1)
            ],
          ));
      goes = goes-on g.E.Goal.PartialEq.eq c.args.table.now c.args.self.now.filings c.loop-filed.table c.file_one.new.table _ _ _ _ c.in-Some.filed popped i.goes e.files e.stays_stopped;
      same_tag = e.tag ∙ i.same_tag;
    }

pub returns-clause-batch : goal.returns-clause-batch
returns-clause-batch g c worker was =
    let tag = c.args.table.now.tag in
    let i = c.loop-filed.invariant in record {
      claims = All-same (IsClaimBy tag worker) _ _ i.claims was.claims;
      filings = All-same (λ f. IsClaimBy tag worker f.claim) _ _ (ap (λ v. v.items) c.replace.ensures.after) (i.by_one worker was.filings).1;
    }

pub returns-clause-files : goal.returns-clause-files
returns-clause-files g c =
    let eq = g.E.Goal.PartialEq.eq in
    let waiting = c.loop-filed.self-inside.filings in
    let none = nothing-left waiting.items (sym waiting.ok.0 ∙ c.in_default.ensures.cases.0) in
    let through = goes-through eq c.args.table.now c.args.self.now.filings c.loop-filed.table waiting.items c.loop-filed.others.items none c.loop-filed.invariant.goes in
    subst (λ (l : List (FiledSeen g.row.E-Tag.Denot g.row.E-Goal.Denot)).
    (c.loop-filed.table.stopped ≡ true) ⊎ FilesEach eq c.args.table.now (reverse c.args.self.now.filings) l c.loop-filed.table)
    (sym (ap (λ v. v.items) c.replace.ensures.after)) through
