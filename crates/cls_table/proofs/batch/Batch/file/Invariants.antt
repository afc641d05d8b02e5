use Rattle.std.proofs.Common.{◌≡◌, ℕ, vec_len}
use Rattle.std.specs.Prelude.{All}
use Rattle.cls_table.specs.Batches.{IsClaimBy}
use Rattle.cls_table.proofs.Filing.{Goes}
use Rattle.cls_table.proofs.batch.Batch.file.Given as goal

abbrev pub invariant-loop-filed : goal.invariant-loop-filed
invariant-loop-filed g l = record {
  claims : l.self-inside.claims.items ≡ l.fn.self.claims;
  tagged : All (λ f. f.claim.tag ≡ l.fn.table.tag) l.self-inside.filings.items;
  by_one : (worker : ℕ) → All (λ f. IsClaimBy l.fn.table.tag worker f.claim) l.fn.self.filings
      → All (λ f. IsClaimBy l.fn.table.tag worker f.claim) l.self-inside.filings.items
      × All (λ f. IsClaimBy l.fn.table.tag worker f.claim) l.others.items;
  goes : Goes g.E.Goal.PartialEq.eq l.fn.table l.fn.self.filings l.table l.self-inside.filings.items l.others.items;
  same_tag : l.table.tag ≡ l.fn.table.tag;
}

abbrev pub decreases-loop-filed : goal.decreases-loop-filed
decreases-loop-filed g l = vec_len l.self-inside.filings
