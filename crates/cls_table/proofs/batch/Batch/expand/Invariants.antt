use Rattle.std.proofs.Common.{◌≡◌, ◌≤◌, ◌+◌, ℕ, vec_len}
use Rattle.std.specs.Prelude.{All}
use Rattle.std.specs.Vec.{vec_capacity}
use Rattle.cls_table.specs.Batches.{IsBatchFor, KeepsWork}
use Rattle.cls_table.specs.declared.tag.Tag.{Tag}
use Rattle.cls_table.proofs.batch.Batch.expand.Given as goal

abbrev pub invariant-loop-claim : goal.invariant-loop-claim
invariant-loop-claim g l = record {
  meant : All (λ c. g.E.Expand.tag l.by ≡ c.tag.by) l.self-inside.claims.items;
  room : vec_len l.self-inside.filings + vec_len l.self-inside.claims ≤ vec_capacity l.self-inside.filings;
  work : KeepsWork l.fn.self (record { claims = l.self-inside.claims.items; filings = l.self-inside.filings.items });
  for_one : (t : Tag g.row.E-Tag.Denot g.row.E-Goal.Denot) (worker : ℕ) → IsBatchFor t worker l.fn.self
      → IsBatchFor t worker (record { claims = l.self-inside.claims.items; filings = l.self-inside.filings.items });
}

abbrev pub decreases-loop-claim : goal.decreases-loop-claim
decreases-loop-claim g l = vec_len l.self-inside.claims
