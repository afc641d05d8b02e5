use Rattle.std.proofs.Common.{◌≡◌, ◌≤◌, ◌+◌, vec_len}
use Rattle.std.specs.Prelude.{All}
use Rattle.std.specs.Vec.{vec_capacity}
use Rattle.cls_table.specs.Batches.{IsClaimBy}
use Rattle.cls_table.proofs.batch.Batch.claim.Given as goal

abbrev pub invariant-loop : goal.invariant-loop
invariant-loop g l = record {
  claims : All (IsClaimBy l.fn.table.tag l.fn.worker) l.self-inside.claims.items;
  filings : l.self-inside.filings.items ≡ l.fn.self.filings;
  count : vec_len l.self-inside.claims ≡ l.counter;
  room : l.count ≤ vec_capacity l.self-inside.claims;
  same_tag : l.table.tag ≡ l.fn.table.tag;
  same_parts : l.share.parts ≡ l.fn.share.parts;
  amount : l.share.amount ≡ l.fn.share.amount + l.counter;
}
