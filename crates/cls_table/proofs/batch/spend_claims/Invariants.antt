use Rattle.std.proofs.Common.{vec_len}
use Rattle.cls_table.proofs.batch.spend_claims.Given as goal

abbrev pub decreases-loop-claim : goal.decreases-loop-claim
decreases-loop-claim g l = vec_len l.claims
