use Rattle.std.proofs.Common.{vec_len}
use Rattle.cls_table.proofs.batch.spend_filings.Given as goal

abbrev pub decreases-loop-filed : goal.decreases-loop-filed
decreases-loop-filed g l = vec_len l.filings
