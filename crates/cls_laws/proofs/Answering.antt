-- Each line after a repository has a reply.
use Rattle.cls_laws.specs.Existence.{LinesHaveReplies}
use Rattle.cls_laws.proofs.Openings.{answered_can}
use Rattle.cls_laws.proofs.Replies.{next_exists, last_exists}

pub lines_have_replies : LinesHaveReplies
lines_have_replies = record {
  goes = λ o lines text s h line. next_exists s (answered_can o lines text s h) line;
  ends = λ o lines text s h. last_exists s (answered_can o lines text s h);
}
