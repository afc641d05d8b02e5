use Rattle.std.proofs.Common.{length}
use Rattle.cls_replies.proofs.Terms.{greatest_within}
use Rattle.cls_replies.proofs.pages.write_assembled.Goals as goal

pub text_of-requires : goal.text_of-requires
text_of-requires c = greatest_within (length c.args.templates.now) c.args.term.now c.requires
