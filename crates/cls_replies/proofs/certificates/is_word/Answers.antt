use Rattle.cls_lexer.specs.Words.{word_of}
use Rattle.cls_replies.proofs.FirstWords.{passed, taken}
use Rattle.cls_replies.proofs.certificates.is_word.Goals as goal

pub returns-in-Ok : goal.returns-in-Ok
returns-in-Ok c = taken c.args.word.now (word_of c.args.token) _ c.in-Ok.ensures

pub returns-in-Err : goal.returns-in-Err
returns-in-Err c = passed c.args.word.now (word_of c.args.token) _ c.in-Err.ensures
