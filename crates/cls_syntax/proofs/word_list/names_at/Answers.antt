use Rattle.std.proofs.Common.{◌≡◌, ◌<◌, ◌∙◌, Bool, length, arith, sym, ap}
use Rattle.std.specs.Prelude.{Err}
use Rattle.cls_lexer.specs.Words.{words}
use Rattle.cls_syntax.specs.Faults.{stop}
use Rattle.cls_syntax.specs.Roles.{takes_names}
use Rattle.cls_syntax.specs.LineReading.{name_text}
use Rattle.cls_syntax.proofs.TokenLists.{is_named, named_here, named_gone, all_there, not_all}
use Rattle.cls_syntax.proofs.word_list.names_at.Goals as goal

pub returns-then-is_empty : goal.returns-then-is_empty
returns-then-is_empty c =
    let r = c.args.role in
    let zero : length c.split_at.result.1.now ≡ 0 = (let a = c.is_empty.ensures in let b = c.if-is_empty.true in grind arith) in
    all_there (name_text r) (takes_names r) (is_named r) (named_here r) (named_gone r) c.args.tokens.now c.split_at.result.0.now c.split_at.result.1.now c.name_count.result c.name_count.ensures.count c.split_at.ensures.front c.split_at.ensures.back zero

pub returns-else-is_empty : goal.returns-else-is_empty
returns-else-is_empty c =
    let r = c.args.role in
    let some : 0 < length c.split_at.result.1.now = (let a = c.is_empty.ensures in let b = c.if-is_empty.false in grind arith) in
    not_all (name_text r) (takes_names r) (is_named r) (named_here r) (named_gone r) c.args.tokens.now c.split_at.result.0.now c.split_at.result.1.now c.name_count.result c.name_count.ensures.count c.split_at.ensures.front c.split_at.ensures.back some
    ∙ ap (λ (b : Bool). Err (stop (words c.split_at.result.1.now) b)) (sym c.takes_names.ensures)
