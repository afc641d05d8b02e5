use Rattle.std.proofs.Common.{◌≡◌, ◌<◌, false, length, arith}
use Rattle.cls_syntax.specs.LineReading.{number_text}
use Rattle.cls_syntax.proofs.TokenLists.{is_numeral_token, numeral_here, numeral_gone, all_there, not_all, front_passes}
use Rattle.cls_syntax.proofs.word_list.numbers_at.Goals as goal

pub invariant_of-result : goal.invariant_of-result
invariant_of-result c = record {
  numbers = front_passes number_text false is_numeral_token numeral_here numeral_gone c.args.tokens.now c.split_at.result.0.now c.split_at.result.1.now c.number_count.result c.number_count.ensures.count c.split_at.ensures.front c.split_at.ensures.back;
}

pub returns-then-is_empty : goal.returns-then-is_empty
returns-then-is_empty c =
    let zero : length c.split_at.result.1.now ≡ 0 = (let a = c.is_empty.ensures in let b = c.if-is_empty.true in grind arith) in
    all_there number_text false is_numeral_token numeral_here numeral_gone c.args.tokens.now c.split_at.result.0.now c.split_at.result.1.now c.number_count.result c.number_count.ensures.count c.split_at.ensures.front c.split_at.ensures.back zero

pub returns-else-is_empty : goal.returns-else-is_empty
returns-else-is_empty c =
    let some : 0 < length c.split_at.result.1.now = (let a = c.is_empty.ensures in let b = c.if-is_empty.false in grind arith) in
    not_all number_text false is_numeral_token numeral_here numeral_gone c.args.tokens.now c.split_at.result.0.now c.split_at.result.1.now c.number_count.result c.number_count.ensures.count c.split_at.ensures.front c.split_at.ensures.back some
