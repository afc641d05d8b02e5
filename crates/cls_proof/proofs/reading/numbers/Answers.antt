use Rattle.cls_syntax.specs.SpelledNumbers.{numerals_of}
use Rattle.cls_proof.proofs.NumberLists.{in_range, read_next, left_next}
use Rattle.cls_proof.proofs.reading.numbers.Goals as goal

pub loop-numeral-preserved : goal.loop-numeral-preserved
loop-numeral-preserved c =
    let full = numerals_of c.args.numerals in
    let rest = numerals_of c.loop-numeral.rest in
    let others = numerals_of c.in-Some.others in
    let digits = c.in-Some.numeral.text.now in
    let found = in_range digits c.in-Some-value.number c.in-Some-value.ensures.0 c.in-Some-value.ensures.1 in
    record {
      read = read_next full rest others digits c.in-Some.ensures c.loop-numeral.numbers c.push.new.self c.in-Some-value.number c.in_ok-push.ensures found c.loop-numeral.invariant.read;
      left = left_next full rest others digits c.in-Some.ensures c.loop-numeral.invariant.left;
    }
