use Rattle.std.proofs.Common.{◌≡◌, ◌∙◌, arith, sym, refl, length, ◌+◌, ◌-◌}
use Rattle.std.proofs.lemmas.List.{nil_from_length}
use Rattle.cls_lexer.proofs.LineEndings.{without_return-take, without_return-same}
use Rattle.cls_lexer.proofs.line.Line.ended.Goals as goal
use Rattle.cls_lexer.proofs.line.Line.ended.Goals.{else-count-gt0-via-then-count-gt0+else-bytes-count-eq13, else-count-gt0-via-else-count-gt0}

pub returns-then-bytes-count-eq13 : goal.returns-then-bytes-count-eq13
returns-then-bytes-count-eq13 c =
    let n : length c.args.bytes.now - 1 + 1 ≡ length c.args.bytes.now = omega (arith, c.if-count-gt0.true) in
    c.new.ensures ∙ sym (without_return-take c.args.bytes.now (length c.args.bytes.now - 1) n c.if-bytes-count-eq13.true)

pub returns : goal.returns
returns c =
    c.new-2.ensures ∙ elim c.else-count-gt0.branch [
      | else-count-gt0-via-then-count-gt0+else-bytes-count-eq13 w ↦
          let n : length c.args.bytes.now - 1 + 1 ≡ length c.args.bytes.now = omega (arith, w.if-count-gt0.true) in
          sym (without_return-same c.args.bytes.now (length c.args.bytes.now - 1) n w.if-bytes-count-eq13.false)
      | else-count-gt0-via-else-count-gt0 w ↦
          let z : length c.args.bytes.now ≡ 0 = omega (arith, w.if-count-gt0.false) in
          rw (nil_from_length c.args.bytes.now z) refl
    ]
