use Rattle.std.proofs.Common.{◌≡◌, ◌∙◌, arith, sym, refl, length, ◌+◌, ◌-◌}
use Rattle.std.proofs.lemmas.List.{nil_from_length, get_or_read}
use Rattle.cls_lexer.proofs.LineEndings.{without_return-take, without_return-same}
use Rattle.cls_lexer.proofs.line.Line.ended_owned.Goals as goal
use Rattle.cls_lexer.proofs.line.Line.ended_owned.Goals.{then-count-gt0+then-index-eq13, else-count-gt0, else-count-gt0-via-then-count-gt0+else-index-eq13, else-count-gt0-via-else-count-gt0}

pub returns : goal.returns
returns c =
    c.of_bytes.ensures ∙ elim c.if-count-gt0.branch [
      | then-count-gt0+then-index-eq13 w ↦
          let kept = w.truncate.ensures.items in
          let is = w.bytes-is in
          let n : c.len-count.result - 1 + 1 ≡ length c.args.bytes.items = omega (arith, c.len-count.ensures) in
          let e = without_return-take c.args.bytes.items (c.len-count.result - 1) n (let r = w.index.ensures in let t = w.if-index-eq13.true in grind (arith, get_or_read)) in rw (is, kept) (sym e)
      | else-count-gt0 w ↦ elim w.else-count-gt0.branch [
        | else-count-gt0-via-then-count-gt0+else-index-eq13 w' ↦ rw w.bytes-is (sym (without_return-same c.args.bytes.items (c.len-count.result - 1) (omega (arith, c.len-count.ensures)) (let r = w'.index.ensures in let t = w'.if-index-eq13.false in λ h. grind (arith, get_or_read))))
        | else-count-gt0-via-else-count-gt0 w' ↦ let e = w'.if-count-gt0.false in let z : length c.args.bytes.items ≡ 0 = omega (arith, c.len-count.ensures) in rw (w.bytes-is, nil_from_length c.args.bytes.items z) refl
      ]
    ]
