use Rattle.std.proofs.Common.{◌≡◌, ◌∙◌, ℕ, arith, sym, refl, ap, length, ◌+◌, ◌-◌, get_or, take, subst, List}
use Rattle.std.proofs.lemmas.List.{nil_from_length}
use Rattle.cls_lexer.proofs.LineEndings.{without_return-take, without_return-same}
use Rattle.cls_lexer.proofs.line.Line.ended_text.Goals as goal
use Rattle.cls_lexer.proofs.line.Line.ended_text.Goals.{else-count-gt0-via-then-count-gt0+else-as_bytes-count-eq13, else-count-gt0-via-else-count-gt0}

pub returns-then-as_bytes-count-eq13 : goal.returns-then-as_bytes-count-eq13
returns-then-as_bytes-count-eq13 c =
    let n : length c.args.text.now - 1 + 1 ≡ length c.args.text.now = omega (arith, c.if-count-gt0.true) in
    let last : get_or c.args.text.now (length c.args.text.now - 1) 0 ≡ 13
    = subst (λ (bs : List ℕ). get_or bs (length c.args.text.now - 1) 0 ≡ 13) c.as_bytes.ensures.value c.if-as_bytes-count-eq13.true in
    let less : length c.args.text.now - 1 - 0 ≡ length c.args.text.now - 1 = omega arith in
    rw (c.from_text.ensures, c.range.ensures.value)
    (ap (λ (k : ℕ). take k c.args.text.now) less ∙ sym (without_return-take c.args.text.now (length c.args.text.now - 1) n last))

pub returns : goal.returns
returns c =
    c.from_text-2.ensures ∙ elim c.else-count-gt0.branch [
      | else-count-gt0-via-then-count-gt0+else-as_bytes-count-eq13 w ↦
          let n : length c.args.text.now - 1 + 1 ≡ length c.args.text.now = omega (arith, w.if-count-gt0.true) in
          sym (without_return-same c.args.text.now (length c.args.text.now - 1) n (λ h. w.if-as_bytes-count-eq13.false
          (subst (λ (bs : List ℕ). get_or bs (length c.args.text.now - 1) 0 ≡ 13) (sym w.as_bytes.ensures.value) h)))
      | else-count-gt0-via-else-count-gt0 w ↦
          let z : length c.args.text.now ≡ 0 = omega (arith, w.if-count-gt0.false) in
          rw (nil_from_length c.args.text.now z) refl
    ]
