use Rattle.std.proofs.Common.{◌≡◌, length, ap, arith}
use Rattle.std.proofs.lemmas.Str.{IsUtf8-string_bytes}
use Rattle.std.specs.Prelude.{string_bytes}
use Rattle.cls_lexer.proofs.line.Line.of_bytes.Goals as goal

pub invariant_of-t-13 : goal.invariant_of-t-13
invariant_of-t-13 c =
    let few : length (string_bytes c.in-Ok.text) ≡ length c.args.bytes.items = ap (λ v. length v.items) c.in-Ok.ensures.ok in
    (omega (arith, few), IsUtf8-string_bytes c.in-Ok.text)
