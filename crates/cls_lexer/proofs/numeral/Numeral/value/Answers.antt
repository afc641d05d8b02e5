use Rattle.std.proofs.Common.{ℕ, ◌<◌, ◌^◌, Option, sym, subst}
use Rattle.std.specs.Option.{SomeIff}
use Rattle.cls_lexer.specs.Numerals.{number_value}
use Rattle.cls_lexer.proofs.Numerals.{numeral_parsed, SomeIff-result_ok}
use Rattle.cls_lexer.proofs.numeral.Numeral.value.Goals as goal

pub returns : goal.returns
returns c =
    let text = c.args.self.now.text.now in
    let parsed = numeral_parsed text c.parse.result c.parse.ensures.value.0 c.args.self.now.digits in
    subst (λ (o : Option ℕ). SomeIff o (number_value text < 2 ^ 32) (number_value text)) (sym c.ok.ensures.value) (SomeIff-result_ok c.parse.result (number_value text < 2 ^ 32) (number_value text) parsed)
