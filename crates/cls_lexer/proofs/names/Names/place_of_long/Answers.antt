use Rattle.std.proofs.Common.{◌∙◌, arith, ap}
use Rattle.std.specs.List.{position}
use Rattle.std.specs.Str.{bytes_eq}
use Rattle.cls_lexer.proofs.KeyedTexts.{key_tells, position_keys, keys_length}
use Rattle.cls_lexer.proofs.names.Names.place_of_long.Goals as goal

pub overflow_cast-result : goal.overflow_cast-result
overflow_cast-result c =
    let long = keys_length c.self.inside.keys.keys c.self.inside.texts c.self.invariant.1 in
    let few = c.self.invariant.0.few in
    let within = c.in_ok-place.ensures.within in
    omega (arith, long, few, within)

pub returns-in_err-place-clause-place : goal.returns-in_err-place-clause-place
returns-in_err-place-clause-place c text is =
    c.from_residual.ensures ∙ (c.in_err-place.ensures.index
    ∙ (position_keys _ text (key_tells (λ own. own.now) c.args.key text is) c.self.inside.keys.keys c.self.inside.texts c.self.invariant.1
    ∙ ap (position (bytes_eq text)) c.self.view_is))

pub returns-clause-place : goal.returns-clause-place
returns-clause-place c text is =
    c.in_ok-place.ensures.index
    ∙ (position_keys _ text (key_tells (λ own. own.now) c.args.key text is) c.self.inside.keys.keys c.self.inside.texts c.self.invariant.1
    ∙ ap (position (bytes_eq text)) c.self.view_is)
