use Rattle.std.proofs.Common.{refl, sym}
use Rattle.std.proofs.lemmas.Option.{slice_get_read}
use Rattle.cls_repo.proofs.TemplateTexts.{no_sign, sign_cut}
use Rattle.cls_repo.proofs.declaration.template_text.Goals as goal

pub range_from-requires : goal.range_from-requires
range_from-requires c = λ some. sign_cut c.args.line.now c.args.tokens.now c.requires c.in-Some.sign.now c.utf8.line (slice_get_read c.args.tokens.now _ 2 c.in-Some.sign.now refl c.in-Some.ensures.lookup.3.0 c.in-Some.ensures.lookup.1)

pub returns-in-None : goal.returns-in-None
returns-in-None c = sym (no_sign c.args.line.now c.args.tokens.now c.requires c.in-None.ensures.lookup.3)
