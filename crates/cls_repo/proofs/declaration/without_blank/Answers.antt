use Rattle.std.proofs.Common.{ℕ, List, Bor, refl, ap, ◌∙◌, arith}
use Rattle.std.proofs.lemmas.Str.Pattern.{strip_prefix_char}
use Rattle.cls_repo.proofs.TemplateTexts.{behind_space, behind_tab}
use Rattle.cls_repo.proofs.declaration.without_blank.Goals as goal

pub returns-in-Some : goal.returns-in-Some
returns-in-Some c =
    let found = strip_prefix_char 32 c.args.text.now c.strip_prefix.result c.strip_prefix.ensures.cases (omega arith) in
    behind_space c.args.text.now c.in-Some.rest.now (rw c.in-Some.is at found)

pub returns : goal.returns
returns c =
    let bs = c.args.text.now in
    let space = strip_prefix_char 32 bs c.strip_prefix.result c.strip_prefix.ensures.cases (omega arith) in
    let tab = strip_prefix_char 9 bs c.strip_prefix-2.result c.strip_prefix-2.ensures.cases (omega arith) in
    ap (λ (t : Bor (List ℕ)). t.now) c.unwrap_or.ensures ∙ behind_tab bs c.strip_prefix-2.result c.args.text refl (rw c.in_default.is at space) tab
