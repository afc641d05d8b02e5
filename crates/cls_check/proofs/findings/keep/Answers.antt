use Rattle.std.proofs.Common.{◌∙◌, inl, inr}
use Rattle.cls_check.proofs.findings.keep.Goals as goal

pub returns : goal.returns
returns c = λ g m. elim ((c.in_ok-put.ensures g).0 m) [ inl a ↦ inl a | inr e ↦ inr (e ∙ c.in_ok-copy.ensures) ]
