use Rattle.std.proofs.Common.{List, ℕ, ap, ◌∙◌}
use Rattle.cls_cover.specs.Flags.{bit}
use Rattle.cls_cover.proofs.Words.{flag_read}
use Rattle.cls_cover.proofs.flags.Flags.has.Goals as goal

pub returns : goal.returns
returns c = flag_read c.as_slice.result.now c.args.f ∙ ap (λ (q : List ℕ). bit q c.args.f) c.as_slice.ensures
