use Rattle.std.proofs.Common.{ap, sym, ◌∙◌, ℕ, List, length}
use Rattle.std.specs.Bool.{◌==◌}
use Rattle.cls_cert.proofs.BlockLaws.{first_some}
use Rattle.cls_cert.proofs.blocks.has_first.Goals as goal

pub returns-in-Some : goal.returns-in-Some
returns-in-Some c = first_some c.args.families.now c.in-Some.family.now c.is_empty.result (sym c.in-Some.ensures.value) (c.is_empty.ensures ∙ ap (λ (s : List ℕ). length s == 0) c.as_slice.ensures)
