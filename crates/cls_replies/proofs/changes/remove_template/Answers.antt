use Rattle.std.proofs.Common.{List, length, ap, ◌∙◌, arith}
use Rattle.cls_assemble.specs.declared.piece.Piece.{Piece}
use Rattle.cls_replies.proofs.changes.remove_template.Goals as goal

pub remove-requires : goal.remove-requires
remove-requires c =
    let items = ap (λ (ts : List (List Piece)). length ts) (c.into_vec-items.ensures ∙ c.replace.ensures.value) in
    omega (arith, c.requires, items, c.into_vec-items.result.ok.0)
