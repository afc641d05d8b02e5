use Rattle.std.proofs.Common.{◌++◌, ℕ, List, ap, ◌∙◌}
use Rattle.std.specs.Prelude.{codes}
use Rattle.std.specs.List.{flat_map}
use Rattle.cls_replies.specs.Texts.{inhabited_line, reply_line}
use Rattle.cls_replies.proofs.batches.batch_lines.Goals as goal

pub returns : goal.returns
returns c =
    let each = c.in_ok-write_each.ensures
    ∙ (λ i. c.requires i ++ flat_map inhabited_line (c.as_slice.ensures.value i)) in
    c.in_ok-push_str.ensures.bytes ∙ ap (λ (t : List ℕ). t ++ reply_line (codes "done")) each
