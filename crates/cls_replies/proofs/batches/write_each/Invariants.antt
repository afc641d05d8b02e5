use Rattle.std.proofs.Common.{◌≡◌, ◌++◌, drop}
use Rattle.std.specs.Prelude.{string_bytes}
use Rattle.std.specs.List.{flat_map}
use Rattle.cls_replies.specs.Texts.{inhabited_line}
use Rattle.cls_replies.proofs.batches.write_each.Given as goal

abbrev pub invariant-loop-yes : goal.invariant-loop-yes
invariant-loop-yes l =
    string_bytes l.text ++ flat_map inhabited_line (drop l.yes-index l.says) ≡ string_bytes l.initial.text ++ flat_map inhabited_line l.says
