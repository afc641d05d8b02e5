use Rattle.std.proofs.Common.{◌≡◌, ◌++◌, drop}
use Rattle.std.specs.Prelude.{string_bytes}
use Rattle.std.specs.List.{flat_map}
use Rattle.cls_replies.proofs.items.print_items.Given as goal

abbrev pub invariant-loop-place : goal.invariant-loop-place
invariant-loop-place g l =
    let line = g.T.Item.line in
    string_bytes l.text ++ flat_map line (drop l.place l.items) ≡ string_bytes l.initial.text ++ flat_map line (drop l.from l.items)
