use Rattle.std.proofs.Common.{◌≡◌, ◌++◌, drop}
use Rattle.std.specs.Prelude.{string_bytes}
use Rattle.cls_path.specs.Paths.{listed}
use Rattle.cls_replies.specs.Texts.{path_lines}
use Rattle.cls_replies.proofs.paths.print_paths.Given as goal

abbrev pub invariant-loop-place : goal.invariant-loop-place
invariant-loop-place l = string_bytes l.text ++ path_lines l.names (listed (drop l.place l.items)) ≡ string_bytes l.initial.text ++ path_lines l.names (listed (drop l.from l.items))
