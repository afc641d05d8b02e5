use Rattle.std.proofs.Common.{◌≡◌, ◌++◌, drop, string_bytes}
use Rattle.cls_cert.specs.Left.{named_rows_text}
use Rattle.cls_cert.proofs.row_lines.write_rows.Given as goal

abbrev pub invariant-loop-place : goal.invariant-loop-place
invariant-loop-place l = string_bytes l.text ++ named_rows_text l.named (drop l.place l.rows) ≡ string_bytes l.initial.text ++ named_rows_text l.named (drop l.from l.rows)
