use Rattle.std.proofs.Common.{List, ℕ}
use Rattle.cls_term.specs.Lines.{IsLine, IsWholeLine}
use Rattle.cls_term.specs.Texts.{name_at}
use Rattle.cls_term.proofs.lines.Line.write.Given as goal

abbrev pub invariant-loop-place : goal.invariant-loop-place
invariant-loop-place l =
    (word : List ℕ) → IsWholeLine (name_at l.components) word l.before l.fn.self → IsLine (name_at l.components) word l.code l.place l.self
