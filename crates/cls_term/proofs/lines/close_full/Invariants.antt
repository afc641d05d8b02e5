use Rattle.std.proofs.Common.{ℕ, List, string_bytes}
use Rattle.cls_term.specs.Lines.{IsAtEnd, IsClosed}
use Rattle.cls_term.proofs.lines.close_full.Given as goal

abbrev pub decreases-loop-place : goal.decreases-loop-place
decreases-loop-place l = l.place

abbrev pub invariant-loop-place : goal.invariant-loop-place
invariant-loop-place l = (stack : List ℕ) → IsAtEnd l.standings stack → IsClosed l.standings stack (string_bytes l.fn.text) (string_bytes l.text) l.place
