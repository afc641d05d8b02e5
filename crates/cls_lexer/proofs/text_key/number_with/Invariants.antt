use Rattle.std.proofs.Common.{◌≡◌, ◌≤◌, length, drop}
use Rattle.cls_lexer.specs.TextKeys.{number_with}
use Rattle.cls_lexer.proofs.text_key.number_with.Given as goal

abbrev pub invariant-loop-place : goal.invariant-loop-place
invariant-loop-place l = (l.place ≤ length l.bytes) × (l.number ≡ number_with l.last (drop l.place l.bytes))

abbrev pub decreases-loop-place : goal.decreases-loop-place
decreases-loop-place l = l.place
