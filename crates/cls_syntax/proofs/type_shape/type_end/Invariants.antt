use Rattle.std.proofs.Common.{◌≡◌, ◌≤◌, drop, map}
use Rattle.cls_lexer.specs.Words.{word_of}
use Rattle.cls_syntax.specs.Sorts.{sort_of}
use Rattle.cls_syntax.specs.TypeShapes.{shape_start, shape_reading}
use Rattle.cls_syntax.proofs.type_shape.type_end.Given as goal

abbrev pub invariant-loop-place : goal.invariant-loop-place
invariant-loop-place l = record {
  few : l.shape.depth ≤ l.place;
  same : shape_reading l.shape l.place (map (λ x. sort_of (word_of x)) (drop l.place l.tokens)) ≡ shape_reading shape_start 0 (map (λ x. sort_of (word_of x)) l.tokens);
}
