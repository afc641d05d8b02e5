use Rattle.std.proofs.Common.{◌≡◌, ◌≤◌, drop}
use Rattle.cls_lexer.specs.Words.{words}
use Rattle.cls_syntax.specs.Depths.{most_open}
use Rattle.cls_syntax.proofs.depth.deepest.Given as goal

abbrev pub invariant-loop-token : goal.invariant-loop-token
invariant-loop-token l = record {
  few : l.open ≤ l.token-index;
  same : most_open l.open l.most (words (drop l.token-index l.tokens)) ≡ most_open 0 0 (words l.tokens);
}
