use Rattle.std.proofs.Common.{◌≡◌, ◌-◌, ◌≤◌, ◌++◌, drop, length, map}
use Rattle.std.specs.Str.{IsCharBoundary}
use Rattle.cls_lexer.specs.Tokens.{located, tokens_from, tokens_of}
use Rattle.cls_lexer.proofs.scan.tokens_into.Given as goal

abbrev pub invariant-loop-at : goal.invariant-loop-at
invariant-loop-at l = record {
  within : l.at ≤ length l.line;
  boundary : IsCharBoundary l.line l.at;
  same : map located l.list.items ++ tokens_from l.at 0 (drop l.at l.line) ≡ tokens_of l.line;
}

abbrev pub decreases-loop-at : goal.decreases-loop-at
decreases-loop-at l = length l.line - l.at
