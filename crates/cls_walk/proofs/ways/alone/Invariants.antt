use Rattle.std.proofs.Common.{◌≡◌, [], ◌∷◌, length}
use Rattle.cls_walk.specs.Tables.{AreWays, number_at}
use Rattle.cls_walk.proofs.ways.alone.Given as goal

abbrev pub invariant-loop-rest : goal.invariant-loop-rest
invariant-loop-rest l = record {
  ways : AreWays (number_at l.table) (l.node ∷ []) l.list.items;
  long : length l.list.items ≡ l.rest;
}
