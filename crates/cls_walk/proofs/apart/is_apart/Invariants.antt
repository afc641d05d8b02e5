use Rattle.std.proofs.Common.{drop}
use Rattle.cls_walk.specs.Apart.{AreApart, AreApartBehind}
use Rattle.cls_walk.proofs.apart.is_apart.Given as goal

abbrev pub invariant-loop-place : goal.invariant-loop-place
invariant-loop-place l = AreApartBehind l.seen (drop l.place l.rules) → AreApart l.rules
