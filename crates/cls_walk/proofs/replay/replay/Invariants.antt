use Rattle.std.proofs.Common.{◌≡◌, ◌-◌, ◌≤◌, ◌++◌, ℕ, List, length, map, take}
use Rattle.cls_walk.specs.Stretches.{Holds}
use Rattle.cls_walk.proofs.replay.replay.Given as goal

abbrev pub invariant-loop-place : goal.invariant-loop-place
invariant-loop-place l = record {
  awaited : l.walk.awaited.items ≡ l.fn.walk.awaited.items;
  code : l.walk.code.items ≡ l.fn.walk.code.items;
  known : l.walk.known ≡ l.fn.walk.known;
  few : length l.walk.codes ≤ l.plan.take;
  listed : (ws : List (List ℕ)) → Holds l.stretch l.fn.walk.codes ws
      → l.walk.codes ≡ l.fn.walk.codes ++ map (λ w. l.fn.walk.code.items ++ w) (take (l.place - l.stretch.start) ws);
}
