use Rattle.std.proofs.Common.{◌≡◌, ◌+◌, ◌*◌, ◌≤◌, ◌∷◌, true, length, take, reverse}
use Rattle.cls_walk.specs.Filled.{needs}
use Rattle.cls_walk.specs.Stretches.{Remembers}
use Rattle.cls_walk.specs.Walks.{IsWantedByOne, Lists}
use Rattle.cls_walk.proofs.walk.+descend.Given as goal

abbrev pub decreases-go : goal.decreases-go
decreases-go l = 4 * (needs l.plan.now.least.now (reverse l.walk.now.awaited.items) + l.slack) + 3

abbrev pub decreases-recall : goal.decreases-recall
decreases-recall l = 4 * (needs l.plan.now.least.now (l.node ∷ reverse l.walk.now.awaited.items) + l.slack) + 2

abbrev pub decreases-each_form : goal.decreases-each_form
decreases-each_form l = 4 * (needs l.plan.now.least.now (l.node ∷ reverse l.walk.now.awaited.items) + l.slack) + 1

abbrev pub decreases-follow : goal.decreases-follow
decreases-follow l = 4 * (l.least + needs l.plan.now.least.now (reverse l.walk.now.awaited.items) + l.slack)

abbrev pub invariant-each_form-loop-place : goal.invariant-each_form-loop-place
invariant-each_form-loop-place l = record {
  awaited : l.walk.awaited.items ≡ l.fn.walk.awaited.items;
  code : l.walk.code.items ≡ l.fn.walk.code.items;
  few : length l.walk.codes ≤ l.plan.take;
  known : Remembers l.plan l.walk;
  listed : let ns = reverse l.fn.walk.awaited.items in
      Lists (IsWantedByOne l.plan (take l.place l.forms) ns (needs l.plan.least.now (l.node ∷ ns) + l.slack) l.cursor) l.fn.walk l.walk true;
}
