use Rattle.std.proofs.Common.{ℕ, ◌≤◌, ◌≡◌, List, [], length, take, Contains}
use Rattle.std.specs.Prelude.{map}
use Rattle.cls_path.specs.Paths.{TypePath, Paths, more}
use Rattle.cls_library.specs.Rules.{IsChoice}
use Rattle.cls_expand.specs.Answers.{rule_of}
use Rattle.cls_expand.specs.Making.{AreBegun, choice_at}
use Rattle.cls_expand.proofs.cover_rules.add_few.Given as goal

abbrev pub invariant-loop-place : goal.invariant-loop-place
invariant-loop-place l = record {
  begun : (q : TypePath) (rest : Paths) (from : ℕ) → from ≤ l.x → ((s : List ℕ) → Contains l.covers s → IsChoice l.lib (more q rest) (choice_at l.x l.n s)) → AreBegun l.lib (more q rest) from l.x l.n [] (map rule_of l.fn.rules) → AreBegun l.lib (more q rest) from l.x l.n (take l.place l.covers) (map rule_of l.rules);
  within : l.begin ≤ length l.rules;
  front : take l.begin l.rules ≡ l.fn.rules;
}
