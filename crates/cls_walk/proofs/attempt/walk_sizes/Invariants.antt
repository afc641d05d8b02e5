use Rattle.std.proofs.Common.{◌≡◌, ◌≤◌, ℕ, List, [], length, map}
use Rattle.std.specs.Prelude.{option_copied}
use Rattle.cls_base.specs.Languages.{IsGenerated}
use Rattle.cls_base.specs.Pages.{IsDue}
use Rattle.cls_base.specs.Terms.{Applicative, code_of}
use Rattle.cls_base.specs.declared.rule.Rule.{Rule}
use Rattle.cls_enum.specs.Requests.{request}
use Rattle.cls_walk.specs.FramePlans.{IsPlan}
use Rattle.cls_walk.specs.PageFronts.{IsDueFront}
use Rattle.cls_walk.specs.Stretches.{Remembers}
use Rattle.cls_walk.proofs.attempt.walk_sizes.Given as goal

abbrev pub invariant-loop-size : goal.invariant-loop-size
invariant-loop-size l = record {
  some : 1 ≤ l.size;
  awaited : l.walk.awaited.items ≡ [];
  code : l.walk.code.items ≡ [];
  few : length l.walk.codes ≤ l.plan.take;
  known : Remembers l.plan l.walk;
  listed : (book : List (List (Rule ℕ))) (max : ℕ) → IsPlan book l.last l.plan → l.last ≤ max
      → let r = request l.plan.costs.now (option_copied l.after) max l.plan.take in
      (es : List Applicative) × (l.walk.codes ≡ map code_of es) × IsDueFront (IsDue (IsGenerated book 0) r) r.cost l.size ⊥ es;
}
