-- The answer that a library means for a goal.
use Rattle.std.specs.Prelude.{ℕ, ◌≡◌, ◌<◌, List, [], length, map, slice_index_or}
use Rattle.cls_base.specs.Terms.{Applicative}
use Rattle.cls_base.specs.declared.rule.Rule.{Rule}
use Rattle.cls_path.specs.Paths.{TypePath, Paths, listed, type_of_paths}
use Rattle.cls_path.specs.NormalForms.{IsNormal}
use Rattle.cls_norm.specs.Fit.{IsFit}
use Rattle.cls_base.specs.Arguments.{map_rule}
use Rattle.cls_core.specs.declared.answer.Answer.{Answer}
use Rattle.cls_core.specs.declared.answer.Answer.TheVariants.{Rules, Wide}
use Rattle.cls_library.specs.Libraries.{Library, IsLibrary, below_in, variances_in}
use Rattle.cls_library.specs.Typing.{HasTypeIn}
use Rattle.cls_library.specs.Rules.{IsRules, IsRulesBy, IsWide, IsWideBy}
use Rattle.cls_expand.specs.ByComponent.{rules_with, rules_joined}

-- a rule of the program as one of the definition
abbrev pub rule_of : Rule (List TypePath) → Rule Paths
rule_of r = map_rule listed r

-- the rules of the goal, or that it is wide
abbrev pub IsAnswer : Library → List TypePath → Answer (List TypePath) → Type 0
IsAnswer l goal (Rules rs) = (IsWide l (listed goal) → ⊥) × IsRules l (listed goal) (map rule_of rs)
IsAnswer l goal Wide = IsWide l (listed goal)

-- the rules that one component makes for the goal, or that it makes the goal wide
abbrev pub IsAnswerBy : Library → ℕ → List TypePath → Answer (List TypePath) → Type 0
IsAnswerBy l x goal (Rules rs) = (IsWideBy l x (listed goal) → ⊥) × IsRulesBy l x (listed goal) (map rule_of rs)
IsAnswerBy l x goal Wide = IsWideBy l x (listed goal)

-- the rules that the components before x make for the goal, one after the other: for each of them the arguments of its rules
pub record AreRulesBefore (l : Library) (x : ℕ) (goal : List TypePath) (rs : List (Rule (List TypePath))) : Type 0 where
  pub lists : List (List (List (List TypePath)))
  pub count : length lists ≡ x
  pub each : (y : ℕ) → y < x → IsAnswerBy l y goal (Rules (rules_with y (slice_index_or lists y [])))
  pub joined : rs ≡ rules_joined 0 lists

-- a goal that can be worked on by a library
pub record IsReady (l : Library) (goal : List TypePath) : Type 0 where
  pub library : IsLibrary l
  pub normal : IsNormal (below_in l.taxonomy) (variances_in l.taxonomy) (listed goal)
  pub fit : IsFit (type_of_paths (listed goal))

-- the term has the type of the goal by the typing rules
abbrev pub HasGoal : Library → Applicative → List TypePath → Type 0
HasGoal l e goal = HasTypeIn l e (type_of_paths (listed goal))
