-- What the rules of a goal have to do with typing, and how components make them.
use Rattle.std.specs.Prelude.{ℕ, ◌≡◌, ◌<◌, ◌↔◌, List, [], Contains, length, slice_index_or}
use Rattle.cls_base.specs.Terms.{Applicative}
use Rattle.cls_base.specs.declared.rule.Rule.{Rule}
use Rattle.cls_base.specs.Languages.{Generates}
use Rattle.cls_path.specs.Paths.{TypePath, Paths, none, type_of_paths, SuitsAll}
use Rattle.cls_base.specs.Arguments.{arguments_in}
use Rattle.cls_core.specs.declared.answer.Answer.TheVariants.{Rules, Wide}
use Rattle.cls_library.specs.Libraries.{Library, IsLibrary, variances_in, paths_at}
use Rattle.cls_library.specs.Rules.{IsRules, HasRule}
use Rattle.cls_library.specs.Typing.{HasTypeIn}
use Rattle.cls_expand.specs.Answers.{IsAnswer, IsAnswerBy}
use Rattle.cls_expand.specs.ByComponent.{rules_with, arguments_by, rules_joined}

-- the rules of omega generate the terms that have omega, and no others
abbrev pub OmegaHasAllTerms : Type 0
OmegaHasAllTerms =
    (lib : Library) → IsLibrary lib → (e : Applicative)
    → Generates Paths (HasRule lib) none e ↔ HasTypeIn lib e (type_of_paths none)

-- the goal has rules, and their arguments are among the goals
pub record IsClosedGoal (lib : Library) (goals : List Paths) (g : Paths) : Type 0 where
  pub suits : SuitsAll (variances_in lib.taxonomy) g
  pub rules : List (Rule Paths)
  pub are_rules : IsRules lib g rules
  pub arguments : (m : Paths) → Contains (arguments_in rules) m → Contains goals m

-- Goals with rules, whose arguments are among them, generate the terms that have their types, and no others.
abbrev pub LanguagesAreTypes : Type 0
LanguagesAreTypes =
    (lib : Library) → IsLibrary lib → (goals : List Paths)
    → ((g : Paths) → Contains goals g → IsClosedGoal lib goals g) → (g : Paths) → Contains goals g → (e : Applicative)
    → Generates Paths (HasRule lib) g e ↔ HasTypeIn lib e (type_of_paths g)

-- Each rule that a component makes for a goal has that component.
abbrev pub RulesHaveTheirComponent : Type 0
RulesHaveTheirComponent =
    (lib : Library) (x : ℕ) (goal : List TypePath) (rs : List (Rule (List TypePath)))
    → IsAnswerBy lib x goal (Rules rs) → rs ≡ rules_with x (arguments_by x rs)

-- The rules of a goal that have a component are those that this component makes.
abbrev pub RulesAreByComponents : Type 0
RulesAreByComponents =
    (lib : Library) (goal : List TypePath) (rs : List (Rule (List TypePath))) → IsAnswer lib goal (Rules rs)
    → (x : ℕ) → x < length lib.components → IsAnswerBy lib x goal (Rules (rules_with x (arguments_by x rs)))

-- What the components make for a goal with a path, one after the other, are the rules of the goal.
abbrev pub ComponentsMakeTheRules : Type 0
ComponentsMakeTheRules =
    (lib : Library) (goal : List TypePath) (lists : List (List (List (List TypePath))))
    → 0 < length goal → length lists ≡ length lib.components
    → ((x : ℕ) → x < length lib.components → IsAnswerBy lib x goal (Rules (rules_with x (slice_index_or lists x []))))
    → IsAnswer lib goal (Rules (rules_joined 0 lists))

-- Components with the same paths, in libraries with one order of names, make rules with the same arguments for a goal, and
-- both or neither make it wide.
abbrev pub AnswersFollowPaths : Type 0
AnswersFollowPaths =
    (lib other : Library) (x y : ℕ) (goal : List TypePath) → lib.taxonomy ≡ other.taxonomy
    → x < length lib.components → y < length other.components → paths_at lib x ≡ paths_at other y
    → ((lists : List (List (List TypePath)))
    → IsAnswerBy lib x goal (Rules (rules_with x lists)) ↔ IsAnswerBy other y goal (Rules (rules_with y lists)))
    × (IsAnswerBy lib x goal Wide ↔ IsAnswerBy other y goal Wide)
