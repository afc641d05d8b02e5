-- The goals that answers have for arguments.
use Rattle.std.specs.Prelude.{◌≡◌, ℕ, All, List, [], length, map}
use Rattle.cls_base.specs.declared.rule.Rule.{Rule}
use Rattle.cls_base.specs.Arguments.{arguments_in, map_rule}
use Rattle.cls_core.specs.declared.answer.Answer.{Answer}
use Rattle.cls_core.specs.declared.answer.Answer.TheVariants.{Rules, Wide}

module _ {G : Type 0} where
  -- the rules of an answer: a wide one has none
  abbrev pub rules_of : Answer G → List (Rule G)
  rules_of (Rules rs) = rs
  rules_of Wide = []

  abbrev pub rule_count : Answer G → ℕ
  rule_count (Rules rs) = length rs
  rule_count Wide = 0

  -- the arguments of an answer
  abbrev pub arguments_of : Answer G → List G
  arguments_of (Rules rs) = arguments_in rs
  arguments_of Wide = []

-- Each goal has at most one answer. IsAnswer g a says that a is an answer of the goal g.
abbrev pub HasUniqueAnswers : {G : Type 0} → (G → Answer G → Type 0) → Type 0
HasUniqueAnswers {G} IsAnswer = (g : G) (a b : Answer G) → IsAnswer g a → IsAnswer g b → a ≡ b

-- The arguments of each answer of a goal are ready if the goal is.
abbrev pub ArgumentsAreReady : {G : Type 0} → (G → Type 0) → (G → Answer G → Type 0) → Type 0
ArgumentsAreReady {G} IsReady IsAnswer =
    (g : G) (a : Answer G) → IsReady g → IsAnswer g a → All IsReady (arguments_of a)

module _ {G H : Type 0} (f : G → H) where
  -- the answer with f of each goal in the goal's place
  abbrev pub map_answer : Answer G → Answer H
  map_answer (Rules rs) = Rules (map (map_rule f) rs)
  map_answer Wide = Wide
