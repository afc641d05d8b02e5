-- What it is for the answers of goals to be the rules of a typing.
use Rattle.std.specs.Prelude.{◌≡◌, ◌≢◌, ℕ, List, [], ◌∷◌, Contains}
use Rattle.cls_base.specs.Terms.{Applicative, component, apply}
use Rattle.cls_base.specs.Spines.{spine}
use Rattle.cls_base.specs.declared.rule.Rule.{Rule}
use Rattle.cls_base.specs.declared.rule.Rule.TheVariants.{Head, Any}
use Rattle.cls_core.specs.declared.answer.Answer.{Answer}
use Rattle.cls_core.specs.declared.answer.Answer.TheVariants.{Wide}
use Rattle.cls_core.specs.Arguments.{rules_of}

-- HasGoal e g says that the term e has the type that g stands for
module _ {G : Type 0} (HasGoal : Applicative → G → Type 0) where
  -- each term has the goal at its place
  pub data HaveGoals : List Applicative → List G → Type 0 where
    no_goals : HaveGoals [] []
    more_goals : {e : Applicative} {es : List Applicative} {g : G} {gs : List G}
        → HasGoal e g → HaveGoals es gs → HaveGoals (e ∷ es) (g ∷ gs)

  -- the term is made by the rule, of terms that have its arguments
  pub data FitsRule (e : Applicative) : Rule G → Type 0 where
    by_component : {x : ℕ} {gs : List G} (es : List Applicative)
        → e ≡ spine (component x) es → HaveGoals es gs → FitsRule e (Head x gs)
    by_application : {l m : G} (f a : Applicative) → e ≡ apply f a → HasGoal f l → HasGoal a m → FitsRule e (Any l m)

  -- A term has a goal that can be worked on and isn't wide if and only if it fits a rule of the goal.
  pub record AreRulesOf (IsAnswer : G → Answer G → Type 0) (IsReady : G → Type 0) : Type 0 where
    pub sound : (g : G) (a : Answer G) (e : Applicative) (r : Rule G)
        → IsReady g → IsAnswer g a → Contains (rules_of a) r → FitsRule e r → HasGoal e g
    pub complete : (g : G) (a : Answer G) (e : Applicative) → IsReady g → IsAnswer g a → a ≢ Wide → HasGoal e g
        → (r : Rule G) × Contains (rules_of a) r × FitsRule e r
