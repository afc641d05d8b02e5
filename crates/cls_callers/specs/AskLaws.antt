-- internal: under a root each goal has at most one answer, and the arguments of what is ready are ready
use Rattle.std.specs.Prelude.{◌≡◌, ℕ, suc, All, List, [], ◌∷◌, ◌++◌, map}
use Rattle.std.proofs.Common.{refl, sym, ap, subst, ◌∙◌}
use Rattle.std.proofs.lemmas.List.{map-append}
use Rattle.std.proofs.lemmas.List.Elements.{All-map}
use Rattle.cls_base.specs.declared.rule.Rule.{Rule}
use Rattle.cls_base.specs.declared.rule.Rule.TheVariants.{Head, Any}
use Rattle.cls_base.specs.Arguments.{arguments_of_rule, arguments_in, map_rule}
use Rattle.cls_core.specs.declared.answer.Answer.{Answer}
use Rattle.cls_core.specs.declared.answer.Answer.TheVariants.{Rules, Wide}
use Rattle.cls_core.specs.Arguments.{arguments_of, map_answer, HasUniqueAnswers, ArgumentsAreReady}
use Rattle.cls_callers.specs.declared.goal.AskGoal.{AskGoal}
use Rattle.cls_callers.specs.declared.goal.AskGoal.TheVariants.{Root, Of}
use Rattle.cls_callers.specs.declared.tag.AskTag.{AskTag}
use Rattle.cls_callers.specs.Asking.{asked_rules, IsAskAnswer, IsAskReady}

module _ {G H : Type 0} (f : G → H) where
  rule-goals : (r : Rule G) → arguments_of_rule (map_rule f r) ≡ map f (arguments_of_rule r)
  rule-goals (Head component args) = refl
  rule-goals (Any left right) = refl

  rules-goals : (rs : List (Rule G)) → arguments_in (map (map_rule f) rs) ≡ map f (arguments_in rs)
  rules-goals [] = refl
  rules-goals (r ∷ rs) =
      (λ k. rule-goals r k ++ rules-goals rs k) ∙ sym (map-append f (arguments_of_rule r) (arguments_in rs))

  -- the arguments of an answer with other goals in place of its own
  pub answer-goals : (a : Answer G) → arguments_of (map_answer f a) ≡ map f (arguments_of a)
  answer-goals (Rules rs) = rules-goals rs
  answer-goals Wide = refl

-- the arguments of the root's rules are the asked goals
pub asked-goals : {G : Type 0} (k : ℕ) (gs : List G) → arguments_in (asked_rules k gs) ≡ map Of gs
asked-goals k [] = refl
asked-goals {G = G} k (g ∷ gs) = ap (λ (l : List (AskGoal G)). Of g ∷ l) (asked-goals (suc k) gs)

module _ {B G : Type 0} (IsAnswer : B → G → Answer G → Type 0) where
  pub one_ask_answer : ((b : B) → HasUniqueAnswers (IsAnswer b))
      → (t : AskTag B G) → HasUniqueAnswers (IsAskAnswer IsAnswer t)
  one_ask_answer unique t Root a b first second = first ∙ sym second
  one_ask_answer unique t (Of g) a b first second =
      first.2 ∙ (ap (map_answer Of) (unique t.by g first.0 second.0 first.1 second.1) ∙ sym second.2)

  pub ask_arguments_ready : (IsReady : B → G → Type 0) → ((b : B) → ArgumentsAreReady (IsReady b) (IsAnswer b))
      → (t : AskTag B G) → ArgumentsAreReady (IsAskReady IsReady t) (IsAskAnswer IsAnswer t)
  ask_arguments_ready IsReady ready t Root a h is =
      subst (λ (x : Answer (AskGoal G)). All (IsAskReady IsReady t) (arguments_of x)) (sym is)
      (subst (λ (l : List (AskGoal G)). All (IsAskReady IsReady t) l) (sym (asked-goals 1 t.goals))
      (All-map (IsAskReady IsReady t) Of t.goals h))
  ask_arguments_ready IsReady ready t (Of g) a h is =
      subst (λ (x : Answer (AskGoal G)). All (IsAskReady IsReady t) (arguments_of x)) (sym is.2)
      (subst (λ (l : List (AskGoal G)). All (IsAskReady IsReady t) l) (sym (answer-goals Of is.0))
      (All-map (IsAskReady IsReady t) Of (arguments_of is.0) (ready t.by g is.0 h is.1)))
