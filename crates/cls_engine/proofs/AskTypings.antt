-- Under a root too, the answers of goals are the rules of a typing. A term has the root if it fits one of the root's rules.
use Rattle.std.proofs.Common.{◌≡◌, ℕ, suc, sym, ap, subst, ◌∙◌, inl, inr, List, [], ◌∷◌, map}
use Rattle.std.specs.Prelude.{Contains}
use Rattle.cls_base.specs.Arguments.{map_rule}
use Rattle.cls_base.specs.Spines.{spine}
use Rattle.cls_base.specs.Terms.{Applicative, component}
use Rattle.cls_base.specs.declared.rule.Rule.{Rule}
use Rattle.cls_base.specs.declared.rule.Rule.TheVariants.{Head, Any}
use Rattle.cls_base.proofs.Lists.{Contains-nil, Contains-cases, Contains-map, Contains-from_map}
use Rattle.cls_callers.specs.declared.goal.AskGoal.{AskGoal}
use Rattle.cls_callers.specs.declared.goal.AskGoal.TheVariants.{Root, Of}
use Rattle.cls_callers.specs.declared.tag.AskTag.{AskTag}
use Rattle.cls_callers.specs.Asking.{asked_rules, IsAskAnswer, IsAskReady}
use Rattle.cls_core.specs.declared.answer.Answer.{Answer}
use Rattle.cls_core.specs.declared.answer.Answer.TheVariants.{Rules, Wide}
use Rattle.cls_core.specs.Arguments.{map_answer, rules_of}
use Rattle.cls_core.specs.Typings.{HaveGoals, no_goals, more_goals, FitsRule, by_component, by_application, AreRulesOf}

module _ {G : Type 0} where
  -- each rule of the root has one argument, which is an asked goal
  asked-rule : (k : ℕ) (gs : List G) (r : Rule (AskGoal G)) → Contains (asked_rules k gs) r → (j : ℕ) × (g : G) × (r ≡ Head j (Of g ∷ []))
  asked-rule k [] r m = absurd (Contains-nil r m)
  asked-rule k (g ∷ gs) r m = elim (Contains-cases (Head k (Of g ∷ [])) (asked_rules (suc k) gs) r m) [
    | inl e ↦ (k, g, e)
    | inr n ↦ asked-rule (suc k) gs r n
  ]

  -- the rules of an answer under a root
  rule-down : (a : Answer G) (r : Rule (AskGoal G)) → Contains (rules_of (map_answer Of a)) r → (q : Rule G) × Contains (rules_of a) q × (r ≡ map_rule Of q)
  rule-down (Rules rs) r m = Contains-from_map (map_rule Of) rs r m
  rule-down Wide r m = absurd (Contains-nil r m)

  rule-up : (a : Answer G) (q : Rule G) → Contains (rules_of a) q → Contains (rules_of (map_answer Of a)) (map_rule Of q)
  rule-up (Rules rs) q m = Contains-map (map_rule Of) rs q m
  rule-up Wide q m = absurd (Contains-nil q m)

module _ {B G : Type 0} (Has : B → Applicative → G → Type 0) (IsAnswer : B → G → Answer G → Type 0) (IsReady : B → G → Type 0) (t : AskTag B G) where
  -- a term has what stands under the root, but never the root
  abbrev HasBelow : Applicative → AskGoal G → Type 0
  HasBelow e Root = ⊥
  HasBelow e (Of g) = Has t.by e g

  abbrev pub HasAsk : Applicative → AskGoal G → Type 0
  HasAsk e Root = (r : Rule (AskGoal G)) × Contains (asked_rules 1 t.goals) r × FitsRule HasBelow e r
  HasAsk e (Of g) = Has t.by e g

  wrapped : {es : List Applicative} {gs : List G} → HaveGoals (Has t.by) es gs → HaveGoals HasAsk es (map Of gs)
  wrapped no_goals = no_goals
  wrapped (more_goals h k) = more_goals h (wrapped k)

  wrapped-below : {es : List Applicative} {gs : List G} → HaveGoals (Has t.by) es gs → HaveGoals HasBelow es (map Of gs)
  wrapped-below no_goals = no_goals
  wrapped-below (more_goals h k) = more_goals h (wrapped-below k)

  unwrapped : {es : List Applicative} {xs : List (AskGoal G)} → HaveGoals HasAsk es xs → (gs : List G) → xs ≡ map Of gs → HaveGoals (Has t.by) es gs
  unwrapped no_goals [] s = no_goals
  unwrapped no_goals (g ∷ gs) s = cc
  unwrapped (more_goals h k) [] s = cc
  unwrapped (more_goals {e = e} {g = x} {gs = xs} h k) (g ∷ gs) s =
      let first : x ≡ Of g = cc in
      let rest : xs ≡ map Of gs = cc in
      more_goals (subst (λ (y : AskGoal G). HasAsk e y) first h) (unwrapped k gs rest)

  unwrapped-below : {es : List Applicative} {xs : List (AskGoal G)} → HaveGoals HasBelow es xs → (gs : List G) → xs ≡ map Of gs → HaveGoals (Has t.by) es gs
  unwrapped-below no_goals [] s = no_goals
  unwrapped-below no_goals (g ∷ gs) s = cc
  unwrapped-below (more_goals h k) [] s = cc
  unwrapped-below (more_goals {e = e} {g = x} {gs = xs} h k) (g ∷ gs) s =
      let first : x ≡ Of g = cc in
      let rest : xs ≡ map Of gs = cc in
      more_goals (subst (λ (y : AskGoal G). HasBelow e y) first h) (unwrapped-below k gs rest)

  -- what fits a rule of the root
  fits-below : (e : Applicative) (r : Rule (AskGoal G)) (j : ℕ) (g : G) → r ≡ Head j (Of g ∷ []) → FitsRule HasAsk e r → FitsRule HasBelow e r
  fits-below e _ j g s (by_component {gs = xs} es is h) =
      let args : xs ≡ map Of (g ∷ []) = cc in
      by_component es is (subst (λ (l : List (AskGoal G)). HaveGoals HasBelow es l) (sym args) (wrapped-below (unwrapped h (g ∷ []) args)))
  fits-below e _ j g s (by_application f a is h k) = cc

  fits-root : (e : Applicative) (r : Rule (AskGoal G)) (j : ℕ) (g : G) → r ≡ Head j (Of g ∷ []) → FitsRule HasBelow e r → FitsRule HasAsk e r
  fits-root e _ j g s (by_component {gs = xs} es is h) =
      let args : xs ≡ map Of (g ∷ []) = cc in
      by_component es is (subst (λ (l : List (AskGoal G)). HaveGoals HasAsk es l) (sym args) (wrapped (unwrapped-below h (g ∷ []) args)))
  fits-root e _ j g s (by_application f a is h k) = cc

  -- what fits a rule of a goal under the root fits the goal's own rule, and back
  fits-down : (e : Applicative) (r : Rule (AskGoal G)) (q : Rule G) → r ≡ map_rule Of q → FitsRule HasAsk e r → FitsRule (Has t.by) e q
  fits-down e _ (Head y gs) s (by_component {x = x} {gs = xs} es is h) =
      let same : x ≡ y = cc in
      let args : xs ≡ map Of gs = cc in
      by_component es (is ∙ ap (λ (k : ℕ). spine (component k) es) same) (unwrapped h gs args)
  fits-down e _ (Any l m) s (by_component es is h) = cc
  fits-down e _ (Head y gs) s (by_application f a is h k) = cc
  fits-down e _ (Any l m) s (by_application {l = x} {m = y} f a is h k) =
      let left : x ≡ Of l = cc in
      let right : y ≡ Of m = cc in
      by_application f a is (subst (λ (z : AskGoal G). HasAsk f z) left h) (subst (λ (z : AskGoal G). HasAsk a z) right k)

  fits-up : (e : Applicative) (q : Rule G) → FitsRule (Has t.by) e q → FitsRule HasAsk e (map_rule Of q)
  fits-up e _ (by_component es is h) = by_component es is (wrapped h)
  fits-up e _ (by_application f a is h k) = by_application f a is h k

  module _ (rules : AreRulesOf (Has t.by) (IsAnswer t.by) (IsReady t.by)) where
    sound : (x : AskGoal G) (a : Answer (AskGoal G)) (e : Applicative) (r : Rule (AskGoal G)) → IsAskReady IsReady t x → IsAskAnswer IsAnswer t x a
        → Contains (rules_of a) r → FitsRule HasAsk e r → HasAsk e x
    sound Root a e r ready is m fits =
        let n = subst (λ (b : Answer (AskGoal G)). Contains (rules_of b) r) is m in
        let q = asked-rule 1 t.goals r n in
        (r, n, fits-below e r q.0 q.1 q.2 fits)
    sound (Of g) a e r ready is m fits =
        let q = rule-down is.0 r (subst (λ (b : Answer (AskGoal G)). Contains (rules_of b) r) is.2 m) in
        rules.sound g is.0 e q.0 ready is.1 q.1 (fits-down e r q.0 q.2 fits)

    complete : (x : AskGoal G) (a : Answer (AskGoal G)) (e : Applicative) → IsAskReady IsReady t x → IsAskAnswer IsAnswer t x a → (a ≡ Wide → ⊥)
        → HasAsk e x → (r : Rule (AskGoal G)) × Contains (rules_of a) r × FitsRule HasAsk e r
    complete Root a e ready is narrow has =
        let q = asked-rule 1 t.goals has.0 has.1 in
        (has.0, subst (λ (b : Answer (AskGoal G)). Contains (rules_of b) has.0) (sym is) has.1, fits-root e has.0 q.0 q.1 q.2 has.2)
    complete (Of g) a e ready is narrow has =
        let own = rules.complete g is.0 e ready is.1 (λ w. narrow (is.2 ∙ ap (map_answer Of) w)) has in
        (map_rule Of own.0, subst (λ (b : Answer (AskGoal G)). Contains (rules_of b) (map_rule Of own.0)) (sym is.2) (rule-up is.0 own.0 own.1), fits-up e own.0 own.2)

    pub ask_typings : AreRulesOf HasAsk (IsAskAnswer IsAnswer t) (IsAskReady IsReady t)
    ask_typings = record { sound = sound; complete = complete }
