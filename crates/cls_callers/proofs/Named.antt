-- Answers with other goals in place of their own, twice.
use Rattle.std.proofs.Common.{◌≡◌, List, [], ◌∷◌, map, refl, ap}
use Rattle.std.specs.Prelude.{Contains}
use Rattle.std.proofs.lemmas.List.Elements.{Contains-append_left, Contains-append_right}
use Rattle.cls_base.specs.declared.rule.Rule.{Rule}
use Rattle.cls_base.specs.declared.rule.Rule.TheVariants.{Head, Any}
use Rattle.cls_base.specs.Arguments.{arguments_of_rule, arguments_in, map_rule}
use Rattle.cls_base.proofs.Lists.{Contains-here, Contains-later}
use Rattle.cls_core.specs.declared.answer.Answer.{Answer}
use Rattle.cls_core.specs.declared.answer.Answer.TheVariants.{Rules, Wide}
use Rattle.cls_core.specs.Arguments.{arguments_of, map_answer}

module _ {G N H : Type 0} (p : G → N) (n : N → H) (f : G → H) where
  abbrev Same : List G → Type 0
  Same gs = (g : G) → Contains gs g → n (p g) ≡ f g

  goals-over : (gs : List G) → Same gs → map n (map p gs) ≡ map f gs
  goals-over [] e = refl
  goals-over (g ∷ gs) e = λ k. e g (Contains-here g gs) k ∷ goals-over gs (λ x m. e x (Contains-later x g gs m)) k

  rule-over : (r : Rule G) → Same (arguments_of_rule r) → map_rule n (map_rule p r) ≡ map_rule f r
  rule-over (Head component args) e = ap (Head component) (goals-over args e)
  rule-over (Any left right) e =
      λ k. Any (e left (Contains-here left (right ∷ [])) k) (e right (Contains-later right left (right ∷ []) (Contains-here right [])) k)

  rules-over : (rs : List (Rule G)) → Same (arguments_in rs) → map (map_rule n) (map (map_rule p) rs) ≡ map (map_rule f) rs
  rules-over [] e = refl
  rules-over (r ∷ rs) e =
      λ k. rule-over r (λ x m. e x (Contains-append_left (arguments_of_rule r) (arguments_in rs) x m)) k ∷ rules-over rs (λ x m. e x (Contains-append_right (arguments_of_rule r) (arguments_in rs) x m)) k

  pub answer-over : (a : Answer G) → Same (arguments_of a) → map_answer n (map_answer p a) ≡ map_answer f a
  answer-over (Rules rs) e = ap Rules (rules-over rs e)
  answer-over Wide e = refl

module _ {G : Type 0} where
  goals-same : (gs : List G) → map (λ (g : G). g) gs ≡ gs
  goals-same [] = refl
  goals-same (g ∷ gs) = ap (λ l. g ∷ l) (goals-same gs)

  rule-same : (r : Rule G) → map_rule (λ (g : G). g) r ≡ r
  rule-same (Head component args) = ap (Head component) (goals-same args)
  rule-same (Any left right) = refl

  rules-same : (rs : List (Rule G)) → map (map_rule (λ (g : G). g)) rs ≡ rs
  rules-same [] = refl
  rules-same (r ∷ rs) = λ k. rule-same r k ∷ rules-same rs k

  pub answer-same : (a : Answer G) → map_answer (λ (g : G). g) a ≡ a
  answer-same (Rules rs) = ap Rules (rules-same rs)
  answer-same Wide = refl
