-- Steps as the code takes them.
use Rattle.std.proofs.Common.{◌≡◌, ℕ, zero, suc, ◌+◌, ◌<◌, ◌≤◌, ◌↔◌, ◌==◌, ◌||◌, Bool, true, false, List, [], ◌∷◌, ◌++◌, Option, None, Some, length, take, get_or, slice_get, refl, sym, ap, subst, ◌∙◌, arith, inl, inr}
use Rattle.std.specs.Prelude.{IfSome, IfNone, IsTrue, Contains}
use Rattle.std.specs.List.{list_any}
use Rattle.std.proofs.lemmas.Bool.Decides.{nat_tests}
use Rattle.std.proofs.lemmas.List.{take_more}
use Rattle.std.proofs.lemmas.Option.{get_or_from_slice_get}
use Rattle.cls_base.specs.declared.rule.Rule.{Rule}
use Rattle.cls_base.specs.Languages.{rules_at}
use Rattle.cls_base.proofs.Lists.{Contains-nil, Contains-here, Contains-later, Contains-cases}
use Rattle.cls_base.specs.Arguments.{arguments_of_rule}
use Rattle.cls_core.proofs.Columns.{get-some}
use Rattle.cls_grammar.specs.Ranks.{AreProductive}
use Rattle.cls_grammar.specs.Trimming.{is_useful}
use Rattle.cls_grammar.proofs.Trims.{productive-useful, useful-productive}
use Rattle.cls_grammar.proofs.Climbing.{rules-none}
use Rattle.cls_finite.specs.declared.walk.Step.{Step}
use Rattle.cls_finite.specs.Walks.{LeadsTo, Leads, stays, goes, IsRightWalk}

module _ (book : List (List (Rule ℕ))) (flags : List Bool) (p : AreProductive book flags) (step : Step) (l : List (Rule ℕ)) (e : l ≡ rules_at book step.goal) where
  -- if the rule isn't there
  pub no-rule : slice_get l step.rule ≡ None → (n : ℕ) → LeadsTo book step n → ⊥
  no-rule f n t = let b : slice_get l step.rule ≡ Some t.rule = subst (λ rs. slice_get rs step.rule ≡ Some t.rule) (sym e) t.there in cc

  module _ (q : Rule ℕ) (at : slice_get l step.rule ≡ Some q) where
    there : slice_get (rules_at book step.goal) step.rule ≡ Some q
    there = subst (λ rs. slice_get rs step.rule ≡ Some q) e at

    one-rule : (n : ℕ) (t : LeadsTo book step n) → t.rule ≡ q
    one-rule n t = let a = there in let b = t.there in cc

    -- if the rule may not be used
    pub useless-none : is_useful flags q ≡ false → (n : ℕ) → LeadsTo book step n → ⊥
    useless-none f n t =
        let all = productive-useful book flags p q (λ m h. t.productive m (subst (λ r. Contains (arguments_of_rule r) m) (sym (one-rule n t)) h)) in
        let g : true ≡ false = sym all ∙ f in
        cc

    pub useful-leads : is_useful flags q ≡ true → (o : Option ℕ) → o ≡ slice_get (arguments_of_rule q) step.argument → IfSome o (λ n. LeadsTo book step n)
    useful-leads f None g = tt
    useful-leads f (Some n) g = record { rule = q; there = there; productive = useful-productive book flags p q f; argument = sym g }

    pub none-leads : (o : Option ℕ) → o ≡ slice_get (arguments_of_rule q) step.argument → IfNone o ((n : ℕ) → LeadsTo book step n → ⊥)
    none-leads None g = λ n t. let h : slice_get (arguments_of_rule q) step.argument ≡ Some n = subst (λ r. slice_get (arguments_of_rule r) step.argument ≡ Some n) (one-rule n t) t.argument in cc
    none-leads (Some m) g = tt

module _ (book : List (List (Rule ℕ))) where
  -- past the last goal there is no step
  pub no-goal : (step : Step) → length book ≤ step.goal → (n : ℕ) → LeadsTo book step n → ⊥
  no-goal step l n t = let b : slice_get [] step.rule ≡ Some t.rule = subst (λ rs. slice_get rs step.rule ≡ Some t.rule) (rules-none book step.goal l) t.there in cc

  one-next : (step : Step) (m n : ℕ) → LeadsTo book step m → LeadsTo book step n → m ≡ n
  one-next step m n t u =
      let a = t.there in
      let b = u.there in
      let same : t.rule ≡ u.rule = cc in
      let c : slice_get (arguments_of_rule u.rule) step.argument ≡ Some m = subst (λ r. slice_get (arguments_of_rule r) step.argument ≡ Some m) same t.argument in
      let d = u.argument in
      cc

  pub one-end : {i m n : ℕ} {ss : List Step} → Leads book i ss m → Leads book i ss n → m ≡ n
  one-end stays stays = refl
  one-end (goes {m = x} {n = m} {s = s} {ss = ss} a t l) (goes {m = y} b u k) = one-end (subst (λ z. Leads book z ss m) (one-next s x y t u) l) k

  leads-last : {i m n : ℕ} {ss : List Step} (s : Step) → Leads book i ss m → s.goal ≡ m → LeadsTo book s n → Leads book i (ss ++ s ∷ []) n
  leads-last s stays e t = goes e t stays
  leads-last s (goes a u l) e t = goes a u (leads-last s l e t)

  pub leads-more : (ss : List Step) (i m n : ℕ) (d : Step) → i < length ss → Leads book 0 (take i ss) m → (get_or ss i d).goal ≡ m → LeadsTo book (get_or ss i d) n → Leads book 0 (take (i + 1) ss) n
  leads-more ss i m n d l k e t = subst (λ x. Leads book 0 x n) (sym (take_more ss i d l)) (leads-last (get_or ss i d) k e t)

  -- the step behind those taken
  leads-on : (i m n k : ℕ) (ss : List Step) (s : Step) → slice_get ss k ≡ Some s → Leads book i (take k ss) m → Leads book i ss n → (s.goal ≡ m) × ((x : ℕ) × LeadsTo book s x)
  leads-on i m n k [] s e f g = cc
  leads-on i m n zero (t ∷ ss) s e stays (goes {m = x} a u l) = let h : t ≡ s = cc in (ap (λ (y : Step). y.goal) (sym h) ∙ a, (x, subst (λ y. LeadsTo book y x) h u))
  leads-on i m n (suc k) (t ∷ ss) s e (goes {m = x} a u l) (goes {m = y} b v r) = leads-on y m n k ss s e (subst (λ z. Leads book z (take k ss) m) (one-next t x y u v) l) r

  pub wrong-goal : (ss : List Step) (k m : ℕ) (d : Step) → k < length ss → Leads book 0 (take k ss) m → ((get_or ss k d).goal ≡ m → ⊥) → (n : ℕ) → Leads book 0 ss n → ⊥
  wrong-goal ss k m d l f w n g = let u = get-some ss k l in let s = get_or_from_slice_get ss k u.0 d u.1 in w (ap (λ (y : Step). y.goal) s ∙ (leads-on 0 m n k ss u.0 u.1 f g).0)

  pub wrong-step : (ss : List Step) (k m : ℕ) (d : Step) → k < length ss → Leads book 0 (take k ss) m → ((x : ℕ) → LeadsTo book (get_or ss k d) x → ⊥) → (n : ℕ) → Leads book 0 ss n → ⊥
  wrong-step ss k m d l f w n g = let u = get-some ss k l in let s = get_or_from_slice_get ss k u.0 d u.1 in let v = (leads-on 0 m n k ss u.0 u.1 f g).1 in w v.0 (subst (λ y. LeadsTo book y v.0) (sym s) v.1)

  passes-has : (ss : List Step) (n : ℕ) → list_any (λ (s : Step). s.goal == n) ss ≡ true → (s : Step) × Contains ss s × (s.goal ≡ n)
  passes-has [] n e = cc
  passes-has (s ∷ ss) n e = by (passes-has ss n) (s.goal == n) refl e
    where
      by : (list_any (λ (s : Step). s.goal == n) ss ≡ true → (s : Step) × Contains ss s × (s.goal ≡ n)) → (b : Bool) → (s.goal == n) ≡ b → (b || list_any (λ (s : Step). s.goal == n) ss) ≡ true → (t : Step) × Contains (s ∷ ss) t × (t.goal ≡ n)
      by rest true f g = (s, Contains-here s ss, grind (arith, nat_tests))
      by rest false f g = let u = rest g in (u.0, Contains-later u.0 s ss u.1, u.2)

  has-passes : (ss : List Step) (n : ℕ) (s : Step) → Contains ss s → s.goal ≡ n → list_any (λ (s : Step). s.goal == n) ss ≡ true
  has-passes [] n s h e = absurd (Contains-nil s h)
  has-passes (t ∷ ss) n s h e = elim (Contains-cases t ss s h) [
    | inl f ↦ ap (λ b. b || list_any (λ (s : Step). s.goal == n) ss) (same (ap (λ (y : Step). y.goal) (sym f) ∙ e))
    | inr k ↦ elim (t.goal == n) as (λ b. (b || list_any (λ (s : Step). s.goal == n) ss) ≡ true) [ true ↦ refl | false ↦ has-passes ss n s k e ]
  ]
    where
      same : t.goal ≡ n → (t.goal == n) ≡ true
      same g = grind (arith, nat_tests)

  pub right-exactly : (walk : List Step) (end : ℕ) (b : Bool) → Leads book 0 walk end → b ≡ list_any (λ (s : Step). s.goal == end) walk → IsTrue b ↔ IsRightWalk book walk
  right-exactly walk end b l e = (
    (λ t. let u = passes-has walk end (sym e ∙ t) in record { end = end; leads = l; step = u.0; taken = u.1; round = u.2 }),
    (λ w. e ∙ has-passes walk end w.step w.taken (w.round ∙ one-end w.leads l)),
  )

  pub never-right : (walk : List Step) → ((n : ℕ) → Leads book 0 walk n → ⊥) → IsTrue false ↔ IsRightWalk book walk
  never-right walk f = ((λ t. absurd (let e : false ≡ true = t in cc)), (λ w. absurd (f w.end w.leads)))
