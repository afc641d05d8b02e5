-- internal: the answers of goals are the rules of the typing, that is, a term has the type of a goal if and only if it fits one
-- of its rules. Proofs, kept here since the laws of an `impl` are cited from specs/.
use Rattle.std.proofs.Common.{ℕ, ◌≡◌, refl, sym, ◌∙◌, subst, ap, List, [], ◌∷◌, ◌++◌, length, Contains, arith}
use Rattle.std.specs.Prelude.{map, ◌≢◌}
use Rattle.std.specs.List.{AllZip}
use Rattle.cls_base.specs.Terms.{Applicative, component, apply, IsTermOver}
use Rattle.cls_base.specs.Spines.{spine}
use Rattle.cls_base.specs.Types.{ClosedType}
use Rattle.cls_base.specs.Typing.{by_instance, by_application, by_intersection, by_subsumption}
use Rattle.cls_base.specs.declared.rule.Rule.{Rule}
use Rattle.cls_base.specs.declared.rule.Rule.TheVariants.{Head, Any}
use Rattle.cls_base.proofs.Lists.{Contains-nil, Contains-from_map}
use Rattle.cls_path.specs.Paths.{TypePath, Paths, none, more, listed, type_of_paths, SuitsAll}
use Rattle.cls_core.specs.declared.answer.Answer.{Answer}
use Rattle.cls_core.specs.declared.answer.Answer.TheVariants.{Rules, Wide}
use Rattle.cls_core.specs.Arguments.{rules_of}
use Rattle.cls_cover.specs.Members.{Member, first, later}
use Rattle.cls_cover.proofs.Lists.{contains_member, member_contains, member_append_left, member_append_right}
use Rattle.cls_library.specs.Libraries.{Library, IsLibrary, variances_in}
use Rattle.cls_library.specs.Rules.{IsRules, heads, numbers_from}
use Rattle.cls_library.proofs.ByCases.{zip_right, all_zip}
use Rattle.cls_library.specs.Typing.{HasTypeIn}
use Rattle.cls_library.proofs.FirstOnes.{first_ones_from}
use Rattle.cls_library.proofs.RuleHeads.{below_has, rule_declared}
use Rattle.cls_library.proofs.RulesTyping.{rules_are_the_typing}
use Rattle.cls_library.proofs.LibraryTyping.{typed, over_spine}
use Rattle.cls_expand.specs.Answers.{rule_of, IsAnswer, IsReady, HasGoal}
use Rattle.cls_expand.specs.Listing.{mapped_in}
use Rattle.cls_core.specs.Typings.{HaveGoals, no_goals, more_goals, FitsRule, by_component, AreRulesOf}
use Rattle.cls_core.specs.Typings as meaning

abbrev Goal : Type 0
Goal = List TypePath

from_map : {A B : Type 0} (f : A → B) (xs : List A) (y : B) → Contains (map f xs) y → (x : A) × Contains xs x × (f x ≡ y)
from_map f xs y m = let r = Contains-from_map f xs y m in (r.0, r.1, sym r.2)

spine_last : (f : Applicative) (es : List Applicative) (a : Applicative) → spine f (es ++ a ∷ []) ≡ apply (spine f es) a
spine_last f [] a = refl
spine_last f (e ∷ es) a = spine_last (apply f e) es a

-- a term is a component applied to terms
as_spine : (e : Applicative) → (x : ℕ) × (es : List Applicative) × (e ≡ spine (component x) es)
as_spine (component x) = (x, [], refl)
as_spine (apply f a) = let r = as_spine f in (r.0, r.1 ++ a ∷ [], ap (λ (g : Applicative). apply g a) r.2 ∙ sym (spine_last (component r.0) r.1 a))

-- the rules of a goal with a path apply a component each
no_any : (l : Library) (q : TypePath) (n : Paths) (rs : List (Rule Paths)) → IsRules l (more q n) rs → (left right : Paths) → Contains rs (Any left right) → ⊥
no_any l q n rs rules left right m =
    let candidate = first_ones_from (Any left right) rules.first_ones m in
    let u = zip_right (Any left right) (all_zip rules.choices rules.candidates rules.made) (contains_member rules.candidates (Any left right) candidate) in
    let e : ◌≡◌ {A = Rule Paths} (Any left right) (Head u.0.component u.2.arguments) = u.2.rule in
    cc

module _ (lib : Library) (law : IsLibrary lib) where
  zip_of : {es : List Applicative} {gs : List Goal} → HaveGoals (HasGoal lib) es gs → AllZip (λ e m. HasTypeIn lib e (type_of_paths m)) es (map listed gs)
  zip_of no_goals = tt
  zip_of (more_goals h k) = (h, zip_of k)

  goals_from : (es : List Applicative) (gs : List Goal) → AllZip (λ e m. HasTypeIn lib e (type_of_paths m)) es (map listed gs) → HaveGoals (HasGoal lib) es gs
  goals_from [] [] z = no_goals
  goals_from [] (g ∷ gs) z = absurd z
  goals_from (e ∷ es) [] z = absurd z
  goals_from (e ∷ es) (g ∷ gs) z = more_goals z.0 (goals_from es gs z.1)

  -- a term that has a type is one over the components
  over : {e : Applicative} {t : ClosedType} → HasTypeIn lib e t → IsTermOver (length lib.components) e
  over (by_instance h) = h.0
  over (by_application h k) = (over h, over k)
  over (by_intersection h k) = over h
  over (by_subsumption h s) = over h

  over_each : {es : List Applicative} {gs : List Goal} → HaveGoals (HasGoal lib) es gs → (a : Applicative) → Member es a → IsTermOver (length lib.components) a
  over_each no_goals a m = elim m [ ]
  over_each (more_goals h k) _ first = over h
  over_each (more_goals h k) a (later m) = over_each k a m

  has_omega : (e : Applicative) → IsTermOver (length lib.components) e → HasTypeIn lib e (type_of_paths none)
  has_omega e o = (typed lib law e none tt).1 (o, (λ q i. elim i [ ]))

  rule_there : (rs : List (Rule Goal)) (r : Rule Goal) → Contains rs r → Contains (map rule_of rs) (rule_of r)
  rule_there rs r m = member_contains (mapped_in rule_of (contains_member rs r m))

  -- what fits a rule of the goal has it
  sound_at : (p : Paths) → SuitsAll (variances_in lib.taxonomy) p → (rs : List (Rule Goal)) → IsRules lib p (map rule_of rs)
      → (e : Applicative) (r : Rule Goal) → Contains rs r → FitsRule (HasGoal lib) e r → HasTypeIn lib e (type_of_paths p)
  sound_at none s rs rules e (Head x gs) m (by_component es is h) =
      subst (λ (t : Applicative). HasTypeIn lib t (type_of_paths none)) (sym is)
      (has_omega (spine (component x) es) (over_spine lib law (length lib.components) es (component x)
      (rule_declared lib none x (map listed gs) (map rule_of rs, rules, rule_there rs (Head x gs) m)) (over_each h)))
  sound_at none s rs rules e (Any l m) i (meaning.by_application f a is h k) =
      subst (λ (t : Applicative). HasTypeIn lib t (type_of_paths none)) (sym is) (has_omega (apply f a) (over h, over k))
  sound_at (more q n) s rs rules e (Head x gs) m (by_component es is h) =
      subst (λ (t : Applicative). HasTypeIn lib t (type_of_paths (more q n))) (sym is)
      ((rules_are_the_typing lib law q n (map rule_of rs) s rules x es).1 (map listed gs, rule_there rs (Head x gs) m, zip_of h))
  sound_at (more q n) s rs rules e (Any l m) i (meaning.by_application f a is h k) =
      absurd (no_any lib q n (map rule_of rs) rules (listed l) (listed m) (rule_there rs (Any l m) i))

  -- the term fits a rule whose image is this one
  fits_head : (x : ℕ) (es : List Applicative) (ns : List Paths) (r : Rule Goal) → rule_of r ≡ Head x ns → AllZip (λ e m. HasTypeIn lib e (type_of_paths m)) es ns → FitsRule (HasGoal lib) (spine (component x) es) r
  fits_head x es ns (Head y gs) e z =
      let same : y ≡ x = (let f : ◌≡◌ {A = Rule Paths} (Head y (map listed gs)) (Head x ns) = e in cc) in
      let args : map listed gs ≡ ns = (let f : ◌≡◌ {A = Rule Paths} (Head y (map listed gs)) (Head x ns) = e in cc) in
      by_component es (ap (λ (k : ℕ). spine (component k) es) (sym same)) (goals_from es gs (subst (λ (l : List Paths). AllZip (λ e m. HasTypeIn lib e (type_of_paths m)) es l) (sym args) z))
  fits_head x es ns (Any l m) e z = absurd (let f : ◌≡◌ {A = Rule Paths} (Any (listed l) (listed m)) (Head x ns) = e in cc)

  fits_any : (f a : Applicative) (r : Rule Goal) → rule_of r ≡ Any none none → HasTypeIn lib f (type_of_paths none) → HasTypeIn lib a (type_of_paths none) → FitsRule (HasGoal lib) (apply f a) r
  fits_any f a (Head y gs) e h k = absurd (let f : ◌≡◌ {A = Rule Paths} (Head y (map listed gs)) (Any none none) = e in cc)
  fits_any f a (Any l m) e h k =
      let left : listed l ≡ none = (let f : ◌≡◌ {A = Rule Paths} (Any (listed l) (listed m)) (Any none none) = e in cc) in
      let right : listed m ≡ none = (let f : ◌≡◌ {A = Rule Paths} (Any (listed l) (listed m)) (Any none none) = e in cc) in
      meaning.by_application f a refl
      (subst (λ (n : Paths). HasTypeIn lib f (type_of_paths n)) (sym left) h)
      (subst (λ (n : Paths). HasTypeIn lib a (type_of_paths n)) (sym right) k)

  -- what has the goal fits one of its rules
  complete_at : (p : Paths) → SuitsAll (variances_in lib.taxonomy) p → (rs : List (Rule Goal)) → IsRules lib p (map rule_of rs)
      → (e : Applicative) → HasTypeIn lib e (type_of_paths p) → (r : Rule Goal) × Contains rs r × FitsRule (HasGoal lib) e r
  complete_at none s rs rules (component x) h =
      let there : Contains (map rule_of rs) (Head x []) = subst (λ (l : List (Rule Paths)). Contains l (Head x [])) (sym rules)
      (member_contains (member_append_left (Any none none ∷ []) (Head x []) (below_has (length lib.components) 0 x (omega arith) (let o = over h in omega arith)))) in
      let r = from_map rule_of rs (Head x []) there in
      (r.0, r.1, fits_head x [] [] r.0 r.2 tt)
  complete_at none s rs rules (apply f a) h =
      let o = over h in
      let there : Contains (map rule_of rs) (Any none none) = subst (λ (l : List (Rule Paths)). Contains l (Any none none)) (sym rules)
      (member_contains (member_append_right (heads (numbers_from 0 (length lib.components))) (Any none none ∷ []) (Any none none) first)) in
      let r = from_map rule_of rs (Any none none) there in
      (r.0, r.1, fits_any f a r.0 r.2 (has_omega f o.0) (has_omega a o.1))
  complete_at (more q n) s rs rules e h =
      let k = as_spine e in
      let u = (rules_are_the_typing lib law q n (map rule_of rs) s rules k.0 k.1).0 (subst (λ (t : Applicative). HasTypeIn lib t (type_of_paths (more q n))) k.2 h) in
      let r = from_map rule_of rs (Head k.0 u.0) u.1 in
      (r.0, r.1, subst (λ (t : Applicative). FitsRule (HasGoal lib) t r.0) (sym k.2) (fits_head k.0 k.1 u.0 r.0 r.2 u.2))

module _ (lib : Library) where
  sound : (g : Goal) (a : Answer Goal) (e : Applicative) (r : Rule Goal) → IsReady lib g → IsAnswer lib g a → Contains (rules_of a) r → FitsRule (HasGoal lib) e r → HasGoal lib e g
  sound g (Rules rs) e r y h m f = sound_at lib y.library (listed g) y.normal.suits rs h.1 e r m f
  sound g Wide e r y h m f = absurd (Contains-nil r m)

  complete : (g : Goal) (a : Answer Goal) (e : Applicative) → IsReady lib g → IsAnswer lib g a → a ≢ Wide → HasGoal lib e g → (r : Rule Goal) × Contains (rules_of a) r × FitsRule (HasGoal lib) e r
  complete g (Rules rs) e y h n t = complete_at lib y.library (listed g) y.normal.suits rs h.1 e t
  complete g Wide e y h n t = absurd (n refl)

  pub answers_are_typings : AreRulesOf (HasGoal lib) (IsAnswer lib) (IsReady lib)
  answers_are_typings = record { sound = sound; complete = complete }
