-- A rule of a component with so many arguments is none of those made before.
use Rattle.std.proofs.Common.{ℕ, ◌≡◌, ◌<◌, ◌≤◌, sym, ◌∙◌, subst, ap, ◌⊎◌, inl, inr, List, [], ◌∷◌, ◌++◌, length, length-append, take, drop, ◌+◌, arith, Contains, Some}
use Rattle.std.specs.Prelude.{map, slice_get}
use Rattle.std.proofs.lemmas.List.{take-append-drop, take-append-le}
use Rattle.std.proofs.lemmas.List.Elements.{Contains-append_right, Contains-append_cases}
use Rattle.cls_base.specs.declared.rule.Rule.{Rule}
use Rattle.cls_base.specs.declared.rule.Rule.TheVariants.{Head}
use Rattle.cls_base.proofs.Lists.{Contains-map, Contains-from_map, map_last}
use Rattle.cls_path.specs.Paths.{TypePath, Paths, listed}
use Rattle.cls_cover.specs.Members.{Member}
use Rattle.cls_cover.proofs.Lists.{contains_member, member_contains}
use Rattle.cls_library.specs.Arrows.{MultiArrow}
use Rattle.cls_library.specs.Families.{IsEarlier}
use Rattle.cls_library.specs.Libraries.{Library, IsLibrary, arrows_at}
use Rattle.cls_library.specs.Reaching.{columns}
use Rattle.cls_library.specs.Rules.{Choice, IsRuleFor}
use Rattle.cls_library.proofs.ByCases.{all_zip, at_member, got_at, zip_length, zip_right}
use Rattle.cls_library.proofs.FirstOnes.{first_ones_from}
use Rattle.cls_expand.specs.Answers.{rule_of}
use Rattle.cls_expand.specs.declared.spine.Spine.{Spine}
use Rattle.cls_expand.specs.Making.{AreBegun, PutsNew, rules_of_spines, choice_at}
use Rattle.cls_expand.specs.Listing.{rule_component, rule_args, rule_given, append_nothing, append_last}
use Rattle.cls_library.proofs.RuleTyping.{columns_length}
use Rattle.cls_expand.proofs.Sources.{library_arrows}

-- what stands before is kept
pub kept_front : {A : Type 0} (some : List A) (x : A) (begin : ℕ) (start old new : List A) → PutsNew some x old new → begin ≤ length old → take begin old ≡ start → (begin ≤ length new) × (take begin new ≡ start)
kept_front {A} some x begin start old new (inl u) l e = (subst (λ (xs : List A). begin ≤ length xs) (sym u.1) l, ap (λ (xs : List A). take begin xs) u.1 ∙ e)
kept_front {A} some x begin start old new (inr u) l e = (
  subst (λ (xs : List A). begin ≤ length xs) (sym u.1) (let k : length (old ++ x ∷ []) ≡ length old + 1 = length-append old (x ∷ []) in omega arith),
  ap (λ (xs : List A). take begin xs) u.1 ∙ (take-append-le begin old (x ∷ []) l ∙ e),
)

-- the only rule of omega
pub only_rule : (start all : List (Rule (List TypePath))) (x : ℕ) (args : List (List TypePath)) → start ≡ [] → args ≡ [] → all ≡ start ++ Head x args ∷ [] → map rule_of all ≡ Head x [] ∷ []
only_rule start all x args e f g = ap (map rule_of) (g ∙ (ap (λ (rs : List (Rule (List TypePath))). rs ++ Head x args ∷ []) e ∙ ap (λ (ns : List (List TypePath)). (let r : Rule (List TypePath) = Head x ns in r ∷ [])) f))

module _ (l : Library) (law : IsLibrary l) where
  -- a rule has as many arguments as its choice has places
  rule_size : (c : Choice) (r : Rule Paths) (h : IsRuleFor l c r) → length h.arguments ≡ c.places
  rule_size c r h =
      sym (zip_length (all_zip (columns c.places h.picked) h.arguments h.reduced))
      ∙ columns_length c.places h.picked (λ a m. long a (zip_right a (all_zip c.cover h.picked h.picks) m))
    where
      long : (a : MultiArrow) → (i : ℕ) × Member c.cover i × (slice_get (arrows_at l c.component c.places) i ≡ Some a) → length a.sources ≡ c.places
      long a u = (library_arrows l law c.component c.places).long a (at_member (got_at (arrows_at l c.component c.places) u.0 a u.2))

  args_size : (c : Choice) (x : ℕ) (args : List Paths) → IsRuleFor l c (Head x args) → length args ≡ c.places
  args_size c x args h = ap (λ (ns : List Paths). length ns) (ap rule_args h.rule) ∙ rule_size c (Head x args) h

  module _ (goal : Paths) (from x n : ℕ) (rules : List (Rule Paths)) (b : AreBegun l goal from x n [] rules) where
    none_before : (s : List ℕ) (args : List Paths) → IsRuleFor l (choice_at x n s) (Head x args) → Contains rules (Head x args) → ⊥
    none_before s args r m = late u.0 u.2 ((b.chosen.exactly u.0).0 chosen).2
      where
        u : (c : Choice) × Member (b.choices ++ []) c × IsRuleFor l c (Head x args)
        u = zip_right (Head x args) (all_zip (b.choices ++ []) b.candidates b.made) (contains_member b.candidates (Head x args) (first_ones_from (Head x args) b.first_ones m))

        chosen : Contains b.choices u.0
        chosen = subst (λ (cs : List Choice). Contains cs u.0) (append_nothing b.choices) (member_contains u.1)

        late : (c : Choice) → IsRuleFor l c (Head x args) → IsEarlier x n c.component c.places → ⊥
        late c h e = go e
          where
            same : x ≡ c.component
            same = ap rule_component h.rule

            size : c.places ≡ n
            size = sym (args_size c x args h) ∙ args_size (choice_at x n s) x args r

            go : IsEarlier x n c.component c.places → ⊥
            go (inl k) = let f = same in omega arith
            go (inr k) = let f = size in let g : c.places < n = k.1 in omega arith

    -- the first rule of so many arguments
    pub lone_step : (old new : List (Rule (List TypePath))) (s : List ℕ) (args : List (List TypePath)) → map rule_of old ≡ rules → IsRuleFor l (choice_at x n s) (Head x (map listed args)) → new ≡ old ++ Head x args ∷ [] → PutsNew (map rule_of old) (Head x (map listed args)) (map rule_of old) (map rule_of new)
    lone_step old new s args e r u = inr (
      (λ m. none_before s (map listed args) r (subst (λ (rs : List (Rule Paths)). Contains rs (Head x (map listed args))) e m)),
      ap (map rule_of) u ∙ map_last rule_of old (Head x args),
    )

    -- what is looked for among the rules from `begin` on alone
    pub few_step : (begin : ℕ) (start old new : List (Rule (List TypePath))) (s : List ℕ) (args : List (List TypePath)) → map rule_of start ≡ rules → take begin old ≡ start
        → IsRuleFor l (choice_at x n s) (Head x (map listed args)) → PutsNew (drop begin old) (Head x args) old new → PutsNew (map rule_of old) (Head x (map listed args)) (map rule_of old) (map rule_of new)
    few_step begin start old new s args e f r (inl u) =
        inl (Contains-map rule_of old (Head x args) (subst (λ (rs : List (Rule (List TypePath))). Contains rs (Head x args)) (take-append-drop begin old) (Contains-append_right (take begin old) (drop begin old) (Head x args) u.0)), ap (map rule_of) u.1)
    few_step begin start old new s args e f r (inr u) = inr (none, ap (map rule_of) u.1 ∙ map_last rule_of old (Head x args))
      where
        front : Contains (take begin old) (Head x args) → ⊥
        front m = none_before s (map listed args) r (subst (λ (rs : List (Rule Paths)). Contains rs (Head x (map listed args))) e (Contains-map rule_of start (Head x args) (subst (λ (rs : List (Rule (List TypePath))). Contains rs (Head x args)) f m)))

        whole : Contains old (Head x args) → ⊥
        whole m = elim (Contains-append_cases (take begin old) (drop begin old) (Head x args) (subst (λ (rs : List (Rule (List TypePath))). Contains rs (Head x args)) (sym (take-append-drop begin old)) m)) [
          | inl k ↦ front k
          | inr k ↦ u.0 k
        ]

        none : Contains (map rule_of old) (Head x (map listed args)) → ⊥
        none m =
            let v = Contains-from_map rule_of old (Head x (map listed args)) m in
            whole (subst (λ (q : Rule (List TypePath)). Contains old q) (sym (rule_given (Head x args) v.0 v.2)) v.1)

    -- what is looked for among the rules of the spines alone
    pub many_step : (keys new : List Spine) (s : List ℕ) (args : List Paths) → IsRuleFor l (choice_at x n s) (Head x args) → PutsNew (rules_of_spines keys) (Head x args) (rules_of_spines keys) (rules_of_spines new)
        → PutsNew (rules ++ rules_of_spines keys) (Head x args) (rules ++ rules_of_spines keys) (rules ++ rules_of_spines new)
    many_step keys new s args r (inl u) = inl (Contains-append_right rules (rules_of_spines keys) (Head x args) u.0, ap (λ (rs : List (Rule Paths)). rules ++ rs) u.1)
    many_step keys new s args r (inr u) = inr ((λ m. none (Contains-append_cases rules (rules_of_spines keys) (Head x args) m)), ap (λ (rs : List (Rule Paths)). rules ++ rs) u.1 ∙ append_last rules (rules_of_spines keys) (Head x args))
      where
        none : Contains rules (Head x args) ⊎ Contains (rules_of_spines keys) (Head x args) → ⊥
        none (inl k) = none_before s args r k
        none (inr k) = u.0 k
