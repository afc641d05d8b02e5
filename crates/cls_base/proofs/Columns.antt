-- Rules in columns.
use Rattle.std.proofs.Common.{◌≡◌, ℕ, zero, suc, ◌<◌, List, [], ◌∷◌, ◌++◌, length, map, drop, refl, sym, ap, ◌∙◌, subst, arith}
use Rattle.std.specs.Prelude.{Option, Some, None, slice_get, slice_index, slice_index_or}
use Rattle.std.specs.List.{concat, flat_map}
use Rattle.std.proofs.lemmas.List.Concat.{concat_is}
use Rattle.cls_base.specs.declared.rule.Rule.{Rule}
use Rattle.cls_base.specs.declared.rule.Rule.TheVariants.{Any}
use Rattle.cls_base.specs.Arguments.{arguments_of_rule, arguments_in, map_rule}
use Rattle.cls_base.specs.Columns.{rule_with, rules_with, HasArguments, AreColumns}

module _ {G : Type 0} where
  pub columns-length : (hs : List (Option ℕ)) (lists : List (List G)) → AreColumns hs lists → length hs ≡ length (rules_with hs lists)
  columns-length [] lists c = refl
  columns-length (h ∷ hs) [] c = absurd c
  columns-length (h ∷ hs) (gs ∷ lists) c = ap suc (columns-length hs lists c.1)

  pub lists-length : (hs : List (Option ℕ)) (lists : List (List G)) → AreColumns hs lists → length lists ≡ length hs
  lists-length [] [] c = refl
  lists-length [] (gs ∷ lists) c = absurd c
  lists-length (h ∷ hs) [] c = absurd c
  lists-length (h ∷ hs) (gs ∷ lists) c = ap suc (lists-length hs lists c.1)

  pub columns-push : (hs : List (Option ℕ)) (lists : List (List G)) (h : Option ℕ) (gs : List G) → AreColumns hs lists → HasArguments h gs → AreColumns (hs ++ h ∷ []) (lists ++ gs ∷ [])
  columns-push [] [] h gs c a = (a, tt)
  columns-push [] (ks ∷ lists) h gs c a = absurd c
  columns-push (i ∷ hs) [] h gs c a = absurd c
  columns-push (i ∷ hs) (ks ∷ lists) h gs c a = (c.0, columns-push hs lists h gs c.1 a)

  pub rules-push : (hs : List (Option ℕ)) (lists : List (List G)) (h : Option ℕ) (gs : List G) → AreColumns hs lists → rules_with (hs ++ h ∷ []) (lists ++ gs ∷ []) ≡ rules_with hs lists ++ rule_with h gs ∷ []
  rules-push [] [] h gs c = refl
  rules-push [] (ks ∷ lists) h gs c = absurd c
  rules-push (i ∷ hs) [] h gs c = absurd c
  rules-push (i ∷ hs) (ks ∷ lists) h gs c = ap (λ (rs : List (Rule G)). rule_with i ks ∷ rs) (rules-push hs lists h gs c.1)

  -- the rule at a place
  pub rule-at : (hs : List (Option ℕ)) (lists : List (List G)) (i : ℕ) (h : Option ℕ) (gs : List G) → AreColumns hs lists → i < length (rules_with hs lists) → h ≡ slice_index_or hs i h → gs ≡ slice_index_or lists i [] → slice_get (rules_with hs lists) i ≡ Some (rule_with h gs)
  rule-at [] lists i h gs c l p q = absurd (omega (arith, l))
  rule-at (g ∷ hs) [] i h gs c l p q = absurd c
  rule-at (g ∷ hs) (ks ∷ lists) zero h gs c l p q = λ j. Some (rule_with (sym p j) (sym q j))
  rule-at (g ∷ hs) (ks ∷ lists) (suc i) h gs c l p q = rule-at hs lists i h gs c.1 (omega (arith, l)) p q

  -- it has its arguments
  pub arguments-at : (hs : List (Option ℕ)) (lists : List (List G)) (i : ℕ) (h : Option ℕ) (gs : List G) → AreColumns hs lists → i < length (rules_with hs lists) → h ≡ slice_index_or hs i h → gs ≡ slice_index_or lists i [] → HasArguments h gs
  arguments-at [] lists i h gs c l p q = absurd (omega (arith, l))
  arguments-at (g ∷ hs) [] i h gs c l p q = absurd c
  arguments-at (g ∷ hs) (ks ∷ lists) zero h gs c l p q =
      let r : HasArguments h ks = subst (λ (k : Option ℕ). HasArguments k ks) (sym p) c.0 in
      subst (λ (ls : List G). HasArguments h ls) (sym q) r
  arguments-at (g ∷ hs) (ks ∷ lists) (suc i) h gs c l p q = arguments-at hs lists i h gs c.1 (omega (arith, l)) p q

  arguments-with : (h : Option ℕ) (gs : List G) → HasArguments h gs → arguments_of_rule (rule_with h gs) ≡ gs
  arguments-with (Some x) gs a = refl
  arguments-with None [] a = refl
  arguments-with None (g ∷ []) a = refl
  arguments-with None (g ∷ k ∷ []) a = refl
  arguments-with None (g ∷ k ∷ l ∷ gs) a = absurd (omega (arith, a))

  -- the arguments of all rules are all lists of them
  pub arguments-joined : (hs : List (Option ℕ)) (lists : List (List G)) → AreColumns hs lists → flat_map (λ gs. gs) lists ≡ arguments_in (rules_with hs lists)
  arguments-joined [] [] c = refl
  arguments-joined [] (gs ∷ lists) c = absurd c
  arguments-joined (h ∷ hs) [] c = absurd c
  arguments-joined (h ∷ hs) (gs ∷ lists) c = λ i. sym (arguments-with h gs c.0) i ++ arguments-joined hs lists c.1 i

pub arguments-concat : (hs : List (Option ℕ)) (lists : List (List ℕ)) → AreColumns hs lists → concat lists ≡ arguments_in (rules_with hs lists)
arguments-concat hs lists c = concat_is lists ∙ arguments-joined hs lists c

-- the rule for any term
pub any-with : (ns : List ℕ) → length ns ≡ 2 → rule_with None ns ≡ Any (slice_index ns 0) (slice_index ns 1)
any-with [] l = absurd (omega (arith, l))
any-with (n ∷ []) l = absurd (omega (arith, l))
any-with (n ∷ m ∷ ns) l = refl

module _ {G H : Type 0} where
  map-with : (f : G → H) (h : Option ℕ) (gs : List G) → HasArguments h gs → rule_with h (map f gs) ≡ map_rule f (rule_with h gs)
  map-with f (Some x) gs a = refl
  map-with f None [] a = refl
  map-with f None (g ∷ []) a = refl
  map-with f None (g ∷ k ∷ gs) a = refl

  -- other arguments by a function
  pub rules-map : (f : G → H) (hs : List (Option ℕ)) (lists : List (List G)) → AreColumns hs lists → rules_with hs (map (map f) lists) ≡ map (map_rule f) (rules_with hs lists)
  rules-map f [] lists c = refl
  rules-map f (h ∷ hs) [] c = absurd c
  rules-map f (h ∷ hs) (gs ∷ lists) c = λ i. map-with f h gs c.0 i ∷ rules-map f hs lists c.1 i

  arguments-lengths : (h : Option ℕ) (ks : List H) (gs : List G) → length ks ≡ length gs → HasArguments h gs → HasArguments h ks
  arguments-lengths (Some x) ks gs e a = tt
  arguments-lengths None ks gs e a = e ∙ a

  -- lists of the same lengths are arguments too
  pub columns-lengths : (hs : List (Option ℕ)) (lists : List (List G)) (others : List (List H)) → map length others ≡ map length lists → AreColumns hs lists → AreColumns hs others
  columns-lengths [] [] [] e c = tt
  columns-lengths [] [] (ks ∷ others) e c = absurd (omega (arith, ap length e))
  columns-lengths [] (gs ∷ lists) others e c = absurd c
  columns-lengths (h ∷ hs) [] others e c = absurd c
  columns-lengths (h ∷ hs) (gs ∷ lists) [] e c = absurd (omega (arith, ap length e))
  columns-lengths (h ∷ hs) (gs ∷ lists) (ks ∷ others) e c =
      (arguments-lengths h ks gs (ap (λ (ls : List ℕ). slice_index ls 0) e) c.0, columns-lengths hs lists others (ap (drop 1) e) c.1)

pub ruleset columns = (columns-length, lists-length, columns-push, rules-push, arguments-concat, columns-lengths)
