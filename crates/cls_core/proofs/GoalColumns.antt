-- Rules of a goal in flat columns: the heads, the arguments in one column, and their ends.
use Rattle.std.proofs.Common.{◌≡◌, ℕ, ◌+◌, ◌<◌, List, [], ◌∷◌, ◌++◌, length, map, length-append, slice_get, refl, sym, ap, ◌∙◌, subst, append_assoc, arith}
use Rattle.std.specs.Prelude.{Option, Some, None, Bool, true, false, nat_eq, slice_index_or}
use Rattle.std.specs.Option.{option_eq}
use Rattle.std.specs.Cmp.Lexicographic.{pointwise}
use Rattle.std.proofs.lemmas.Bool.Decides.{Decides-eqb}
use Rattle.std.proofs.lemmas.Slice.Eq.{slice_eq-Decides}
use Rattle.cls_base.specs.Cuts.{cut, AreEnds}
use Rattle.cls_base.proofs.Cutting.{cut-push, ends-push}
use Rattle.cls_base.proofs.Refilling.{joined-cut, cut-map, cut-lengths}
use Rattle.cls_base.specs.declared.rule.Rule.TheVariants.{Head, Any}
use Rattle.cls_base.specs.Arguments.{arguments_in, map_rule}
use Rattle.cls_base.specs.Columns.{HasArguments, AreColumns, rule_with, rules_with}
use Rattle.cls_base.proofs.Columns.{columns-push, rules-push, rule-at, arguments-at, arguments-joined, columns-lengths, rules-map}
use Rattle.cls_core.proofs.Columns.{some-inside}

module _ {G : Type 0} (hs : List (Option ℕ)) (gs : List G) (ends : List ℕ) (e : AreEnds 0 (length gs) ends) (c : AreColumns hs (cut gs 0 ends)) where
  -- the column of goals has the arguments of all rules
  pub goals-are : gs ≡ arguments_in (rules_with hs (cut gs 0 ends))
  goals-are = sym (joined-cut gs ends e) ∙ arguments-joined hs (cut gs 0 ends) c

  -- one rule more
  pub pushed-ends : (args : List G) (end : ℕ) → end ≡ length gs + length args → AreEnds 0 (length (gs ++ args)) (ends ++ end ∷ [])
  pushed-ends args end p =
      let q : end ≡ length (gs ++ args) = omega (arith, p, length-append gs args) in
      subst (λ (n : ℕ). AreEnds 0 n (ends ++ end ∷ [])) q (ends-push 0 (length gs) end ends e (omega (arith, p)))

  pub pushed-columns : (h : Option ℕ) (args : List G) (end : ℕ) → HasArguments h args → end ≡ length gs + length args → AreColumns (hs ++ h ∷ []) (cut (gs ++ args) 0 (ends ++ end ∷ []))
  pushed-columns h args end a p =
      let q : end ≡ length (gs ++ args) = omega (arith, p, length-append gs args) in
      subst (λ (lists : List (List G)). AreColumns (hs ++ h ∷ []) lists) (sym (cut-push gs args end ends e q)) (columns-push hs (cut gs 0 ends) h args c a)

  pub pushed-rules : (h : Option ℕ) (args : List G) (end : ℕ) → end ≡ length gs + length args → rules_with (hs ++ h ∷ []) (cut (gs ++ args) 0 (ends ++ end ∷ [])) ≡ rules_with hs (cut gs 0 ends) ++ rule_with h args ∷ []
  pushed-rules h args end p =
      let q : end ≡ length (gs ++ args) = omega (arith, p, length-append gs args) in
      ap (rules_with (hs ++ h ∷ [])) (cut-push gs args end ends e q) ∙ rules-push hs (cut gs 0 ends) h args c

  -- a rule for any term more
  pair : (l m : G) → (gs ++ l ∷ []) ++ m ∷ [] ≡ gs ++ l ∷ m ∷ []
  pair l m = append_assoc gs (l ∷ []) (m ∷ [])

  pub paired-ends : (l m : G) (end : ℕ) → end ≡ length gs + 2 → AreEnds 0 (length ((gs ++ l ∷ []) ++ m ∷ [])) (ends ++ end ∷ [])
  paired-ends l m end p =
      subst (λ (ks : List G). AreEnds 0 (length ks) (ends ++ end ∷ [])) (sym (pair l m)) (pushed-ends (l ∷ m ∷ []) end p)

  pub paired-columns : (l m : G) (end : ℕ) → end ≡ length gs + 2 → AreColumns (hs ++ None ∷ []) (cut ((gs ++ l ∷ []) ++ m ∷ []) 0 (ends ++ end ∷ []))
  paired-columns l m end p =
      subst (λ (ks : List G). AreColumns (hs ++ None ∷ []) (cut ks 0 (ends ++ end ∷ []))) (sym (pair l m)) (pushed-columns None (l ∷ m ∷ []) end refl p)

  pub paired-rules : (l m : G) (end : ℕ) → end ≡ length gs + 2 → rules_with (hs ++ None ∷ []) (cut ((gs ++ l ∷ []) ++ m ∷ []) 0 (ends ++ end ∷ [])) ≡ rules_with hs (cut gs 0 ends) ++ Any l m ∷ []
  paired-rules l m end p =
      ap (λ (ks : List G). rules_with (hs ++ None ∷ []) (cut ks 0 (ends ++ end ∷ []))) (pair l m) ∙ pushed-rules None (l ∷ m ∷ []) end p

  -- other arguments in their place
  pub numbered-ends : (ns : List ℕ) → length ns ≡ length (arguments_in (rules_with hs (cut gs 0 ends))) → AreEnds 0 (length ns) ends
  numbered-ends ns p = subst (λ (n : ℕ). AreEnds 0 n ends) (ap length goals-are ∙ sym p) e

  pub numbered-columns : (ns : List ℕ) → length ns ≡ length (arguments_in (rules_with hs (cut gs 0 ends))) → AreColumns hs (cut ns 0 ends)
  numbered-columns ns p = columns-lengths hs (cut gs 0 ends) (cut ns 0 ends) (cut-lengths ns gs 0 ends (p ∙ sym (ap length goals-are))) c

  pub numbered-rules : (f : G → ℕ) (ns : List ℕ) → ns ≡ map f (arguments_in (rules_with hs (cut gs 0 ends))) → rules_with hs (cut ns 0 ends) ≡ map (map_rule f) (rules_with hs (cut gs 0 ends))
  numbered-rules f ns p =
      let q : ns ≡ map f gs = p ∙ ap (map f) (sym goals-are) in
      ap (λ (ms : List ℕ). rules_with hs (cut ms 0 ends)) q ∙ (ap (rules_with hs) (cut-map f gs 0 ends) ∙ rules-map f hs (cut gs 0 ends) c)

module _ {G : Type 0} where
  -- a rule that is that of a component has it for its head, and those arguments
  pub head-with : (h : Option ℕ) (gs : List G) (x : ℕ) (args : List G) → HasArguments h gs → rule_with h gs ≡ Head x args → (h ≡ Some x) × (gs ≡ args)
  head-with (Some y) gs x args a e = (ap Some (cc), cc)
  head-with None [] x args a e = absurd (omega (arith, a))
  head-with None (g ∷ []) x args a e = absurd (omega (arith, a))
  head-with None (g ∷ k ∷ gs) x args a e = cc

head-is : (h : Option ℕ) (x : ℕ) → true ≡ option_eq nat_eq h (Some x) → h ≡ Some x
head-is None x e = absurd (let f : true ≡ false = e in cc)
head-is (Some y) x e = ap Some ((Decides-eqb y x).0 (sym e))

module _ {G : Type 0} (hs : List (Option ℕ)) (lists : List (List G)) (c : AreColumns hs lists) (i x : ℕ) (h : Option ℕ) (args : List G) (l : i < length (rules_with hs lists)) (p : h ≡ slice_index_or hs i h) where
  -- the rule at a place is that of another component, or for any term
  pub other-head : false ≡ option_eq nat_eq h (Some x) → slice_get (rules_with hs lists) i ≡ Some (Head x args) → ⊥
  other-head q e =
      let own = slice_index_or lists i [] in
      let a = arguments-at hs lists i h own c l p refl in
      let at = rule-at hs lists i h own c l p refl in
      let same = head-with h own x args a (some-inside _ _ (sym at ∙ e)) in
      absurd (let r : false ≡ option_eq nat_eq (Some x) (Some x) = subst (λ (k : Option ℕ). false ≡ option_eq nat_eq k (Some x)) same.0 q in let t = (Decides-eqb x x).1 refl in cc)

  -- it is that of the component, if it has the arguments
  pub same-head : (eq : G → G → Bool) → ((y z : G) → eq y z ≡ true → y ≡ z) → ((y : G) → eq y y ≡ true) → (own : List G) (b : Bool)
      → true ≡ option_eq nat_eq h (Some x) → own ≡ slice_index_or lists i [] → b ≡ pointwise eq own args
      → (b ≡ true → slice_get (rules_with hs lists) i ≡ Some (Head x args)) × (slice_get (rules_with hs lists) i ≡ Some (Head x args) → b ≡ true)
  same-head eq exact reflexive own b q r s =
      let a = arguments-at hs lists i h own c l p r in
      let at = rule-at hs lists i h own c l p r in
      let is = head-is h x q in
      let test = slice_eq-Decides (λ y z. (exact y z, λ e. subst (λ (w : G). eq y w ≡ true) e (reflexive y))) own args b s in (
        λ t. at ∙ (λ j. Some (rule_with (is j) (test.0 t j))),
        λ e. test.1 (head-with h own x args a (some-inside _ _ (sym at ∙ e))).1,
      )

pub ruleset pushes = (pushed-ends, pushed-columns, pushed-rules, length-append)

pub ruleset pairs = (paired-ends, paired-columns, paired-rules)

pub ruleset fillings = (goals-are, numbered-ends, numbered-columns, numbered-rules)
