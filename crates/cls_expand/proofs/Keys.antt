-- Spines as keys, and the steps of making the rules of covers.
use Rattle.std.proofs.Common.{ℕ, ◌≡◌, ◌+◌, ◌<◌, refl, sym, ◌∙◌, subst, ap, ◌⊎◌, inl, inr, List, [], ◌∷◌, ◌++◌, length, take, Bool, true, false, Contains}
use Rattle.std.specs.Prelude.{map, if◌then◌else◌, ◌&&◌, ◌||◌, slice_index_or}
use Rattle.std.specs.List.{list_any}
use Rattle.std.proofs.lemmas.List.{get_or_default}
use Rattle.std.proofs.lemmas.Slice.Eq.{slice_eq-Decides}
use Rattle.std.proofs.lemmas.Bool.Decides.{Decides-eqb}
use Rattle.std.specs.Ordering.{eq_by_cmp}
use Rattle.cls_base.specs.declared.rule.Rule.{Rule}
use Rattle.cls_base.specs.declared.rule.Rule.TheVariants.{Head}
use Rattle.cls_base.proofs.Lists.{Contains-nil, Contains-here, Contains-later, Contains-cases, map_last, take_next}
use Rattle.cls_path.specs.Paths.{TypePath, Paths, more, listed, type_of_paths}
use Rattle.cls_path.specs.PathOrder.{list_order}
use Rattle.cls_path.specs.OrderLaws.{list_equal, list_same}
use Rattle.cls_norm.specs.Fit.{IsFit}
use Rattle.cls_library.specs.Libraries.{Library}
use Rattle.cls_library.specs.Rules.{Choice, IsRuleFor, IsTooLarge, IsChoice, IsWideBy, by_size}
use Rattle.cls_expand.specs.declared.spine.Spine.{Spine}
use Rattle.cls_expand.specs.Making.{rule_of_spine, rules_of_spines, choice_at, AreBegun, PutsNew}
use Rattle.cls_expand.specs.Listing.{rule_component, rule_args, all_back, unlisted}
use Rattle.cls_expand.proofs.Making.{begun_cover}
use Rattle.cls_expand.specs.Determined.{made_same}
use Rattle.cls_expand.proofs.Places.{spine_same}

both_true : (a b : Bool) → (a && b) ≡ true → (a ≡ true) × (b ≡ true)
both_true true b e = (refl, e)
both_true false b e = absurd (let f : false ≡ true = e in cc)

both_back : (a b : Bool) → a ≡ true → b ≡ true → (a && b) ≡ true
both_back true b e f = f
both_back false b e f = absurd (let g : false ≡ true = e in cc)

lists_same : (a b : List TypePath) → (eq_by_cmp list_order a b ≡ true → a ≡ b) × (a ≡ b → eq_by_cmp list_order a b ≡ true)
lists_same a b = (list_same a b, λ e. subst (λ (z : List TypePath). eq_by_cmp list_order a z ≡ true) e (list_equal.refl a))

-- spines are the same if and only if their rules are equal
same_rule : (s t : Spine) → spine_same s t ≡ true → rule_of_spine s ≡ rule_of_spine t
same_rule s t e =
    let r = both_true _ _ e in
    let c : s.component ≡ t.component = (Decides-eqb s.component t.component).0 r.0 in
    let a : s.args.items ≡ t.args.items = (slice_eq-Decides lists_same s.args.items t.args.items _ refl).0 r.1 in
    (λ i. Head (c i) (map listed (a i)))

rule_same : (s t : Spine) → rule_of_spine s ≡ rule_of_spine t → spine_same s t ≡ true
rule_same s t e =
    let c : s.component ≡ t.component = ap rule_component e in
    let b : map listed s.args.items ≡ map listed t.args.items = ap rule_args e in
    let a : s.args.items ≡ t.args.items = sym (all_back s.args.items) ∙ (ap (map unlisted) b ∙ all_back t.args.items) in
    both_back _ _ ((Decides-eqb s.component t.component).1 c) ((slice_eq-Decides lists_same s.args.items t.args.items _ refl).1 a)

any_member : (keys : List Spine) (s : Spine) → list_any (spine_same s) keys ≡ true → Contains (rules_of_spines keys) (rule_of_spine s)
any_member [] s e = absurd (let f : false ≡ true = e in cc)
any_member (k ∷ keys) s e = go (λ h. any_member keys s h) (spine_same s k) refl e
  where
    go : (list_any (spine_same s) keys ≡ true → Contains (rules_of_spines keys) (rule_of_spine s)) → (b : Bool) → spine_same s k ≡ b → (b || list_any (spine_same s) keys) ≡ true → Contains (rules_of_spines (k ∷ keys)) (rule_of_spine s)
    go rest true f g = subst (λ (r : Rule Paths). Contains (rules_of_spines (k ∷ keys)) r) (sym (same_rule s k f)) (Contains-here (rule_of_spine k) (rules_of_spines keys))
    go rest false f g = Contains-later (rule_of_spine s) (rule_of_spine k) (rules_of_spines keys) (rest g)

member_any : (keys : List Spine) (s : Spine) → Contains (rules_of_spines keys) (rule_of_spine s) → list_any (spine_same s) keys ≡ true
member_any [] s m = absurd (Contains-nil (rule_of_spine s) m)
member_any (k ∷ keys) s m = go (λ h. member_any keys s h) (Contains-cases (rule_of_spine k) (rules_of_spines keys) (rule_of_spine s) m)
  where
    or_true : (b c : Bool) → c ≡ true → (b || c) ≡ true
    or_true true c e = refl
    or_true false c e = e

    go : (Contains (rules_of_spines keys) (rule_of_spine s) → list_any (spine_same s) keys ≡ true) → (rule_of_spine s ≡ rule_of_spine k) ⊎ Contains (rules_of_spines keys) (rule_of_spine s) → list_any (spine_same s) (k ∷ keys) ≡ true
    go rest (inl e) = ap (λ (b : Bool). b || list_any (spine_same s) keys) (rule_same s k e)
    go rest (inr h) = or_true (spine_same s k) (list_any (spine_same s) keys) (rest h)

-- a key that is put behind others where it isn't among them
pub inserted : (keys : List Spine) (s : Spine) (new : List Spine) → new ≡ (if list_any (spine_same s) keys then keys else keys ++ s ∷ []) → PutsNew (rules_of_spines keys) (rule_of_spine s) (rules_of_spines keys) (rules_of_spines new)
inserted keys s new e = go (list_any (spine_same s) keys) refl e
  where
    go : (b : Bool) → list_any (spine_same s) keys ≡ b → new ≡ (if b then keys else keys ++ s ∷ []) → PutsNew (rules_of_spines keys) (rule_of_spine s) (rules_of_spines keys) (rules_of_spines new)
    go true f g = inl (any_member keys s f, ap rules_of_spines g)
    go false f g = inr ((λ m. absurd (let t : list_any (spine_same s) keys ≡ true = member_any keys s m in let k : false ≡ true = sym f ∙ t in cc)), ap rules_of_spines g ∙ map_last rule_of_spine keys s)

module _ (l : Library) where
  -- a choice whose arguments are all fit isn't too large
  not_large : (goal : Paths) (c : Choice) (r : Rule Paths) (h : IsRuleFor l c r) → ((n : Paths) → Contains h.arguments n → IsFit (type_of_paths n)) → IsTooLarge l goal c → ⊥
  not_large goal c r h f t = t.unfit (f t.argument (subst (λ (ns : List Paths). Contains ns t.argument) (sym (made_same l c r t.made h t.rule)) t.place))

  arguments_are : (c : Choice) (x : ℕ) (args : List Paths) (h : IsRuleFor l c (Head x args)) → h.arguments ≡ args
  arguments_are c x args h = sym (ap rule_args h.rule)

  pub wide_by : (x n : ℕ) (s slice : List ℕ) (q : TypePath) (rest : Paths) (args : List Paths) → slice ≡ s → IsChoice l (more q rest) (choice_at x n s) → IsRuleFor l (choice_at x n slice) (Head x args)
      → ((m : Paths) × Contains args m × (IsFit (type_of_paths m) → ⊥)) → IsWideBy l x (more q rest)
  wide_by x n s slice q rest args e h rule u =
      let r : IsRuleFor l (choice_at x n s) (Head x args) = subst (λ (t : List ℕ). IsRuleFor l (choice_at x n t) (Head x args)) e rule in
      by_size (choice_at x n s) refl (record {
        choice = h;
        made = Head x args;
        rule = r;
        argument = u.0;
        place = subst (λ (ns : List Paths). Contains ns u.0) (sym (arguments_are (choice_at x n s) x args r)) u.1;
        unfit = u.2;
      })

  pub cover_step : (x n : ℕ) (covers : List (List ℕ)) (i : ℕ) (slice : List ℕ) (goal : Paths) (from : ℕ) (old new : List (Rule Paths)) (args : List Paths) → i < length covers → slice ≡ slice_index_or covers i []
      → IsRuleFor l (choice_at x n slice) (Head x args) → ((m : Paths) → Contains args m → IsFit (type_of_paths m))
      → PutsNew old (Head x args) old new → AreBegun l goal from x n (take i covers) old → AreBegun l goal from x n (take (i + 1) covers) new
  cover_step x n covers i slice goal from old new args m e rule fit k h =
      let s = slice_index_or covers i [] in
      let cut : take (i + 1) covers ≡ take i covers ++ s ∷ [] = take_next covers i [] m in
      let made : IsRuleFor l (choice_at x n s) (Head x args) = subst (λ (t : List ℕ). IsRuleFor l (choice_at x n t) (Head x args)) e rule in
      let all : (m : Paths) → Contains made.arguments m → IsFit (type_of_paths m) = λ m j. fit m (subst (λ (ns : List Paths). Contains ns m) (arguments_are (choice_at x n s) x args made) j) in
      subst (λ (list : List (List ℕ)). AreBegun l goal from x n list new) (sym cut)
      (begun_cover l goal from x n (take i covers) old s (Head x args) new h made (not_large goal (choice_at x n s) (Head x args) made all) k)

-- the cover at a place
pub cover_at : (covers : List (List ℕ)) (i : ℕ) → i < length covers → Contains covers (slice_index_or covers i [])
cover_at covers i m = (i, m, get_or_default covers i (slice_index_or covers i []) [] m)
