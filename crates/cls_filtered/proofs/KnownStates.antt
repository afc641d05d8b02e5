-- What is known of states, if it is sound and no rule adds anything, is all.
use Rattle.std.proofs.Common.{◌≡◌, ℕ, ◌<◌, Bool, true, List, [], Some, length, refl, sym, ap, subst, ◌∙◌}
use Rattle.cls_base.specs.Terms.{Applicative, component, apply}
use Rattle.cls_base.specs.declared.rule.Rule.{Rule}
use Rattle.cls_base.specs.declared.rule.Rule.TheVariants.{Head, Any}
use Rattle.cls_base.specs.Languages.{Generates, NodeRule, IsGenerated}
use Rattle.cls_filter.specs.Automata.{Automaton, leaf_state, joined_state, applied_state, state_of}
use Rattle.cls_filter.specs.States.{IsAutomaton}
use Rattle.cls_filtered.specs.Filtered.{HasState, AreStatesOf}
use Rattle.cls_filtered.specs.States.{is_known, IsSound, IsClosed}
use Rattle.cls_filtered.proofs.Equations.{AppliedTo, MadeBy, unmade, remade}
use Rattle.cls_filtered.specs.Stepwise.{AreSteps}
use Rattle.cls_filtered.proofs.Filtering.{state-less, parts-state}

module _ (book : List (List (Rule ℕ))) (a : Automaton) (steps : AreSteps book) where
  -- one step from terms of known states
  pub leaf-sound : (i x q : ℕ) (ns : List ℕ) → NodeRule book i (Head x ns) → leaf_state a x ≡ Some q → HasState book a i q
  leaf-sound i x q ns c e =
      let rule = subst (λ (ks : List ℕ). NodeRule book i (Head x ks)) (steps i (Head x ns) c) c in
      (component x, remade ℕ (NodeRule book) i (Head x []) (component x) rule refl, e)

  pub application-sound : (i l m p s q : ℕ) → NodeRule book i (Any l m) → HasState book a l p → HasState book a m s → joined_state a p s ≡ Some q → HasState book a i q
  application-sound i l m p s q c f e j = (
    apply f.0 e.0,
    remade ℕ (NodeRule book) i (Any l m) (apply f.0 e.0) c (f.0, e.0, f.1, e.1, refl),
    (λ k. applied_state a (f.2 k) (e.2 k)) ∙ j,
  )

  module _ (small : IsAutomaton a) (flags : List Bool) (closed : IsClosed a book flags) where
    -- each state that the term has at a node that generates it is known
    abbrev IsKnownAt : Applicative → Type 0
    IsKnownAt e = (i q : ℕ) → i < length book → IsGenerated book i e → state_of a e ≡ Some q → is_known flags i q ≡ true

    abbrev MadeOf : Rule ℕ → Applicative → Type 0
    MadeOf r e = MadeBy ℕ (Generates ℕ (NodeRule book)) r e

    known-leaf : (x i q : ℕ) → i < length book → state_of a (component x) ≡ Some q → (r : Rule ℕ) → NodeRule book i r → MadeOf r (component x) → is_known flags i q ≡ true
    known-leaf x i q l s (Head y ns) c m =
        let is : component x ≡ component y = subst (λ (ks : List ℕ). AppliedTo ℕ (Generates ℕ (NodeRule book)) (component y) ks (component x)) (steps i (Head y ns) c) m in
        closed i l (Head y ns) c q (sym (ap (state_of a) is) ∙ s)
    known-leaf x i q l s (Any k n) c m = absurd (let h : component x ≡ apply m.0 m.1 = m.4 in cc)

    known-application : (f b : Applicative) (i q : ℕ) → i < length book → state_of a (apply f b) ≡ Some q → IsKnownAt f → IsKnownAt b → (r : Rule ℕ) → NodeRule book i r → MadeOf r (apply f b) → is_known flags i q ≡ true
    known-application f b i q l s left right (Head y ns) c m =
        let is : apply f b ≡ component y = subst (λ (ks : List ℕ). AppliedTo ℕ (Generates ℕ (NodeRule book)) (component y) ks (apply f b)) (steps i (Head y ns) c) m in
        absurd (let h : apply f b ≡ component y = is in cc)
    known-application f b i q l s left right (Any k n) c m =
        let h : apply f b ≡ apply m.0 m.1 = m.4 in
        let one : m.0 ≡ f = cc in
        let other : m.1 ≡ b = cc in
        let within = steps i (Any k n) c in
        let t = parts-state a (state_of a f) (state_of a b) q s in
        let first = left k t.0 within.0 (subst (λ (d : Applicative). IsGenerated book k d) one m.2) t.2 in
        let second = right n t.1 within.1 (subst (λ (d : Applicative). IsGenerated book n d) other m.3) t.3 in
        closed i l (Any k n) c t.0 t.1 q (state-less a small f t.0 t.2) (state-less a small b t.1 t.3) first second t.4

    known-all : (e : Applicative) → IsKnownAt e
    known-all (component x) i q l g s = let u = unmade ℕ (NodeRule book) g in known-leaf x i q l s u.0 u.1 u.2
    known-all (apply f b) i q l g s =
        let u = unmade ℕ (NodeRule book) g in known-application f b i q l s (known-all f) (known-all b) u.0 u.1 u.2

    pub closed-states : IsSound a book flags → AreStatesOf book a flags
    closed-states h = record {
      count = h.count;
      each = λ i q l m. ((λ k. h.has i q l m k), (λ t. known-all t.0 i q l t.1 t.2));
    }
