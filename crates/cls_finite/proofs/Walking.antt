-- Walks that come round, and long terms.
use Rattle.std.proofs.Common.{◌≡◌, ℕ, zero, suc, ◌+◌, ◌<◌, ◌≤◌, List, [], ◌∷◌, Some, length, slice_get, refl, sym, ap, subst, arith, inl, inr}
use Rattle.std.specs.Prelude.{Contains}
use Rattle.cls_base.specs.Terms.{Applicative, component, apply, length_of, size_of}
use Rattle.cls_base.specs.declared.rule.Rule.{Rule}
use Rattle.cls_base.specs.declared.rule.Rule.TheVariants.{Head, Any}
use Rattle.cls_base.specs.Languages.{Generates, Applies, by_head, by_any, done, next, NodeRule, IsGenerated, rules_at}
use Rattle.cls_base.proofs.Lists.{Contains-nil, Contains-here, Contains-later, Contains-cases, Contains-at}
use Rattle.cls_base.specs.Arguments.{arguments_of_rule}
use Rattle.cls_grammar.specs.Ranks.{IsProductiveIn}
use Rattle.cls_grammar.proofs.Trees.{productive_exactly}
use Rattle.cls_finite.specs.declared.walk.Step.{Step}
use Rattle.cls_finite.specs.Finiteness.{HasPositiveCosts, IsUnbounded}
use Rattle.cls_finite.specs.Walks.{LeadsTo, Leads, stays, goes, IsRightWalk, HasLongTerms, GoOn}

length-some : (e : Applicative) → 1 ≤ length_of e
length-some (component x) = omega arith
length-some (apply f a) = let h = length-some f in omega arith

module _ (book : List (List (Rule ℕ))) where
  abbrev Makes : ℕ → Applicative → Type 0
  Makes i e = Generates ℕ (NodeRule book) i e

  abbrev AppliesTo : Applicative → List ℕ → Applicative → Type 0
  AppliesTo f ns e = Applies ℕ (NodeRule book) f ns e

  -- a node that generates a term longer than this one
  abbrev Longer : ℕ → Applicative → Type 0
  Longer i e = (d : Applicative) × Makes i d × (length_of e < length_of d)

  -- arguments in turn, one of which is the given term
  fill : (ns : List ℕ) (f : Applicative) → ((n : ℕ) → Contains ns n → IsProductiveIn book n) → (d : Applicative) × AppliesTo f ns d × (length_of f ≤ length_of d)
  fill [] f p = (f, done, omega arith)
  fill (n ∷ ns) f p =
      let u = (productive_exactly ℕ (NodeRule book) n).0 (p n (Contains-here n ns)) in
      let v = fill ns (apply f u.0) (λ m h. p m (Contains-later m n ns h)) in
      let l = v.2 in
      let k : length_of (apply f u.0) ≡ length_of f + length_of u.0 = refl in
      (v.0, next u.1 v.1, omega arith)

  fill-with : (ns : List ℕ) (f : Applicative) (place m : ℕ) (e : Applicative) → ((n : ℕ) → Contains ns n → IsProductiveIn book n) → slice_get ns place ≡ Some m → Makes m e → (d : Applicative) × AppliesTo f ns d × (length_of f + length_of e ≤ length_of d)
  fill-with [] f place m e p at g = cc
  fill-with (n ∷ ns) f zero m e p at g =
      let s : n ≡ m = cc in
      let v = fill ns (apply f e) (λ x h. p x (Contains-later x n ns h)) in
      let k : length_of (apply f e) ≡ length_of f + length_of e = refl in
      let l = v.2 in
      (v.0, next (subst (λ x. Makes x e) (sym s) g) v.1, omega arith)
  fill-with (n ∷ ns) f (suc place) m e p at g =
      let u = (productive_exactly ℕ (NodeRule book) n).0 (p n (Contains-here n ns)) in
      let v = fill-with ns (apply f u.0) place m e (λ x h. p x (Contains-later x n ns h)) at g in
      let k : length_of (apply f u.0) ≡ length_of f + length_of u.0 = refl in
      let l = v.2 in
      (v.0, next u.1 v.1, omega arith)

  rule-longer : (i place m : ℕ) (r : Rule ℕ) (e : Applicative) → NodeRule book i r → ((n : ℕ) → Contains (arguments_of_rule r) n → IsProductiveIn book n) → slice_get (arguments_of_rule r) place ≡ Some m → Makes m e → Longer i e
  rule-longer i place m (Head x ns) e c p at g =
      let u = fill-with ns (component x) place m e p at g in
      let l = u.2 in
      let k : length_of (component x) ≡ 1 = refl in
      (u.0, by_head c u.1, omega arith)
  rule-longer i zero m (Any l r) e c p at g =
      let s : l ≡ m = cc in
      let u = (productive_exactly ℕ (NodeRule book) r).0 (p r (Contains-later r l (r ∷ []) (Contains-here r []))) in
      let k : length_of (apply e u.0) ≡ length_of e + length_of u.0 = refl in
      let o = length-some u.0 in
      (apply e u.0, by_any c (subst (λ x. Makes x e) (sym s) g) u.1, omega arith)
  rule-longer i (suc zero) m (Any l r) e c p at g =
      let s : r ≡ m = cc in
      let u = (productive_exactly ℕ (NodeRule book) l).0 (p l (Contains-here l (r ∷ []))) in
      let k : length_of (apply u.0 e) ≡ length_of u.0 + length_of e = refl in
      let o = length-some u.0 in
      (apply u.0 e, by_any c u.1 (subst (λ x. Makes x e) (sym s) g), omega arith)
  rule-longer i (suc (suc place)) m (Any l r) e c p at g = cc

  step-longer : (s : Step) (m : ℕ) (e : Applicative) → LeadsTo book s m → Makes m e → Longer s.goal e
  step-longer s m e t g = rule-longer s.goal s.argument m t.rule e (Contains-at (rules_at book s.goal) s.rule t.rule t.there) t.productive t.argument g

  -- steps lead back to terms that are no shorter, and longer where there is a step
  walk-longer : {i n : ℕ} {ss : List Step} → Leads book i ss n → (e : Applicative) → Makes n e → (d : Applicative) × Makes i d × (length_of e + length ss ≤ length_of d)
  walk-longer stays e g = (e, g, omega arith)
  walk-longer (goes {i = i} {m = m} {n = n} {s = s} {ss = ss} a t l) e g =
      let u = walk-longer l e g in
      let v = step-longer s m u.0 t u.1 in
      let p = u.2 in
      let q = v.2 in
      (v.0, subst (λ x. Makes x v.0) a v.1, omega arith)

  -- from a step of the walk the rest of it leads on, by at least one step
  rest-leads : {i n : ℕ} {ss : List Step} (s : Step) → Leads book i ss n → Contains ss s → (us : List Step) × Leads book s.goal us n × (1 ≤ length us)
  rest-leads s stays h = absurd (Contains-nil s h)
  rest-leads s (goes {s = t} {ss = ss} a l k) h = elim (Contains-cases t ss s h) [
    | inl e ↦ (t ∷ ss, goes (ap (λ (x : Step). x.goal) (sym e)) l k, omega arith)
    | inr m ↦ rest-leads s k m
  ]

  -- what a round adds, as often as the number says
  rounds : (i : ℕ) (us : List Step) → Leads book i us i → 1 ≤ length us → (k : ℕ) (e : Applicative) → Makes i e → (d : Applicative) × Makes i d × (k < length_of d)
  rounds i us l o zero e g = (e, g, length-some e)
  rounds i us l o (suc k) e g =
      let u = rounds i us l o k e g in
      let v = walk-longer l u.0 u.1 in
      let p = u.2 in
      let q = v.2 in
      (v.0, v.1, omega arith)

  -- the last goal of a walk with a step is productive
  last-productive : {i n : ℕ} {ss : List Step} → Leads book i ss n → 1 ≤ length ss → IsProductiveIn book n
  last-productive stays o = absurd (omega arith)
  last-productive (goes {m = m} {s = s} a t stays) o = t.productive m (Contains-at (arguments_of_rule t.rule) s.argument m t.argument)
  last-productive (goes a t (goes b u l)) o = last-productive (goes b u l) (omega arith)

  pub right-long : (walk : List Step) → IsRightWalk book walk → HasLongTerms book 0
  right-long walk w k =
      let rest = rest-leads w.step w.leads w.taken in
      let round = subst (λ x. Leads book x rest.0 w.end) w.round rest.1 in
      let start = (productive_exactly ℕ (NodeRule book) w.end).0 (last-productive rest.1 rest.2) in
      let long = rounds w.end rest.0 round rest.2 k start.0 start.1 in
      let back = walk-longer w.leads long.0 long.1 in
      let p = long.2 in
      let q = back.2 in
      (back.0, back.1, omega arith)

  -- where each of some nodes has a step to one of them, each generates terms of any length
  pub endless-long : (nodes : List ℕ) → GoOn book nodes → (i : ℕ) → Contains nodes i → HasLongTerms book i
  endless-long nodes f i h zero =
      let u = f i h in
      let a = Contains-at (arguments_of_rule u.leads.rule) u.step.argument u.next u.leads.argument in
      let e = (productive_exactly ℕ (NodeRule book) u.next).0 (u.leads.productive u.next a) in
      let d = step-longer u.step u.next e.0 u.leads e.1 in
      let l = d.2 in
      (d.0, subst (λ x. Makes x d.0) u.from d.1, omega arith)
  endless-long nodes f i h (suc k) =
      let u = f i h in
      let e = endless-long nodes f u.next u.among k in
      let d = step-longer u.step u.next e.0 u.leads e.1 in
      let l = d.2 in
      let m = e.2 in
      (d.0, subst (λ x. Makes x d.0) u.from d.1, omega arith)

module _ (book : List (List (Rule ℕ))) (cost : ℕ → ℕ) (costs : HasPositiveCosts book cost) where
  mutual
    -- a term that is generated is at least as large as long
    generated-large : {i : ℕ} {e : Applicative} → IsGenerated book i e → length_of e ≤ size_of cost e
    generated-large (by_head {i = i} {x = x} {ns = ns} r a) = let h = costs i x ns r in applied-large a h
    generated-large (by_any r g h) = let a = generated-large g in let b = generated-large h in omega arith

    applied-large : {f e : Applicative} {ns : List ℕ} → Applies ℕ (NodeRule book) f ns e → length_of f ≤ size_of cost f → length_of e ≤ size_of cost e
    applied-large done l = l
    applied-large (next {f = f} {a = d} g a) l = let m = generated-large g in applied-large a (let h : length_of (apply f d) ≤ size_of cost (apply f d) = omega arith in h)

  pub long-large : (i : ℕ) → HasLongTerms book i → IsUnbounded book cost i
  long-large i long n = let u = long n in let l = generated-large u.1 in let m = u.2 in (u.0, u.1, omega arith)
