-- Languages by equation: a property of nodes and terms that meets the rules, both ways, is what the rules generate.
use Rattle.std.proofs.Common.{◌≡◌, ℕ, zero, suc, ◌+◌, ◌<◌, ◌≤◌, ◌↔◌, List, [], ◌∷◌, refl, sym, ap, subst, arith}
use Rattle.std.specs.Prelude.{Contains}
use Rattle.cls_base.specs.Terms.{Applicative, component, apply, length_of}
use Rattle.cls_base.specs.declared.rule.Rule.{Rule}
use Rattle.cls_base.specs.declared.rule.Rule.TheVariants.{Head, Any}
use Rattle.cls_base.specs.Arguments.{arguments_of_rule}
use Rattle.cls_base.specs.Languages.{Generates, Applies, by_head, by_any, done, next}
use Rattle.cls_base.proofs.Lists.{Contains-here, Contains-later}
use Rattle.cls_term.proofs.Spines.{length_at_least_one}

module _ (N : Type 0) (Has : N → Applicative → Type 0) where
  -- the second term is the first one applied to what each node has in turn
  abbrev pub AppliedTo : Applicative → List N → Applicative → Type 0
  AppliedTo f [] e = e ≡ f
  AppliedTo f (n ∷ ns) e = (a : Applicative) × Has n a × AppliedTo (apply f a) ns e

  -- the rule makes the term of what its arguments have
  abbrev pub MadeBy : Rule N → Applicative → Type 0
  MadeBy (Head x ns) e = AppliedTo (component x) ns e
  MadeBy (Any l m) e = (f : Applicative) × (a : Applicative) × Has l f × Has m a × (e ≡ apply f a)

  applied-longer : (f : Applicative) (ns : List N) (e : Applicative) → AppliedTo f ns e → length_of f ≤ length_of e
  applied-longer f [] e s = let t = ap length_of s in omega (arith, t)
  applied-longer f (n ∷ ns) e m =
      let k = applied-longer (apply f m.0) ns e m.2 in
      let t : length_of (apply f m.0) ≡ length_of f + length_of m.0 = refl in
      omega (arith, k, t)

module _ (N : Type 0) (IsRule : N → Rule N → Type 0) where
  abbrev pub Made : Rule N → Applicative → Type 0
  Made r e = MadeBy N (Generates N IsRule) r e

  unapplied : {f e : Applicative} {ns : List N} → Applies N IsRule f ns e → AppliedTo N (Generates N IsRule) f ns e
  unapplied done = refl
  unapplied (next {a = a} g h) = (a, g, unapplied h)

  -- what a node generates is made by one of its rules
  pub unmade : {i : N} {e : Applicative} → Generates N IsRule i e → (r : Rule N) × IsRule i r × Made r e
  unmade (by_head {x = x} {ns = ns} r a) = (Head x ns, r, unapplied a)
  unmade (by_any {l = l} {m = m} {f = f} {a = a} r g h) = (Any l m, r, (f, a, g, h, refl))

  reapplied : (f : Applicative) (ns : List N) (e : Applicative) → AppliedTo N (Generates N IsRule) f ns e → Applies N IsRule f ns e
  reapplied f [] e s = subst (λ (x : Applicative). Applies N IsRule f [] x) (sym s) done
  reapplied f (n ∷ ns) e m = next m.1 (reapplied (apply f m.0) ns e m.2)

  -- and the other way round
  pub remade : (i : N) (r : Rule N) (e : Applicative) → IsRule i r → Made r e → Generates N IsRule i e
  remade i (Head x ns) e r m = by_head r (reapplied (component x) ns e m)
  remade i (Any l k) e r m = subst (λ (x : Applicative). Generates N IsRule i x) (sym m.4) (by_any r m.2 m.3)

module _ (N : Type 0) (IsRule : N → Rule N → Type 0) (Known : N → Type 0) (Has : N → Applicative → Type 0)
    (onward : (i : N) (r : Rule N) → Known i → IsRule i r → (n : N) → Contains (arguments_of_rule r) n → Known n)
    (sound : (i : N) (r : Rule N) (e : Applicative) → Known i → IsRule i r → MadeBy N Has r e → Has i e)
    (complete : (i : N) (e : Applicative) → Known i → Has i e → (r : Rule N) × IsRule i r × MadeBy N Has r e) where
  mutual
    generated-has : {i : N} {e : Applicative} → Known i → Generates N IsRule i e → Has i e
    generated-has k (by_head {i = i} {x = x} {ns = ns} {e = e} r a) = sound i (Head x ns) e k r (applied-has (onward i (Head x ns) k r) a)
    generated-has k (by_any {i = i} {l = l} {m = m} {f = f} {a = a} r g h) =
        let known = onward i (Any l m) k r in
        sound i (Any l m) (apply f a) k r (f, a, generated-has (known l (Contains-here l (m ∷ []))) g, generated-has (known m (Contains-later m l (m ∷ []) (Contains-here m []))) h, refl)

    applied-has : {f e : Applicative} {ns : List N} → ((n : N) → Contains ns n → Known n) → Applies N IsRule f ns e → AppliedTo N Has f ns e
    applied-has k done = refl
    applied-has k (next {a = a} {n = n} {ns = ns} g h) =
        (a, generated-has (k n (Contains-here n ns)) g, applied-has (λ m c. k m (Contains-later m n ns c)) h)

  -- what nodes have that are shorter than n is generated
  abbrev Below : ℕ → Type 0
  Below n = (i : N) (e : Applicative) → length_of e < n → Known i → Has i e → Generates N IsRule i e

  applied-generated : (n : ℕ) → Below n → (f : Applicative) (ns : List N) (e : Applicative) → length_of e < suc n → ((m : N) → Contains ns m → Known m) → AppliedTo N Has f ns e → Applies N IsRule f ns e
  applied-generated n b f [] e l k s = subst (λ (x : Applicative). Applies N IsRule f [] x) (sym s) done
  applied-generated n b f (m ∷ ns) e l k h =
      let longer = applied-longer N Has (apply f h.0) ns e h.2 in
      let t : length_of (apply f h.0) ≡ length_of f + length_of h.0 = refl in
      let short : length_of h.0 < n = omega (arith, l, longer, t, length_at_least_one f) in
      next (b m h.0 short (k m (Contains-here m ns)) h.1) (applied-generated n b (apply f h.0) ns e l (λ q c. k q (Contains-later q m ns c)) h.2)

  rule-generated : (n : ℕ) → Below n → (i : N) (e : Applicative) (r : Rule N) → length_of e < suc n → Known i → IsRule i r → MadeBy N Has r e → Generates N IsRule i e
  rule-generated n b i e (Head x ns) l k r h = by_head r (applied-generated n b (component x) ns e l (onward i (Head x ns) k r) h)
  rule-generated n b i e (Any p m) l k r h =
      let known = onward i (Any p m) k r in
      let t = ap length_of h.4 in
      let u : length_of (apply h.0 h.1) ≡ length_of h.0 + length_of h.1 = refl in
      let left : length_of h.0 < n = omega (arith, l, t, u, length_at_least_one h.1) in
      let right : length_of h.1 < n = omega (arith, l, t, u, length_at_least_one h.0) in
      subst (λ (x : Applicative). Generates N IsRule i x) (sym h.4)
      (by_any r (b p h.0 left (known p (Contains-here p (m ∷ []))) h.2) (b m h.1 right (known m (Contains-later m p (m ∷ []) (Contains-here m []))) h.3))

  has-below : (n : ℕ) → Below n
  has-below zero i e l k h = absurd (omega (arith, l))
  has-below (suc n) i e l k h = let u = complete i e k h in rule-generated n (has-below n) i e u.0 l k u.1 u.2

  pub language : (i : N) (e : Applicative) → Known i → Generates N IsRule i e ↔ Has i e
  language i e k = ((λ g. generated-has k g), (λ h. has-below (suc (length_of e)) i e (omega arith) k h))
