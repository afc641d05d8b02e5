-- The rules of omega, and what they generate.
use Rattle.std.proofs.Common.{◌≡◌, ℕ, zero, suc, ◌+◌, ◌<◌, List, [], ◌∷◌, ◌++◌, refl, subst, arith, add-one, inl, inr}
use Rattle.std.specs.Prelude.{◌↔◌, Contains}
use Rattle.std.proofs.lemmas.List.Elements.{Contains-append_left, Contains-push, Contains-push_cases}
use Rattle.std.proofs.lemmas.Bool.{cases_lt}
use Rattle.cls_base.specs.Terms.{Applicative, component, apply, IsTermOver}
use Rattle.cls_base.specs.declared.rule.Rule.{Rule}
use Rattle.cls_base.specs.declared.rule.Rule.TheVariants.{Head, Any}
use Rattle.cls_base.specs.Languages.{Applies, by_head, by_any, done, next, NodeRule, IsGenerated}
use Rattle.cls_base.specs.Books.{heads, omega_rules, omega_book, HaveNodesBelow, HasNodesBelow}

pub heads-next : (n : ℕ) → heads (n + 1) ≡ heads n ++ Head n [] ∷ []
heads-next n = rw add-one refl

pub ruleset rule_lists = (heads-next)

HaveNodesBelow-push : (n : ℕ) (rs : List (Rule ℕ)) (r : Rule ℕ) → HaveNodesBelow n rs → HasNodesBelow n r → HaveNodesBelow n (rs ++ r ∷ [])
HaveNodesBelow-push n [] r h i = (i, tt)
HaveNodesBelow-push n (q ∷ rs) r h i = (h.0, HaveNodesBelow-push n rs r h.1 i)

heads-within : (m n : ℕ) → HaveNodesBelow m (heads n)
heads-within m zero = tt
heads-within m (suc n) = HaveNodesBelow-push m (heads n) (Head n []) (heads-within m n) tt

-- each argument is node 0
pub omega_rules-within : (n : ℕ) → HaveNodesBelow 1 (omega_rules n)
omega_rules-within n = HaveNodesBelow-push 1 (heads n) (Any 0 0) (heads-within 1 n) (omega arith, omega arith)

-- a component below n has its rule
head-declared : (n x : ℕ) → x < n → Contains (heads n) (Head x [])
head-declared zero x l = absurd (omega arith)
head-declared (suc n) x l = elim (cases_lt x n) [
  | inl m ↦ Contains-append_left (heads n) (Head n [] ∷ []) (Head x []) (head-declared n x m)
  | inr m ↦ let P : ℕ → Type 0 = λ y. Contains (heads (suc n)) (Head y []) in let e : n ≡ x = omega arith in subst P e (Contains-push (heads n) (Head n []))
]

-- what a rule of omega is
abbrev IsOmegaRule : ℕ → Rule ℕ → Type 0
IsOmegaRule n (Head x ns) = (x < n) × (ns ≡ [])
IsOmegaRule n (Any l m) = (l ≡ 0) × (m ≡ 0)

head-below : (n : ℕ) (r : Rule ℕ) → Contains (heads n) r → IsOmegaRule n r
head-below zero r c = absurd (omega (arith, c.1))
head-below (suc n) r c = elim (Contains-push_cases (heads n) (Head n []) r c) [
  | inl i ↦ more n r (head-below n r i)
  | inr p ↦ let P : Rule ℕ → Type 0 = λ q. IsOmegaRule (suc n) q in subst P p (omega arith, refl)
]
  where
    more : (n : ℕ) (r : Rule ℕ) → IsOmegaRule n r → IsOmegaRule (suc n) r
    more n (Head x ns) h = (omega (arith, h.0), h.1)
    more n (Any l m) h = h

omega_rule : (n : ℕ) (r : Rule ℕ) → Contains (omega_rules n) r → IsOmegaRule n r
omega_rule n r c = elim (Contains-push_cases (heads n) (Any 0 0) r c) [
  | inl i ↦ head-below n r i
  | inr p ↦ let P : Rule ℕ → Type 0 = λ q. IsOmegaRule n q in subst P p (refl, refl)
]

over-applied : (n x : ℕ) (ns : List ℕ) (e : Applicative) → x < n → ns ≡ [] → Applies ℕ (NodeRule (omega_book n)) (component x) ns e → IsTermOver n e
over-applied n x ns e l p done = l
over-applied n x ns e l p (next g h) = absurd (cc)

generated-over : (n : ℕ) (i : ℕ) (e : Applicative) → i ≡ 0 → IsGenerated (omega_book n) i e → IsTermOver n e
generated-over n i e p (by_head {x = x} {ns = ns} c h) =
    let P : ℕ → Type 0 = λ j. NodeRule (omega_book n) j (Head x ns) in
    let r = omega_rule n (Head x ns) (subst P p c) in
    over-applied n x ns e r.0 r.1 h
generated-over n i _ p (by_any {l = l} {m = m} {f = f} {a = a} c g h) =
    let P : ℕ → Type 0 = λ j. NodeRule (omega_book n) j (Any l m) in
    let r = omega_rule n (Any l m) (subst P p c) in
    (generated-over n l f r.0 g, generated-over n m a r.1 h)

over-generated : (n : ℕ) (e : Applicative) → IsTermOver n e → IsGenerated (omega_book n) 0 e
over-generated n (component x) l = by_head (Contains-append_left (heads n) (Any 0 0 ∷ []) (Head x []) (head-declared n x l)) done
over-generated n (apply f a) h = by_any (Contains-push (heads n) (Any 0 0)) (over-generated n f h.0) (over-generated n a h.1)

pub omega_book-language : (n : ℕ) (e : Applicative) → IsGenerated (omega_book n) 0 e ↔ IsTermOver n e
omega_book-language n e = (generated-over n 0 e refl, over-generated n e)
