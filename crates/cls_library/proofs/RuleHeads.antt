-- The components of rules.
use Rattle.std.proofs.Common.{ℕ, zero, suc, ◌≡◌, ◌<◌, ◌≤◌, ◌+◌, refl, subst, ◌⊎◌, inl, inr, List, [], ◌∷◌, length, arith}
use Rattle.cls_base.specs.declared.rule.Rule.{Rule}
use Rattle.cls_base.specs.declared.rule.Rule.TheVariants.{Head, Any}
use Rattle.cls_path.specs.Paths.{Paths, none, more}
use Rattle.cls_cover.specs.Members.{Member, first, later}
use Rattle.cls_cover.proofs.Lists.{contains_member, member_contains, member_append}
use Rattle.cls_library.specs.Libraries.{Library}
use Rattle.cls_library.specs.Rules.{HasRule, omega_rules, heads, numbers_from}
use Rattle.cls_library.proofs.ByCases.{zip_right, all_zip}
use Rattle.cls_library.proofs.FirstOnes.{first_ones_from}

-- the numbers from x on
pub below_has : (k x y : ℕ) → x ≤ y → y < x + k → Member (heads (numbers_from x k)) (Head y [])
below_has zero x y h l = absurd (omega arith)
below_has (suc k) x y h l = go (first_or_later x y h) (λ g. below_has k (suc x) y g (omega arith))
  where
    first_or_later : (x y : ℕ) → x ≤ y → (x ≡ y) ⊎ (suc x ≤ y)
    first_or_later x y h = grind arith

    go : (x ≡ y) ⊎ (suc x ≤ y) → (suc x ≤ y → Member (heads (numbers_from (suc x) k)) (Head y [])) → Member (heads (numbers_from x (suc k))) (Head y [])
    go (inl e) f = subst (λ z. Member (Head x [] ∷ heads (numbers_from (suc x) k)) (Head z [])) e first
    go (inr g) f = later (f g)

-- each of the omega rules
omega_rule : (k x : ℕ) (r : Rule Paths) → Member (heads (numbers_from x k)) r → (y : ℕ) × (y < x + k) × (r ≡ Head y [])
omega_rule zero x r m = elim m [ ]
omega_rule (suc k) x _ first = (x, omega arith, refl)
omega_rule (suc k) x r (later m) = let u = omega_rule k (suc x) r m in let l : u.0 < suc x + k = u.1 in (u.0, omega arith, u.2)

module _ (lib : Library) where
  -- a rule's component is declared
  pub rule_declared : (g : Paths) (x : ℕ) (ns : List Paths) → HasRule lib g (Head x ns) → x < length lib.components
  rule_declared none x ns r = declared (subst (λ (rs : List (Rule Paths)). Member rs (Head x ns)) r.1 (contains_member r.0 (Head x ns) r.2))
    where
      declared : Member (omega_rules (length lib.components)) (Head x ns) → x < length lib.components
      declared m = elim (member_append (heads (numbers_from 0 (length lib.components))) (Any none none ∷ []) (Head x ns) m) [
        | inl k ↦ (let u = omega_rule (length lib.components) 0 (Head x ns) k in let e : x ≡ u.0 = (let f : ◌≡◌ {A = Rule Paths} (Head x ns) (Head u.0 []) = u.2 in cc) in let l : u.0 < 0 + length lib.components = u.1 in omega arith)
        | inr k ↦ not_any k
      ]
        where
          not_any : Member (Any none none ∷ []) (Head x ns) → x < length lib.components
          not_any (later k) = elim k [ ]
  rule_declared (more q n) x ns r =
      let candidate = first_ones_from (Head x ns) r.1.first_ones r.2 in
      let u = zip_right (Head x ns) (all_zip r.1.choices r.1.candidates r.1.made) (contains_member r.1.candidates (Head x ns) candidate) in
      let choice = (r.1.chosen.exactly u.0).0 (member_contains u.1) in
      let f : ◌≡◌ {A = Rule Paths} (Head x ns) (Head u.0.component u.2.arguments) = u.2.rule in
      let e : x ≡ u.0.component = cc in
      let l : u.0.component < length lib.components = choice.declared in omega arith
