-- No two faults are said of a repository once all its lines were taken.
use Rattle.std.proofs.Common.{◌≡◌, ℕ, List, ◌∷◌, ◌++◌, refl, sym, ap, ◌∙◌, subst, inl, inr, arith, Contains}
use Rattle.std.specs.Prelude.{codes, slice_get}
use Rattle.std.proofs.lemmas.Bool.{cases_lt}
use Rattle.std.proofs.lemmas.List.Elements.{Contains-append_right}
use Rattle.cls_base.specs.Firsts.{First, IsDetermined}
use Rattle.cls_base.proofs.Firsts.{first-determined}
use Rattle.cls_taxon.specs.Orders.{Declared, KeepsVariance, variance_in, IsLeastOnCycle, IsFirstMixed}
use Rattle.cls_syntax.proofs.OnePlace.{same, longer, shorter, compared, heads}
use Rattle.cls_repo.specs.Drafts.{Component, Draft}
use Rattle.cls_repo.specs.EndFaults.{name_at, declared_in, schemas_in, cycle, variance_mix, refused_component, end_faults}
use Rattle.cls_repo.specs.Readings.{Reading, closing_faults}
use Rattle.cls_repo.proofs.OneFault.{some_one}
use Rattle.cls_repo.proofs.OneRefusal.{refusal_one}

least_one : (pairs : List (ℕ × ℕ)) (a b : ℕ) → IsLeastOnCycle pairs a → IsLeastOnCycle pairs b → a ≡ b
least_one pairs a b p q = elim (cases_lt a b) [
  | inl l ↦ absurd (q.1 a l p.0)
  | inr h ↦ elim (cases_lt b a) [ inl l ↦ absurd (p.1 b l q.0) | inr k ↦ omega (arith, h, k) ]
]

-- a pair that keeps its variance isn't mixed
mixed_before : (variances : List _) (a b : ℕ) (before others more : List (ℕ × ℕ)) (p : ℕ × ℕ) → KeepsVariance (record { pairs = others; variances = variances }) → others ≡ before ++ p ∷ more → (a, b) ≡ p
    → (variance_in variances a ≡ variance_in variances b → ⊥) → ⊥
mixed_before variances a b before others more p keeps is at mixed =
    let there : Contains others p = subst (λ (ps : List (ℕ × ℕ)). Contains ps p) (sym is) (Contains-append_right before (p ∷ more) p (0, omega arith, refl)) in
    let kept = keeps p there in
    mixed (ap (λ (q : ℕ × ℕ). variance_in variances q.0) at ∙ (kept ∙ sym (ap (λ (q : ℕ × ℕ). variance_in variances q.1) at)))

mixed_one : (d : Declared) (a b : ℕ) → IsFirstMixed d a → IsFirstMixed d b → a ≡ b
mixed_one d a b p q = elim (compared p.0 ((a, p.2) ∷ p.1) q.0 ((b, q.2) ∷ q.1) (sym p.3 ∙ q.3)) [
  | same e f ↦ ap (λ (r : ℕ × ℕ). r.0) (heads f)
  | longer r rs e f ↦ absurd (mixed_before d.variances a p.2 p.0 q.0 rs r q.5 e (heads f) p.4)
  | shorter r rs e f ↦ absurd (mixed_before d.variances b q.2 q.0 p.0 rs r p.5 e (heads f) q.4)
]

module _ (d : Draft) (n : ℕ) where
  cycle_one : IsDetermined (cycle d n)
  cycle_one said other p q = p.2 ∙ (ap (λ a. (n, codes "cycle " ++ name_at d.names a)) (least_one d.pairs p.0 q.0 p.1 q.1) ∙ sym q.2)

  mix_one : IsDetermined (variance_mix d n)
  mix_one said other p q = p.2 ∙ (ap (λ a. (n, codes "variance-mix " ++ name_at d.names a)) (mixed_one (declared_in d) p.0 q.0 p.1 q.1) ∙ sym q.2)

  refused_one : IsDetermined (refused_component d)
  refused_one said other p q =
      let one = refusal_one (declared_in d) d.kinds d.variables (schemas_in d) p.0 q.0 p.2 q.2 d.component_names said.1 other.1 p.5 q.5 in
      let at : p.1 ≡ q.1 = some_one (sym p.3 ∙ (ap (slice_get d.components) one.0 ∙ q.3)) in
      let line : said.0 ≡ other.0 = p.4 ∙ (ap (λ (c : Component). c.line) at ∙ sym q.4) in
      λ i. (line i, one.1 i)

  pub end_one : IsDetermined (First (end_faults d n))
  end_one = first-determined (end_faults d n) (cycle_one, (mix_one, (refused_one, tt)))

pub closing_one : (reading : Reading) → IsDetermined (First (closing_faults reading))
closing_one reading said other p q = elim p [
  | inl a ↦ elim q [ inl b ↦ a.1 ∙ sym b.1 | inr b ↦ absurd (b.0 said a) ]
  | inr a ↦ elim q [ inl b ↦ absurd (a.0 other b) | inr b ↦ end_one reading.draft reading.lines said other a.1 b.1 ]
]
