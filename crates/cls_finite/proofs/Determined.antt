-- The determined walk comes round.
use Rattle.std.proofs.Common.{◌≡◌, ℕ, List, [], ◌∷◌, sym, ◌∙◌, ◌⊎◌, inl, inr}
use Rattle.std.specs.Prelude.{Contains}
use Rattle.cls_base.specs.declared.rule.Rule.{Rule}
use Rattle.cls_base.proofs.Lists.{Contains-nil, Contains-here, Contains-later, Contains-cases}
use Rattle.cls_finite.specs.declared.walk.Step.{Step}
use Rattle.cls_finite.specs.Finiteness.{IsDetermined, comes_round, walks_on}
use Rattle.cls_finite.specs.Walks.{Leads, stays, goes, IsRightWalk}

module _ (book : List (List (Rule ℕ))) (cost : ℕ → ℕ) where
  -- the walk ends at a node seen or at the node of a step
  abbrev Ends : List ℕ → List Step → ℕ → Type 0
  Ends seen ss n = Contains seen n ⊎ ((s : Step) × Contains ss s × (s.goal ≡ n))

  behind : (seen : List ℕ) (i n : ℕ) (s : Step) (ss : List Step) → s.goal ≡ i → Ends (i ∷ seen) ss n → Ends seen (s ∷ ss) n
  behind seen i n s ss a (inl h) = elim (Contains-cases i seen n h) [ inl e ↦ inr (s, Contains-here s ss, a ∙ sym e) | inr k ↦ inl k ]
  behind seen i n s ss a (inr u) = inr (u.0, Contains-later u.0 s ss u.1, u.2)

  ends : {seen : List ℕ} {i : ℕ} {ss : List Step} → IsDetermined book cost seen i ss → (n : ℕ) × Leads book i ss n × Ends seen ss n
  ends (comes_round {seen = seen} {i = i} {next = n} {s = s} a t h) = (n, goes a t.goes_on.leads stays, behind seen i n s [] a (inl h))
  ends (walks_on {seen = seen} {i = i} {next = m} {s = s} {ss = ss} a t f d) = let u = ends d in (u.0, goes a t.goes_on.leads u.1, behind seen i u.0 s ss a u.2)

  pub determined-right : (walk : List Step) → IsDetermined book cost [] 0 walk → IsRightWalk book walk
  determined-right walk d = let u = ends d in by u.0 u.1 u.2
    where
      by : (n : ℕ) → Leads book 0 walk n → Ends [] walk n → IsRightWalk book walk
      by n l (inl h) = absurd (Contains-nil n h)
      by n l (inr v) = record { end = n; leads = l; step = v.0; taken = v.1; round = v.2 }
