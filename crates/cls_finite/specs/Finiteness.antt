-- How large the terms of a node are, and the one walk that shows that they have no bound.
use Rattle.std.specs.Prelude.{◌≡◌, ◌≤◌, ◌<◌, ◌⊎◌, ℕ, List, [], ◌∷◌, Contains}
use Rattle.cls_base.specs.Terms.{Applicative, size_of}
use Rattle.cls_base.specs.declared.rule.Rule.{Rule}
use Rattle.cls_base.specs.declared.rule.Rule.TheVariants.{Head}
use Rattle.cls_base.specs.Languages.{IsGenerated, NodeRule}
use Rattle.cls_finite.specs.declared.walk.Step.{Step}
use Rattle.cls_finite.specs.Walks.{LeadsTo}

-- Among the terms of which P holds, none is larger than n, and one has this size. If P holds of no term, n is 0.
pub record IsGreatestSize (cost : ℕ → ℕ) (P : Applicative → Type 0) (n : ℕ) : Type 0 where
  pub bounds : (e : Applicative) → P e → size_of cost e ≤ n
  pub reached : ((e : Applicative) × P e × (size_of cost e ≡ n)) ⊎ ((n ≡ 0) × ((e : Applicative) → P e → ⊥))

module _ (book : List (List (Rule ℕ))) (cost : ℕ → ℕ) where
  -- each component that the rule book names costs at least 1
  abbrev pub HasPositiveCosts : Type 0
  HasPositiveCosts = (i x : ℕ) (ns : List ℕ) → NodeRule book i (Head x ns) → 1 ≤ cost x

  -- for each number the node generates a term that is larger
  abbrev pub IsUnbounded : ℕ → Type 0
  IsUnbounded i = (n : ℕ) → (e : Applicative) × IsGenerated book i e × (n < size_of cost e)

  -- the greatest size of a term of node 0, or 0 if there is none
  abbrev pub IsGreatest : ℕ → Type 0
  IsGreatest n = IsGreatestSize cost (IsGenerated book 0) n

  -- node 0 has a greatest size, and it is over the limit
  abbrev pub IsGreatestOver : ℕ → Type 0
  IsGreatestOver limit = (n : ℕ) × IsGreatest n × (limit < n)

  -- the step leads to a node whose terms have no bound
  pub record GoesOn (s : Step) (next : ℕ) : Type 0 where
    pub leads : LeadsTo book s next
    pub unbounded : IsUnbounded next

  -- it is the first one that does: by the first such rule of its node, to the first such argument
  pub record IsFirstStep (s : Step) (next : ℕ) : Type 0 where
    pub goes_on : GoesOn s next
    pub first_rule : (t : Step) (n : ℕ) → t.goal ≡ s.goal → t.rule < s.rule → GoesOn t n → ⊥
    pub first_argument : (t : Step) (n : ℕ) → t.goal ≡ s.goal → t.rule ≡ s.rule → t.argument < s.argument → GoesOn t n
        → ⊥

  -- The walk from a node on, after steps from the nodes seen: it ends with the first step that leads to the node of a
  -- step.
  pub data IsDetermined : List ℕ → ℕ → List Step → Type 0 where
    comes_round : {seen : List ℕ} {i next : ℕ} {s : Step}
        → s.goal ≡ i → IsFirstStep s next → Contains (i ∷ seen) next → IsDetermined seen i (s ∷ [])
    walks_on : {seen : List ℕ} {i next : ℕ} {s : Step} {ss : List Step}
        → s.goal ≡ i → IsFirstStep s next → (Contains (i ∷ seen) next → ⊥) → IsDetermined (i ∷ seen) next ss
        → IsDetermined seen i (s ∷ ss)
