-- Walks through a rule book, and what a walk that comes round shows.
use Rattle.std.specs.Prelude.{◌≡◌, ◌<◌, ℕ, List, [], ◌∷◌, Some, Contains, slice_get}
use Rattle.cls_base.specs.Terms.{Applicative, length_of}
use Rattle.cls_base.specs.declared.rule.Rule.{Rule}
use Rattle.cls_base.specs.Languages.{IsGenerated, rules_at}
use Rattle.cls_base.specs.Arguments.{arguments_of_rule}
use Rattle.cls_grammar.specs.Ranks.{IsProductiveIn}
use Rattle.cls_finite.specs.declared.walk.Step.{Step}

module _ (book : List (List (Rule ℕ))) where
  -- the step is from its goal by one of its rules, which has only productive arguments, to this one of them
  pub record LeadsTo (s : Step) (next : ℕ) : Type 0 where
    pub rule : Rule ℕ
    pub there : slice_get (rules_at book s.goal) s.rule ≡ Some rule
    pub productive : (n : ℕ) → Contains (arguments_of_rule rule) n → IsProductiveIn book n
    pub argument : slice_get (arguments_of_rule rule) s.argument ≡ Some next

  -- the steps lead from the one goal to the other, each from where the one before it leads
  pub data Leads : ℕ → List Step → ℕ → Type 0 where
    stays : {i : ℕ} → Leads i [] i
    goes : {i m n : ℕ} {s : Step} {ss : List Step} → s.goal ≡ i → LeadsTo s m → Leads m ss n → Leads i (s ∷ ss) n

  -- The walk leads from goal 0 to the goal of one of its steps.
  pub record IsRightWalk (walk : List Step) : Type 0 where
    pub end : ℕ
    pub leads : Leads 0 walk end
    pub step : Step
    pub taken : Contains walk step
    pub round : step.goal ≡ end

  -- for each number the node generates a term that is longer
  abbrev pub HasLongTerms : ℕ → Type 0
  HasLongTerms i = (n : ℕ) → (e : Applicative) × IsGenerated book i e × (n < length_of e)

  -- the node has a step to one of the nodes
  pub record GoesOnTo (nodes : List ℕ) (i : ℕ) : Type 0 where
    pub step : Step
    pub next : ℕ
    pub from : step.goal ≡ i
    pub leads : LeadsTo step next
    pub among : Contains nodes next

  -- each of the nodes has a step to one of them
  abbrev pub GoOn : List ℕ → Type 0
  GoOn nodes = (i : ℕ) → Contains nodes i → GoesOnTo nodes i
