-- internal: how terms are measured, by a descent from node 0 by steps to nodes that aren't done, and the sizes of those that are
use Rattle.std.specs.Prelude.{ℕ, ◌≡◌, ◌<◌, ◌+◌, min, max, Bool, IsTrue, List, [], ◌∷◌, ◌++◌, Option, Some, None, Contains, take, length, slice_get, slice_set, replicate, if◌then◌else◌}
use Rattle.std.specs.List.{sum_by}
use Rattle.cls_base.specs.declared.rule.Rule.{Rule}
use Rattle.cls_base.specs.declared.rule.Rule.TheVariants.{Head, Any}
use Rattle.cls_base.specs.Terms.{Applicative}
use Rattle.cls_base.specs.Languages.{IsGenerated, rules_at}
use Rattle.cls_base.specs.Arguments.{arguments_of_rule}
use Rattle.cls_grammar.specs.Trimming.{is_useful}
use Rattle.cls_finite.specs.declared.descent.Mark.{Mark}
use Rattle.cls_finite.specs.declared.descent.Mark.TheVariants.{Unseen, Open, Done}
use Rattle.cls_finite.specs.declared.walk.Step.{Step}
use Rattle.cls_finite.specs.Finiteness.{IsGreatestSize}
use Rattle.cls_finite.specs.Walks.{LeadsTo}

-- what is known of each node, the steps taken, and where the next one begins: all before it is done
pub record State : Type 0 where
  pub marks : List Mark
  pub path : List Step
  pub top : Step

abbrev pub first_step : ℕ → Step
first_step node = record { goal = node; rule = 0; argument = 0 }

abbrev pub begun : ℕ → State
begun count = record { marks = slice_set (replicate count Unseen) 0 Open; path = []; top = first_step 0 }

-- a step is taken to a node
abbrev pub opened : State → Step → ℕ → State
opened s step node = record { marks = slice_set s.marks node Open; path = s.path ++ step ∷ []; top = first_step node }

abbrev pub weight_of : Mark → ℕ
weight_of Unseen = 2
weight_of Open = 1
weight_of (Done size) = 0

-- how much is left to do
abbrev pub weight : List Mark → ℕ
weight marks = sum_by weight_of marks

-- the size of a node that is done
abbrev pub done_size : Option Mark → ℕ
done_size None = 0
done_size (Some Unseen) = 0
done_size (Some Open) = 0
done_size (Some (Done size)) = size

abbrev pub size_at : List Mark → ℕ → ℕ
size_at marks node = done_size (slice_get marks node)

abbrev pub IsDone : List Mark → ℕ → Type 0
IsDone marks node = (size : ℕ) × (slice_get marks node ≡ Some (Done size))

abbrev pub AreDone : List Mark → List ℕ → Type 0
AreDone marks [] = Unit {0}
AreDone marks (n ∷ ns) = IsDone marks n × AreDone marks ns

-- sizes are counted up to the cap
module _ (cap : ℕ) (cost : ℕ → ℕ) where
  abbrev pub size_by : List Mark → Rule ℕ → ℕ
  size_by marks (Head x ns) = min (cost x + sum_by (size_at marks) ns) cap
  size_by marks (Any l m) = min (sum_by (size_at marks) (l ∷ m ∷ [])) cap

  abbrev pub greatest_by : List Mark → List Bool → List (Rule ℕ) → ℕ
  greatest_by marks flags [] = 0
  greatest_by marks flags (r ∷ rs) = max (if is_useful flags r then size_by marks r else 0) (greatest_by marks flags rs)

  -- n is the greatest size of the terms of which P holds, up to the cap
  pub record IsCapped (P : Applicative → Type 0) (n : ℕ) : Type 0 where
    pub size : ℕ
    pub greatest : IsGreatestSize cost P size
    pub capped : n ≡ min size cap

-- Of these rules, those that may be used have only arguments that are done.
abbrev pub AllAreDone : List Mark → List Bool → List (Rule ℕ) → Type 0
AllAreDone marks flags rs =
    (j : ℕ) (r : Rule ℕ) → slice_get rs j ≡ Some r → IsTrue (is_useful flags r) → AreDone marks (arguments_of_rule r)

-- Of these rules, those that may be used have only arguments that are done, up to this argument of this rule.
pub record IsPassed (marks : List Mark) (flags : List Bool) (rs : List (Rule ℕ)) (rule argument : ℕ) : Type 0 where
  pub rules : (j : ℕ) (r : Rule ℕ) → j < rule → slice_get rs j ≡ Some r → IsTrue (is_useful flags r)
      → AreDone marks (arguments_of_rule r)
  pub front : (r : Rule ℕ) → slice_get rs rule ≡ Some r → IsTrue (is_useful flags r)
      → AreDone marks (take argument (arguments_of_rule r))

-- The step goes by one of these rules, which may be used, to an argument that isn't done, and all before it is.
pub record IsNext (marks : List Mark) (flags : List Bool) (rs : List (Rule ℕ)) (step : Step) (next : ℕ) : Type 0 where
  pub rule : Rule ℕ
  pub there : slice_get rs step.rule ≡ Some rule
  pub useful : IsTrue (is_useful flags rule)
  pub argument : slice_get (arguments_of_rule rule) step.argument ≡ Some next
  pub passed : IsPassed marks flags rs step.rule step.argument
  pub undone : IsDone marks next → ⊥

module _ (cap : ℕ) (cost : ℕ → ℕ) (book : List (List (Rule ℕ))) (flags : List Bool) where
  -- all before the step is done
  abbrev pub IsAt : List Mark → Step → Type 0
  IsAt marks s = IsPassed marks flags (rules_at book s.goal) s.rule s.argument

  -- The steps lead from a node to another one, each to a node from which none was taken. The nodes seen are those from
  -- which steps were taken, the last one first.
  pub data Descends (marks : List Mark) : List ℕ → ℕ → List Step → List ℕ → ℕ → Type 0 where
    here : {seen : List ℕ} {i : ℕ} → Descends marks seen i [] seen i
    down : {seen later : List ℕ} {i m n : ℕ} {s : Step} {ss : List Step}
        → s.goal ≡ i → LeadsTo book s m → IsAt marks s → (Contains (i ∷ seen) m → ⊥)
        → Descends marks (i ∷ seen) m ss later n → Descends marks seen i (s ∷ ss) later n

  -- The open nodes are those of the path and the one that it leads to.
  pub record IsKept (s : State) : Type 0 where
    pub seen : List ℕ
    pub sized : length s.marks ≡ length book
    pub descends : Descends s.marks [] 0 s.path seen s.top.goal
    pub at : IsAt s.marks s.top
    pub open_seen : (n : ℕ) → slice_get s.marks n ≡ Some Open → Contains (s.top.goal ∷ seen) n
    pub seen_open : (n : ℕ) → Contains (s.top.goal ∷ seen) n → slice_get s.marks n ≡ Some Open
    pub done : (n size : ℕ) → slice_get s.marks n ≡ Some (Done size) → IsCapped cap cost (IsGenerated book n) size
