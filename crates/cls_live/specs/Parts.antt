-- What is kept of goals, component by component.
use Rattle.std.specs.Prelude.{ℕ, ◌≡◌, ◌≢◌, ◌+◌, ◌<◌, ◌≤◌, ◌++◌, ◌∷◌, [], ◌⊎◌, List, Bool, Option, None, Some, Contains, length, map, remove, slice_get, slice_index_or}
use Rattle.std.specs.List.{sum_by}
use Rattle.std.specs.Ordering.{eq_by_cmp}
use Rattle.indexmap.specs.IndexSet.{insert_all}
use Rattle.cls_path.specs.Paths.{TypePath}
use Rattle.cls_path.specs.PathOrder.{list_order}
use Rattle.cls_core.specs.declared.answer.Answer.TheVariants.{Rules, Wide}
use Rattle.cls_core.specs.Arguments.{rule_count}
use Rattle.cls_core.specs.Closure.{goals_of}
use Rattle.cls_core.specs.Rows.{Row}
use Rattle.cls_library.specs.Libraries.{Library}
use Rattle.cls_expand.specs.Answers.{IsAnswer, IsAnswerBy}
use Rattle.cls_expand.specs.ByComponent.{rules_with}
use Rattle.cls_expand.specs.Memos.{IsHeld, max_memo_goals, max_memo_rules}

-- a goal as it is kept: the list of its paths
abbrev pub Goal : Type 0
Goal = List TypePath

abbrev pub same : Goal → Goal → Bool
same = eq_by_cmp list_order

-- The arguments of each rule that a component makes for a goal, if they are known.
abbrev pub Entry : Type 0
Entry = Option (List (List Goal))

-- Goals of a library, and for each of them an entry for each component, in the order of the components. `rules` is how many rules are
-- stored, those of components that were taken out since among them.
pub record PartsSeen : Type 0 where
  pub library : Library
  pub goals : List Goal
  pub entries : List (List Entry)
  pub rules : ℕ

-- the entry of a component for the goal with this number, None if there is none
abbrev pub entry_at : PartsSeen → ℕ → ℕ → Entry
entry_at p k x = slice_index_or (slice_index_or p.entries k []) x None

-- what a component makes for a goal is known
pub record Knows (p : PartsSeen) (g : Goal) (x : ℕ) : Type 0 where
  pub number : ℕ
  pub lists : List (List Goal)
  pub goal : slice_get p.goals number ≡ Some g
  pub entry : entry_at p number x ≡ Some lists

-- What holds of them: each goal has an entry for each component, and an entry that is known is what the component makes.
pub record AreParts (p : PartsSeen) : Type 0 where
  pub even : (k : ℕ) → k < length p.goals → length (slice_index_or p.entries k []) ≡ length p.library.components
  pub meant :
      (k x : ℕ) (g : Goal) (lists : List (List Goal)) → slice_get p.goals k ≡ Some g → entry_at p k x ≡ Some lists
      → IsAnswerBy p.library x g (Rules (rules_with x lists))
  pub few : length p.goals ≤ max_memo_goals
  pub light : p.rules ≤ max_memo_rules

-- with a component more, of which nothing is known
abbrev pub with_component : PartsSeen → Library → PartsSeen
with_component p library =
    record { library = library; goals = p.goals; entries = map (λ (es : List Entry). es ++ None ∷ []) p.entries; rules = p.rules }

-- without a component
abbrev pub without_component : PartsSeen → ℕ → PartsSeen
without_component p x = record {
  library = record { taxonomy = p.library.taxonomy; components = remove p.library.components x };
  goals = p.goals;
  entries = map (λ (es : List Entry). remove es x) p.entries;
  rules = p.rules;
}

-- each row holds an answer of its goal, all arguments of which are goals of rows
abbrev pub AreAnswered : Library → List (Row Goal) → Type 0
AreAnswered l rows =
    (k : ℕ) (r : Row Goal) → slice_get rows k ≡ Some r → IsHeld same (IsAnswer l) (goals_of rows) r.goal r.answer

-- all is known of the goals of rows that aren't wide
abbrev pub KnowsRows : PartsSeen → List (Row Goal) → Type 0
KnowsRows p rows =
    (r : Row Goal) → Contains rows r → r.answer ≢ Wide → (x : ℕ) → x < length p.library.components → Knows p r.goal x

-- there is room for the rows beside what is there
abbrev pub HasRoomFor : PartsSeen → List (Row Goal) → Type 0
HasRoomFor p rows =
    (length (insert_all same p.goals (goals_of rows)) ≤ max_memo_goals)
    × (p.rules + sum_by (λ (r : Row Goal). rule_count r.answer) rows ≤ max_memo_rules)

-- what was known is known
abbrev pub StaysKnown : PartsSeen → PartsSeen → Type 0
StaysKnown p q = (g : Goal) (x : ℕ) → Knows p g x → Knows q g x

-- the goals of the rows behind those that were there, or these alone
abbrev pub HasGoalsWith : PartsSeen → List (Row Goal) → PartsSeen → Type 0
HasGoalsWith p rows q =
    (q.goals ≡ insert_all same p.goals (goals_of rows)) ⊎ (q.goals ≡ insert_all same [] (goals_of rows))
