-- internal: how entries are stored. Each component has a slot, a number that no later component gets. Rules are stored with slots in
-- place of components, and with numbers of goals for arguments.
use Rattle.std.specs.Prelude.{ℕ, zero, suc, ◌≡◌, ◌+◌, ◌<◌, ◌≤◌, ◌==◌, ◌++◌, ◌∷◌, [], if◌then◌else◌, nat_lt, List, Option, None, Some, Contains, length, map, slice_get, slice_index_or}
use Rattle.std.specs.List.{AllZip, sum_by}
use Rattle.cls_base.specs.declared.rule.Rule.{Rule}
use Rattle.cls_base.specs.declared.rule.Rule.TheVariants.{Head, Any}
use Rattle.cls_base.specs.Arguments.{arguments_in}
use Rattle.cls_core.specs.declared.answer.Answer.TheVariants.{Rules}
use Rattle.cls_library.specs.Libraries.{Library}
use Rattle.cls_expand.specs.Answers.{IsAnswerBy}
use Rattle.cls_expand.specs.ByComponent.{rules_with, arguments_by}
use Rattle.cls_expand.specs.Memos.{max_memo_goals, max_memo_rules}
use Rattle.cls_live.specs.declared.known.Known.{Known}
use Rattle.cls_live.specs.Parts.{Goal, Entry, PartsSeen}

-- the slots rise strictly, from one on
abbrev pub AreRising : ℕ → List ℕ → Type 0
AreRising low [] = Unit {0}
AreRising low (slot ∷ live) = (low ≤ slot) × AreRising (slot + 1) live

-- the first slots
abbrev pub first_slots : ℕ → List ℕ
first_slots zero = []
first_slots (suc n) = first_slots n ++ n ∷ []

abbrev pub next_component : Option ℕ → Option ℕ
next_component None = None
next_component (Some x) = Some (suc x)

-- the component with the slot
abbrev pub component_of : List ℕ → ℕ → Option ℕ
component_of [] slot = None
component_of (first ∷ live) slot = if slot == first then Some 0 else next_component (component_of live slot)

-- lists of goals in place of their numbers
abbrev pub named : List Goal → List ℕ → List Goal
named goals numbers = map (λ i. slice_index_or goals i []) numbers

-- nothing is known
abbrev pub nothing : Known
nothing = record { end = 0; rules = [] }

-- what is known of the component with the slot
abbrev pub entry_of : List Goal → Known → ℕ → Entry
entry_of goals k slot = if nat_lt slot k.end then Some (map (named goals) (arguments_by slot k.rules)) else None

-- the number of rules that are stored
abbrev pub rules_in : List Known → ℕ
rules_in known = sum_by (λ (k : Known). length k.rules) known

-- what contracts see
abbrev pub seen : Library → List ℕ → List Goal → List Known → PartsSeen
seen l live goals known = record {
  library = l;
  goals = goals;
  entries = map (λ (k : Known). map (entry_of goals k) live) known;
  rules = rules_in known;
}

-- the slots of the rules don't fall, from one on, and are below the end
abbrev pub HeadsRise : {G : Type 0} → ℕ → ℕ → List (Rule G) → Type 0
HeadsRise low end [] = Unit {0}
HeadsRise low end (Head slot args ∷ rs) = (low ≤ slot) × (slot < end) × HeadsRise slot end rs
HeadsRise low end (Any left right ∷ rs) = HeadsRise low end rs

-- what is stored of a goal: whatever is known of a component is what the component makes
pub record IsKnown (l : Library) (live : List ℕ) (next : ℕ) (goals : List Goal) (goal : Goal) (k : Known) : Type 0 where
  pub within : k.end ≤ next
  pub rise : HeadsRise 0 k.end k.rules
  pub inside : (i : ℕ) → Contains (arguments_in k.rules) i → i < length goals
  pub meant :
      (x slot : ℕ) (lists : List (List Goal)) → slice_get live x ≡ Some slot → entry_of goals k slot ≡ Some lists
      → IsAnswerBy l x goal (Rules (rules_with x lists))

-- the slots of the components, all below the next one
pub record AreSlots (l : Library) (live : List ℕ) (next : ℕ) : Type 0 where
  pub rising : AreRising 0 live
  pub below : (x slot : ℕ) → slice_get live x ≡ Some slot → slot < next
  pub even : length live ≡ length l.components

-- What is stored. Without goals the slots say nothing.
pub record IsStored (l : Library) (live : List ℕ) (next count : ℕ) (goals : List Goal) (known : List Known) : Type 0 where
  pub counted : count ≡ length l.components
  pub slots : 0 < length goals → AreSlots l live next
  pub each : AllZip (IsKnown l live next goals) goals known
  pub few : length goals ≤ max_memo_goals
  pub light : rules_in known ≤ max_memo_rules

-- the rule with the slot of its component, and with other numbers for its arguments
abbrev pub settled : List ℕ → List ℕ → Rule ℕ → Rule ℕ
settled live numbers (Head x args) = Head (slice_index_or live x 0) (map (λ i. slice_index_or numbers i 0) args)
settled live numbers (Any left right) = Any (slice_index_or numbers left 0) (slice_index_or numbers right 0)

-- the rule with the component of its slot, and with goals for their numbers, if the component is there
abbrev pub read_with : Option ℕ → List Goal → List (Rule Goal)
read_with None args = []
read_with (Some x) args = Head x args ∷ []

abbrev pub read_rule : List ℕ → List Goal → Rule ℕ → List (Rule Goal)
read_rule live goals (Head slot args) = read_with (component_of live slot) (named goals args)
read_rule live goals (Any left right) = []

abbrev pub read_rules : List ℕ → List Goal → List (Rule ℕ) → List (Rule Goal)
read_rules live goals [] = []
read_rules live goals (r ∷ rs) = read_rule live goals r ++ read_rules live goals rs
