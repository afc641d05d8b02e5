-- internal: what becomes known by rows.
use Rattle.std.specs.Prelude.{ℕ, ◌≡◌, ◌<◌, ◌≤◌, ◌++◌, ◌∷◌, [], ◌⊎◌, List, Some, Contains, length, map, slice_get, slice_index_or, slice_set, take}
use Rattle.std.specs.List.{sum_by}
use Rattle.cls_base.specs.declared.rule.Rule.{Rule}
use Rattle.cls_core.specs.declared.answer.Answer.{Answer}
use Rattle.cls_core.specs.declared.answer.Answer.TheVariants.{Rules, Wide}
use Rattle.cls_core.specs.Arguments.{rule_count}
use Rattle.cls_core.specs.Rows.{Row}
use Rattle.cls_live.specs.declared.known.Known.{Known}
use Rattle.cls_live.specs.declared.known.Part.{Part}
use Rattle.cls_live.specs.Parts.{Goal}
use Rattle.cls_live.specs.Slots.{nothing, settled}

-- below which slot all is known of the goal with this number
abbrev pub end_at : List Known → ℕ → ℕ
end_at known number = (slice_index_or known number nothing).end

-- all that components with slots below `next` make for the goal with this number
abbrev pub part_of : List ℕ → List ℕ → ℕ → ℕ → List (Rule ℕ) → Part
part_of live numbers next number rules =
    record { number = number; known = record { end = next; rules = map (settled live numbers) rules } }

-- the part of a row is put last, unless the row is wide or all is known already
abbrev pub PutsPart : List ℕ → List ℕ → ℕ → ℕ → ℕ → Answer ℕ → List Part → List Part → Type 0
PutsPart live numbers next end number Wide old new = new ≡ old
PutsPart live numbers next end number (Rules rules) old new =
    ((end ≡ next) × (new ≡ old)) ⊎ (new ≡ old ++ part_of live numbers next number rules ∷ [])

abbrev pub row_of : Goal → List (Rule ℕ) → Row Goal
row_of goal rules = record { goal = goal; answer = Rules rules }

-- the number of rules of the parts
abbrev pub rules_in_parts : List Part → ℕ
rules_in_parts parts = sum_by (λ (u : Part). length u.known.rules) parts

module _ (live : List ℕ) (next : ℕ) (known : List Known) (rows : List (Row Goal)) (numbers : List ℕ) where
  -- the part is that of one of the first n rows
  pub record IsPart (n : ℕ) (u : Part) : Type 0 where
    pub place : ℕ
    pub goal : Goal
    pub rules : List (Rule ℕ)
    pub first : place < n
    pub here : slice_get rows place ≡ Some (row_of goal rules)
    pub is : u ≡ part_of live numbers next (slice_index_or numbers place 0) rules

  -- The parts are those of the first n rows, but for those that are wide or known already.
  pub record AreUpdates (n : ℕ) (parts : List Part) : Type 0 where
    pub each : (u : Part) → Contains parts u → IsPart n u
    pub all :
        (place : ℕ) (goal : Goal) (rules : List (Rule ℕ)) → place < n → slice_get rows place ≡ Some (row_of goal rules)
        → (end_at known (slice_index_or numbers place 0) ≡ next)
        ⊎ Contains parts (part_of live numbers next (slice_index_or numbers place 0) rules)
    pub light : rules_in_parts parts ≤ sum_by (λ (r : Row Goal). rule_count r.answer) (take n rows)

-- what is known once each part is put at its number
abbrev pub with_parts : List Known → List Part → List Known
with_parts known [] = known
with_parts known (u ∷ parts) = with_parts (slice_set known u.number u.known) parts
