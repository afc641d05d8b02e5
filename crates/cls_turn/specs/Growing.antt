-- internal: the rule of the spin lock, which is one word and one slot, and what a seat knows after each step
use Rattle.std.specs.Prelude.{◌≡◌, ◌≢◌, ℕ, List, ◌∷◌, Option, Some, slice_index, length}
use mathlib.Core.Option.{some}
use lib.ListN.{get_elem?}
use Rattle.atomic_table.specs.Table.{State, Me}
use Rattle.cls_turn.specs.declared.view.View.{View}
use Rattle.cls_turn.specs.declared.view.View.TheVariants.{Ended, Idle, Holding}

-- the view of the first seat
abbrev pub first_view : {G : Type 0} → G → View G
first_view g = Idle g

-- the view of a seat that has ended
abbrev pub spent_view : {G : Type 0} → View G
spent_view = Ended

-- the views of the two seats that a seat is split into
abbrev pub kept_view : {G : Type 0} → View G → View G
kept_view v = v

-- the view of the seat that another was joined to
abbrev pub joined_view : {G : Type 0} → View G → View G → View G
joined_view v w = v

module _ {G : Type 0} where
  -- no seat has the value
  abbrev pub NoneHolds : List (View G) → Type 0
  NoneHolds views = (k : ℕ) (h : G) → get_elem? views k ≡ some (Holding h) → ⊥

  -- no seat but this one has the value
  abbrev pub OthersDoNotHold : List (View G) → ℕ → Type 0
  OthersDoNotHold views id = (k : ℕ) (h : G) → get_elem? views k ≡ some (Holding h) → k ≡ id

  module _ (goes_on : G → G → Type 0) where
    -- what each seat without the value knows goes on to this
    abbrev pub AllGoOn : List (View G) → G → Type 0
    AllGoOn views g = (k : ℕ) (h : G) → get_elem? views k ≡ some (Idle h) → goes_on h g

    module _ {T : Type 0} (known : T → G) where
      -- a value lies in the slot, no seat has it, and what the seats know goes on to what is known of it
      abbrev pub IsAtHome : State (Option T) (View G) → Type 0
      IsAtHome s =
          (value : T) × (get_elem? s.homes 0 ≡ some (some (Some value)))
          × AllGoOn s.views (known value) × NoneHolds s.views

      -- one seat has the value, and what the others know goes on to what was known of it when it was taken out
      abbrev pub IsTakenOut : State (Option T) (View G) → Type 0
      IsTakenOut s =
          (id : ℕ) × (g : G) × (get_elem? s.views id ≡ some (Holding g))
          × AllGoOn s.views g × OthersDoNotHold s.views id

      -- The rule: the value is at home if the word is 0, and otherwise one seat has it.
      abbrev pub KeepsGrowing : State (Option T) (View G) → Type 0
      KeepsGrowing s =
          (length s.words ≡ 1)
          × (slice_index s.words 0 ≡ 0 → IsAtHome s)
          × (slice_index s.words 0 ≢ 0 → IsTakenOut s)

      -- What a seat knows after it tried to take: if it found 0, it has the slot with the value in it, and what it knew
      -- goes on to what is known of the value.
      abbrev pub TakeOutcome : Me (Option T) (View G) → ℕ → Me (Option T) (View G) → Type 0
      TakeOutcome m found n =
          (found ≡ 0 → (value : T) × (n.1 ≡ (0, Some value) ∷ m.1) × (n.0 ≡ Holding (known value))
          × ((g : G) → m.0 ≡ Idle g → goes_on g (known value)))
          × (found ≢ 0 → (n.0 ≡ m.0) × (n.1 ≡ m.1))

-- What a seat knows after it put: it has given the slot back, and knows what is known of the value in it.
abbrev pub PutOutcome : {T G : Type 0} → (T → G) → Me (Option T) (View G) → Me (Option T) (View G) → Type 0
PutOutcome {T} known m n =
    (value : T) (more : List (ℕ × Option T)) → m.1 ≡ (0, Some value) ∷ more
    → (n.0 ≡ Idle (known value)) × (n.1 ≡ more)
