-- What clauses say of the lock and its seats.
use Rattle.std.specs.Prelude.{◌≡◌, ◌∷◌, [], ℕ, List, Option, None, Some}
use Rattle.atomic_table.specs.Seated.{TableId}
use Rattle.cls_turn.specs.declared.seat.TurnSeat.{TurnSeat}
use Rattle.cls_turn.specs.declared.turn.Turn.{Turn}
use Rattle.cls_turn.specs.declared.view.View.{View}
use Rattle.cls_turn.specs.declared.view.View.TheVariants.{Ended, Idle, Holding}

-- what a view says of the value
abbrev pub known_in : {G : Type 0} → View G → Option G
known_in Ended = None
known_in (Idle g) = Some g
known_in (Holding g) = Some g

module _ {T G : Type 0} where
  -- the seat's view
  abbrev pub view_of : TurnSeat T G → View G
  view_of seat = seat.seat.me.0

  -- the slots that the seat has taken
  abbrev pub slots_of : TurnSeat T G → List (ℕ × Option T)
  slots_of seat = seat.seat.me.1

  -- what the seat knows of the value
  abbrev pub known_of : TurnSeat T G → Option G
  known_of seat = known_in (view_of seat)

  -- the seat is in no holding, and knows this of the value
  abbrev pub Knows : TurnSeat T G → G → Type 0
  Knows seat g = (view_of seat ≡ Idle g) × (slots_of seat ≡ [])

  -- the seat is in no holding
  abbrev pub IsFree : TurnSeat T G → Type 0
  IsFree seat = (g : G) × Knows seat g

  -- the seat is in a holding: it has taken the value out of the slot, and this was known of the value then
  abbrev pub HasTurn : TurnSeat T G → G → Type 0
  HasTurn seat g = (view_of seat ≡ Holding g) × (slots_of seat ≡ (0, None) ∷ [])

  -- the lock that the seat is of
  abbrev pub turn_of : TurnSeat T G → TableId
  turn_of seat = seat.seat.table_id

  -- the lock's own identity
  abbrev pub id_of : Turn T G → TableId
  id_of turn = turn.table.shared.table_id

  -- the seat is one of this lock
  abbrev pub IsSeatOf : TurnSeat T G → Turn T G → Type 0
  IsSeatOf seat turn = turn_of seat ≡ id_of turn

  -- two seats of one lock
  abbrev pub IsOfSameTurn : TurnSeat T G → TurnSeat T G → Type 0
  IsOfSameTurn seat was = turn_of seat ≡ turn_of was

  -- two seats of one lock that know the same, each in a holding if the other is
  abbrev pub IsSameSeat : TurnSeat T G → TurnSeat T G → Type 0
  IsSameSeat seat was =
      (turn_of seat ≡ turn_of was) × (view_of seat ≡ view_of was) × (slots_of seat ≡ slots_of was)
