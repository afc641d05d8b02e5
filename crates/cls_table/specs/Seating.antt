-- internal: what a seat at a table is and knows
use Rattle.std.specs.Prelude.{◌<◌, ◌≤◌, ℕ}
use Rattle.cls_turn.specs.Seats.{Knows}
use Rattle.cls_turn.specs.declared.seat.TurnSeat.{TurnSeat}
use Rattle.cls_table.specs.declared.tag.Tag.{Tag}

module _ {B G : Type 0} where
  -- Between two calls a seat is in no holding. It knows a tag, names a worker up to the greatest, and has some part.
  pub record IsSeated {T : Type 0} (seat : TurnSeat T (Tag B G)) (worker parts : ℕ) : Type 0 where
    pub tag : Tag B G
    pub knows : Knows seat tag
    pub worker_named : worker ≤ tag.workers
    pub some_part : 0 < parts
