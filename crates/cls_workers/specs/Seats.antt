-- internal: what becomes of a worker's seat
use Rattle.std.specs.Prelude.{◌≡◌, ◌≤◌, ◌<◌, ◌+◌, ◌^◌, ℕ}
use Rattle.std.specs.Option.{ForSome}
use Rattle.cls_table.specs.Seen.{SeatSeen}

module _ {B G : Type 0} where
  -- the seat afterwards is that before, with no fewer claims made
  pub record IsAfterWork (before after : SeatSeen B G) : Type 0 where
    pub turn : after.turn ≡ before.turn
    pub tag : after.tag ≡ before.tag
    pub worker : after.worker ≡ before.worker
    pub parts : after.parts ≡ before.parts
    pub amount : before.amount ≤ after.amount

  -- the seat's tag means this
  abbrev pub HasMeaning : SeatSeen B G → B → Type 0
  HasMeaning seat by = ForSome seat.tag (λ t. t.by ≡ by)

  -- The seat has a part of the ledger for each worker from `next` to `last`, one for the worker 1, and one for itself.
  pub record HasPartsFor (seat : SeatSeen B G) (next last : ℕ) : Type 0 where
    pub within : next ≤ last + 1
    pub some : 1 ≤ last
    pub last_small : last + 1 < 2 ^ 32
    pub last_named : ForSome seat.tag (λ t. last ≤ t.workers)
    pub parts : seat.parts + next ≡ last + 3
