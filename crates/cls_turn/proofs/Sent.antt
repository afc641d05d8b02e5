-- A seat may go to another thread, and the lock may be shared, if the value may go to another thread.
use denote.RattleType.{RattleType}
use denote.Param.Send.{IsSend, IsSync, sendable}
use Rattle.std.proofs.Crossing.{crosses}
use Rattle.atomic_table.proofs.shared.Seat.TheSendSync.{the_send as table_seat_send}
use Rattle.atomic_table.proofs.shared.Shared.TheSendSync.{the_sync as shared_sync}
use Rattle.atomic_table.proofs.send_lease.SendLease.TheSendSync.{the_sync as lease_sync}
use Rattle.cls_turn.specs.declared.known.Known.{Ghosts}
use Rattle.cls_turn.specs.contracts.seat.TurnSeat.{the_row as seat_row}
use Rattle.cls_turn.specs.contracts.turn.Turn.{the_row as turn_row}

pub seat_send : (T G : RattleType) → IsSend T → IsSend (seat_row T G)
seat_send T G s = search (sendable, crosses, table_seat_send) depth 20

pub turn_sync : (T G : RattleType) (g : Ghosts T.Denot G.Denot) → IsSend T → IsSync (turn_row T G g)
turn_sync T G g s = search (sendable, crosses, shared_sync, lease_sync) depth 20
