-- A seat may go to another thread, and a table may be shared, where the goals may go.
use denote.RattleType.{RattleType}
use denote.Param.Send.{IsSend, IsSync, sendable}
use denote.Param.Send.{view_send}
use denote.Param.SendFields.{declared_send, declared_sync}
use denote.Struct.Declared as Declared
use Rattle.cls_table.specs.contracts.seat.TableSeat.TheInside.{the_type as inside_type}
use Rattle.cls_table.specs.contracts.shared.SharedTable.{the_type as shared_type}
use Rattle.std.proofs.Crossing.{crosses}
use Rattle.std.specs.declared.cmp.PartialEq as eq
use Rattle.std.specs.declared.cmp.Eq as equivalence
use Rattle.std.specs.declared.hash.Hash as hash
use Rattle.std.specs.declared.sync.ledger.Ledger as ledger
use Rattle.std.proofs.sync.ledger.Book.TheSendSync.{the_send as book_send}
use Rattle.std.proofs.sync.ledger.Share.TheSendSync.{the_send as share_send}
use Rattle.cls_core.specs.declared.expand.Expand as expand
use Rattle.cls_base.specs.declared.key.Key as key
use Rattle.cls_core.proofs.Sent.{core_send}
use Rattle.cls_turn.proofs.Sent.{seat_send, turn_sync}
use Rattle.cls_table.specs.contracts.tag.Tag.{the_row as tag_row}
use Rattle.cls_table.specs.contracts.table.TableKnownTagTagGoal.TheImpl.{ghosts as table_known, no_dict}
use Rattle.cls_table.specs.contracts.seat.TableSeat.{the_row as seat_row}
use Rattle.cls_table.specs.contracts.shared.SharedTable.{the_row as shared_row}
use Rattle.cls_table.specs.contracts.table.Table.{the_row as table_row}
use Rattle.cls_table.specs.contracts.origin.Origin.{the_row as origin_row}
use Rattle.cls_table.specs.contracts.progress.Progress.{the_row as progress_row}

module _ (E L G T : RattleType) (x : expand.Ghosts E.Denot G.Denot T.Denot) (e : eq.Ghosts G.Denot)
    (h : hash.Ghosts G.Denot) (l : ledger.Ghosts L.Denot) (s : IsSend G) where
  origin_send : IsSend (origin_row E G T x e h)
  origin_send = search (sendable, crosses) depth 40 fits 40000

  progress_send : IsSend (progress_row E G T x e h)
  progress_send = search (sendable, crosses, core_send, origin_send) depth 40 fits 40000

  pub table_send : IsSend (table_row E L G T x e h l)
  table_send = search (sendable, crosses, book_send, progress_send) depth 40 fits 40000

module _ (E L G T : RattleType) (x : expand.Ghosts E.Denot G.Denot T.Denot) (e : eq.Ghosts G.Denot)
    (h : hash.Ghosts G.Denot) (l : ledger.Ghosts L.Denot) (s : IsSend G) where
  table_seat_inside : IsSend (Declared.row (inside_type E L G T x e h l))
  table_seat_inside =
      declared_send (inside_type E L G T x e h l) (
        seat_send (table_row E L G T x e h l) (tag_row T G) (table_send E L G T x e h l s),
        (share_send L l, (search sendable, tt)),
      )

  pub table_seat_send : IsSend (seat_row E L G T x e h l)
  table_seat_send = view_send _ _ _ _ _ table_seat_inside

  pub shared_table_sync : (k : key.Ghosts G.Denot) (q : equivalence.Ghosts G.Denot)
      → IsSync (shared_row E L G T x k q e h l)
  shared_table_sync k q =
      declared_sync (shared_type E L G T x k q e h l) (
        turn_sync (table_row E L G T x e h l) (tag_row T G)
            (table_known E L G T x no_dict k no_dict q no_dict e no_dict h no_dict l no_dict no_dict)
            (table_send E L G T x e h l s),
        tt,
      )
