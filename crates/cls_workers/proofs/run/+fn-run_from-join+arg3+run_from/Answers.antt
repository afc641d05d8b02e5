use denote.Param.{param}
use denote.Exit.{yes}
use denote.Param.Send.{IsSend, IsSync, param_send, arg_send, shr_send}
use Rattle.cls_table.specs.contracts.seat.TableSeat.{the_row as seat_row}
use Rattle.cls_table.specs.contracts.shared.SharedTable.{the_row as shared_row}
use Rattle.std.proofs.alloc.Global.TheSendSync.{the_send as global_send}
use Rattle.cls_workers.proofs.Captures.{six_send}
use Rattle.cls_table.proofs.Sent.{table_seat_send, shared_table_sync}
use Rattle.cls_workers.proofs.run.+fn-run_from-join+arg3+run_from.Goals as goal

pub join-theirs-requires-send-A : goal.join-theirs-requires-send-A
join-theirs-requires-send-A g t c κs within =
    let bounds = c.requires.may_cross in
    param_send 3 _ (arg_send _ yes _
    (table_seat_send (param 0 g.row.E) (param 1 g.row.L) (param 4 g.row.E-Goal) (param 5 g.row.E-Tag) g.E.Expand
    g.E.Goal.PartialEq g.E.Goal.Hash g.L.Ledger bounds.0))

pub join-theirs-requires-send-F : goal.join-theirs-requires-send-F
join-theirs-requires-send-F g t c κs within =
    let bounds = c.requires.may_cross in
    let goals : IsSend (param 4 g.row.E-Goal) = bounds.0 in
    let by : IsSync (param 0 g.row.E) = bounds.1 in
    let gate : IsSync (param 2 g.row.T) = bounds.2 in
    let handle : IsSync (param 3 g.row.R) = bounds.3 in
    let seat : IsSend (seat_row (param 0 g.row.E) (param 1 g.row.L) (param 4 g.row.E-Goal) (param 5 g.row.E-Tag)
    g.E.Expand g.E.Goal.PartialEq g.E.Goal.Hash g.L.Ledger) =
    table_seat_send (param 0 g.row.E) (param 1 g.row.L) (param 4 g.row.E-Goal) (param 5 g.row.E-Tag) g.E.Expand
    g.E.Goal.PartialEq g.E.Goal.Hash g.L.Ledger goals in
    let table : IsSync (shared_row (param 0 g.row.E) (param 1 g.row.L) (param 4 g.row.E-Goal) (param 5 g.row.E-Tag)
    g.E.Expand g.E.Goal.Key g.E.Goal.Eq g.E.Goal.PartialEq g.E.Goal.Hash g.L.Ledger) =
    shared_table_sync (param 0 g.row.E) (param 1 g.row.L) (param 4 g.row.E-Goal) (param 5 g.row.E-Tag) g.E.Expand
    g.E.Goal.PartialEq g.E.Goal.Hash g.L.Ledger goals g.E.Goal.Key g.E.Goal.Eq in
    param_send 1 _ (arg_send _ yes _
    (six_send _ _ _ _ _ _ _ (shr_send _ _ _ handle) global_send (shr_send _ _ _ table) (shr_send _ _ _ by)
    (shr_send _ _ _ gate) seat))
