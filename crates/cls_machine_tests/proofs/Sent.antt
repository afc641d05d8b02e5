-- The expander of the tests may be shared, and its goals may go to another thread.
use denote.Param.Send.{IsSend, IsSync, sendable}
use Rattle.std.proofs.Crossing.{crosses}
use Rattle.cls_machine_tests.specs.contracts.heap.Heap.{the_row as heap_row}
use Rattle.cls_machine_tests.specs.contracts.heap.Node.{the_row as node_row}

pub node_send : IsSend node_row
node_send = search sendable depth 20

pub node_sync : IsSync node_row
node_sync = search sendable depth 20

pub heap_sync : IsSync heap_row
heap_sync = search (sendable, crosses) depth 20
