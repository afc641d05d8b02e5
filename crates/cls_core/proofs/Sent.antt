-- A core may be sent to another thread if its goals may.
use denote.RattleType.{RattleType}
use denote.Param.Send.{IsSend, sendable}
use Rattle.std.proofs.Crossing.{crosses}
use Rattle.std.specs.declared.cmp.PartialEq as eq
use Rattle.std.specs.declared.hash.Hash as hash
use Rattle.cls_core.specs.contracts.machine.Core.{the_row as core_row}

pub core_send : (G : RattleType) (e : eq.Ghosts G.Denot) (h : hash.Ghosts G.Denot) → IsSend G → IsSend (core_row G e h)
core_send G e h s = search (sendable, crosses) depth 40 fits 40000
