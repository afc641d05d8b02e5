-- A goal under a root may go to another thread where the goal may. An expander with asked goals may be shared where its expander
-- and its goals may, and a table of callers where the goals may go to another thread.
use denote.Ref.{NamedLft}
use denote.RattleType.{RattleType}
use denote.Param.Send.{IsSend, IsSync, sendable}
use denote.Param.SendFields.{declared_sync}
use Rattle.std.proofs.Crossing.{crosses}
use Rattle.std.specs.declared.cmp.PartialEq as eq
use Rattle.std.specs.declared.cmp.Eq as equivalence
use Rattle.std.specs.declared.hash.Hash as hash
use Rattle.std.specs.declared.sync.ledger.Ledger as ledger
use Rattle.cls_base.specs.declared.key.Key as key
use Rattle.cls_core.specs.declared.expand.Expand as expand
use Rattle.cls_table.proofs.Sent.{shared_table_sync}
use Rattle.cls_callers.specs.contracts.goal.AskGoal.{the_row as goal_row}
use Rattle.cls_callers.specs.contracts.asked.Asked.{the_row as asked_row}
use Rattle.cls_callers.specs.contracts.callers.Callers.{the_row as callers_row, the_type as callers_type}

pub ask_goal_send : (G : RattleType) → IsSend G → IsSend (goal_row G)
ask_goal_send G s = search sendable depth 20

module _ (κ : NamedLft) (E G T : RattleType) (x : expand.Ghosts E.Denot G.Denot T.Denot) (e : eq.Ghosts G.Denot)
    (h : hash.Ghosts G.Denot) where
  pub asked_sync : IsSync E → IsSync G → IsSync (asked_row κ E G T x e h)
  asked_sync b s = search (sendable, crosses) depth 40 fits 40000

module _ (κ : NamedLft) (E L G T : RattleType) (x : expand.Ghosts E.Denot G.Denot T.Denot) (k : key.Ghosts G.Denot)
    (q : equivalence.Ghosts G.Denot) (e : eq.Ghosts G.Denot) (h : hash.Ghosts G.Denot) (l : ledger.Ghosts L.Denot)
    (s : IsSend G) where
  pub callers_sync : IsSync (callers_row κ E L G T x k q e h l)
  callers_sync =
      declared_sync (callers_type κ E L G T x k q e h l) (
        shared_table_sync _ L (goal_row G) _ _ _ _ l (ask_goal_send G s) _ _,
        tt,
      )
