-- Rows that are the closure of some goal are answered.
use Rattle.cls_base.proofs.Lists.{Contains-at}
use Rattle.std.proofs.Common.{List}
use Rattle.cls_core.specs.Closure.{at_argument, goals_of}
use Rattle.cls_core.specs.Rows.{Row}
use Rattle.cls_library.specs.Libraries.{Library}
use Rattle.cls_expand.proofs.Adding.{up-to}
use Rattle.cls_expand.specs.Answers.{IsAnswer}
use Rattle.cls_expand.specs.Memos.{AreComplete}
use Rattle.cls_live.specs.Parts.{Goal, same, AreAnswered}

pub complete_answered : (l : Library) (rows : List (Row Goal)) → AreComplete same (IsAnswer l) rows → AreAnswered l rows
complete_answered l rows c k r e =
    let closure = c.1 in
    let held = closure.answered k r e in
    let reached = closure.reached r.goal (Contains-at (goals_of rows) k r.goal (up-to rows k r e).2) in
    record {
      answer = held.0;
      is_answer = held.1;
      closed = λ x m. closure.whole x (at_argument r.goal x held.0 reached held.1 m);
      is_numbered = held.2;
    }
