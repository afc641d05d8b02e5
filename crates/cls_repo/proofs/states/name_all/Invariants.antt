use Rattle.std.proofs.Common.{drop}
use Rattle.cls_syntax.specs.TokenTexts.{texts}
use Rattle.cls_repo.proofs.StateNames.{AreNaming}
use Rattle.cls_repo.proofs.states.name_all.Given as goal

abbrev pub invariant-loop-token : goal.invariant-loop-token
invariant-loop-token l = AreNaming l.fn.states (texts l.named) l.states (texts (drop l.token-index l.named))
