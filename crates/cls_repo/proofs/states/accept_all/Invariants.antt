use Rattle.std.proofs.Common.{drop}
use Rattle.cls_syntax.specs.TokenTexts.{texts}
use Rattle.cls_repo.proofs.StateNames.{AreAccepting}
use Rattle.cls_repo.proofs.states.accept_all.Given as goal

abbrev pub invariant-loop-token : goal.invariant-loop-token
invariant-loop-token l = AreAccepting l.states l.fn.filter (texts l.named) l.filter (texts (drop l.token-index l.named))
