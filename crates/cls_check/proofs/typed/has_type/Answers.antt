use Rattle.std.proofs.Common.{[], ◌∷◌, ◌∙◌, sym, subst, append-nil}
use Rattle.cls_base.specs.Terms.{Applicative, code_of}
use Rattle.cls_base.proofs.Lists.{Contains-here}
use Rattle.cls_path.specs.Paths.{listed}
use Rattle.cls_check.specs.Deciding.{KnowsPaths, targets_of}
use Rattle.cls_check.proofs.Codes.{one_term}
use Rattle.cls_check.proofs.Deciding.{goal_decided}
use Rattle.cls_check.proofs.typed.has_type.Goals as goal

pub arrows_had-requires-clause-declared : goal.arrows_had-requires-clause-declared
arrows_had-requires-clause-declared c = (c.args.term.now, c.requires.declared, [], c.code.ensures ∙ sym (append-nil (code_of c.args.term.now)))

pub returns : goal.returns
returns c =
    let d = c.in_ok-had.ensures in
    let same = one_term d.term c.args.term.now c.in_ok-had._rest.now [] (sym d.begins ∙ (c.code.ensures ∙ sym (append-nil (code_of c.args.term.now)))) in
    let known = subst (λ (e : Applicative). KnowsPaths c.args.lib.now e (listed c.args.goal.now ∷ []) (targets_of c.in_ok-had.had)) same.0 d.known in
    let decided = goal_decided c.args.lib.now c.count-count.ensures.library c.args.term.now (listed c.args.goal.now ∷ []) (targets_of c.in_ok-had.had) (listed c.args.goal.now) c.requires.normal.suits c.requires.declared (Contains-here (listed c.args.goal.now) []) known in
    ((λ e. decided.0 (c.are_above.ensures.0 e)), (λ h. c.are_above.ensures.1 (decided.1 h)))
