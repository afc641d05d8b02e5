use Rattle.std.proofs.Common.{sym, subst}
use Rattle.std.specs.Option.{option_map}
use Rattle.std.specs.Prelude.{Option, IfErr}
use Rattle.cls_syntax.specs.declared.spelled_types.SpelledTypes.{SpelledTypes}
use Rattle.cls_syntax.specs.SpelledTypes.{types_text}
use Rattle.cls_repo.specs.Directives.{kind}
use Rattle.cls_repo.specs.FaultWords.{IsFirst}
use Rattle.cls_repo.specs.LineFaults.{directive_faults}
use Rattle.cls_repo.specs.Written.{draft_of}
use Rattle.cls_repo.proofs.declaration.declare_choices.Goals as goal

pub returns-in-None-clause-fault : goal.returns-in-None-clause-fault
returns-in-None-clause-fault c =
    let line = c.args.line.now.text.now in
    subst (λ (types : Option SpelledTypes). IsFirst (directive_faults (draft_of c.args.draft.now) line (kind c.args.variable.now (option_map types_text types))) c.empty_kind.result) (sym c.in-None.is) c.empty_kind.ensures

pub returns-in-Some-clause-fault : goal.returns-in-Some-clause-fault
returns-in-Some-clause-fault c =
    let line = c.args.line.now.text.now in
    subst (λ (types : Option SpelledTypes). IfErr c.declare_kind.result (IsFirst (directive_faults (draft_of c.args.draft.now) line (kind c.args.variable.now (option_map types_text types))))) (sym c.in-Some.is) c.declare_kind.ensures.fault
