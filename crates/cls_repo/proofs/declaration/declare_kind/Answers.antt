use Rattle.std.proofs.Common.{ap, sym, ◌∙◌}
use Rattle.std.specs.Prelude.{position}
use Rattle.cls_syntax.specs.SpelledTypes.{types_text}
use Rattle.cls_syntax.specs.TypeSchemas.{is_dollar}
use Rattle.cls_repo.specs.Written.{draft_of}
use Rattle.cls_repo.proofs.Findings.{lacking}
use Rattle.cls_repo.proofs.KindLines.{types_closed}
use Rattle.cls_repo.proofs.Wrong.{kind_right}
use Rattle.cls_repo.proofs.declaration.declare_kind.Goals as goal

pub put_kind-requires-clause-closed : goal.put_kind-requires-clause-closed
put_kind-requires-clause-closed c =
    let line = c.args.line.now in
    types_closed line.text.now c.args.variable.now (types_text c.args.types) c.requires (ap (position is_dollar) (sym line.says) ∙ sym c.in_default.ensures)

pub returns-clause-taken : goal.returns-clause-taken
returns-clause-taken c =
    let line = c.args.line.now in
    let d = draft_of c.args.draft.now in
    let x = c.args.variable.now in
    let ts = types_text c.args.types in
    let put = c.in_ok-put_kind.ensures.put in
    let none = lacking d.kinds c.number.result.0 _ c.number.ensures c.lacks.result c.lacks.ensures c.if-not-lacks.false in
    record {
      declared = (put.types, put.spelled, put.put);
      silent = kind_right d line.text.now x ts (c.are_small.ensures.0 c.if-not-are_small.false) none (ap (position is_dollar) (sym line.says) ∙ sym c.in_default.ensures);
    }
