use Rattle.std.proofs.Common.{List, sym, ap, ◌∙◌, subst, map}
use Rattle.std.specs.Prelude.{Some, option_copied}
use Rattle.cls_base.specs.Ty.{type_of}
use Rattle.cls_base.specs.Types.{ClosedType}
use Rattle.cls_base.proofs.Lists.{map_last}
use Rattle.cls_lexer.specs.declared.token.TokenKind.TheVariants.{Bar}
use Rattle.cls_lexer.specs.Names.{with_texts}
use Rattle.cls_lexer.specs.Words.{words}
use Rattle.cls_syntax.specs.Forms.{types_parts, constructors_named}
use Rattle.cls_syntax.specs.Spans.{types_in}
use Rattle.cls_syntax.proofs.ClosedLists.{IsReading, begun, read_on, all_read}
use Rattle.cls_syntax.proofs.Tables.{kept, grows_on, grows_kept}
use Rattle.cls_syntax.proofs.type_list.read_types.Goals as goal

pub loop-left-init : goal.loop-left-init
loop-left-init c = rw c.new-types.ensures.items (begun c.args.names.now c.args.tokens.now c.requires.whole c.requires.closed)

pub first_type-requires-clause-whole : goal.first_type-requires-clause-whole
first_type-requires-clause-whole c = (rw c.in-Some.is at c.loop-left.invariant.good).0

pub first_type-requires-clause-closed : goal.first_type-requires-clause-closed
first_type-requires-clause-closed c = (rw c.in-Some.is at c.loop-left.invariant.good).1

pub returns-in_err-ty-clause-kept : goal.returns-in_err-ty-clause-kept
returns-in_err-ty-clause-kept c = kept (grows_on c.loop-left.invariant.grown (grows_kept c.in_err-ty.ensures.kept))

pub returns-in_err-push-clause-kept : goal.returns-in_err-push-clause-kept
returns-in_err-push-clause-kept c = kept (grows_on c.loop-left.invariant.grown (grows_kept c.in_ok-ty.ensures.kept))

pub loop-left-preserved : goal.loop-left-preserved
loop-left-preserved c =
    let names = c.args.names.now in
    let all = types_in Bar (words c.args.tokens.now) in
    let final = with_texts names (constructors_named (types_parts all)) in
    let read = map type_of c.loop-left.types.items in
    let so_far : IsReading names final all c.loop-left.names read (Some c.in-Some.current.now) = rw c.in-Some.is at c.loop-left.invariant in
    let last = ap (map type_of) c.in_ok-push.ensures.items ∙ map_last type_of c.loop-left.types.items c.in_ok-ty.ty in
    subst (λ (ts : List ClosedType). IsReading names final all c.first_type.new.names ts (option_copied c.in_ok-ty.rest)) (sym last)
    (read_on names final all c.loop-left.names read c.in-Some.current.now (type_of c.in_ok-ty.ty) c.first_type.new.names so_far (option_copied c.in_ok-ty.rest) c.in_ok-ty.ensures.first)

pub returns-clause-types : goal.returns-clause-types
returns-clause-types c = (all_read (rw c.in_default.is at c.loop-left.invariant)).0

pub returns-clause-table : goal.returns-clause-table
returns-clause-table c = (all_read (rw c.in_default.is at c.loop-left.invariant)).1

pub returns-clause-kept : goal.returns-clause-kept
returns-clause-kept c = kept c.loop-left.invariant.grown
