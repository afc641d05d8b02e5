use Rattle.cls_lexer.specs.declared.token.TokenKind.TheVariants.{Bar}
use Rattle.std.proofs.Common.{refl, ◌≡◌, List, arith, sym, subst, rules, Ok, IsTrue}
use Rattle.std.proofs.lemmas.List.{length-map}
use Rattle.cls_lexer.specs.declared.token.Token.{Token}
use Rattle.cls_lexer.specs.Words.{word_of}
use Rattle.cls_lexer.specs.Words.{words}
use Rattle.cls_syntax.specs.TypeLists.{types_front, types_nodes}
use Rattle.cls_syntax.specs.TypeShapes.{held}
use Rattle.cls_syntax.specs.Spans.{is_whole, types_in}
use Rattle.cls_syntax.proofs.TypeListSpans.{next_failed, shorter, types_span}
use Rattle.cls_syntax.proofs.cursor.some_types.Goals as goal

pub returns-in_err-spelled : goal.returns-in_err-spelled
returns-in_err-spelled c =
    let failed = next_failed Bar (words c.args.tokens.now) (words c.loop-next.rest.now) (words c.in-Ok.next.now) c.loop-next.most_nodes _ refl c.loop-next.invariant c.in-Ok.ensures c.in_err-spelled.ensures in
    search (rules, failed)

pub loop-next-smaller : goal.loop-next-smaller
loop-next-smaller c =
    let less = shorter Bar (words c.loop-next.rest.now) (words c.in-Ok.next.now) (words c.in_ok-spelled.after.now) _ c.in-Ok.ensures c.in_ok-spelled.ensures in
    let a = length-map c.loop-next.rest.now word_of in
    let b = length-map c.in_ok-spelled.after.now word_of in
    omega (arith, less, a, b)

pub overflow_sub-tokens : goal.overflow_sub-tokens
overflow_sub-tokens c = (types_span Bar c.args.tokens.now c.loop-next.rest.now c.loop-next.most_nodes _ refl c.loop-next.invariant c.in_default.ensures).within

pub invariant_of-spelled : goal.invariant_of-spelled
invariant_of-spelled c =
    let r = types_span Bar c.args.tokens.now c.loop-next.rest.now c.loop-next.most_nodes _ refl c.loop-next.invariant c.in_default.ensures in
    let front = c.split_at.ensures.front in
    record {
      spelled = subst (λ (ls : List Token). IsTrue (is_whole (types_front Bar (words ls)))) (sym front) r.spelled;
      counted = subst (λ (ls : List Token). c.loop-next.most_nodes ≡ held (types_nodes (types_in Bar (words ls)))) (sym front) r.counted;
    }

pub returns : goal.returns
returns c =
    let r = types_span Bar c.args.tokens.now c.loop-next.rest.now c.loop-next.most_nodes _ refl c.loop-next.invariant c.in_default.ensures in
    subst (λ (ls : List Token). types_front Bar (words c.args.tokens.now) ≡ Ok (types_in Bar (words ls), words c.loop-next.rest.now)) (sym c.split_at.ensures.front) r.reads
