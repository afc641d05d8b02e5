use Rattle.std.proofs.Common.{ap, ◌∙◌, take}
use Rattle.cls_lexer.specs.Words.{words}
use Rattle.cls_syntax.specs.Spans.{type_in}
use Rattle.cls_syntax.specs.TypeSchemas.{with_constructors}
use Rattle.cls_syntax.proofs.TypeSpans.{spelled_words}
use Rattle.cls_syntax.proofs.FirstTypes.{one_type, front_whole, closed_front, others_left}
use Rattle.cls_syntax.proofs.type_list.first_type.Goals as goal

pub closed_type-requires-clause-whole : goal.closed_type-requires-clause-whole
closed_type-requires-clause-whole c = front_whole c.args.tokens.now c.requires.whole c.in-Some.place c.in-Some.ensures.first

pub closed_type-requires-clause-closed : goal.closed_type-requires-clause-closed
closed_type-requires-clause-closed c = closed_front c.in-Some.place c.args.tokens.now c.requires.closed

pub closed_type-requires-in-None-clause-whole : goal.closed_type-requires-in-None-clause-whole
closed_type-requires-in-None-clause-whole c = (one_type c.args.tokens.now c.requires.whole c.in-None.ensures.first).whole

pub returns-in_ok-ty-in-Some-clause-first : goal.returns-in_ok-ty-in-Some-clause-first
returns-in_ok-ty-in-Some-clause-first c =
    let tokens = c.args.tokens.now in
    let front = words (take c.in-Some.place tokens) in
    let whole = front_whole tokens c.requires.whole c.in-Some.place c.in-Some.ensures.first in
    record {
      text = type_in front;
      spelled = c.in_ok-ty-in-Some.ensures.ty;
      table = c.in_ok-ty-in-Some.ensures.constructors ∙ ap (with_constructors c.args.names.now) (spelled_words front whole);
      left = others_left tokens c.requires.whole c.in-Some.place c.in-Some.ensures.first c.in-Some.ensures.within c.requires.closed;
    }

pub returns-in_ok-ty-in-None-clause-first : goal.returns-in_ok-ty-in-None-clause-first
returns-in_ok-ty-in-None-clause-first c =
    let all = words c.args.tokens.now in
    let one = one_type c.args.tokens.now c.requires.whole c.in-None.ensures.first in
    record {
      text = type_in all;
      spelled = c.in_ok-ty-in-None.ensures.ty;
      table = c.in_ok-ty-in-None.ensures.constructors ∙ ap (with_constructors c.args.names.now) (spelled_words all one.whole);
      left = one.list;
    }
