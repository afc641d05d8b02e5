use Rattle.std.proofs.Common.{arith, ◌∙◌, sym}
use Rattle.cls_session.specs.declared.words.Command.TheVariants.{Session, Generate}
use Rattle.cls_session.specs.Commands.{texts_of}
use Rattle.cls_session.specs.Settings.{options_of}
use Rattle.cls_session.proofs.CommandWords.{length-texts_of, in_range, all_read, generate_read, no_setting, set_again, one_more, is_unset, is_taken}
use Rattle.cls_session.proofs.Lengths.{some_over, is_none}
use Rattle.cls_session.proofs.words.read_words.Goals as goal

pub loop-rest-preserved : goal.loop-rest-preserved
loop-rest-preserved c =
    let free = is_unset _ _ c.get.ensures (sym c.is_some.ensures ∙ c.if-is_some.false) in
    rw (c.set.ensures) (one_more c.loop-rest.invariant c.in-Some-read_setting.ensures free)

pub returns-then-is_some-clause-nothing_asked : goal.returns-then-is_some-clause-nothing_asked
returns-then-is_some-clause-nothing_asked c =
    set_again c.loop-rest.invariant c.in-Some-read_setting.ensures (is_taken _ _ c.get.ensures (sym c.is_some.ensures ∙ c.if-is_some.true))

pub returns-in_default-read_setting-clause-nothing_asked : goal.returns-in_default-read_setting-clause-nothing_asked
returns-in_default-read_setting-clause-nothing_asked c =
    let count = length-texts_of c.loop-rest.rest.now in
    let some = some_over _ c.loop-rest-test.ensures in
    no_setting c.loop-rest.invariant (omega (arith, count, some)) (rw c.in_default-read_setting.is at c.read_setting.ensures) (rw c.in_default.is at c.read_generate.ensures)

pub returns-in-Some-clause-in_range : goal.returns-in-Some-clause-in_range
returns-in-Some-clause-in_range c =
    rw (c.options.ensures) (in_range (texts_of c.args.words.now) (Generate (options_of c.loop-rest.values) c.in-Some.count) (generate_read c.loop-rest.invariant c.in-Some.ensures))

pub returns-clause-in_range : goal.returns-clause-in_range
returns-clause-in_range c =
    let count = length-texts_of c.loop-rest.rest.now in
    let none = is_none _ c.loop-rest-test.ensures in
    rw (c.options-2.ensures) (in_range (texts_of c.args.words.now) (Session (options_of c.loop-rest.values)) (all_read c.loop-rest.invariant (omega (arith, count, none))))
