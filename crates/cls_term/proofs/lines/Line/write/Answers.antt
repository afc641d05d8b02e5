use Rattle.std.proofs.Common.{arith, ℕ, ◌+◌, ◌*◌, ◌<◌, ◌≡◌, length, [], subst}
use Rattle.std.specs.Prelude.{◌/◌}
use Rattle.cls_term.specs.Lines.{IsLine, stack_behind}
use Rattle.cls_term.specs.Texts.{name_at}
use Rattle.cls_term.proofs.Standings.{at-end, line-grown, line-shared}
use Rattle.cls_term.proofs.lines.Line.write.Goals as goal

pub loop-place-init : goal.loop-place-init
loop-place-init c = λ word h.
    let name = name_at c.args.components.now in
    let s = c.shared-same.ensures in
    line-shared name word c.args.before.now c.args.code.now c.shared-same.result c.cut.new.self
    (c.cut.ensures name word c.args.before.now (length c.args.before.now / 2) h s.before)
    (omega (arith, s.code)) s.same

pub write_component-requires : goal.write_component-requires
write_component-requires c =
    let word = c.requires.0 in
    (stack_behind [] c.loop-place.place c.args.code.now, at-end (name_at c.args.components.now) word c.args.code.now c.loop-place.place c.loop-place.self (c.loop-place.invariant word c.requires.1))

pub loop-place-preserved : goal.loop-place-preserved
loop-place-preserved c = λ word h.
    let name = name_at c.args.components.now in
    let code = c.args.code.now in
    let place = c.loop-place.place in
    let line = c.loop-place.invariant word h in
    let there : 2 * place + 1 < length code = omega (arith, c.loop-place-test.true) in
    line-grown name word code place c.loop-place.self c.write_component.new.self line there
    (c.in_ok-write_component.ensures (stack_behind [] place code) (at-end name word code place c.loop-place.self line))

pub returns : goal.returns
returns c = λ word h.
    let P : ℕ → Type 0 = λ k. IsLine (name_at c.args.components.now) word c.args.code.now k c.loop-place.self in
    let e : c.loop-place.place ≡ length c.args.code.now / 2 = omega (arith, c.loop-place-test.false, c.loop-place.auto.place-end) in
    subst P e (c.loop-place.invariant word h)
