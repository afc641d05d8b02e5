use Rattle.std.proofs.Common.{◌≡◌, ◌<◌, true, false, length, sym, ap, ◌∙◌, arith}
use Rattle.std.specs.Prelude.{slice_index_or, slice_set}
use Rattle.cls_filtered.specs.Filtered.{pair_of}
use Rattle.cls_filtered.specs.States.{Known, is_known, reached}
use Rattle.cls_filtered.proofs.Onward.{count-set, count-most}
use Rattle.cls_filtered.proofs.Following.{reaches-known, reaches-new}
use Rattle.cls_filtered.proofs.states.States.reach.Goals as goal

pub index_mut-requires : goal.index_mut-requires
index_mut-requires c =
    let same = ap (λ (s : Known). length s.flags) c.self.view_is in
    omega (arith, c.requires.node, c.requires.state, same, c.self.inside.flags.ok.0, c.pair_of-pair.ensures)

pub overflow_add-self : goal.overflow_add-self
overflow_add-self c =
    omega (arith, c.self.invariant, count-most c.self.inside.flags.items, c.self.inside.flags.ok.0, c.self.inside.flags.ok.1, c.self.inside.flags.small)

pub invariant_of-self-2 : goal.invariant_of-self-2
invariant_of-self-2 c =
    let place = c.pair_of-pair.result in
    let same = ap (λ (s : Known). length s.flags) c.self.view_is in
    let within : place < length c.self.inside.flags.items = omega (arith, c.requires.node, c.requires.state, same, c.pair_of-pair.ensures) in
    let unknown : is_known c.args.self.now.flags c.args.node c.args.state ≡ false = sym c.has.ensures ∙ c.if-has.false in
    let inside : slice_index_or c.self.inside.flags.items place false ≡ false = (λ j. slice_index_or (c.self.view_is j).flags (c.pair_of-pair.ensures j) false) ∙ unknown in
    omega (arith, c.self.invariant, count-set c.self.inside.flags.items place within inside)

pub returns-then-has : goal.returns-then-has
returns-then-has c = reaches-known c.args.node c.args.state c.args.self.now (sym c.has.ensures ∙ c.if-has.true)

pub returns : goal.returns
returns c =
    let place = pair_of c.args.node c.args.state in
    let within : place < length c.args.self.now.flags = omega (arith, c.requires.node, c.requires.state) in
    let unknown : is_known c.args.self.now.flags c.args.node c.args.state ≡ false = sym c.has.ensures ∙ c.if-has.false in
    reaches-new c.args.node c.args.state c.args.self.now _ within c.requires.state unknown
    ((λ j. record { flags = slice_set c.self.inside.flags.items (c.pair_of-pair.ensures j) true; changed = c.in_ok-push.ensures.items j })
    ∙ ap (λ (s : Known). reached s c.args.node c.args.state) c.self.view_is)
