use Rattle.std.proofs.Common.{◌<◌, ◌+◌, ℕ, List, length, map, ap, sym, subst, ◌∙◌, arith}
use Rattle.cls_base.specs.Terms.{component}
use Rattle.cls_base.specs.Spines.{spine}
use Rattle.cls_assemble.specs.Texts.{template_at, text_of}
use Rattle.cls_assemble.specs.Lengths.{capped_length}
use Rattle.cls_assemble.proofs.Texts.{text_of-parts, greatest_of-parts, greatest_of-inside, length_of-inside}
use Rattle.cls_assemble.proofs.Counting.{AreKnown, AreKnown-none, AreKnown-more, IsSurplus, IsSurplus-none, IsSurplus-over, IsSurplus-under, argument_lengths, length-argument_lengths, argument_length-at, counted}
use Rattle.cls_assemble.proofs.length.+text_length.Goals.{then-index-greatest, else-index-greatest}
use Rattle.cls_assemble.proofs.length.+text_length.Goals as goal

pub bounds-as_slice-term-inside : goal.bounds-as_slice-term-inside
bounds-as_slice-term-inside t c =
    let parts = greatest_of-parts c.term.inside.head c.term.inside.args c.args.term.now c.term.view_is in
    omega (arith, parts.0, c.requires, ap length c.as_slice.ensures)

pub loop-index-init : goal.loop-index-init
loop-index-init t c = record {
  known = AreKnown-none (argument_lengths (template_at c.args.templates.now) c.as_slice-argument-items.result.now);
  surplus = IsSurplus-none (argument_lengths (template_at c.args.templates.now) c.as_slice-argument-items.result.now) c.greatest-greatest.result;
}

pub text_length-length-requires : goal.text_length-length-requires
text_length-length-requires t c =
    let view = ap (spine (component c.term.inside.head)) c.as_slice-argument-items.ensures ∙ c.term.view_is in
    let shorter = length_of-inside c.term.inside.head c.as_slice-argument-items.result.now c.args.term.now view c.loop-index.index c.argument-item.result c.argument-item.is c.loop-index-test.true in
    (omega (arith, shorter), greatest_of-inside c.term.inside.head c.as_slice-argument-items.result.now c.args.term.now (length c.args.templates.now) view c.requires c.loop-index.index c.argument-item.result c.argument-item.is c.loop-index-test.true)

pub loop-index-preserved : goal.loop-index-preserved
loop-index-preserved t c =
    let template = template_at c.args.templates.now in
    let items = c.as_slice-argument-items.result.now in
    let size = length-argument_lengths template items in
    let same = c.text_length-length.ensures ∙ argument_length-at template items c.loop-index.index c.argument-item.result c.argument-item.is c.loop-index-test.true in
    let within : c.loop-index.index < length (argument_lengths template items) = omega (arith, size, c.loop-index-test.true) in
    record {
      known = subst (λ (known : List ℕ). AreKnown (argument_lengths template items) (c.loop-index.index + 1) known) (sym c.put_length.ensures) (AreKnown-more (argument_lengths template items) c.loop-index.index c.loop-index.lengths c.text_length-length.result within same c.loop-index.invariant.known);
      surplus = elim c.if-index-greatest.branch [
        | then-index-greatest w ↦ subst (λ (surplus : ℕ). IsSurplus (argument_lengths template items) c.greatest-greatest.result (c.loop-index.index + 1) surplus) (sym (w.surplus-is ∙ w.add_capped-surplus.ensures)) (IsSurplus-over (argument_lengths template items) c.greatest-greatest.result c.loop-index.index c.loop-index.surplus c.text_length-length.result w.if-index-greatest.true within same c.loop-index.invariant.surplus)
        | else-index-greatest w ↦ subst (λ (surplus : ℕ). IsSurplus (argument_lengths template items) c.greatest-greatest.result (c.loop-index.index + 1) surplus) (sym w.surplus-is) (IsSurplus-under (argument_lengths template items) c.greatest-greatest.result c.loop-index.index c.loop-index.surplus w.if-index-greatest.false c.loop-index.invariant.surplus)
      ];
    }

pub returns : goal.returns
returns t c =
    let template = template_at c.args.templates.now in
    let items = c.as_slice-argument-items.result.now in
    let texts = map (text_of template) items in
    let size = length-argument_lengths template items in
    let surplus = subst (λ (greatest : ℕ). IsSurplus (argument_lengths template items) greatest c.loop-index.index c.loop-index.surplus) c.greatest-greatest.ensures c.loop-index.invariant.surplus in
    let whole = counted texts c.index-as_slice-term.result c.loop-index.index c.loop-index.lengths c.length.result c.loop-index.surplus c.length.ensures.numbered (omega (arith, size, c.loop-index-test.false)) c.loop-index.invariant.known surplus c.length.ensures.length in
    let parts = greatest_of-parts c.term.inside.head c.term.inside.args c.args.term.now c.term.view_is in
    let text = text_of-parts c.args.templates.now c.as_slice.result.now c.term.inside.head c.term.inside.args items c.args.term.now c.index-as_slice-term.result c.term.view_is c.as_slice-argument-items.ensures c.as_slice.ensures (omega (arith, parts.0, c.requires, ap length c.as_slice.ensures)) c.index-as_slice-term.is in
    c.add_capped.ensures ∙ (whole ∙ ap (λ (t : List ℕ). capped_length (length t)) (sym text))
