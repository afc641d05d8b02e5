use Rattle.std.proofs.Common.{◌<◌, ◌≤◌, ◌++◌, ◌∙◌, length, ap, refl, arith, rules, string_bytes}
use Rattle.cls_cert.specs.declared.layers.BlockLeft.{BlockLeft}
use Rattle.cls_cert.proofs.LayerWriting.{layers_done, sets_written}
use Rattle.cls_cert.proofs.layers.BlockLeft.write_layers.Goals as goal

pub loop-front-init : goal.loop-front-init
loop-front-init c = record { left = c.requires.left; lines = refl; full = c.requires.full; front = refl; size = (search rules) }

pub begin_layer-requires-clause-none : goal.begin_layer-requires-clause-none
begin_layer-requires-clause-none c = c.loop-front.invariant.full (let less = c.if-written-enough.false in omega (arith, c.len-written.ensures))

pub begin_layer-requires-clause-front : goal.begin_layer-requires-clause-front
begin_layer-requires-clause-front c = c.loop-front.invariant.front

pub begin_layer-requires-clause-more : goal.begin_layer-requires-clause-more
begin_layer-requires-clause-more c = (let less = c.loop-front-test.true in let size = c.loop-front.invariant.size in omega arith)

pub loop-front-preserved : goal.loop-front-preserved
loop-front-preserved c =
    let begun = c.begin_layer.new.self in
    let done = c.write_sets.new.self in
    let same = c.in_ok-write_sets.ensures.same in
    record {
      left = c.in_ok-write_sets.ensures.left;
      lines = sets_written (string_bytes c.begin_layer.new.text) (string_bytes c.write_sets.new.text) begun done same c.in_ok-write_sets.ensures.lines
          ∙ (c.in_ok-begin_layer.ensures.lines ∙ c.loop-front.invariant.lines);
      full = c.in_ok-write_sets.ensures.full;
      front = ap (λ (b : BlockLeft). b.front) same ∙ c.in_ok-begin_layer.ensures.next;
      size = ap (λ (b : BlockLeft). length b.families.items) same ∙ (ap length c.in_ok-begin_layer.ensures.families ∙ c.loop-front.invariant.size);
    }

pub returns-then-written-enough-clause-full : goal.returns-then-written-enough-clause-full
returns-then-written-enough-clause-full c = λ few.
    let more = c.if-written-enough.true in
    let less : length (string_bytes c.loop-front.text) < c.args.enough = few in
    absurd (omega (arith, c.len-written.ensures))

pub returns-clause-full : goal.returns-clause-full
returns-clause-full c = λ few.
    let b = c.loop-front.self in
    let size = c.loop-front.invariant.size in
    let front = c.loop-front.invariant.front in
    let past = c.loop-front-test.false in
    let over : length b.families.items ≤ b.front = omega arith in
    λ i. c.loop-front.invariant.full few i ++ layers_done b.families.items b.front over i
