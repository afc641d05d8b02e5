use Rattle.std.proofs.Common.{◌<◌, ◌+◌, ◌-◌, ◌++◌, ℕ, List, [], length, map, get_or, take, drop, sym, ap, ◌∙◌, arith, string_bytes}
use Rattle.std.specs.Prelude.{codes}
use Rattle.std.specs.List.{flat_map}
use Rattle.std.proofs.lemmas.List.{get_or_default, length-map}
use Rattle.std.proofs.lemmas.Str.{IsUtf8-string_bytes}
use Rattle.cls_assemble.specs.declared.template.Segment.{Segment}
use Rattle.cls_assemble.specs.declared.text.Span.{Span}
use Rattle.cls_assemble.specs.Segments.{pieces_in}
use Rattle.cls_assemble.specs.Texts.{template_at, text_of, piece_text, in_parentheses}
use Rattle.cls_assemble.proofs.Texts.{text_of-parts, measures_of-parts, greatest_of-argument, length_of-argument, argument_text-at}
use Rattle.cls_assemble.proofs.Writing.{AreWritten-more, AreWritten-set, split_point, segment_text, tail_text, surplus_text, write-step, write-end, surplus-step}
use Rattle.cls_assemble.proofs.text.+write.Goals as goal

pub write-bounds-as_slice-term-inside : goal.write-bounds-as_slice-term-inside
write-bounds-as_slice-term-inside t c =
    let parts = measures_of-parts c.term.inside.head c.term.inside.args c.term.inside.args c.args.term.now c.term.view_is (λ i. c.term.inside.args) in
    omega (arith, parts.2, c.requires, ap length c.as_slice.ensures)

pub write-write_hole-requires : goal.write-write_hole-requires
write-write_hole-requires t c =
    let parts = measures_of-parts c.term.inside.head c.term.inside.args c.as_slice-arguments.result.now c.args.term.now c.term.view_is c.as_slice-arguments.ensures in
    (omega (arith, parts.0), (omega (arith, parts.1, c.requires), (c.segment-item.result.least, (c.segment-item.result.most, AreWritten-more (map (text_of (template_at c.args.templates.now)) c.as_slice-arguments.result.now) c.loop-segment.spans (string_bytes c.loop-segment.text) c.as_str.result.now (string_bytes c.push_str.new.self) c.in_ok-push_str.ensures.bytes c.loop-segment.invariant.written))))

pub write-loop-segment-preserved : goal.write-loop-segment-preserved
write-loop-segment-preserved t c =
    let texts = map (text_of (template_at c.args.templates.now)) c.as_slice-arguments.result.now in
    let tail = string_bytes c.template.inside.tail in
    let items = c.deref-segment-items.result.now in
    let i = c.loop-segment.segment-index in
    let s = c.segment-item.result in
    record {
      written = c.in_ok-write_hole.ensures.written;
      so_far = write-step (string_bytes c.args.text.now ++ flat_map (piece_text texts) (pieces_in items tail)) (string_bytes c.loop-segment.text) (string_bytes s.text) c.as_str.result.now (get_or texts (s.number - 1) (codes "_")) (flat_map (piece_text texts) (pieces_in (drop i items) tail)) (flat_map (piece_text texts) (pieces_in (drop (i + 1) items) tail)) (string_bytes c.push_str.new.self) (string_bytes c.write_hole.new.text) c.in_ok-write_hole.ensures.text c.in_ok-push_str.ensures.bytes c.as_str.ensures.value (segment_text texts items tail i s c.segment-item.is c.loop-segment-test.true) c.loop-segment.invariant.so_far;
    }

pub write-write_surplus-requires : goal.write-write_surplus-requires
write-write_surplus-requires t c =
    let parts = measures_of-parts c.term.inside.head c.term.inside.args c.as_slice-arguments.result.now c.args.term.now c.term.view_is c.as_slice-arguments.ensures in
    (omega (arith, parts.0), omega (arith, parts.1, c.requires))

pub write_surplus-write-requires : goal.write_surplus-write-requires
write_surplus-write-requires t c =
    let small = greatest_of-argument c.args.arguments.now c.loop-i.i c.index-arguments-i.result c.index-arguments-i.is c.loop-i-test.true in
    let short = length_of-argument c.args.arguments.now c.loop-i.i c.index-arguments-i.result c.index-arguments-i.is c.loop-i-test.true in
    (omega (arith, short), omega (arith, small, c.requires))

pub write-returns : goal.write-returns
write-returns t c =
    let texts = map (text_of (template_at c.args.templates.now)) c.as_slice-arguments.result.now in
    let tail = string_bytes c.template.inside.tail in
    let items = c.deref-segment-items.result.now in
    let ps = c.index-as_slice-term.result in
    let parts = measures_of-parts c.term.inside.head c.term.inside.args c.as_slice-arguments.result.now c.args.term.now c.term.view_is c.as_slice-arguments.ensures in
    let text = text_of-parts c.args.templates.now c.as_slice.result.now c.term.inside.head c.term.inside.args c.as_slice-arguments.result.now c.args.term.now ps c.term.view_is c.as_slice-arguments.ensures c.as_slice.ensures (omega (arith, parts.2, c.requires, ap length c.as_slice.ensures)) c.index-as_slice-term.is in
    let pieces = ap (λ (ss : List Segment). flat_map (piece_text texts) (pieces_in ss tail)) c.deref-segment-items.ensures.value ∙ ap (flat_map (piece_text texts)) c.template.view_is in
    let surplus = ap (λ (n : ℕ). flat_map in_parentheses (drop n texts)) c.greatest-greatest.ensures in
    let whole = write-end (string_bytes c.args.text.now) (string_bytes c.loop-segment.text) tail c.as_str-2.result.now (flat_map (piece_text texts) (pieces_in (drop c.loop-segment.segment-index items) tail)) (flat_map (piece_text texts) (pieces_in items tail)) (flat_map in_parentheses (drop c.greatest-greatest.result texts)) (string_bytes c.push_str-2.new.self) (string_bytes c.write_surplus.new.text) c.in_ok-write_surplus.ensures c.in_ok-push_str-2.ensures.bytes c.as_str-2.ensures.value (tail_text texts items tail c.loop-segment.segment-index c.loop-segment-test.false) c.loop-segment.invariant.so_far in
    whole ∙ (λ i. string_bytes c.args.text.now ++ (pieces i ++ surplus i)) ∙ ap (λ (bs : List ℕ). string_bytes c.args.text.now ++ bs) (sym text)

pub write_hole-returns-then-index-arguments-clause-written : goal.write_hole-returns-then-index-arguments-clause-written
write_hole-returns-then-index-arguments-clause-written t c =
    AreWritten-more (map (text_of (template_at c.args.templates.now)) c.args.arguments.now) c.args.spans.now (string_bytes c.args.text.now) _ (string_bytes c.push_str.new.self) c.in_ok-push_str.ensures.bytes c.requires.written

pub write_hole-extend_from_within-requires-clause-start_le_end :
    goal.write_hole-extend_from_within-requires-clause-start_le_end
write_hole-extend_from_within-requires-clause-start_le_end t c =
    let w = c.requires.written.each (c.from-index.result - 1) c.in-Some.span c.in-Some.is in
    w.order

pub write_hole-extend_from_within-requires-clause-in_bounds :
    goal.write_hole-extend_from_within-requires-clause-in_bounds
write_hole-extend_from_within-requires-clause-in_bounds t c =
    let w = c.requires.written.each (c.from-index.result - 1) c.in-Some.span c.in-Some.is in
    omega (arith, w.within, c.args.text.now.bytes.ok.0)

pub write_hole-extend_from_within-requires-clause-start_boundary :
    goal.write_hole-extend_from_within-requires-clause-start_boundary
write_hole-extend_from_within-requires-clause-start_boundary t c =
    let w = c.requires.written.each (c.from-index.result - 1) c.in-Some.span c.in-Some.is in
    split_point (string_bytes c.args.text.now) c.in-Some.span.start (IsUtf8-string_bytes c.args.text.now) (omega (arith, w.order, w.within)) w.start_cut

pub write_hole-extend_from_within-requires-clause-end_boundary :
    goal.write_hole-extend_from_within-requires-clause-end_boundary
write_hole-extend_from_within-requires-clause-end_boundary t c =
    let w = c.requires.written.each (c.from-index.result - 1) c.in-Some.span c.in-Some.is in
    split_point (string_bytes c.args.text.now) c.in-Some.span.end (IsUtf8-string_bytes c.args.text.now) w.within w.end_cut

pub write_hole-returns-in-Some-clause-text : goal.write_hole-returns-in-Some-clause-text
write_hole-returns-in-Some-clause-text t c =
    let texts = map (text_of (template_at c.args.templates.now)) c.args.arguments.now in
    let w = c.requires.written.each (c.from-index.result - 1) c.in-Some.span c.in-Some.is in
    let place = get_or_default texts (c.from-index.result - 1) [] (codes "_") (omega (arith, length-map c.args.arguments.now (text_of (template_at c.args.templates.now)), c.if-index-arguments.false)) in
    let number = ap (λ (n : ℕ). get_or texts (n - 1) (codes "_")) c.from-index.ensures in
    c.in_ok-extend_from_within.ensures.bytes ∙ ap (λ (bs : List ℕ). string_bytes c.args.text.now ++ bs) (w.same ∙ (place ∙ number))

pub write_hole-returns-in-Some-clause-written : goal.write_hole-returns-in-Some-clause-written
write_hole-returns-in-Some-clause-written t c =
    AreWritten-more (map (text_of (template_at c.args.templates.now)) c.args.arguments.now) c.args.spans.now (string_bytes c.args.text.now) (take (c.in-Some.span.end - c.in-Some.span.start) (drop c.in-Some.span.start (string_bytes c.args.text.now))) (string_bytes c.extend_from_within.new.self) c.in_ok-extend_from_within.ensures.bytes c.requires.written

pub write_hole-write-requires : goal.write_hole-write-requires
write_hole-write-requires t c =
    let within : c.from-index.result - 1 < length c.args.arguments.now = omega (arith, c.if-index-arguments.false) in
    let small = greatest_of-argument c.args.arguments.now (c.from-index.result - 1) c.index-arguments-index.result c.index-arguments-index.is within in
    let short = length_of-argument c.args.arguments.now (c.from-index.result - 1) c.index-arguments-index.result c.index-arguments-index.is within in
    (omega (arith, short), omega (arith, small, c.requires.named))

pub write_hole-returns-clause-written : goal.write_hole-returns-clause-written
write_hole-returns-clause-written t c =
    let template = template_at c.args.templates.now in
    let texts = map (text_of template) c.args.arguments.now in
    let index = c.from-index.result - 1 in
    let span : Span = record { start = c.len-start.result; end = c.len.result } in
    let within : c.from-index.result - 1 < length c.args.arguments.now = omega (arith, c.if-index-arguments.false) in
    let text = argument_text-at template c.args.arguments.now index c.index-arguments-index.result [] c.index-arguments-index.is within in
    let written = c.in_ok-write.ensures ∙ ap (λ (bs : List ℕ). string_bytes c.args.text.now ++ bs) text in
    AreWritten-set texts c.args.spans.now index span (string_bytes c.args.text.now) (string_bytes c.write.new.text) c.requires.written written (omega (arith, c.len-start.ensures, c.args.text.now.bytes.ok.0)) (omega (arith, c.len.ensures, c.write.new.text.bytes.ok.0)) (IsUtf8-string_bytes c.args.text.now) (IsUtf8-string_bytes c.write.new.text)

pub write_surplus-loop-i-preserved : goal.write_surplus-loop-i-preserved
write_surplus-loop-i-preserved t c =
    let texts = map (text_of (template_at c.args.templates.now)) c.args.arguments.now in
    let text = argument_text-at (template_at c.args.templates.now) c.args.arguments.now c.loop-i.i c.index-arguments-i.result [] c.index-arguments-i.is c.loop-i-test.true in
    surplus-step (string_bytes c.args.text.now ++ flat_map in_parentheses (drop c.args.from texts)) (string_bytes c.loop-i.text) (text_of (template_at c.args.templates.now) c.index-arguments-i.result) (flat_map in_parentheses (drop (c.loop-i.i + 1) texts)) (flat_map in_parentheses (drop c.loop-i.i texts)) (string_bytes c.push_str.new.self) (string_bytes c.write.new.text) (string_bytes c.push_str-in-loop-i.new.self) c.in_ok-push_str.ensures.bytes c.in_ok-write.ensures c.in_ok-push_str-2.ensures.bytes (surplus_text texts c.loop-i.i (text_of (template_at c.args.templates.now) c.index-arguments-i.result) (omega (arith, length-map c.args.arguments.now (text_of (template_at c.args.templates.now)), c.loop-i-test.true)) text) c.loop-i.invariant
