use Rattle.std.proofs.Common.{◌≡◌, ◌+◌, ◌*◌, ◌++◌, map, drop, string_bytes}
use Rattle.std.specs.List.{flat_map}
use Rattle.cls_base.specs.Terms.{length_of}
use Rattle.cls_base.specs.Spines.{lengths_of}
use Rattle.cls_assemble.specs.Segments.{pieces_in}
use Rattle.cls_assemble.specs.Spans.{AreWritten}
use Rattle.cls_assemble.specs.Texts.{template_at, text_of, piece_text, in_parentheses}
use Rattle.cls_assemble.proofs.text.+write.Given as goal

abbrev pub decreases-write : goal.decreases-write
decreases-write l = 2 * length_of l.term.now

abbrev pub decreases-write_hole : goal.decreases-write_hole
decreases-write_hole l = 2 * lengths_of l.arguments.now + 1

abbrev pub decreases-write_surplus : goal.decreases-write_surplus
decreases-write_surplus l = 2 * lengths_of l.arguments.now + 1

abbrev pub invariant-write-loop-segment : goal.invariant-write-loop-segment
invariant-write-loop-segment l =
    let texts = map (text_of (template_at l.templates)) l.arguments in
    record {
      written : AreWritten texts l.spans (string_bytes l.text);
      so_far : string_bytes l.text ++ flat_map (piece_text texts) (pieces_in (drop l.segment-index l.segment-items) (string_bytes l.template-inside.tail)) ≡ string_bytes l.fn.text ++ flat_map (piece_text texts) (pieces_in l.segment-items (string_bytes l.template-inside.tail));
    }

abbrev pub invariant-write_surplus-loop-i : goal.invariant-write_surplus-loop-i
invariant-write_surplus-loop-i l =
    let texts = map (text_of (template_at l.templates)) l.arguments in
    string_bytes l.text ++ flat_map in_parentheses (drop l.i texts) ≡ string_bytes l.fn.text ++ flat_map in_parentheses (drop l.from texts)
