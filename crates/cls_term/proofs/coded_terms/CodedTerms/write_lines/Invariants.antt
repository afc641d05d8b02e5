use Rattle.std.proofs.Common.{◌≡◌, ◌++◌, drop, string_bytes}
use Rattle.std.specs.List.{flat_map}
use Rattle.cls_term.specs.Lines.{IsWholeLine}
use Rattle.cls_term.specs.Texts.{line_of, name_at}
use Rattle.cls_term.proofs.coded_terms.CodedTerms.write_lines.Given as goal

abbrev pub invariant-loop-place : goal.invariant-loop-place
invariant-loop-place l = record {
  so_far : string_bytes l.text ++ flat_map (line_of l.word (name_at l.components)) (drop l.place l.self) ≡ string_bytes l.fn.text ++ flat_map (line_of l.word (name_at l.components)) (drop l.from l.self);
  line : IsWholeLine (name_at l.components) l.word l.before l.line;
}
