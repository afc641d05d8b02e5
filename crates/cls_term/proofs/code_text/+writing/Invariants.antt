use Rattle.std.proofs.Common.{◌≤◌, ◌+◌, ◌-◌, length, string_bytes}
use Rattle.std.specs.Prelude.{slice_index_or}
use Rattle.cls_term.specs.Decodes.{BeginsWithTerms}
use Rattle.cls_term.specs.Texts.{name_at}
use Rattle.cls_term.proofs.CodeTexts.{IsBegun}
use Rattle.cls_term.proofs.code_text.+writing.Given as goal

abbrev pub decreases-write_term : goal.decreases-write_term
decreases-write_term l = length l.code.now

abbrev pub invariant-loop-place : goal.invariant-loop-place
invariant-loop-place l = record {
  begun : IsBegun (name_at l.components) l.code l.rest (string_bytes l.fn.text) (string_bytes l.text) (slice_index_or l.code 0 0) (slice_index_or l.code 1 0) l.place;
  shorter : length l.rest + 2 ≤ length l.code;
  left : BeginsWithTerms (slice_index_or l.code 1 0 - l.place) l.rest;
}
