use Rattle.std.proofs.Common.{◌≡◌, ◌+◌, ◌*◌, ◌-◌, ◌++◌, ◌≤◌, length}
use Rattle.cls_base.specs.Spines.{codes_of}
use Rattle.cls_term.specs.Decodes.{BeginsWithTerms}
use Rattle.cls_term.proofs.decode.+reading.Given as goal

abbrev pub decreases-read_term : goal.decreases-read_term
decreases-read_term l = 2 * length l.code.now

abbrev pub decreases-read_terms : goal.decreases-read_terms
decreases-read_terms l = 2 * length l.code.now + 1

abbrev pub invariant-read_terms-loop-place : goal.invariant-read_terms-loop-place
invariant-read_terms-loop-place l = record {
  many : length l.terms.items ≡ l._place;
  codes : l.code ≡ codes_of l.terms.items ++ l.rest;
  left : BeginsWithTerms (l.count - l._place) l.rest;
  shorter : length l.rest ≤ length l.code;
}
