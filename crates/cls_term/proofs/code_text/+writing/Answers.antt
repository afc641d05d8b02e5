use Rattle.std.proofs.Common.{List, ℕ, ap, arith, drop, length, string_bytes, subst, take, ◌≡◌, ◌+◌, ◌-◌, ◌++◌, ◌∙◌}
use Rattle.std.specs.Prelude.{slice_index_or}
use Rattle.cls_term.specs.Decodes.{BeginsWithTerms}
use Rattle.cls_term.specs.Texts.{name_at}
use Rattle.cls_term.proofs.CodeTexts.{begun-first, begun-last, begun-next, two-first}
use Rattle.cls_term.proofs.Decodes.{after-shorter, fewer-terms, some-term, tail-begins, tail-long}
use Rattle.cls_term.proofs.code_text.+writing.Goals as goal

pub loop-place-init : goal.loop-place-init
loop-place-init t c =
    let code = c.args.code.now in
    let h = c.requires in
    record {
      begun = begun-first (name_at c.args.components.now) code _ (string_bytes c.args.text.now) (string_bytes c.push_str.new.self) (slice_index_or code 0 0) (slice_index_or code 1 0) (two-first code h)
          (c.in_ok-push_str.ensures.bytes ∙ ap (λ (v : List ℕ). string_bytes c.args.text.now ++ v) c.text.ensures);
      shorter = omega (arith, tail-long code h);
      left = (let k : slice_index_or code 1 0 ≡ slice_index_or code 1 0 - 0 = omega arith in subst (λ (n : ℕ). BeginsWithTerms n (take (length code - 2) (drop 2 code))) k (tail-begins code h));
    }

pub write_term-requires : goal.write_term-requires
write_term-requires t c = (
  omega (arith, c.decreases, c.loop-place.invariant.shorter),
  some-term (slice_index_or c.args.code.now 1 0 - c.loop-place.place) c.loop-place.rest.now (omega (arith, c.loop-place-test.true)) c.loop-place.invariant.left,
)

pub loop-place-preserved : goal.loop-place-preserved
loop-place-preserved t c =
    let code = c.args.code.now in
    let count = slice_index_or code 1 0 in
    let place = c.loop-place.place in
    let rest = c.loop-place.rest.now in
    let after = c.in_ok-rest.rest.now in
    let w = c.in_ok-rest.ensures in
    record {
      begun = begun-next (name_at c.args.components.now) code rest (string_bytes c.args.text.now) (string_bytes c.loop-place.text) (string_bytes c.write_before.new.text) after (string_bytes c.write_term.new.text) (slice_index_or code 0 0) count place
          c.loop-place.invariant.begun c.in_ok-write_before.ensures w;
      shorter = omega (arith, c.loop-place.invariant.shorter, after-shorter rest after w.term w.begins);
      left = fewer-terms (count - place) (count - (place + 1)) rest after w.term (omega (arith, c.loop-place-test.true)) c.loop-place.invariant.left w.begins;
    }

pub returns : goal.returns
returns t c =
    let code = c.args.code.now in
    begun-last (name_at c.args.components.now) code c.loop-place.rest.now (string_bytes c.args.text.now) (string_bytes c.loop-place.text) (string_bytes c.write_behind.new.text) (slice_index_or code 0 0) (slice_index_or code 1 0) c.loop-place.place
    (omega (arith, c.loop-place-test.false, c.loop-place.auto.place-end)) c.loop-place.invariant.begun c.in_ok-write_behind.ensures
