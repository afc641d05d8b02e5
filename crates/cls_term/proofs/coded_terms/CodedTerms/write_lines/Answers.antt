use Rattle.std.proofs.Common.{◌≡◌, ◌≤◌, ◌<◌, ◌++◌, ◌∷◌, [], List, ℕ, ap, append_assoc, arith, length, refl, string_bytes, sym, ◌∙◌}
use Rattle.std.specs.List.{flat_map}
use Rattle.std.proofs.lemmas.List.{drop_all}
use Rattle.cls_base.specs.Terms.{Applicative}
use Rattle.cls_term.specs.Banks.{at}
use Rattle.cls_term.specs.Texts.{line_of, name_at, text_of}
use Rattle.cls_term.proofs.Standings.{line-whole}
use Rattle.cls_term.proofs.Writing.{left_next}
use Rattle.cls_term.proofs.coded_terms.CodedTerms.write_lines.Goals as goal

pub loop-place-init : goal.loop-place-init
loop-place-init c = record {
  so_far = refl;
  line = c.in_ok-line.ensures (name_at c.args.components.now);
}

pub loop-place-preserved : goal.loop-place-preserved
loop-place-preserved c =
    let name = name_at c.args.components.now in
    let word = c.args.word.now in
    let terms = c.args.self.now in
    let place = c.loop-place.place in
    let e = at terms place in
    let before = string_bytes c.loop-place.text in
    let whole = c.in_ok-write.ensures word c.loop-place.invariant.line in
    let text : string_bytes c.write.new.self.text ≡ word ++ text_of name e =
    line-whole name word c.code-code.result.now e c.write.new.self whole c.code-code.ensures
    in
    let written : string_bytes c.push.new.self ≡ before ++ line_of word name e =
    c.in_ok-push.ensures.bytes
    ∙ (λ i. c.in_ok-push_str.ensures.bytes i ++ c.in_ok-push.ensures.ascii (omega arith) i)
    ∙ append_assoc before c.as_str.result.now (10 ∷ [])
    ∙ ap (λ (v : List ℕ). before ++ (v ++ 10 ∷ [])) (c.as_str.ensures ∙ text)
    in
    let less : place < length terms = omega (arith, c.loop-place-test.true, c.len-count.ensures) in
    record {
      so_far = left_next (line_of word name) terms place before (string_bytes c.push.new.self) _ less written c.loop-place.invariant.so_far;
      line = whole;
    }

pub returns-clause-lines : goal.returns-clause-lines
returns-clause-lines c =
    let terms = c.args.self.now in
    let lines = λ (es : List Applicative). flat_map (line_of c.args.word.now (name_at c.args.components.now)) es in
    let over : length terms ≤ c.loop-place.place = omega (arith, c.loop-place-test.false, c.len-count.ensures) in
    let count : length terms ≤ c.len-count.result = omega (arith, c.len-count.ensures) in
    ap (λ (es : List Applicative). string_bytes c.loop-place.text ++ lines es) (drop_all c.len-count.result terms count ∙ sym (drop_all c.loop-place.place terms over))
    ∙ c.loop-place.invariant.so_far
