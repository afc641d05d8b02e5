use Rattle.std.proofs.Common.{◌<◌, ◌≤◌, ◌++◌, ◌∙◌, [], List, ℕ, length, ap, sym, arith, string_bytes}
use Rattle.std.specs.List.{flat_map}
use Rattle.std.proofs.lemmas.List.{drop_all}
use Rattle.cls_proof.specs.Texts.{set_text}
use Rattle.cls_cert.proofs.Writing.{line_next}
use Rattle.cls_cert.proofs.layers.write_sets.Goals as goal

pub loop-place-preserved : goal.loop-place-preserved
loop-place-preserved c =
    let sets = c.args.sets.now in
    let place = c.loop-place.place in
    let before = string_bytes c.loop-place.text in
    let less : place < length sets = omega (arith, c.loop-place-test.true, c.len-count.ensures) in
    line_next set_text sets place [] before (string_bytes c.write_set.new.text) _ less (c.in_ok-write_set.ensures ∙ ap (λ (s : List ℕ). before ++ set_text s) c.get.ensures) c.loop-place.invariant

pub returns-clause-lines : goal.returns-clause-lines
returns-clause-lines c =
    let sets = c.args.sets.now in
    let over : length sets ≤ c.loop-place.place = omega (arith, c.loop-place-test.false, c.len-count.ensures) in
    let count : length sets ≤ c.len-count.result = omega (arith, c.len-count.ensures) in
    ap (λ (ss : List (List ℕ)). string_bytes c.loop-place.text ++ flat_map set_text ss) (drop_all c.len-count.result sets count ∙ sym (drop_all c.loop-place.place sets over))
    ∙ c.loop-place.invariant
