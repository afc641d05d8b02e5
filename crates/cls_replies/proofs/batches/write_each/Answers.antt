use Rattle.std.proofs.Common.{◌≤◌, ◌++◌, Bool, false, List, length, append-nil, sym, ap, ◌∙◌}
use Rattle.std.proofs.lemmas.List.{drop_all}
use Rattle.std.specs.Prelude.{string_bytes}
use Rattle.std.specs.List.{flat_map}
use Rattle.cls_cert.proofs.Writing.{line_next}
use Rattle.cls_replies.specs.Texts.{inhabited_line}
use Rattle.cls_replies.proofs.batches.write_each.Goals as goal

pub loop-yes-preserved : goal.loop-yes-preserved
loop-yes-preserved c =
    let says = c.args.says.now in
    let before = string_bytes c.loop-yes.text in
    line_next inhabited_line says c.loop-yes.yes-index false before (string_bytes c.write_one.new.text) _ c.loop-yes-test.true c.in_ok-write_one.ensures c.loop-yes.invariant

pub returns : goal.returns
returns c =
    let says = c.args.says.now in
    let now = string_bytes c.loop-yes.text in
    let over : length says ≤ c.loop-yes.yes-index = c.loop-yes-test.false in
    sym (append-nil now)
    ∙ (ap (λ (l : List Bool). now ++ flat_map inhabited_line l) (sym (drop_all c.loop-yes.yes-index says over)) ∙ c.loop-yes.invariant)
