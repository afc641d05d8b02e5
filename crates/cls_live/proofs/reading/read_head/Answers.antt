use Rattle.std.proofs.Common.{◌∙◌, sym, ap, map, slice_index_or}
use Rattle.cls_expand.proofs.Places.{on_ok_map}
use Rattle.cls_live.specs.Parts.{Goal}
use Rattle.cls_live.proofs.Readings.{read_absent, read_present}
use Rattle.cls_live.proofs.reading.read_head.Goals as goal

pub returns-in_default : goal.returns-in_default
returns-in_default c = read_absent c.args.rules.now _ _ (sym c.in_default.ensures)

pub returns : goal.returns
returns c =
    let other = ap (λ (g : Goal). map (λ i. slice_index_or c.args.goals.now i g) c.args.args.now) c.requires.other in
    on_ok_map c.push_head.result
    (λ e. read_present c.args.rules.now c.push_head.new.self _ c.in-Some.x _ c.name_goals.new.named.items (sym c.in-Some.ensures) (c.in_ok-name_goals.ensures ∙ other) e)
    c.push_head.ensures.ok
