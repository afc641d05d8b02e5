use Rattle.std.proofs.Common.{List, ℕ, ap, arith, refl, rules, string_bytes, ◌++◌, ◌-◌, ◌∙◌}
use Rattle.cls_term.proofs.Standings.{list-opened}
use Rattle.cls_term.proofs.lines.Line.open_list.Goals as goal

pub returns : goal.returns
returns c = λ stack h.
    list-opened c.args.count stack c.args.self.now (record { text = c.push.new.self; standings = c.push-2.new.self })
    (record { end = c.len.result; left = c.args.count; outer = c.len-outer.result - 1 })
    h c.requires.some refl (search rules) (search rules)
    (c.in_ok-push.ensures.bytes ∙ ap (λ (v : List ℕ). string_bytes c.args.self.now.text ++ v) (c.in_ok-push.ensures.ascii (omega arith)))
    c.in_ok-push-2.ensures.items
