use Rattle.std.proofs.Common.{◌<◌, ap, arith, length, string_bytes, subst, sym, take, ◌∙◌}
use Rattle.std.specs.String.Boundary.{IsSplitPoint}
use Rattle.std.proofs.lemmas.List.{get_or_read}
use Rattle.cls_term.specs.declared.lines.Standing.{Standing}
use Rattle.cls_term.proofs.Standings.{line-cut, split-point}
use Rattle.cls_term.proofs.lines.Line.cut.Goals as goal

pub truncate-requires : goal.truncate-requires
truncate-requires c =
    let r = c.requires in
    let P : Standing → Type 0 = λ s. IsSplitPoint (string_bytes c.args.self.now.text) s.end in
    let within : c.args.count < length c.args.self.now.standings.items = omega (arith, r.4.many, r.5) in
    λ _. subst P (sym (get_or_read c.args.self.now.standings.items c.args.count c.index.result.now within c.index.ensures _)) (split-point r.0 r.1 r.2 r.3 c.args.count c.args.self.now r.4 r.5)

pub returns : goal.returns
returns c = λ name word code k h l.
    let within : c.args.count < length c.args.self.now.standings.items = omega (arith, h.many, l) in
    line-cut name word code k c.args.count c.args.self.now _ h l
    (c.truncate.ensures.bytes ∙ ap (λ (s : Standing). take s.end (string_bytes c.args.self.now.text)) (get_or_read c.args.self.now.standings.items c.args.count c.index.result.now within c.index.ensures _))
    c.truncate-2.ensures.items
